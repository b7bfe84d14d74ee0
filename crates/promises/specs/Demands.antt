-- The three demands (RULES, at its top), of whatever the contracts allow: labelling asked and answered, then hop and walk asked on the bytes that it left, and
-- the notice reader before them. lib is the library, as Rattle or as C calls it; j is the job that asks.
use Rattle.std.specs.Prelude.{true, List, ◌⊎◌, ◌≢◌, ◌≡◌, ℕ, ◌+◌, ◌*◌, ◌^◌, ◌≤◌, ◌<◌, length, replicate, Result, Ok, Err}
use Rattle.cube.specs.Cube.{dist, flip}
use Rattle.cube.specs.Tables.{empty_table}
use Rattle.jobs.specs.Jobs.{half, label_for}
use Rattle.rule.specs.Cabinet.{Cabinet, by_rule, cabinet, labels_of, plain}
use Rattle.enough.specs.Enough.{FewOut, out_of_work}
use Rattle.notice.specs.Laws.{ReadNotice, TableOf}
use Rattle.notice.specs.Notice as N
use Rattle.notice.specs.Notice.{Noticed, a_notice}
use Rattle.hop.specs.declared.Decision.{Decision}
use Rattle.hop.specs.declared.Decision.TheVariants.{Deliver, Hop, Halted}
use Rattle.walk.specs.Once.{Forwarded}
use Rattle.walk.specs.Walk as W
use Rattle.walk.specs.declared.Ending.TheVariants as ending
use Rattle.walk.specs.declared.Walked.{Walked}
use Rattle.theorems.specs.Before.{hopped_then, labelled_then, labels_after_then, walked_then}
use Rattle.theorems.specs.Delivers.{Delivers}
use Rattle.theorems.specs.Demand2.{Demand2}
use Rattle.theorems.specs.Demand3.{Walks}
use Rattle.theorems.specs.HowLong.{HowLong}
use Rattle.theorems.specs.Picked.{Picked}
use Rattle.theorems.specs.TwoRules.{NoneStrong, OnlyBetter, more}
use Rattle.theorems.specs.Words.{NoneTwice, SomeSafe, Takes, Works, place}
use Rattle.promises.specs.Library.{Library}
use Rattle.promises.specs.Refusals.{BothHalves, Dimension, DimensionGiven, HopGiven, Job, LabelGiven, NoticeGiven, Rule, TableLength, Unused, WalkGiven}
use Rattle.cube.specs.declared.refusals.Refusal.{Refusal}
use Rattle.cube.specs.Refused.{number, refused}

-- a table of nodes is well formed: it has its length, and no unused bit is set
abbrev pub WellFormed : (n : ℕ) (table : List ℕ) → Type 0
WellFormed n table = TableLength n (length table) × (¬ (Unused n table))

-- labelling accepts the fault table of an n-cube: by either rule and for either job, with any tables of draining and of closed nodes that are well formed
abbrev pub LabelsTable : (lib : Library) (n : ℕ) (faults : List ℕ) → Type 0
LabelsTable lib n faults =
    (rule j : ℕ) (draining closed before after : List ℕ) (x : Result ℕ Refusal) → Rule rule → Job j → WellFormed n draining → WellFormed n closed
    → BothHalves n (length before) → lib.labels (cabinet n rule faults draining closed) j before x after
    → (exchanges : ℕ) × (x ≡ Ok exchanges)

pub record Demands (lib : Library) : Type 0 where
  -- ---- 1. No input makes it misbehave

  -- each entry point gives the refusal that the tables name, then and not otherwise
  pub label-refusal :
      {K : Cabinet} {j : ℕ} {before after : List ℕ} {x : Result ℕ Refusal} → lib.labels K j before x after → LabelGiven K j (length before) (refused x)
  pub hop-refusal :
      {n j c d : ℕ} {buffer : List ℕ} {x : Result Decision Refusal} → lib.hops n j c d buffer x → HopGiven n j c d (length buffer) (label_for n j buffer) (refused x)
  pub walk-refusal :
      {n j s d room : ℕ} {buffer : List ℕ} {w : Walked} → lib.walks n j s d buffer room w
      → WalkGiven n j s d (length buffer) room (label_for n j buffer) (W.refusal_of w.ending)
  -- and with a notice's refusal the place of the number that it is about
  pub notice_refusal :
      {bytes before after : List ℕ} {x : Noticed} → lib.reads bytes before x after → NoticeGiven bytes before (N.refusal_of x) (N.place_of x)
  -- likewise the dimension by itself, which is lent no table
  pub dimension_refusal : {bytes : List ℕ} {k v : ℕ} → lib.sizes bytes k v → DimensionGiven bytes k v
  -- a refusal writes nothing into any buffer it was lent
  pub labels_kept : {K : Cabinet} {j : ℕ} {before after : List ℕ} {r : Refusal} → lib.labels K j before (Err r) after → after ≡ before
  pub table_kept : {bytes before after : List ℕ} {r : Refusal} {at : ℕ} → lib.reads bytes before (Err (r, at)) after → after ≡ before
  -- a refused walk has hop count 0 and a row of zeros
  pub walk_blank :
      {n j s d room : ℕ} {buffer : List ℕ} {w : Walked} {r : Refusal} → lib.walks n j s d buffer room w → w.ending ≡ ending.Refused r
      → (w.hops ≡ 0) × (w.row ≡ replicate 17 0)
  -- an accepted notice names what the fault table then holds, all of it
  pub notice_read : {bytes before after : List ℕ} {n m taken : ℕ} → lib.reads bytes before (a_notice n m taken) after → ReadNotice bytes n m taken
  pub table_written :
      {bytes before after : List ℕ} {n m taken : ℕ} → lib.reads bytes before (a_notice n m taken) after → TableOf n m (N.addresses_of bytes) after
  -- the dimension by itself is one, and that of the notice;
  pub dimension_sized : {bytes : List ℕ} {n : ℕ} → lib.sizes bytes 0 n → Dimension n
  pub dimension_read :
      {bytes before after : List ℕ} {n n' m taken : ℕ} → lib.sizes bytes 0 n → lib.reads bytes before (a_notice n' m taken) after → n' ≡ n
  -- a fault table that was sized by it is refused only for what stands behind it;
  pub sized_table :
      {bytes before after : List ℕ} {n at : ℕ} {r : Refusal} → lib.sizes bytes 0 n → TableLength n (length before)
      → lib.reads bytes before (Err (r, at)) after → 9 ≤ number r
  -- and where the dimension is refused, the notice is refused alike, whatever table is lent
  pub dimension_refused :
      {bytes before after : List ℕ} {k v : ℕ} {x : Noticed} → lib.sizes bytes k v → k ≢ 0 → lib.reads bytes before x after
      → (r : Refusal) × (k ≡ number r) × (x ≡ Err (r, v))
  -- ---- 2. The labels are those of Chiu and Wu

  -- all 2^n label bytes of the job's half are written
  pub labels_written :
      {K : Cabinet} {j : ℕ} {before after : List ℕ} {exchanges : ℕ} → lib.labels K j before (Ok exchanges) after
      → half j (2 ^ K.n) after ≡ labels_of K
  pub labels :
      {K : Cabinet} {j : ℕ} {before after : List ℕ} {exchanges : ℕ} → lib.labels K j before (Ok exchanges) after
      → Demand2 K (label_for K.n j after) exchanges
  -- how long labelling may take: ceilings for the exchanges that it answers (RULES, How many exchanges there can be)
  pub how_long :
      {K : Cabinet} {j : ℕ} {before after : List ℕ} {exchanges : ℕ} → lib.labels K j before (Ok exchanges) after
      → HowLong K (label_for K.n j after) exchanges
  -- the next hop is the one that Algorithm ROUTE picks,
  pub hop : {n j c d : ℕ} {buffer : List ℕ} {x : Decision} → lib.hops n j c d buffer (Ok x) → Picked n (label_for n j buffer) c d x
  -- from a node's label and its neighbours' labels in the job's half: no other byte matters, for the refusals too
  pub hop_local :
      {n j c d : ℕ} {buffer buffer' : List ℕ} {x x' : Result Decision Refusal} → lib.hops n j c d buffer x → lib.hops n j c d buffer' x' → length buffer ≡ length buffer'
      → label_for n j buffer c ≡ label_for n j buffer' c → ((i : ℕ) → i < n → label_for n j buffer (flip i c) ≡ label_for n j buffer' (flip i c)) → x ≡ x'
  -- ---- 3. Walks arrive

  -- labelling accepts the table that an accepted notice left
  pub notice_labels : {bytes faults old : List ℕ} {n m taken : ℕ} → lib.reads bytes old (a_notice n m taken) faults → LabelsTable lib n faults
  -- with the labels that labelling left in the job's half, from a working node to one that works or drains
  pub walks :
      {K : Cabinet} {j exchanges s d : ℕ} {before buffer : List ℕ} {w : Walked} → lib.labels K j before (Ok exchanges) buffer
      → Works K s → Takes K d → lib.walks K.n j s d buffer W.row_bytes w → Walks K (label_for K.n j buffer) s d w
  -- on every table that the walk accepts it starts at the source and repeats the hop question: at each place but the last the answer is a hop, and the next
  -- place is across it;
  pub walk_starts :
      {n j s d room : ℕ} {buffer : List ℕ} {w : Walked} → lib.walks n j s d buffer room w → W.refusal_of w.ending ≡ 0 → place w 0 ≡ s
  pub walk_steps :
      {n j s d room k : ℕ} {buffer : List ℕ} {w : Walked} {x : Result Decision Refusal} → lib.walks n j s d buffer room w → W.refusal_of w.ending ≡ 0 → k < w.hops
      → lib.hops n j (place w k) d buffer x → (i : ℕ) × (i < n) × (x ≡ Ok (Hop i)) × (place w (k + 1) ≡ flip i (place w k))
  -- at the last place the answer is how the walk ended;
  pub walk_ends :
      {n j s d room : ℕ} {buffer : List ℕ} {w : Walked} {x : Result Decision Refusal} → lib.walks n j s d buffer room w → W.refusal_of w.ending ≡ 0
      → lib.hops n j (place w w.hops) d buffer x
      → ((x ≡ Ok Deliver) × (w.ending ≡ ending.Delivered)) ⊎ ((x ≡ Ok Halted) × (w.ending ≡ ending.Halted))
  -- there are at most n + 4 hops, and the places behind the last are zero;
  pub walk_few :
      {n j s d room : ℕ} {buffer : List ℕ} {w : Walked} → lib.walks n j s d buffer room w → W.refusal_of w.ending ≡ 0 → w.hops ≤ n + 4
  pub walk_unused :
      {n j s d room k : ℕ} {buffer : List ℕ} {w : Walked} → lib.walks n j s d buffer room w → W.refusal_of w.ending ≡ 0 → w.hops < k → place w k ≡ 0
  -- and no walk has a node that is labelled faulty or draining before its last place, nor at it unless that is the destination
  pub walk_enters :
      {n j s d room k : ℕ} {buffer : List ℕ} {w : Walked} → lib.walks n j s d buffer room w → W.refusal_of w.ending ≡ 0 → k < w.hops
      → label_for n j buffer (place w k) ≤ 2
  pub walk_ends_in :
      {n j s d room : ℕ} {buffer : List ℕ} {w : Walked} → lib.walks n j s d buffer room w → W.refusal_of w.ending ≡ 0
      → (label_for n j buffer (place w w.hops) ≤ 2) ⊎ (place w w.hops ≡ d)
  -- delivered or halted, it has passed no node twice (RULES, No node twice)
  pub walk_once :
      {n j s d room : ℕ} {buffer : List ℕ} {w : Walked} → lib.walks n j s d buffer room w → W.refusal_of w.ending ≡ 0 → NoneTwice w
  -- nor has a frame that is forwarded by the hop question alone, t times, however many, and then no more
  pub frame_once :
      {n j d t : ℕ} {buffer : List ℕ} {x : Decision} (at : ℕ → ℕ)
      → Forwarded (λ c a. lib.hops n j c d buffer (Ok a)) at t → lib.hops n j (at t) d buffer (Ok x) → W.stops x ≡ true
      → (k m : ℕ) → k < m → m ≤ t → at k ≢ at m
  -- ---- the two rules (RULES, Labels)

  -- a site moves from rule 2 to rule 3: its labels only get better,
  pub moved :
      (K : Cabinet) {j e e' : ℕ} {before before' old new : List ℕ} → lib.labels (by_rule 2 K) j before (Ok e) old
      → lib.labels (by_rule 3 K) j before' (Ok e') new → OnlyBetter K.n (label_for K.n j old) (label_for K.n j new)
  -- and a walk with the new labels arrives within the bound that the old ones gave it
  pub moved_walks :
      (K : Cabinet) {j e e' s d : ℕ} {before before' old new : List ℕ} {w : Walked} → lib.labels (by_rule 2 K) j before (Ok e) old
      → lib.labels (by_rule 3 K) j before' (Ok e') new → SomeSafe K.n (label_for K.n j old)
      → Works K s → Takes K d → lib.walks K.n j s d new W.row_bytes w
      → (w.ending ≡ ending.Delivered) × (w.hops ≤ dist s d + more (label_for K.n j old) s d)
  -- anywhere, a frame that arrived with the old labels arrives with the new
  pub still_arrives :
      (K : Cabinet) {j e e' s d : ℕ} {before before' old new : List ℕ} {v w : Walked} → lib.labels (by_rule 2 K) j before (Ok e) old
      → lib.labels (by_rule 3 K) j before' (Ok e') new → Works K s → Takes K d
      → lib.walks K.n j s d old W.row_bytes v → lib.walks K.n j s d new W.row_bytes w → v.ending ≡ ending.Delivered → w.ending ≡ ending.Delivered
  -- with rule 2, where some node is safe no working node is strongly unsafe,
  pub none_strong :
      (K : Cabinet) {j e : ℕ} {before buffer : List ℕ} → lib.labels (by_rule 2 K) j before (Ok e) buffer
      → NoneStrong (by_rule 2 K) (label_for K.n j buffer)
  -- so there no walk is longer than the distance and two more
  pub two_more :
      (K : Cabinet) {j e s d : ℕ} {before buffer : List ℕ} {w : Walked} → lib.labels (by_rule 2 K) j before (Ok e) buffer
      → SomeSafe K.n (label_for K.n j buffer) → Works K s → Takes K d → lib.walks K.n j s d buffer W.row_bytes w
      → w.hops ≤ dist s d + 2
  -- ---- enough nodes work (RULES, When frames arrive; theorem 4 of Chiu and Wu 1994)

  -- where so few are out of work, labelling leaves a safe node,
  pub some_safe :
      {K : Cabinet} {j exchanges : ℕ} {before buffer : List ℕ} → lib.labels K j before (Ok exchanges) buffer
      → FewOut K → SomeSafe K.n (label_for K.n j buffer)
  -- and every walk from a working node to one that works or drains is delivered, within demand 3's bounds
  pub delivers :
      {K : Cabinet} {j exchanges s d : ℕ} {before buffer : List ℕ} {w : Walked} → lib.labels K j before (Ok exchanges) buffer
      → FewOut K → Works K s → Takes K d → lib.walks K.n j s d buffer W.row_bytes w → Delivers K (label_for K.n j buffer) s d w
  -- where no node drains and the job closes none, as many are out of work as the notice says
  pub notice_counts :
      {bytes old faults : List ℕ} {n m taken : ℕ} → lib.reads bytes old (a_notice n m taken) faults
      → (rule : ℕ) → out_of_work (plain n rule faults) ≡ m
  -- ---- boards on which no node drains and the job closes none (RULES, Which nodes work): every answer is what it was, in the job's half of a buffer of two
  -- tables of m bytes

  -- labelling that is lent two empty tables answers what it did, and leaves in that half what it left,
  pub label_before :
      {n rule j : ℕ} {faults before after : List ℕ} {x : Result ℕ Refusal} → Job j → (m : ℕ) → length before ≡ 2 * m
      → lib.labels (plain n rule faults) j before x after
      → (x ≡ labelled_then n rule faults m) × (half j m after ≡ labels_after_then n rule faults (half j m before))
  -- no label is 4 where no node drains, whatever the job closes,
  pub no_four :
      {n rule j e : ℕ} {faults closed before buffer : List ℕ} → lib.labels (cabinet n rule faults (empty_table n) closed) j before (Ok e) buffer
      → (x : ℕ) → label_for n j buffer x ≢ 4
  -- and on labels without a 4 a hop and a walk are answered as they were
  pub hop_before :
      {n j c d : ℕ} {buffer : List ℕ} {x : Result Decision Refusal} → lib.hops n j c d buffer x → Job j → (m : ℕ) → length buffer ≡ 2 * m
      → ((k : ℕ) → label_for n j buffer k ≢ 4) → x ≡ hopped_then n c d m (label_for n j buffer)
  pub walk_before :
      {n j s d room : ℕ} {buffer : List ℕ} {w : Walked} → lib.walks n j s d buffer room w → Job j → (m : ℕ) → length buffer ≡ 2 * m
      → ((k : ℕ) → label_for n j buffer k ≢ 4) → w ≡ walked_then n s d m room (label_for n j buffer)
