-- Demand 3, from the labels' four facts (Good) and the theorems on walks: what these say of `spot`, `hops` and `last` is read off the answer.
use mathlib.Core.Bool.{true, false}
use mathlib.Core.Logic.{◌⊎◌, inl, inr, ⊎_elim}
use mathlib.Core.Path.{◌≡◌, refl, sym, ap, subst, ◌∙◌}
use Prim.Native.Nat.{ℕ, ◌+◌, ◌*◌, ◌^◌, ◌≤◌, ◌<◌}
use native.Mathlib.Omega.{arith}
use lib.Dec.{ltb}
use borrow.Author.Tests.{eq-eqb, ne_eqb, lt-leb, le-ltb}
use Rattle.cube.specs.declared.refusals.Refusal.{Refusal}
use Rattle.cube.specs.Cube.{apart, dist, flip}
use Rattle.cube.specs.Refusal.{first}
use Rattle.cube.specs.Tables.{highest, is_dimension}
use Rattle.cube.proofs.Bools.{either, is_false}
use Rattle.cube.proofs.Search.{some_none}
use Rattle.cube.proofs.Cube.{flip_lt}
use Rattle.jobs.specs.Jobs.{is_job, label_bytes}
use Rattle.jobs.proofs.Halves.{is-job}
use Rattle.rule.specs.Cabinet.{Cabinet, faulty, out}
use Rattle.rule.specs.Good.{Good}
use Rattle.rule.proofs.Cabinet.{label-bytes, out_high, table_good}
use Rattle.scans.specs.Hit.{Draining}
use Rattle.scans.specs.Progress.{Receives, rank}
use Rattle.labels.proofs.Refusal.{fitting}
use Rattle.walk.specs.Walk.{ending_of, spot, turn, hops, last, route, row, row_bytes, stops, walk_from, walk_refusal, walked}
use Rattle.walk.specs.declared.Ending.TheVariants as ending
use Rattle.walk.specs.declared.Walked.{Walked}
use Rattle.walk.proofs.Steps.{spot_zero}
use Rattle.theorems.specs.Demand3.{Stepped, Arrives, Stuck, Walks, Demand3}
use Rattle.theorems.specs.Words.{Accepted, NoneTwice, Takes, Works, label_at, SomeSafe, walk_of, place}
use Rattle.theorems.proofs.Demand2.{out_label, receives, works}
use Rattle.theorems.proofs.Places.{row_unused, row_used}
use Rattle.theorems.proofs.Repeats.{walk_repeats}
use Rattle.theorems.proofs.Advances.{end_of}
use Rattle.theorems.proofs.Extra.{extra_even}
use Rattle.theorems.proofs.Walks.{Delivers, Halts, Kept, Nears, WalkFacts, walk_facts}

-- what is known of the label bytes of an accepted table
pub record Table (K : Cabinet) (j : ℕ) : Type 0 where
  pub dimension : is_dimension K.n ≡ true
  pub small : K.n ≤ 12
  pub job : is_job j ≡ true
  pub good : Good K.n (label_at K)
  pub out_high : (x : ℕ) → x < 2 ^ K.n → out K x ≡ true → 3 ≤ label_at K x
  pub receives : (x : ℕ) → x < 2 ^ K.n → faulty K x ≡ false → Receives (label_at K x)
  pub working : (x : ℕ) → x < 2 ^ K.n → out K x ≡ false → label_at K x ≤ 2

pub table : (K : Cabinet) (j : ℕ) → Accepted K j → Table K j
table K j ok =
    let f = fitting K j (label_bytes K.n) ok in
    record {
      dimension = f.dimension;
      small = f.halved.small;
      job = is-job j f.halved.job;
      good = table_good K f.rule.1;
      out_high = λ x h e. omega (arith, out_label K x h e, out_high K x e);
      receives = receives K;
      working = works K;
    }

-- a node whose label says so works
pub works_at : (K : Cabinet) (j : ℕ) → Table K j → (x : ℕ) → x < 2 ^ K.n → label_at K x ≤ 2 → Works K x
works_at K j T x h l = (h, is_false (λ t. omega (arith, T.out_high x h t)))

module _ (K : Cabinet) (j : ℕ) (T : Table K j) (s d : ℕ) (hs : Works K s) (hd : Takes K d) where
  abbrev n : ℕ
  n = K.n

  abbrev lab : ℕ → ℕ
  lab = label_at K

  abbrev ws : lab s ≤ 2
  ws = T.working s hs.0 hs.1

  abbrev wd : Receives (lab d)
  wd = T.receives d hd.0 hd.1

  -- ---- how the walk ends

  abbrev facts : WalkFacts n lab d s
  facts = walk_facts n lab T.good d hd.0 wd s hs.0 ws

  abbrev Ended : Type 0
  Ended = Delivers n lab d s (lab s) ⊎ Halts n lab d s

  ends : Ended → stops (last n (route n lab d) s) ≡ true
  unfolding stops
  ends (inl D) = ap stops D.ended
  ends (inr H) = ap stops H.ended

  -- ---- so it is not refused, and the answer is the walk

  accepted : walk_refusal n j s d (label_bytes n) row_bytes lab ≡ 0
  unfolding walk_refusal first
  accepted =
      rw (
        T.dimension,
        T.job,
        eq-eqb (label_bytes n) (label_bytes n) refl,
        lt-leb (2 ^ n) s hs.0,
        lt-leb (2 ^ n) d hd.0,
        some_none (2 ^ n) (λ x. ltb highest (lab x)) (λ x h. le-ltb highest (lab x) (label-bytes K x h)),
        lt-leb 3 (lab s) (omega (arith, ws)),
        ne_eqb (lab d) 3 (λ e. ⊎_elim (λ (l : lab d ≤ 2). omega arith) (λ (q : Draining (lab d)). omega arith) wd),
        ends facts.how,
      )

  abbrev w : Walked
  w = record { row = row n (route n lab d) s; hops = hops n (route n lab d) s; ending = ending_of (last n (route n lab d) s) }

  answer : walk_of K j s d ≡ w
  unfolding walked walk_from
  answer = rw accepted

  -- the row's places
  used : (k : ℕ) → k ≤ hops n (route n lab d) s → place w k ≡ spot (route n lab d) s k
  used = row_used n (route n lab d) s T.small

  abbrev end_place : place w (hops n (route n lab d) s) ≡ end_of n lab d s
  end_place = used (hops n (route n lab d) s) (omega arith)

  stepped : Kept n lab d s → Stepped K lab d s w
  unfolding turn
  stepped W =
      record {
        begins = used 0 (omega arith) ∙ spot_zero (route n lab d) s;
        steps = λ k h. let r = W.steps k h in
            let here = used k (omega arith) in
            (r.0, r.1, rw here r.2, used (k + 1) (omega arith) ∙ r.3 ∙ ap (flip r.0) (sym here));
        works = λ k h. let r = W.works k h in rw (used k (omega arith)) (works_at K j T (spot (route n lab d) s k) r.0 r.1);
        last_works =
            let r = W.end in
            rw end_place (⊎_elim (λ (l : lab (end_of n lab d s) ≤ 2). inl (works_at K j T _ r.0 l)) (λ q. inr q) r.1);
        unused = row_unused n (route n lab d) s;
      }

  arrives : {m : ℕ} → Delivers n lab d s m → Arrives K lab d w
  unfolding last turn
  arrives D = record { ending = ap ending_of D.ended; decided = rw end_place D.ended; there = end_place ∙ D.there }

  stuck : Halts n lab d s → Stuck K lab d w
  unfolding last turn
  stuck H =
      record { ending = ap ending_of H.ended; decided = rw end_place H.ended; far = rw end_place H.far; why = rw end_place why }
    where
      why : (i : ℕ) → i < n → apart i (end_of n lab d s) d ≡ true → out K (flip i (end_of n lab d s)) ≡ true
      why i h a =
          let x = flip i (end_of n lab d s) in
          let l : x < 2 ^ n = flip_lt n i (end_of n lab d s) h facts.kept.end.0 in
          ⊎_elim (λ (t : out K x ≡ true). t) (λ (t : out K x ≡ false). absurd (omega (arith, H.why i h a, T.working x l t)))
          (either (out K x))

  at_most : SomeSafe n lab → w.hops ≤ dist s d + 2 * lab s
  at_most x = let D = facts.some_safe x in omega (arith, D.exact, D.few)

  not_stuck : w.ending ≡ ending.Delivered → Halts n lab d s → ⊥
  not_stuck e H = let q = (stuck H).ending in let z : ◌≡◌ {A = ℕ} 0 1 = cc in omega arith

  never_refused : (r : Refusal) → w.ending ≡ ending.Refused r → Ended → ⊥
  never_refused k e (inl D) = let q = (arrives D).ending in let z : ◌≡◌ {A = ℕ} 0 1 = cc in omega arith
  never_refused k e (inr H) = let q = (stuck H).ending in let z : ◌≡◌ {A = ℕ} 0 1 = cc in omega arith

  -- ---- what falls

  falls : (k : ℕ) → k < w.hops → rank lab d (place w (k + 1)) < rank lab d (place w k)
  falls k h =
      omega (
        arith,
        facts.rank_falls k h,
        ap (rank lab d) (used (k + 1) (omega arith)),
        ap (rank lab d) (used k (omega arith)),
      )

  nearer : Nears n lab d s → (k : ℕ) → k < w.hops → dist (place w (k + 1)) d + 1 ≡ dist (place w k) d
  nearer near k h =
      let there = ap (λ x. dist x d) (used (k + 1) (omega arith)) in
      let here = ap (λ x. dist x d) (used k (omega arith)) in
      omega (arith, near k (omega arith), near (k + 1) (omega arith))

  meets_demand : Walks K lab s d (walk_of K j s d)
  meets_demand =
      rw answer
      (record {
        stepped = stepped facts.kept;
        arrives = λ x. arrives (facts.some_safe x);
        exact = ⊎_elim (λ (e : lab s ≡ 0). let D = facts.some_safe (s, hs.0, e) in omega (arith, D.exact, D.few))
            (λ (e : lab d ≡ 0). let D = facts.to_safe e in omega (arith, D.exact, D.few));
        ordinary = λ x e. omega (arith, at_most x);
        strong = λ x e. omega (arith, at_most x);
        none_safe = λ none. ⊎_elim (λ (D : Delivers n lab d s 0). inl (arrives D, omega (arith, D.exact, D.few)))
            (λ (H : Halts n lab d s). inr (stuck H)) (facts.none_safe none);
        even = λ e. ⊎_elim (extra_even n lab d s w refl) (λ H. absurd (not_stuck e H)) facts.how;
        never_refused = λ k e. never_refused k e facts.how;
        once = subst NoneTwice answer (walk_repeats n j s d (label_bytes n) row_bytes lab accepted).once;
        falls = falls;
        nearer = λ c. nearer (facts.nears c);
      })

pub demand3 : Demand3
demand3 K j ok = meets_demand K j (table K j ok)
