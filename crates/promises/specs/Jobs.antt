-- Two jobs on one cabinet (RULES, Which nodes work), of whatever the contracts allow. "Labels, hops, walks, refusals and counts of one job depend only on the
-- shared tables, the bytes of its own half, the label buffer's length, its own closed table and its own questions": two situations that agree in these give the
-- same answers. And labelling one job leaves the other's half as it was, so nothing that the other asks changes, however often it is done. lib is the library,
-- as Rattle or as C calls it. Proved in proofs/Jobs.antt.
use Rattle.std.specs.Prelude.{◌||◌, List, ◌≢◌, ◌≡◌, ℕ, ◌^◌, length, Result, Ok}
use Rattle.cube.specs.Tables.{node_bit}
use Rattle.jobs.specs.Jobs.{half, label_for}
use Rattle.rule.specs.Cabinet.{Cabinet, labels_of}
use Rattle.why.specs.declared.HopReason.{HopReason}
use Rattle.why.specs.declared.NodeReason.{NodeReason}
use Rattle.walk.specs.Walk.{row_bytes}
use Rattle.walk.specs.declared.Walked.{Walked}
use Rattle.theorems.specs.Demand3.{Walks}
use Rattle.theorems.specs.Words.{Takes, Works}
use Rattle.promises.specs.Library.{Library}
use Rattle.promises.specs.Refusals.{Job}
use Rattle.cube.specs.declared.refusals.Refusal.{Refusal}
use Rattle.hop.specs.declared.Decision.{Decision}

-- two buffers are the same to job j of an n-cube: they have one length, and its half is the same
pub record SameTo (n j : ℕ) (l l' : List ℕ) : Type 0 where
  pub long : length l ≡ length l'
  pub own : half j (2 ^ n) l ≡ half j (2 ^ n) l'

-- from the buffer l to l' others than job j were labelled: any number of times, each with tables of its own and by any rule, accepted or refused
pub data Meanwhile (lib : Library) (n j : ℕ) : (l l' : List ℕ) → Type 0 where
  nothing : {l : List ℕ} → Meanwhile lib n j l l
  another :
      {l l₁ l' : List ℕ} {i : ℕ} {K : Cabinet} {x : Result ℕ Refusal} → i ≢ j → K.n ≡ n → lib.labels K i l x l₁ → Meanwhile lib n j l₁ l'
      → Meanwhile lib n j l l'
  -- or were told why a node has its label, which labels them too
  another_why :
      {l l₁ l' : List ℕ} {i x : ℕ} {K : Cabinet} {a : Result NodeReason Refusal} → i ≢ j → K.n ≡ n → lib.why_nodes K i x l a l₁ → Meanwhile lib n j l₁ l'
      → Meanwhile lib n j l l'

pub record Jobs (lib : Library) : Type 0 where
  -- ---- what a job sees: K has the shared tables and its own closed one

  -- labelling answers the same in buffers of one length, whatever they hold, and leaves them the same to the job where they were
  pub label_own :
      {K : Cabinet} {j : ℕ} {l l' after after' : List ℕ} {x x' : Result ℕ Refusal} → lib.labels K j l x after → lib.labels K j l' x' after'
      → length l ≡ length l' → x ≡ x'
  pub labels_own :
      {K : Cabinet} {j : ℕ} {l l' after after' : List ℕ} {x x' : Result ℕ Refusal} → lib.labels K j l x after → lib.labels K j l' x' after'
      → SameTo K.n j l l' → SameTo K.n j after after'
  -- a hop and a walk answer the same in buffers that are the same to the job, refused or not
  pub hop_own :
      {n j c d : ℕ} {l l' : List ℕ} {x x' : Result Decision Refusal} → lib.hops n j c d l x → lib.hops n j c d l' x' → SameTo n j l l' → x ≡ x'
  pub walk_own :
      {n j s d room : ℕ} {l l' : List ℕ} {w w' : Walked} → lib.walks n j s d l room w → lib.walks n j s d l' room w' → SameTo n j l l' → w ≡ w'
  -- and so do the questions that say why
  pub why_node_own :
      {K : Cabinet} {j x : ℕ} {l l' after after' : List ℕ} {a a' : Result NodeReason Refusal} → lib.why_nodes K j x l a after → lib.why_nodes K j x l' a' after'
      → length l ≡ length l' → a ≡ a'
  pub why_labels_own :
      {K : Cabinet} {j x : ℕ} {l l' after after' : List ℕ} {a a' : Result NodeReason Refusal} → lib.why_nodes K j x l a after → lib.why_nodes K j x l' a' after'
      → SameTo K.n j l l' → SameTo K.n j after after'
  pub why_hop_own :
      {n j c d : ℕ} {l l' : List ℕ} {a a' : Result HopReason Refusal} → lib.why_hops n j c d l a → lib.why_hops n j c d l' a' → SameTo n j l l' → a ≡ a'
  -- "closed counts as faulty": in which of the two tables a node stands makes no difference. So a job has the labels and the count of a cabinet of its own in
  -- which the nodes that it closes are in the fault table
  pub closed_as_faulty :
      {K K' : Cabinet} {j e e' : ℕ} {l after after' : List ℕ} → K.n ≡ K'.n → K.rule ≡ K'.rule → K.draining ≡ K'.draining
      → ((x : ℕ) → (node_bit K.faults x || node_bit K.closed x) ≡ (node_bit K'.faults x || node_bit K'.closed x))
      → lib.labels K j l (Ok e) after → lib.labels K' j l (Ok e') after' → (e ≡ e') × (after ≡ after')
  -- ---- labelling the other

  -- "relabelling the other alters nothing it sees and no byte of its half": whatever it holds, the buffer is the same to the job, whether the other's labelling
  -- was accepted or refused,
  pub other_labelled :
      {K : Cabinet} {i j : ℕ} {l after : List ℕ} {x : Result ℕ Refusal} → Job j → i ≢ j → lib.labels K i l x after → SameTo K.n j l after
  pub other_explained :
      {K : Cabinet} {i j x : ℕ} {l after : List ℕ} {a : Result NodeReason Refusal} → Job j → i ≢ j → lib.why_nodes K i x l a after → SameTo K.n j l after
  -- and however often it was labelled meanwhile,
  pub unmoved : {n j : ℕ} {l l' : List ℕ} → Job j → Meanwhile lib n j l l' → SameTo n j l l'
  -- and the walks that its labelling promised arrive as promised
  pub still_walks :
      {K : Cabinet} {j e s d : ℕ} {before l l' : List ℕ} {w : Walked} → lib.labels K j before (Ok e) l → Meanwhile lib K.n j l l'
      → Works K s → Takes K d → lib.walks K.n j s d l' row_bytes w → Walks K (label_for K.n j l') s d w
  -- ---- both jobs: K₀ is the cabinet as job 0 has it, and K₁ as job 1 has it

  -- labelled one after the other, each has its own labels: those of its own closed table
  pub both :
      {K₀ K₁ : Cabinet} {e f : ℕ} {before l after : List ℕ} → K₀.n ≡ K₁.n → lib.labels K₀ 0 before (Ok e) l → lib.labels K₁ 1 l (Ok f) after
      → (half 0 (2 ^ K₀.n) after ≡ labels_of K₀) × (half 1 (2 ^ K₁.n) after ≡ labels_of K₁)
  -- and in the other order every answer and every byte is the same
  pub either_order :
      {K₀ K₁ : Cabinet} {before l l' after after' : List ℕ} {x x' y y' : Result ℕ Refusal} → K₀.n ≡ K₁.n
      → lib.labels K₀ 0 before x l → lib.labels K₁ 1 l y after → lib.labels K₁ 1 before y' l' → lib.labels K₀ 0 l' x' after'
      → (x ≡ x') × (y ≡ y') × (after ≡ after')
  -- ---- neither job is favoured: with the same tables and the same half each is answered as the other is

  pub label_alike :
      {K : Cabinet} {i j : ℕ} {l l' after after' : List ℕ} {x x' : Result ℕ Refusal} → Job i → Job j → lib.labels K i l x after → lib.labels K j l' x' after'
      → length l ≡ length l' → x ≡ x'
  pub hop_alike :
      {n i j c d : ℕ} {l l' : List ℕ} {x x' : Result Decision Refusal} → Job i → Job j → lib.hops n i c d l x → lib.hops n j c d l' x' → length l ≡ length l'
      → half i (2 ^ n) l ≡ half j (2 ^ n) l' → x ≡ x'
  pub why_node_alike :
      {K : Cabinet} {i j x : ℕ} {l l' after after' : List ℕ} {a a' : Result NodeReason Refusal} → Job i → Job j → lib.why_nodes K i x l a after
      → lib.why_nodes K j x l' a' after' → length l ≡ length l' → a ≡ a'
  pub why_hop_alike :
      {n i j c d : ℕ} {l l' : List ℕ} {a a' : Result HopReason Refusal} → Job i → Job j → lib.why_hops n i c d l a → lib.why_hops n j c d l' a' → length l ≡ length l'
      → half i (2 ^ n) l ≡ half j (2 ^ n) l' → a ≡ a'
  pub walk_alike :
      {n i j s d room : ℕ} {l l' : List ℕ} {w w' : Walked} → Job i → Job j → lib.walks n i s d l room w → lib.walks n j s d l' room w'
      → length l ≡ length l' → half i (2 ^ n) l ≡ half j (2 ^ n) l' → w ≡ w'
