-- Why a node has its label and why a hop is taken (RULES, Why), of whatever the contracts allow: the answers are true, causes can be followed down from answer to
-- answer, and the label buffer is left as labelling leaves it. lib is the library, as Rattle or as C calls it; j is the job that asks. Proved in proofs/Why.antt.
use Rattle.std.specs.Prelude.{List, ◌≡◌, ℕ, suc, ◌≤◌, ◌<◌, length, Result, Ok, Err}
use Rattle.cube.specs.Cube.{flip}
use Rattle.jobs.specs.Jobs.{label_for}
use Rattle.rule.specs.Cabinet.{Cabinet}
use Rattle.causes.specs.Laws.{Names}
use Rattle.causes.specs.declared.Cause.{Cause}
use Rattle.why.specs.HopReasons as X
use Rattle.why.specs.Laws.{HopExplained, NodeExplained}
use Rattle.why.specs.declared.HopReason.{HopReason}
use Rattle.why.specs.declared.NodeReason.{NodeReason}
use Rattle.why.specs.declared.NodeReason.TheVariants.{Unsafe, Out}
use Rattle.promises.specs.Library.{Library}
use Rattle.promises.specs.Refusals.{HopGiven, NodeGiven}
use Rattle.cube.specs.declared.refusals.Refusal.{Refusal}
use Rattle.cube.specs.Refused.{refused}
use Rattle.hop.specs.declared.Decision.{Decision}

-- the answer of a neighbour that is named: it does not work, or its own round is smaller than r
pub data Earlier (r : ℕ) : Result NodeReason Refusal → Type 0 where
  not_working : {l : ℕ} → Earlier r (Ok (Out l))
  smaller_round : {l r' : ℕ} {c : Cause} → r' < r → Earlier r (Ok (Unsafe l r' c))

-- a cause is followed: from x, where the answer is a, to y, a neighbour that a names
abbrev pub Followed : (a : Result NodeReason Refusal) (x y : ℕ) → Type 0
Followed a x y = (l r : ℕ) (c : Cause) → a ≡ Ok (Unsafe l r c) → (i : ℕ) × Names c i × (y ≡ flip i x)

pub record Whys (lib : Library) : Type 0 where
  -- ---- a node

  -- "those of labelling, then 5 for the node"
  pub node-refusal :
      {K : Cabinet} {j x : ℕ} {before after : List ℕ} {a : Result NodeReason Refusal} → lib.why_nodes K j x before a after → NodeGiven K j (length before) x (refused a)
  -- "before any byte is written"
  pub labels_kept :
      {K : Cabinet} {j x : ℕ} {r : Refusal} {before after : List ℕ} → lib.why_nodes K j x before (Err r) after → after ≡ before
  -- "the question is lent what labelling is and leaves there what labelling leaves"
  pub labels-left :
      {K : Cabinet} {j x : ℕ} {before after after' : List ℕ} {a : NodeReason} {y : Result ℕ Refusal} → lib.why_nodes K j x before (Ok a) after
      → lib.labels K j before y after' → after ≡ after'
  -- what labelling refuses it refuses alike
  pub refused_alike :
      {K : Cabinet} {j x : ℕ} {r : Refusal} {before after after' : List ℕ} {a : Result NodeReason Refusal} → lib.why_nodes K j x before a after
      → lib.labels K j before (Err r) after' → a ≡ Err r
  -- the answer is true: its label, round and cause, or its counts
  pub node :
      {K : Cabinet} {j x : ℕ} {before after : List ℕ} {a : NodeReason} → lib.why_nodes K j x before (Ok a) after
      → NodeExplained K (label_for K.n j after) x a
  -- whoever asks about a neighbour that is named is answered that it does not work or that its own round is smaller
  pub named :
      {K : Cabinet} {j x l r : ℕ} {c : Cause} {before after before' after' : List ℕ} {b : Result NodeReason Refusal} → lib.why_nodes K j x before (Ok (Unsafe l r c)) after
      → (i : ℕ) → Names c i → length before ≡ length before' → lib.why_nodes K j (flip i x) before' b after' → Earlier r b
  -- and whoever asks on so, from an unsafe node on, whichever neighbour he takes each time, is led "to a node that does not work, in as many steps as the first
  -- node's round at most", and is told of unsafe nodes only on the way
  pub down :
      {K : Cabinet} {j l r m : ℕ} {c : Cause} (at : ℕ → ℕ) (a : ℕ → Result NodeReason Refusal) (before after : ℕ → List ℕ)
      → ((t : ℕ) → lib.why_nodes K j (at t) (before t) (a t) (after t)) → ((t : ℕ) → length (before t) ≡ m)
      → a 0 ≡ Ok (Unsafe l r c) → ((t : ℕ) → Followed (a t) (at t) (at (suc t)))
      → (t : ℕ) × (t ≤ r) × ((l : ℕ) × (a t ≡ Ok (Out l))) × ((s : ℕ) → s < t → (l r : ℕ) × (c : Cause) × (a s ≡ Ok (Unsafe l r c)))
  -- ---- a hop

  -- "asked like the hop, with its refusals"
  pub hop-refusal :
      {n j c d : ℕ} {buffer : List ℕ} {a : Result HopReason Refusal} → lib.why_hops n j c d buffer a
      → HopGiven n j c d (length buffer) (label_for n j buffer) (refused a)
  -- without the scan it is what the hop question answers
  pub same_hop :
      {n j c d : ℕ} {buffer : List ℕ} {a : Result HopReason Refusal} {x : Result Decision Refusal} → lib.why_hops n j c d buffer a → lib.hops n j c d buffer x → X.without_scan a ≡ x
  -- "the dimension is the lowest that the scan takes, and in every earlier scan no dimension qualifies"
  pub hop :
      {n j c d : ℕ} {buffer : List ℕ} {a : HopReason} → lib.why_hops n j c d buffer (Ok a) → HopExplained n (label_for n j buffer) c d a
  -- and it depends on what the hop depends on: in the job's half on the label of c and those of its neighbours alone
  pub hop_local :
      {n j c d : ℕ} {buffer buffer' : List ℕ} {a a' : Result HopReason Refusal} → lib.why_hops n j c d buffer a → lib.why_hops n j c d buffer' a'
      → length buffer ≡ length buffer' → label_for n j buffer c ≡ label_for n j buffer' c
      → ((i : ℕ) → i < n → label_for n j buffer (flip i c) ≡ label_for n j buffer' (flip i c)) → a ≡ a'
