-- What the two answers say (RULES, Why), apart from how they are computed. Proved in proofs/Laws.antt; that a node's cause is true and can be followed down is
-- proved of every cause, in the crate causes.
use Rattle.std.specs.Prelude.{true, ◌≡◌, ℕ, ◌^◌, ◌≤◌, ◌<◌, leb}
use Rattle.cube.specs.Count.{count}
use Rattle.cube.specs.Cube.{dist, flip}
use Rattle.cube.specs.Tables.{label_in}
use Rattle.rule.specs.Cabinet.{Cabinet, labels_of, out}
use Rattle.causes.specs.Laws.{Marked, MarkedBefore, MarkedIn, TrueCause}
use Rattle.scans.specs.Picks.{NonePicks, Picks}
use Rattle.hop.specs.Hop.{hopped}
use Rattle.why.specs.HopReasons.{explain, hop_reason, without_scan}
use Rattle.why.specs.NodeReasons.{reason_of}
use Rattle.why.specs.declared.HopReason.{HopReason}
use Rattle.why.specs.declared.HopReason.TheVariants as hop
use Rattle.why.specs.declared.NodeReason.{NodeReason}
use Rattle.why.specs.declared.NodeReason.TheVariants.{Safe, Unsafe, Out}

-- why node x of the cabinet K has its label, where lab are the labels
pub data NodeExplained (K : Cabinet) (lab : ℕ → ℕ) (x : ℕ) : NodeReason → Type 0 where
  -- "faulty or draining: its label alone"
  is-out : {l : ℕ} → out K x ≡ true → lab x ≡ l → 3 ≤ l → NodeExplained K lab x (Out l)
  -- "safe: its label, and its counts of faulty and of non-safe neighbours, draining again as faulty"
  is_safe :
      {faulty bad : ℕ} → lab x ≡ 0 → faulty ≡ count K.n (λ i. out K (flip i x)) → bad ≡ count K.n (λ i. leb 1 (lab (flip i x)))
      → NodeExplained K lab x (Safe faulty bad)
  -- "unsafe: its label, the round that marked it, counted from 1, and its cause"
  is-unsafe :
      {l r : ℕ} → lab x ≡ l → (1 ≤ l) × (l ≤ 2) → Marked K.n K.rule (out K) x → MarkedIn K.n K.rule (out K) x r
      → {c : _} → TrueCause K.n K.rule (λ y. out K y ≡ true) (MarkedBefore K.n K.rule (out K) x) x c
      → NodeExplained K lab x (Unsafe l r c)

-- why the hop at c for d is taken, with the labels lab: the scan that takes it picks its dimension
pub data HopExplained (n : ℕ) (lab : ℕ → ℕ) (c d : ℕ) : HopReason → Type 0 where
  arrived : dist c d ≡ 0 → HopExplained n lab c d hop.Deliver
  took : {s i : ℕ} → 0 < dist c d → Picks n lab c d s i → HopExplained n lab c d (hop.Hop s i)
  stopped : 0 < dist c d → NonePicks n lab c d → HopExplained n lab c d hop.Halted

pub record WhyLaws : Type 0 where
  pub node :
      (K : Cabinet) → 2 ≤ K.rule → K.rule ≤ 3 → (x : ℕ) → x < 2 ^ K.n → NodeExplained K (label_in (labels_of K)) x (reason_of K x)
  pub hop : (n : ℕ) (lab : ℕ → ℕ) (c d : ℕ) → HopExplained n lab c d (explain n c d (lab c) (λ i. lab (flip i c)))
  -- without the scan it is the hop question's answer, refused or not
  pub same_hop : (n j c d m : ℕ) (lab : ℕ → ℕ) → without_scan (hop_reason n j c d m lab) ≡ hopped n j c d m lab
