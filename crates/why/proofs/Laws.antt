-- What the two answers say: of a node by its label, of a hop by what the scans pick.
use mathlib.Core.Path.{◌≡◌, refl, sym, ◌∙◌}
use mathlib.Core.Logic.{◌⊎◌, inl, inr}
use mathlib.Core.Bool.{Bool, true, false}
use Prim.Native.Nat.{ℕ, ◌^◌, ◌≤◌, ◌<◌}
use native.Mathlib.Omega.{arith}
use lib.Dec.{eqb, ltb}
use borrow.Author.Tests.{eqb-true, eqb-false, ltb-true, ltb-false}
use Rattle.cube.specs.Cube.{dist, flip}
use Rattle.cube.specs.Tables.{label_in}
use Rattle.cube.proofs.Bools.{clash, either}
use Rattle.rule.specs.Cabinet.{Cabinet, labels_of, out, out_byte}
use Rattle.rule.specs.Rule.{label, label_of, marked, rounds, safe}
use Rattle.rule.proofs.Bytes.{Label, four}
use Rattle.rule.proofs.Bytes as bytes
use Rattle.rule.proofs.Cabinet.{is_zero, label-in, out_high}
use Rattle.causes.proofs.Down.{cause_laws}
use Rattle.scans.specs.Scans.{no_scan}
use Rattle.scans.proofs.Picking.{first_picks, first_scan_at, lowest_at, none_picks}
use Rattle.why.specs.HopReasons.{answer, explain}
use Rattle.why.specs.Laws.{HopExplained, NodeExplained, WhyLaws, arrived, is-out, is_safe, is-unsafe, stopped, took}
use Rattle.why.specs.NodeReasons.{reason_of}
use Rattle.why.proofs.Hops.{same_hop}
use Rattle.why.proofs.Reasons.{near_not_safe}

-- ---- a node

module _ (K : Cabinet) (low : 2 ≤ K.rule) (high : K.rule ≤ 3) (x : ℕ) (hx : x < 2 ^ K.n) where
  abbrev n : ℕ
  n = K.n

  abbrev F : ℕ → Bool
  F = out K

  abbrev S : ℕ → Bool
  S = safe n K.rule F

  abbrev lab : ℕ → ℕ
  lab = label_in (labels_of K)

  byte : lab x ≡ label_of n F (out_byte K) S x
  unfolding label
  byte = label-in K x hx

  unsafe_marked : F x ≡ false → S x ≡ false → marked n K.rule F (rounds n K.rule F) x ≡ true
  unfolding safe
  unsafe_marked a b = go (either (marked n K.rule F (rounds n K.rule F) x))
    where
      go : (marked n K.rule F (rounds n K.rule F) x ≡ true) ⊎ (marked n K.rule F (rounds n K.rule F) x ≡ false)
          → marked n K.rule F (rounds n K.rule F) x ≡ true
      go (inl t) = t
      go (inr t) = let q : true ≡ false = rw (a, t) at b in absurd (clash refl q)

  unsafe_one : F x ≡ false → S x ≡ false → (1 ≤ lab x) × (lab x ≤ 2)
  unsafe_one a b = go (four n F (out_byte K) S x)
    where
      go : Label n F (out_byte K) S x → (1 ≤ lab x) × (lab x ≤ 2)
      go (bytes.is-out c e) = absurd (clash c a)
      go (bytes.is_safe c d e) = absurd (clash d b)
      go (bytes.is-ordinary c d i l s e) = (omega (arith, byte, e), omega (arith, byte, e))
      go (bytes.is_strong c d f e) = (omega (arith, byte, e), omega (arith, byte, e))

  node_explained : NodeExplained K lab x (reason_of K x)
  unfolding reason_of label
  node_explained = go (either (F x)) (either (S x))
    where
      go : (F x ≡ true) ⊎ (F x ≡ false) → (S x ≡ true) ⊎ (S x ≡ false) → NodeExplained K lab x (reason_of K x)
      go (inl a) _ = rw a (is-out a (byte ∙ bytes.out-byte n F (out_byte K) S x a) (out_high K x a))
      go (inr a) (inl b) = rw (a, b) (is_safe (is_zero K x hx b) refl (sym (near_not_safe K x hx)))
      go (inr a) (inr b) =
          let M = unsafe_marked a b in
          let C = cause_laws n K.rule F low high in
          let one = unsafe_one a b in
          rw (a, b) (is-unsafe byte (omega (arith, byte, one.0), omega (arith, byte, one.1)) M (C.round x M) (C.cause x M))

-- ---- a hop

module _ (n : ℕ) (lab : ℕ → ℕ) (c d : ℕ) where
  abbrev first : ℕ
  first = first_scan_at n lab c d

  pub hop_explained : HopExplained n lab c d (explain n c d (lab c) (λ i. lab (flip i c)))
  unfolding explain answer
  hop_explained = go (either (eqb (dist c d) 0)) (either (ltb first no_scan))
    where
      far : eqb (dist c d) 0 ≡ false → 0 < dist c d
      far a = omega (arith, eqb-false (dist c d) 0 a)

      go : (eqb (dist c d) 0 ≡ true) ⊎ (eqb (dist c d) 0 ≡ false) → (ltb first no_scan ≡ true) ⊎ (ltb first no_scan ≡ false)
          → HopExplained n lab c d (answer (dist c d) first (lowest_at n lab c d first))
      go (inl a) _ = rw a (arrived (eqb-true (dist c d) 0 a))
      go (inr a) (inl b) = rw (a, b) (took (far a) (first_picks n lab c d (ltb-true first no_scan b)))
      go (inr a) (inr b) = rw (a, b) (stopped (far a) (none_picks n lab c d (ltb-false first no_scan b)))

pub why_laws : WhyLaws
why_laws = record { node = node_explained; hop = hop_explained; same_hop = same_hop }
