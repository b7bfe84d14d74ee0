-- The reason by the final labels and by what was seen of the node is the one that the definition gives: no round marked a node that does not work or is
-- safe, and of its neighbours those that do not work have a label of 3 or more, and those that are not safe one of 1 or more.
use mathlib.Core.Path.{◌≡◌, sym, ap, ap₂, ◌∙◌}
use mathlib.Core.Logic.{◌⊎◌, inl, inr}
use mathlib.Core.Bool.{Bool, true, false, not}
use mathlib.Core.List.{List}
use Prim.Native.Nat.{ℕ, ◌^◌, ◌<◌}
use native.Mathlib.Omega.{arith}
use lib.Dec.{leb}
use borrow.Author.Tests.{le-leb, lt-leb}
use Rattle.cube.specs.Count.{count}
use Rattle.cube.specs.Cube.{flip}
use Rattle.cube.specs.Tables.{label_in}
use Rattle.cube.proofs.Bools.{clash, either}
use Rattle.cube.proofs.Count.{count_same}
use Rattle.cube.proofs.Cube.{flip_lt}
use Rattle.rule.specs.Cabinet.{Cabinet, labels_of, out, out_byte}
use Rattle.rule.specs.Rule.{label, label_of, marked, rounds, safe}
use Rattle.rule.proofs.Bytes.{Label, four, is-ordinary, is-out, is_safe, is_strong, out-byte}
use Rattle.rule.proofs.Cabinet.{label-in, out_high}
use Rattle.rule.proofs.Rounds.{marks_work}
use Rattle.why.specs.Helpers.{Watched, reason_by, unmarked, watched_after, watched_of}
use Rattle.why.specs.NodeReasons.{reason_of}
use Rattle.why.specs.declared.NodeReason.{NodeReason}

module _ (K : Cabinet) where
  abbrev n : ℕ
  n = K.n

  abbrev lab : ℕ → ℕ
  lab = label_in (labels_of K)

  abbrev S : ℕ → Bool
  S = safe n K.rule (out K)

  abbrev M : ℕ → Bool
  M = marked n K.rule (out K) (rounds n K.rule (out K))

  abbrev L : ℕ → ℕ
  L = label_of n (out K) (out_byte K) S

  label_out : (y : ℕ) → y < 2 ^ n → leb 3 (lab y) ≡ out K y
  unfolding label
  label_out y h = ap (leb 3) (label-in K y h) ∙ go (four n (out K) (out_byte K) S y)
    where
      go : Label n (out K) (out_byte K) S y → leb 3 (L y) ≡ out K y
      go (is-out a e) = le-leb 3 (L y) (omega (arith, e, out_high K y a)) ∙ sym a
      go (is_safe a b e) = lt-leb 3 (L y) (omega (arith, e)) ∙ sym a
      go (is-ordinary a b i l s e) = lt-leb 3 (L y) (omega (arith, e)) ∙ sym a
      go (is_strong a b f e) = lt-leb 3 (L y) (omega (arith, e)) ∙ sym a

  out_not_safe : (y : ℕ) → out K y ≡ true → S y ≡ false
  unfolding safe
  out_not_safe y e = rw e

  label_not_safe : (y : ℕ) → y < 2 ^ n → leb 1 (lab y) ≡ not (S y)
  unfolding label
  label_not_safe y h = ap (leb 1) (label-in K y h) ∙ go (four n (out K) (out_byte K) S y)
    where
      go : Label n (out K) (out_byte K) S y → leb 1 (L y) ≡ not (S y)
      go (is-out a e) = le-leb 1 (L y) (omega (arith, e, out_high K y a)) ∙ ap not (sym (out_not_safe y a))
      go (is_safe a b e) = lt-leb 1 (L y) (omega (arith, e)) ∙ ap not (sym b)
      go (is-ordinary a b i l s e) = le-leb 1 (L y) (omega (arith, e)) ∙ ap not (sym b)
      go (is_strong a b f e) = le-leb 1 (L y) (omega (arith, e)) ∙ ap not (sym b)

  module _ (x : ℕ) (hx : x < 2 ^ n) where
    near_out : count n (λ i. leb 3 (lab (flip i x))) ≡ count n (λ i. out K (flip i x))
    near_out = count_same n (λ i. leb 3 (lab (flip i x))) (λ i. out K (flip i x)) (λ i h. label_out (flip i x) (flip_lt n i x h hx))

    pub near_not_safe : count n (λ i. leb 1 (lab (flip i x))) ≡ count n (λ i. not (S (flip i x)))
    near_not_safe = count_same n (λ i. leb 1 (lab (flip i x))) (λ i. not (S (flip i x))) (λ i h. label_not_safe (flip i x) (flip_lt n i x h hx))

    out_label : out K x ≡ true → label n K.rule (out K) (out_byte K) x ≡ out_byte K x
    unfolding label
    out_label = out-byte n (out K) (out_byte K) S x

    reason_is : reason_by n lab x (watched_of K x) ≡ reason_of K x
    unfolding reason_of watched_of watched_after unmarked safe
    reason_is = go (either (out K x)) (either (M x))
      where
        byte : out K x ≡ true → lab x ≡ out_byte K x
        byte a = label-in K x hx ∙ out_label a

        go : (out K x ≡ true) ⊎ (out K x ≡ false) → (M x ≡ true) ⊎ (M x ≡ false) → reason_by n lab x (watched_of K x) ≡ reason_of K x
        go (inl a) (inl b) = absurd (clash a (marks_work n K.rule (out K) (rounds n K.rule (out K)) x b))
        go (inl a) (inr b) = rw (b, label_out x hx, a, byte a)
        go (inr a) (inl b) = rw (b, a, label-in K x hx)
        go (inr a) (inr b) = rw (b, label_out x hx, a, near_out, near_not_safe)

    -- from what the code has
    pub reason-of : (l : List ℕ) (w : Watched) (r : NodeReason) → l ≡ labels_of K → w ≡ watched_of K x → r ≡ reason_by n (label_in l) x w → r ≡ reason_of K x
    reason-of l w r el ew er = er ∙ ap₂ (λ (t : List ℕ) (v : Watched). reason_by n (label_in t) x v) el ew ∙ reason_is
