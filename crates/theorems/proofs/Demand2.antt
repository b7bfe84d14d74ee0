-- Demand 2, of the bytes that labelling writes: byte 0 stands exactly at the safe nodes, so what holds of these holds of the bytes.
use mathlib.Core.Bool.{Bool, true, false, not}
use mathlib.Core.Logic.{inl, inr, ⊎_elim}
use mathlib.Core.Path.{◌≡◌, sym, ap, ◌∙◌}
use Prim.Native.Nat.{ℕ, ◌^◌, ◌≤◌, ◌<◌}
use native.Mathlib.Numerals.{add-one}
use native.Mathlib.Omega.{arith}
use lib.Dec.{eqb}
use borrow.Author.Tests.{eq-eqb, eqb-true, not-true}
use Rattle.cube.specs.Cube.{flip}
use Rattle.cube.specs.Tables.{node_bit}
use Rattle.cube.proofs.Bools.{and_both, and_true, either, clash, is_false, or_false, or_left, or_right}
use Rattle.cube.proofs.Count.{count_same}
use Rattle.cube.proofs.Cube.{flip_lt}
use Rattle.rule.specs.Cabinet.{Cabinet, drains, exchanges_of, faulty, out, out_byte}
use Rattle.rule.specs.Closed.{Closed, Largest}
use Rattle.rule.specs.Exchanges.{Exchanges}
use Rattle.rule.specs.Rule.{label, marked, rounds, exchanges, safe}
use Rattle.rule.proofs.Bytes.{byte_out, ordinary_near, out-byte, strong_none}
use Rattle.rule.proofs.Cabinet.{is_zero, label-in, out_high, zero_is}
use Rattle.rule.proofs.Exchanges.{exchanged}
use Rattle.rule.proofs.Largest.{safe_largest}
use Rattle.rule.proofs.Rounds.{rested}
use Rattle.scans.specs.Progress.{Receives}
use Rattle.theorems.specs.Demand2.{Demand2}
use Rattle.theorems.specs.Words.{label_at}

module _ (K : Cabinet) where
  abbrev n : ℕ
  n = K.n

  abbrev S : ℕ → Bool
  S = safe n K.rule (out K)

  abbrev L : Largest n K.rule (out K)
  L = safe_largest n K.rule (out K)

  abbrev C : Closed n K.rule (out K) S
  C = L.closed

  abbrev E : Exchanges n K.rule (out K)
  E = exchanged n K.rule (out K)

  zero_same : (x : ℕ) → x < 2 ^ n → eqb (label_at K x) 0 ≡ S x
  zero_same x h =
      ⊎_elim (λ (t : S x ≡ true). eq-eqb (label_at K x) 0 (is_zero K x h t) ∙ sym t)
      (λ (t : S x ≡ false). is_false (λ u. clash (zero_is K x h (eqb-true (label_at K x) 0 u)) t) ∙ sym t)
      (either (S x))

  pub out_label : (x : ℕ) → x < 2 ^ n → out K x ≡ true → label_at K x ≡ out_byte K x
  unfolding label
  out_label x h e = label-in K x h ∙ out-byte n (out K) (out_byte K) S x e

  pub is-faulty : (x : ℕ) → x < 2 ^ n → faulty K x ≡ true → label_at K x ≡ 3
  is-faulty x h e = out_label x h (or_left _ e) ∙ rw e

  is_closed : (x : ℕ) → x < 2 ^ n → node_bit K.closed x ≡ true → label_at K x ≡ 3
  is_closed x h e = is-faulty x h (or_right (node_bit K.faults x) e)

  pub is_draining : (x : ℕ) → x < 2 ^ n → drains K x ≡ true → label_at K x ≡ 4
  is_draining x h e =
      let r = and_true (not (faulty K x)) _ e in
      out_label x h (or_right (faulty K x) r.1) ∙ rw (not-true (faulty K x) r.0)

  pub works : (x : ℕ) → x < 2 ^ n → out K x ≡ false → label_at K x ≤ 2
  unfolding label
  works x h e = omega (arith, below)
    where
      below : ¬ (3 ≤ label_at K x)
      below l = clash (byte_out n (out K) (out_byte K) S C.works (out_high K) x (omega (arith, label-in K x h))) e

  -- so one that is not faulty works or drains, by its label
  pub receives : (x : ℕ) → x < 2 ^ n → faulty K x ≡ false → Receives (label_at K x)
  receives x h e =
      ⊎_elim (λ (t : node_bit K.draining x ≡ true). inr (is_draining x h (and_both (ap not e) t)))
      (λ (t : node_bit K.draining x ≡ false). inl (works x h (rw (e, t)))) (either (node_bit K.draining x))

  ordinary : (x : ℕ) → x < 2 ^ n → label_at K x ≡ 1 → (i : ℕ) × (i < n) × (label_at K (flip i x) ≡ 0)
  unfolding label
  ordinary x h e =
      let r = ordinary_near n (out K) (out_byte K) S C.works (out_high K) x (sym (label-in K x h) ∙ e) in
      (r.0, r.1, is_zero K (flip r.0 x) (flip_lt n r.0 x r.1 h) r.2)

  strong : (x i : ℕ) → x < 2 ^ n → i < n → label_at K x ≡ 2 → label_at K (flip i x) ≡ 0 → ⊥
  unfolding label
  strong x i h l e z =
      clash (zero_is K (flip i x) (flip_lt n i x l h) z)
      (strong_none n (out K) (out_byte K) S C.works (out_high K) x (sym (label-in K x h) ∙ e) i l)

  -- the quiet exchange leaves the marks of the last round as they are
  marks_after : (x : ℕ) → x < 2 ^ n → marked n K.rule (out K) (exchanges_of K) x ≡ marked n K.rule (out K) (rounds n K.rule (out K)) x
  unfolding exchanges_of exchanges
  marks_after x h =
      ap (λ (r : ℕ). marked n K.rule (out K) r x) (add-one (rounds n K.rule (out K)))
      ∙ (rested n K.rule (out K)).still (rounds n K.rule (out K)) (omega arith) x h

  unmarked : (x : ℕ) → x < 2 ^ n → S x ≡ true → (out K x ≡ false) × (marked n K.rule (out K) (exchanges_of K) x ≡ false)
  unfolding safe
  unmarked x h e =
      let s = or_false (out K x) (marked n K.rule (out K) (rounds n K.rule (out K)) x) (not-true _ e) in
      (s.0, marks_after x h ∙ s.1)

  makes_safe : (x : ℕ) → x < 2 ^ n → out K x ≡ false → marked n K.rule (out K) (exchanges_of K) x ≡ false → S x ≡ true
  unfolding safe
  makes_safe x h f m = let r = sym (marks_after x h) ∙ m in rw (f, r)

  pub demand2 : Demand2 K (label_at K) (exchanges_of K)
  unfolding exchanges_of
  demand2 =
      record {
        closed = record {
          works = λ x h e. C.works x h (sym (zero_same x h) ∙ e);
          few_out = λ x h e. C.few_out x h (sym (zero_same x h) ∙ e);
          few_outside = λ x h e. omega (
            arith,
            C.few_outside x h (sym (zero_same x h) ∙ e),
            count_same n (λ i. not (eqb (label_at K (flip i x)) 0)) (λ i. not (S (flip i x))) (λ i l. ap not (zero_same (flip i x) (flip_lt n i x l h))),
          );
        };
        largest = λ H closed x h e. is_zero K x h (L.largest H closed x h e);
        faulty = is-faulty;
        drains = is_draining;
        works = works;
        shut = is_closed;
        ordinary = ordinary;
        strong = strong;
        safe = λ x h. (λ e. unmarked x h (zero_is K x h e), λ e. is_zero K x h (makes_safe x h e.0 e.1));
        counted = E.counted;
        still = E.still;
      }
