-- How long labelling may take, of the bytes that labelling writes: a byte of 3 or more stands exactly at the nodes that do not work, and 1 or 2 at those that
-- are marked, so the ceilings of the marks are ceilings of the bytes.
use mathlib.Core.Bool.{Bool, true, false, ◌&&◌}
use mathlib.Core.Logic.{⊎_elim, ◌↔◌}
use mathlib.Core.Path.{◌≡◌, sym, ◌∙◌}
use Prim.Native.Nat.{ℕ, ◌^◌, ◌≤◌, ◌<◌}
use native.Mathlib.Omega.{arith}
use lib.Dec.{leb}
use borrow.Author.Tests.{le-leb, lt-leb}
use Rattle.cube.specs.Count.{count}
use Rattle.cube.specs.Cube.{flip}
use Rattle.cube.proofs.Bools.{and_both, and_true, clash, either}
use Rattle.cube.proofs.Count.{count_le, count_same}
use Rattle.cube.proofs.Cube.{flip_lt}
use Rattle.cube.proofs.Tables.{dimension_is}
use Rattle.rule.specs.Cabinet.{Cabinet, exchanges_of, out}
use Rattle.rule.specs.Exchanges.{Exchanges, late}
use Rattle.rule.specs.Rule.{exchanges, marked}
use Rattle.rule.proofs.Cabinet.{out_high}
use Rattle.rule.proofs.Exchanges.{exchanged}
use Rattle.rule.proofs.Rounds.{marks_work}
use Rattle.jobs.specs.Jobs.{label_bytes}
use Rattle.labels.proofs.Refusal.{fitting}
use Rattle.theorems.specs.HowLong.{HowLong, is_out, is_unsafe}
use Rattle.theorems.specs.Words.{Accepted, label_at}
use Rattle.theorems.proofs.Demand2.{demand2, out_label, works}

module _ (K : Cabinet) where
  abbrev n : ℕ
  n = K.n

  abbrev E : Exchanges n K.rule (out K)
  E = exchanged n K.rule (out K)

  -- the marks when labelling is done
  abbrev M : ℕ → Bool
  M = marked n K.rule (out K) (exchanges n K.rule (out K))

  high_is_out : (x : ℕ) → x < 2 ^ n → is_out (label_at K x) ≡ out K x
  high_is_out x h =
      ⊎_elim (λ (t : out K x ≡ true). le-leb 3 (label_at K x) (omega (arith, out_label K x h t, out_high K x t)) ∙ sym t)
      (λ (t : out K x ≡ false). lt-leb 3 (label_at K x) (omega (arith, works K x h t)) ∙ sym t)
      (either (out K x))

  near_out : (x : ℕ) → x < 2 ^ n → count n (λ i. is_out (label_at K (flip i x))) ≡ count n (λ i. out K (flip i x))
  near_out x h =
      count_same n (λ i. is_out (label_at K (flip i x))) (λ i. out K (flip i x)) (λ i l. high_is_out (flip i x) (flip_lt n i x l h))

  marked_unsafe : (x : ℕ) → x < 2 ^ n → M x ≡ true → is_unsafe (label_at K x) ≡ true
  unfolding exchanges_of
  marked_unsafe x h e =
      let w = works K x h (marks_work n K.rule (out K) (exchanges n K.rule (out K)) x e) in
      and_both (le-leb 1 (label_at K x) (omega (arith, not-safe))) (le-leb (label_at K x) 2 w)
    where
      not-safe : ¬ (label_at K x ≡ 0)
      not-safe z = clash e (((demand2 K).safe x h).0 z).1

  late_marked : late n M (out K) ≤ late n (λ x. is_unsafe (label_at K x)) (λ x. is_out (label_at K x))
  unfolding late
  late_marked =
      count_le (2 ^ n) (λ x. M x && leb (count n (λ i. out K (flip i x))) 1)
      (λ x. is_unsafe (label_at K x) && leb (count n (λ i. is_out (label_at K (flip i x)))) 1) go
    where
      go : (x : ℕ) → x < 2 ^ n → (M x && leb (count n (λ i. out K (flip i x))) 1) ≡ true
          → (is_unsafe (label_at K x) && leb (count n (λ i. is_out (label_at K (flip i x)))) 1) ≡ true
      go x h e =
          let a = and_true (M x) _ e in
          and_both (marked_unsafe x h a.0) (rw (near_out x h) a.1)

  first : 2 ≤ K.rule → (x : ℕ) → x < 2 ^ n
      → (marked n K.rule (out K) 1 x ≡ true) ↔ ((label_at K x ≤ 2) × (2 ≤ count n (λ i. is_out (label_at K (flip i x)))))
  first r x h = (λ e. let a = (E.first r x).0 e in (works K x h a.0, omega (arith, near_out x h, a.1)), given)
    where
      given : (label_at K x ≤ 2) × (2 ≤ count n (λ i. is_out (label_at K (flip i x)))) → marked n K.rule (out K) 1 x ≡ true
      given a = (E.first r x).1 (sym (high_is_out x h) ∙ lt-leb 3 (label_at K x) (omega (arith, a.0)), omega (arith, near_out x h, a.1))

  pub how_long : (j : ℕ) → Accepted K j → HowLong K (label_at K) (exchanges_of K)
  unfolding exchanges_of
  how_long j ok =
      let f = fitting K j (label_bytes n) ok in
      record {
        counted = E.counted;
        ceiling = E.ceiling;
        first = first f.rule.0;
        fewer = omega (arith, E.fewer, late_marked);
        below_nodes = E.below_nodes (dimension_is n f.dimension).0 f.rule.0;
      }
