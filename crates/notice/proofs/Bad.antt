-- Where a refused notice is bad: its dimension, its count, or what the address reader says of the bytes behind them, with the numbers before it read.
use mathlib.Core.Path.{◌≡◌, sym, ap, ◌∙◌}
use mathlib.Core.Logic.{◌≢◌}
use mathlib.Core.Bool.{Bool, true, false, not}
use mathlib.Core.List.{List, [], ◌∷◌}
use Prim.Native.Nat.{ℕ, ◌+◌, ◌^◌, ◌≤◌, ◌<◌}
use lib.Dec.{eqb, ltb}
use lib.ListN.{drop, length}
use borrow.Author.Tests.{eq-eqb, ltb-true, not-true}
use Rattle.std.specs.Prelude.{Ok, Err}
use Rattle.cube.specs.Refusal.{◌⇒◌}
use Rattle.cube.specs.Refused.{refusal}
use Rattle.cube.specs.declared.refusals.Refusal.{Refusal}
use Rattle.cube.specs.declared.refusals.Refusal.TheVariants.{Count, Dimension, Length}
use Rattle.cube.specs.Tables.{is_dimension, table_len}
use Rattle.cube.proofs.Bools.{clash}
use Rattle.cube.proofs.Refusal.{first_only}
use Rattle.groups.specs.Number.{Number, number_at, on_number}
use Rattle.groups.proofs.Groups.{no_value}
use Rattle.notice.specs.Addresses.{addresses_end}
use Rattle.notice.specs.Notice.{a_rest, count_at, dimension_at, notice_from, noticed, rest_at}
use Rattle.notice.specs.Tests.{length_tests, tested}
use Rattle.notice.proofs.Cases.{no_addresses, no_notice, same_error, on_further, on-number, on-rest, on_tested}
use Rattle.notice.proofs.Opened.{opened_count, opened_sized}

pub data Bad (s t : List ℕ) : (r : Refusal) (at : ℕ) → Type 0 where
  bad_dimension : {r : Refusal} {at : ℕ} → number_at s 0 ≡ Err (r, at) → Bad s t r at
  no_dimension : {n next : ℕ} → number_at s 0 ≡ Ok (n, next) → is_dimension n ≡ false → Bad s t Dimension 0
  wrong_table : {n next : ℕ} → dimension_at s ≡ Ok (n, next) → length t ≢ table_len n → Bad s t Length 0
  bad_count :
      {n at : ℕ} {r : Refusal} {place : ℕ} → dimension_at s ≡ Ok (n, at) → length t ≡ table_len n → number_at s at ≡ Err (r, place) → Bad s t r place
  many :
      {n at m start : ℕ} → dimension_at s ≡ Ok (n, at) → length t ≡ table_len n → number_at s at ≡ Ok (m, start) → 2 ^ n < m
      → Bad s t Count at
  bad_address :
      {n at m start : ℕ} {r : Refusal} {place : ℕ} → dimension_at s ≡ Ok (n, at) → length t ≡ table_len n → number_at s at ≡ Ok (m, start) → m ≤ 2 ^ n
      → addresses_end m (drop start s) 0 0 (2 ^ n) ≡ Err (r, place) → Bad s t r (start + place)

-- a number and the one test of its value: which of the two refused it
pub tested_bad : (holds : ℕ → Bool) (j at : ℕ) (x : Number) {q : Refusal} {place : ℕ} (P : Type 0) → tested (λ v. holds v ⇒ j ∷ []) at x ≡ Err (q, place)
    → (x ≡ Err (q, place) → P) → ((v next : ℕ) → x ≡ Ok (v, next) → holds v ≡ true → refusal j ≡ q → at ≡ place → P) → P
tested_bad holds j at x {q} {place} P e own test =
    on_tested (λ v. holds v ⇒ j ∷ []) at (λ y. y ≡ Err (q, place) → P) x (λ r p here f. own (here ∙ f))
    (λ v next here z f.
    let o = first_only (holds v) j z in
    let p = same_error f in
    test v next here o.0 (sym (ap refusal o.1) ∙ p.0) p.1)
    (λ _ _ _ _ f. absurd (no_value (sym f))) e

module _ (s t : List ℕ) {q : Refusal} {place : ℕ} where
  in_front : tested (length_tests t) 0 (dimension_at s) ≡ Err (q, place) → Bad s t q place
  unfolding dimension_at
  in_front e =
      tested_bad (λ n. not (eqb (length t) (table_len n))) 2 0 (dimension_at s) (Bad s t q place) e
      (λ d. tested_bad (λ n. not (is_dimension n)) 1 0 (number_at s 0) (Bad s t q place) d bad_dimension
      (λ n next here bad a b. rw (← a, ← b) (no_dimension here (not-true (is_dimension n) bad))))
      (λ n next here bad a b. rw (← a, ← b)
      (wrong_table here (λ z. clash (eq-eqb (length t) (table_len n) z) (not-true (eqb (length t) (table_len n)) bad))))

  in_rest : (n at : ℕ) → dimension_at s ≡ Ok (n, at) → length t ≡ table_len n → rest_at n s at ≡ Err (q, place) → Bad s t q place
  unfolding rest_at count_at
  in_rest n at dimension sized =
      on-number (λ y. y ≡ Err (q, place) → Bad s t q place) (count_at n s at)
      (λ r p e f.
      let a = same_error f in
      tested_bad (ltb (2 ^ n)) 11 at (number_at s at) (Bad s t q place) (rw (a.0, a.1) at e) (bad_count dimension sized)
      (λ m start count over c d. rw (← c, ← d) (many dimension sized count (ltb-true (2 ^ n) m over))))
      (λ m start counted. on_further
      (λ y. on_number y (λ r place. Err (r, place)) (λ base end. a_rest m start end) ≡ Err (q, place) → Bad s t q place) start
      (addresses_end m (drop start s) 0 0 (2 ^ n))
      (λ r p e f.
      let a = same_error f in
      let c = opened_count n s at m start counted in
      rw (← a.0, ← a.1) (bad_address dimension sized c.0 c.1 e))
      (λ _ _ _ f. absurd (no_addresses (sym f))))

  pub bad : noticed s t ≡ Err (q, place) → Bad s t q place
  unfolding noticed notice_from
  bad =
      on-number (λ y. y ≡ Err (q, place) → Bad s t q place) (tested (length_tests t) 0 (dimension_at s))
      (λ r p e f.
      let a = same_error f in
      in_front (rw (a.0, a.1) at e))
      (λ n at e. on-rest (λ y. y ≡ Err (q, place) → Bad s t q place) (rest_at n s at)
      (λ r p g f.
      let a = same_error f in
      let d = opened_sized s t n at e in
      in_rest n at d.0 d.1 (rw (a.0, a.1) at g))
      (λ _ _ _ _ f. absurd (no_notice (sym f))))
