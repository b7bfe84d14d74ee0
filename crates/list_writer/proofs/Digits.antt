-- Numbers and entries as text. A number of more than one digit is its tenth with one digit behind it; so one below 10000 has a digit for each of 1000, 100
-- and 10 that it reaches, and its last digit.
use mathlib.Core.Bool.{true, false}
use mathlib.Core.List.{List, [], ◌∷◌, ◌++◌}
use mathlib.Core.Logic.{◌⊎◌, inl, inr, ⊎_elim, ◌≢◌}
use mathlib.Core.Path.{◌≡◌, sym, ap, ap₂, ◌∙◌}
use Prim.Native.Nat.{ℕ, zero, suc, ◌+◌, ◌/◌, ◌%◌, ◌≤◌, ◌<◌}
use native.Mathlib.Omega.{arith}
use lib.Dec.{eqb, ltb}
use lib.ListN.{length, length-append}
use borrow.Author.Tests.{eq-eqb, eqb-false, eqb-true, le-ltb, lt-ltb, ltb-false, ltb-true, ne_eqb}
use Rattle.cube.proofs.Bools.{by_cases, either}
use Rattle.ranges.specs.Grammar.{dash}
use Rattle.ranges.specs.Written.{decimal, digits_of, entry_text}
use Rattle.list_writer.specs.Lists.{digit_at}

-- ---- a number, by its tenth

abbrev pub last : ℕ → List ℕ
last v = (48 + v % 10) ∷ []

digits_one : (more v : ℕ) → v < 10 → digits_of (suc more) v ≡ (48 + v) ∷ []
unfolding digits_of
digits_one more v h = rw (lt-ltb v 10 h)

digits_more : (more v : ℕ) → 10 ≤ v → digits_of (suc more) v ≡ digits_of more (v / 10) ++ last v
unfolding digits_of
digits_more more v h = rw (le-ltb v 10 h)

-- how many more than enough digits are allowed for does not matter
enough : (a b v : ℕ) → v < a → v < b → digits_of a v ≡ digits_of b v
enough zero b v h k = absurd (omega arith)
enough (suc a) zero v h k = absurd (omega arith)
enough (suc a) (suc b) v h k = go (λ l. enough a b (v / 10) (omega arith) (omega arith)) (either (ltb v 10))
  where
    go : (10 ≤ v → digits_of a (v / 10) ≡ digits_of b (v / 10)) → (ltb v 10 ≡ true) ⊎ (ltb v 10 ≡ false) → digits_of (suc a) v ≡ digits_of (suc b) v
    go same (inl e) = let l = ltb-true v 10 e in digits_one a v l ∙ sym (digits_one b v l)
    go same (inr e) =
        let l = ltb-false v 10 e in
        digits_more a v l ∙ ap (λ (d : List ℕ). d ++ last v) (same l) ∙ sym (digits_more b v l)

pub decimal_one : (v : ℕ) → v < 10 → decimal v ≡ (48 + v) ∷ []
unfolding decimal
decimal_one v h = digits_one v v h

pub decimal_more : (v : ℕ) → 10 ≤ v → decimal v ≡ decimal (v / 10) ++ last v
unfolding decimal
decimal_more v h = digits_more v v h ∙ ap (λ (d : List ℕ). d ++ last v) (enough v (suc (v / 10)) (v / 10) (omega arith) (omega arith))

-- ---- a number, digit by digit

pub digit_none : (unit v : ℕ) → v < unit → digit_at unit v ≡ []
unfolding digit_at
digit_none unit v h = rw (lt-ltb v unit h)

pub digit_some : (unit v : ℕ) → unit ≤ v → digit_at unit v ≡ (48 + v / unit % 10) ∷ []
unfolding digit_at
digit_some unit v h = rw (le-ltb v unit h)

pub digit_few : (unit v : ℕ) → length (digit_at unit v) ≤ 1
unfolding digit_at
digit_few unit v = by_cases (λ (l : List ℕ). length l ≤ 1) (ltb v unit) (λ e. omega arith) (λ e. omega arith)

digit_rises : (unit : ℕ) {v w : ℕ} → v ≤ w → length (digit_at unit v) ≤ length (digit_at unit w)
digit_rises unit {v} {w} h = go (either (ltb v unit))
  where
    go : (ltb v unit ≡ true) ⊎ (ltb v unit ≡ false) → length (digit_at unit v) ≤ length (digit_at unit w)
    go (inl e) = omega (arith, ap length (digit_none unit v (ltb-true v unit e)))
    go (inr e) =
        let l = ltb-false v unit e in
        omega (arith, ap length (digit_some unit v l), ap length (digit_some unit w (omega (arith, l))))

-- a digit of the tenth stands for ten times as many in the number
shifted : (unit ten v : ℕ) → (v / 10 < unit → v < ten) → (unit ≤ v / 10 → ten ≤ v) → v / 10 / unit ≡ v / ten → digit_at unit (v / 10) ≡ digit_at ten v
shifted unit ten v less more same = go (either (ltb (v / 10) unit))
  where
    go : (ltb (v / 10) unit ≡ true) ⊎ (ltb (v / 10) unit ≡ false) → digit_at unit (v / 10) ≡ digit_at ten v
    go (inl e) = let l = ltb-true (v / 10) unit e in digit_none unit (v / 10) l ∙ sym (digit_none ten v (less l))
    go (inr e) =
        let l = ltb-false (v / 10) unit e in
        digit_some unit (v / 10) l ∙ ap (λ (x : ℕ). (48 + x % 10) ∷ []) same ∙ sym (digit_some ten v (more l))

digit_10 : (v : ℕ) → 10 ≤ v → last (v / 10) ≡ digit_at 10 v
digit_10 v h = sym (digit_some 10 v h)

digit_100 : (v : ℕ) → digit_at 10 (v / 10) ≡ digit_at 100 v
digit_100 v = shifted 10 100 v (λ h. omega arith) (λ h. omega arith) (omega arith)

digit_1000 : (v : ℕ) → digit_at 100 (v / 10) ≡ digit_at 1000 v
digit_1000 v = shifted 100 1000 v (λ h. omega arith) (λ h. omega arith) (omega arith)

one_digit : (v : ℕ) → v < 10 → decimal v ≡ last v
one_digit v h = let e : v ≡ v % 10 = omega arith in decimal_one v h ∙ ap (λ (x : ℕ). (48 + x) ∷ []) e

two_digits : (v : ℕ) → v < 100 → decimal v ≡ digit_at 10 v ++ last v
two_digits v h = go (either (ltb v 10))
  where
    go : (ltb v 10 ≡ true) ⊎ (ltb v 10 ≡ false) → decimal v ≡ digit_at 10 v ++ last v
    go (inl e) = let l = ltb-true v 10 e in rw (digit_none 10 v l) (one_digit v l)
    go (inr e) =
        let l = ltb-false v 10 e in
        decimal_more v l ∙ ap (λ (d : List ℕ). d ++ last v) (one_digit (v / 10) (omega arith) ∙ digit_10 v l)

three_digits : (v : ℕ) → v < 1000 → decimal v ≡ digit_at 100 v ++ digit_at 10 v ++ last v
three_digits v h = go (either (ltb v 10))
  where
    go : (ltb v 10 ≡ true) ⊎ (ltb v 10 ≡ false) → decimal v ≡ digit_at 100 v ++ digit_at 10 v ++ last v
    go (inl e) = let l = ltb-true v 10 e in rw (digit_none 100 v (omega arith), digit_none 10 v l) (one_digit v l)
    go (inr e) =
        let l = ltb-false v 10 e in
        decimal_more v l
        ∙ ap (λ (d : List ℕ). d ++ last v)
        (two_digits (v / 10) (omega arith) ∙ ap₂ (λ (a b : List ℕ). a ++ b) (digit_100 v) (digit_10 v l))

pub four_digits : (v : ℕ) → v < 10000 → decimal v ≡ digit_at 1000 v ++ digit_at 100 v ++ digit_at 10 v ++ last v
four_digits v h = go (either (ltb v 10))
  where
    go : (ltb v 10 ≡ true) ⊎ (ltb v 10 ≡ false) → decimal v ≡ digit_at 1000 v ++ digit_at 100 v ++ digit_at 10 v ++ last v
    go (inl e) =
        let l = ltb-true v 10 e in
        rw (digit_none 1000 v (omega arith), digit_none 100 v (omega arith), digit_none 10 v l) (one_digit v l)
    go (inr e) =
        let l = ltb-false v 10 e in
        decimal_more v l
        ∙ ap (λ (d : List ℕ). d ++ last v)
        (three_digits (v / 10) (omega arith)
        ∙ ap₂ (λ (a b : List ℕ). a ++ b) (ap₂ (λ (a b : List ℕ). a ++ b) (digit_1000 v) (digit_100 v)) (digit_10 v l))

pub decimal_length : (v : ℕ) → v < 10000 → length (decimal v) ≡ length (digit_at 1000 v) + length (digit_at 100 v) + length (digit_at 10 v) + 1
decimal_length v h = simp length-append at (ap length (four_digits v h))

-- so it has one to four digits, and a higher one has no fewer
pub decimal_few : (v : ℕ) → v < 10000 → length (decimal v) ≤ 4
decimal_few v h = omega (arith, decimal_length v h, digit_few 1000 v, digit_few 100 v, digit_few 10 v)

pub decimal_some : (v : ℕ) → v < 10000 → 1 ≤ length (decimal v)
decimal_some v h = omega (arith, decimal_length v h)

decimal_rises : {v w : ℕ} → v ≤ w → w < 10000 → length (decimal v) ≤ length (decimal w)
decimal_rises {v} {w} h few =
    omega (
      arith,
      decimal_length v (omega arith),
      decimal_length w few,
      digit_rises 1000 h,
      digit_rises 100 h,
      digit_rises 10 h,
    )

-- ---- the entry of a run: one number, or two with a dash between

module _ (low high : ℕ) where
  pub entry_one : low ≡ high → entry_text low high ≡ decimal low
  unfolding entry_text
  entry_one e = rw (eq-eqb low high e)

  pub entry_two : low ≢ high → entry_text low high ≡ decimal low ++ dash ∷ decimal high
  unfolding entry_text
  entry_two d = rw (ne_eqb low high d)

  pub entry_two_length : low ≢ high → length (entry_text low high) ≡ length (decimal low) + 1 + length (decimal high)
  entry_two_length d = omega (arith, ap length (entry_two d), length-append (decimal low) (dash ∷ decimal high))

  pub entry_low : length (decimal low) ≤ length (entry_text low high)
  unfolding entry_text
  entry_low =
      by_cases (λ (l : List ℕ). length (decimal low) ≤ length l) (eqb low high)
      (λ e. omega arith)
      (λ e. omega (arith, length-append (decimal low) (dash ∷ decimal high)))

  module _ (l : low < 10000) (h : high < 10000) where
    pub entry_few : length (entry_text low high) ≤ 9
    entry_few =
        ⊎_elim
        (λ (e : eqb low high ≡ true). omega (arith, ap length (entry_one (eqb-true low high e)), decimal_few low l))
        (λ (e : eqb low high ≡ false). omega (arith, entry_two_length (eqb-false low high e), decimal_few low l, decimal_few high h))
        (either (eqb low high))

    pub entry_some : 1 ≤ length (entry_text low high)
    entry_some = omega (arith, entry_low, decimal_some low l)

-- an entry that ends earlier is no longer
pub entry_rises : {low mid high : ℕ} → low ≤ mid → mid ≤ high → high < 10000 → length (entry_text low mid) ≤ length (entry_text low high)
entry_rises {low} {mid} {high} a b few = go (either (eqb low mid))
  where
    go : (eqb low mid ≡ true) ⊎ (eqb low mid ≡ false) → length (entry_text low mid) ≤ length (entry_text low high)
    go (inl e) = omega (arith, ap length (entry_one low mid (eqb-true low mid e)), entry_low low high)
    go (inr e) =
        let d = eqb-false low mid e in
        omega (arith, entry_two_length low mid d, entry_two_length low high (λ z. d (omega arith)), decimal_rises b few)
