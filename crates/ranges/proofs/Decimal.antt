-- The number of a value: digits with no zero in front, whose value it is; and a number is that of its value. Both go by tens: the last digit of v is v % 10,
-- and the digits before it are those of v / 10.
use mathlib.Core.Path.{◌≡◌, refl, sym, ap, ap₂, ◌∙◌}
use mathlib.Core.Logic.{◌⊎◌, inl, inr}
use mathlib.Core.Bool.{Bool, true, false, not}
use mathlib.Core.List.{List, [], ◌∷◌, ◌++◌, append_assoc, append-nil}
use Prim.Native.Nat.{ℕ, zero, suc, ◌+◌, ◌*◌, ◌-◌, ◌/◌, ◌%◌, ◌≤◌, ◌<◌}
use native.Mathlib.Omega.{arith}
use lib.Dec.{eqb, leb, ltb}
use borrow.Author.Tests.{leb-true, le-leb, lt-ltb, le-ltb, ltb-true, ltb-false, ne_eqb, eqb-false, not-true}
use Rattle.cube.proofs.Bools.{either, and_true, and_both}
use Rattle.ranges.specs.Grammar.{is_digit, all_digits, no_zero, is_number, value_from, value}
use Rattle.ranges.specs.Written.{digits_of, decimal}
use Rattle.ranges.proofs.Split.{lacks}

-- ---- one digit less

digits_small : (more v : ℕ) → v < 10 → digits_of (suc more) v ≡ (48 + v) ∷ []
unfolding digits_of
digits_small more v h = rw (lt-ltb v 10 h)

digits_large : (more v : ℕ) → 10 ≤ v → digits_of (suc more) v ≡ digits_of more (v / 10) ++ (48 + v % 10) ∷ []
unfolding digits_of
digits_large more v h = rw (le-ltb v 10 h)

-- more than v steps are enough, so it does not matter how many there are
enough : (m l v : ℕ) → v < m → v < l → digits_of m v ≡ digits_of l v
enough zero l v h k = absurd (omega arith)
enough (suc m) zero v h k = absurd (omega arith)
enough (suc m) (suc l) v h k = go (λ big. enough m l (v / 10) (omega arith) (omega arith)) (either (ltb v 10))
  where
    go : (10 ≤ v → digits_of m (v / 10) ≡ digits_of l (v / 10)) → (ltb v 10 ≡ true) ⊎ (ltb v 10 ≡ false) → digits_of (suc m) v ≡ digits_of (suc l) v
    go less (inl t) = let s = ltb-true v 10 t in digits_small m v s ∙ sym (digits_small l v s)
    go less (inr t) =
        let s = ltb-false v 10 t in
        digits_large m v s ∙ ap (λ (d : List ℕ). d ++ (48 + v % 10) ∷ []) (less s) ∙ sym (digits_large l v s)

pub decimal_small : (v : ℕ) → v < 10 → decimal v ≡ (48 + v) ∷ []
unfolding decimal
decimal_small v h = digits_small v v h

pub decimal_large : (v : ℕ) → 10 ≤ v → decimal v ≡ decimal (v / 10) ++ (48 + v % 10) ∷ []
unfolding decimal
decimal_large v h =
    digits_large v v h ∙ ap (λ (d : List ℕ). d ++ (48 + v % 10) ∷ []) (enough v (suc (v / 10)) (v / 10) (omega arith) (omega arith))

-- what holds of one digit, and of v where it holds of v / 10, holds of every number
pub by_tens : (P : ℕ → Type 0) → ((v : ℕ) → v < 10 → P v) → ((v : ℕ) → 10 ≤ v → P (v / 10) → P v) → (v : ℕ) → P v
by_tens P one more v = down (suc v) v (omega arith)
  where
    pick : (m v : ℕ) → v < suc m → ((w : ℕ) → w < m → P w) → (ltb v 10 ≡ true) ⊎ (ltb v 10 ≡ false) → P v
    pick m v h less (inl t) = one v (ltb-true v 10 t)
    pick m v h less (inr t) = let s = ltb-false v 10 t in more v s (less (v / 10) (omega arith))

    down : (m v : ℕ) → v < m → P v
    down zero v h = absurd (omega arith)
    down (suc m) v h = pick m v h (down m) (either (ltb v 10))

-- ---- digits

pub digit_is : (x : ℕ) → is_digit x ≡ true → (48 ≤ x) × (x ≤ 57)
unfolding is_digit
digit_is x e = let r = and_true (leb 48 x) (leb x 57) e in (leb-true 48 x r.0, leb-true x 57 r.1)

is_digit_up : (d : ℕ) → d < 10 → is_digit (48 + d) ≡ true
unfolding is_digit
is_digit_up d h = and_both (le-leb 48 (48 + d) (omega arith)) (le-leb (48 + d) 57 (omega arith))

pub digits_cons : (x : ℕ) (s : List ℕ) → all_digits (x ∷ s) ≡ true → (is_digit x ≡ true) × (all_digits s ≡ true)
unfolding all_digits
digits_cons x s e = and_true (is_digit x) (all_digits s) e

digits_one : (d : ℕ) → d < 10 → all_digits ((48 + d) ∷ []) ≡ true
unfolding all_digits
digits_one d h = and_both (is_digit_up d h) refl

digits_both : (s t : List ℕ) → all_digits s ≡ true → all_digits t ≡ true → all_digits (s ++ t) ≡ true
unfolding all_digits
digits_both [] t e f = f
digits_both (x ∷ s) t e f = let r = and_true (is_digit x) (all_digits s) e in and_both r.0 (digits_both s t r.1 f)

pub decimal_digits : (v : ℕ) → all_digits (decimal v) ≡ true
decimal_digits =
    by_tens (λ v. all_digits (decimal v) ≡ true) (λ v h. rw (decimal_small v h) (digits_one v h))
    (λ v h e. rw (decimal_large v h) (digits_both (decimal (v / 10)) ((48 + v % 10) ∷ []) e (digits_one (v % 10) (omega arith))))

-- digits lack what is below all of them, as a comma and a dash are
pub digits_lack : (b : ℕ) (s : List ℕ) → b < 48 → all_digits s ≡ true → lacks b s ≡ true
unfolding lacks
digits_lack b [] h e = refl
digits_lack b (x ∷ s) h e =
    let r = digits_cons x s e in
    let d = digit_is x r.0 in
    rw (ne_eqb x b (λ z. omega (arith, d.0))) (digits_lack b s h r.1)

-- ---- no zero in front

-- there is a first digit, and it is not 0
unfoldable leads : List ℕ → Bool
leads [] = false
leads (x ∷ s) = not (eqb x 48)

leads_both : (s t : List ℕ) → leads s ≡ true → leads (s ++ t) ≡ true
unfolding leads
leads_both [] t e = let z : ◌≡◌ {A = ℕ} 0 1 = cc in absurd (omega arith)
leads_both (x ∷ s) t e = e

leads_enough : (s : List ℕ) → leads s ≡ true → no_zero s ≡ true
unfolding leads no_zero
leads_enough [] e = e
leads_enough (x ∷ []) e = refl
leads_enough (x ∷ y ∷ s) e = e

leads_one : (v : ℕ) → 1 ≤ v → leads ((48 + v) ∷ []) ≡ true
unfolding leads
leads_one v h = rw (ne_eqb (48 + v) 48 (λ z. omega arith))

decimal_leads : (v : ℕ) → 1 ≤ v → leads (decimal v) ≡ true
decimal_leads =
    by_tens (λ v. 1 ≤ v → leads (decimal v) ≡ true) (λ v h l. rw (decimal_small v h) (leads_one v l))
    (λ v h e l. rw (decimal_large v h) (leads_both (decimal (v / 10)) ((48 + v % 10) ∷ []) (e (omega arith))))

decimal_no_zero : (v : ℕ) → no_zero (decimal v) ≡ true
unfolding no_zero
decimal_no_zero zero = rw (decimal_small 0 (omega arith))
decimal_no_zero (suc v) = leads_enough (decimal (suc v)) (decimal_leads (suc v) (omega arith))

pub decimal_number : (v : ℕ) → is_number (decimal v) ≡ true
unfolding is_number
decimal_number v = and_both (decimal_digits v) (decimal_no_zero v)

-- ---- the value

value_both : (v : ℕ) (s t : List ℕ) → value_from v (s ++ t) ≡ value_from (value_from v s) t
unfolding value_from
value_both v [] t = refl
value_both v (x ∷ s) t = value_both (10 * v + (x - 48)) s t

value_last : (v d : ℕ) → value_from v ((48 + d) ∷ []) ≡ 10 * v + d
unfolding value_from
value_last v d = omega arith

pub value_decimal : (v : ℕ) → value (decimal v) ≡ v
value_decimal =
    by_tens (λ v. value (decimal v) ≡ v) (λ v h. rw (decimal_small v h) (value_last 0 v ∙ omega arith))
    (λ v h e. rw (decimal_large v h, value_both 0 (decimal (v / 10)) ((48 + v % 10) ∷ []), e) (value_last (v / 10) (v % 10) ∙ omega arith))

-- a digit behind a number that is not 0
decimal_next : (v x : ℕ) → 1 ≤ v → is_digit x ≡ true → decimal (10 * v + (x - 48)) ≡ decimal v ++ x ∷ []
decimal_next v x h e =
    let d = digit_is x e in
    let low = d.0 in
    let high = d.1 in
    let p : (10 * v + (x - 48)) / 10 ≡ v = omega arith in
    let q : 48 + (10 * v + (x - 48)) % 10 ≡ x = omega arith in
    decimal_large (10 * v + (x - 48)) (omega arith) ∙ ap₂ (λ (w y : ℕ). decimal w ++ y ∷ []) p q

decimal_from : (v : ℕ) (s : List ℕ) → 1 ≤ v → all_digits s ≡ true → decimal (value_from v s) ≡ decimal v ++ s
unfolding value_from
decimal_from v [] h e = simp append-nil
decimal_from v (x ∷ s) h e =
    let r = digits_cons x s e in
    decimal_from (10 * v + (x - 48)) s (omega arith) r.1 ∙ rw (decimal_next v x h r.0) (append_assoc (decimal v) (x ∷ []) s)

decimal_digit : (x : ℕ) → is_digit x ≡ true → decimal (10 * 0 + (x - 48)) ≡ x ∷ []
decimal_digit x e =
    let d = digit_is x e in
    let low = d.0 in
    let high = d.1 in
    let z : 48 + (10 * 0 + (x - 48)) ≡ x = omega arith in
    decimal_small (10 * 0 + (x - 48)) (omega arith) ∙ ap (λ (y : ℕ). y ∷ []) z

pub decimal_value : (s : List ℕ) → is_number s ≡ true → decimal (value s) ≡ s
unfolding is_number all_digits no_zero value_from
decimal_value [] e = let z : ◌≡◌ {A = ℕ} 0 1 = cc in absurd (omega arith)
decimal_value (x ∷ []) e = decimal_digit x (digits_cons x [] (and_true (all_digits (x ∷ [])) true e).0).0
decimal_value (x ∷ y ∷ s) e =
    let r = and_true (all_digits (x ∷ y ∷ s)) (not (eqb x 48)) e in
    let d = digits_cons x (y ∷ s) r.0 in
    let b = digit_is x d.0 in
    let low = b.0 in
    let other : x ≡ 48 → ⊥ = eqb-false x 48 (not-true (eqb x 48) r.1) in
    decimal_from (10 * 0 + (x - 48)) (y ∷ s) (omega arith) d.1 ∙ rw (decimal_digit x d.0)
