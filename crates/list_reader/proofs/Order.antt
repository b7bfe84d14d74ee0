-- The order of numbers is seen from their digits: without leading zeros the longer number is above, and of two that are as long the first digits that differ
-- decide. So no value is needed, however long they are.
use mathlib.Core.Bool.{true, false, cond, not, ◌&&◌}
use mathlib.Core.List.{List, [], ◌∷◌}
use mathlib.Core.Logic.{◌⊎◌, inl, inr}
use mathlib.Core.Path.{◌≡◌, refl, sym}
use Prim.Native.Nat.{ℕ, suc, ◌+◌, ◌*◌, ◌-◌, ◌≤◌, ◌<◌}
use native.Mathlib.Omega.{arith}
use lib.Dec.{eqb, leb, ltb}
use lib.ListN.{length}
use borrow.Author.Tests.{eqb-true, eqb-false, le-leb, leb-true, leb-false, lt-leb, lt-ltb, le-ltb, ltb-true, ltb-false, not-true}
use Rattle.cube.proofs.Bools.{clash, either}
use Rattle.list_reader.specs.Front.{above, later}
use Rattle.ranges.specs.Grammar.{all_digits, is_digit, no_zero, value, value_from}
use Rattle.ranges.proofs.Decimal.{digit_is, digits_cons}

-- ---- digits behind digits of a larger value are larger

pub behind_larger : (v w : ℕ) (s t : List ℕ) → length s ≡ length t → all_digits s ≡ true → v < w → value_from v s < value_from w t
unfolding value_from
behind_larger v w [] [] l e h = h
behind_larger v w [] (y ∷ t) l e h = absurd (omega arith)
behind_larger v w (x ∷ s) [] l e h = absurd (omega arith)
behind_larger v w (x ∷ s) (y ∷ t) l e h =
    let r = digits_cons x s e in
    behind_larger (10 * v + (x - 48)) (10 * w + (y - 48)) s t (omega arith) r.1 (omega (arith, digit_is x r.0))

-- and so are digits that are more
pub longer_larger : (v : ℕ) (s t : List ℕ) → all_digits t ≡ true → 1 ≤ v → length t ≤ length s → value t < value_from v s
unfolding value_from
longer_larger v [] [] e h l = omega arith
longer_larger v [] (y ∷ t) e h l = absurd (omega arith)
longer_larger v (x ∷ s) t e h l = go (λ t e. longer_larger (10 * v + (x - 48)) s t e (omega arith)) t e l (either (leb (length t) (length s)))
  where
    go : ((t : List ℕ) → all_digits t ≡ true → length t ≤ length s → value t < value_from (10 * v + (x - 48)) s)
        → (t : List ℕ) → all_digits t ≡ true → length t ≤ suc (length s) → (leb (length t) (length s) ≡ true) ⊎ (leb (length t) (length s) ≡ false)
        → value t < value_from (10 * v + (x - 48)) s
    go rest t e l (inl q) = rest t e (leb-true (length t) (length s) q)
    go rest [] e l (inr q) = rest [] e (omega arith)
    go rest (y ∷ t) e l (inr q) =
        let r = digits_cons y t e in
        let m = leb-false (length (y ∷ t)) (length s) q in
        behind_larger (10 * 0 + (y - 48)) (10 * v + (x - 48)) t s (omega (arith, m)) r.1 (omega (arith, digit_is y r.0))

-- ---- so the digits have the order of the values

-- of as many digits
later_is : (v : ℕ) (a b : List ℕ) → length a ≡ length b → all_digits a ≡ true → all_digits b ≡ true → later a b ≡ ltb (value_from v b) (value_from v a)
unfolding later value_from
later_is v [] [] l ea eb = sym (le-ltb v v (omega arith))
later_is v [] (y ∷ b) l ea eb = absurd (omega arith)
later_is v (x ∷ a) [] l ea eb = absurd (omega arith)
later_is v (x ∷ a) (y ∷ b) l ea eb =
    go (later_is (10 * v + (x - 48)) a b (omega arith)) (digits_cons x a ea) (digits_cons y b eb) (either (eqb x y)) (either (ltb y x))
  where
    go : (all_digits a ≡ true → all_digits b ≡ true → later a b ≡ ltb (value_from (10 * v + (x - 48)) b) (value_from (10 * v + (x - 48)) a))
        → (is_digit x ≡ true) × (all_digits a ≡ true) → (is_digit y ≡ true) × (all_digits b ≡ true) → (eqb x y ≡ true) ⊎ (eqb x y ≡ false)
        → (ltb y x ≡ true) ⊎ (ltb y x ≡ false)
        → cond (eqb x y) (later a b) (ltb y x) ≡ ltb (value_from (10 * v + (y - 48)) b) (value_from (10 * v + (x - 48)) a)
    go more p q (inl e) _ = rw (e, sym (eqb-true x y e)) (more p.1 q.1)
    go more p q (inr e) (inl h) =
        let lt = ltb-true y x h in
        rw (e, h)
        (sym (lt-ltb _ _ (behind_larger (10 * v + (y - 48)) (10 * v + (x - 48)) b a (omega arith) q.1
        (omega (arith, digit_is x p.0, digit_is y q.0)))))
    go more p q (inr e) (inr h) =
        let le = ltb-false y x h in
        let ne = eqb-false x y e in
        let lt = behind_larger (10 * v + (x - 48)) (10 * v + (y - 48)) a b (omega arith) p.1 (omega (arith, digit_is x p.0, digit_is y q.0)) in
        rw (e, h) (sym (le-ltb (value_from (10 * v + (y - 48)) b) (value_from (10 * v + (x - 48)) a) (omega (arith, lt))))

-- a number of several digits does not begin with 0
first_digit : (x y : ℕ) (s : List ℕ) → is_digit x ≡ true → no_zero (x ∷ y ∷ s) ≡ true → 49 ≤ x
unfolding no_zero
first_digit x y s d e = omega (arith, digit_is x d, eqb-false x 48 (not-true (eqb x 48) e))

above_longer : (a b : List ℕ) → all_digits a ≡ true → no_zero a ≡ true → all_digits b ≡ true → no_zero b ≡ true → length b < length a → value b < value a
unfolding value_from no_zero
above_longer [] b ea za eb zb l = absurd (omega arith)
above_longer (x ∷ []) [] ea za eb zb l = absurd (clash zb refl)
above_longer (x ∷ []) (y ∷ b) ea za eb zb l = absurd (omega arith)
above_longer (x ∷ z ∷ a) b ea za eb zb l =
    let r = digits_cons x (z ∷ a) ea in
    longer_larger (10 * 0 + (x - 48)) (z ∷ a) b eb (omega (arith, first_digit x z a r.0 za)) (omega arith)

above_is : (a b : List ℕ) → all_digits a ≡ true → no_zero a ≡ true → all_digits b ≡ true → no_zero b ≡ true → above a b ≡ ltb (value b) (value a)
unfolding above
above_is a b ea za eb zb = go (either (eqb (length a) (length b))) (either (ltb (length b) (length a)))
  where
    go : (eqb (length a) (length b) ≡ true) ⊎ (eqb (length a) (length b) ≡ false) → (ltb (length b) (length a) ≡ true) ⊎ (ltb (length b) (length a) ≡ false)
        → cond (eqb (length a) (length b)) (later a b) (ltb (length b) (length a)) ≡ ltb (value b) (value a)
    go (inl e) _ = rw e (later_is 0 a b (eqb-true _ _ e) ea eb)
    go (inr e) (inl h) = rw (e, h) (sym (lt-ltb _ _ (above_longer a b ea za eb zb (ltb-true _ _ h))))
    go (inr e) (inr h) =
        let ne = eqb-false (length a) (length b) e in
        let lt = above_longer b a eb zb ea za (omega (arith, ne, ltb-false (length b) (length a) h)) in
        rw (e, h) (sym (le-ltb (value b) (value a) (omega (arith, lt))))

-- so "low at most high" is seen from them
pub in_order : (a b : List ℕ) → all_digits a ≡ true → no_zero a ≡ true → all_digits b ≡ true
    → (no_zero b && not (above a b)) ≡ (no_zero b && leb (value a) (value b))
in_order a b ea za eb = go (either (no_zero b)) (either (ltb (value b) (value a)))
  where
    go : (no_zero b ≡ true) ⊎ (no_zero b ≡ false) → (ltb (value b) (value a) ≡ true) ⊎ (ltb (value b) (value a) ≡ false)
        → (no_zero b && not (above a b)) ≡ (no_zero b && leb (value a) (value b))
    go (inr z) _ = rw z
    go (inl z) (inl h) = rw (z, above_is a b ea za eb z, h) (sym (lt-leb (value a) (value b) (ltb-true _ _ h)))
    go (inl z) (inr h) = rw (z, above_is a b ea za eb z, h) (sym (le-leb (value a) (value b) (ltb-false _ _ h)))
