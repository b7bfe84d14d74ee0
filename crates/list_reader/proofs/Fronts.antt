-- The digits at the front of a text: how many there are, that they are digits, and that no digit stands behind them.
use mathlib.Core.Bool.{Bool, true, false, not}
use mathlib.Core.List.{List, [], ◌∷◌}
use mathlib.Core.Logic.{◌⊎◌, inl, inr}
use mathlib.Core.Path.{◌≡◌, refl, ap}
use Prim.Native.Nat.{ℕ, suc, ◌≤◌}
use native.Mathlib.Omega.{arith}
use lib.ListN.{length, take, drop}
use lib.Seq.{length-take-le}
use borrow.Author.Tests.{not-true}
use Rattle.cube.proofs.Bools.{either, and_both, by_cases}
use Rattle.list_reader.specs.Front.{front, lead}
use Rattle.ranges.specs.Grammar.{all_digits, is_digit}

-- how many digits stand there, step by step
pub lead_on : (x : ℕ) (s : List ℕ) → is_digit x ≡ true → lead (x ∷ s) ≡ suc (lead s)
unfolding lead
lead_on x s e = rw e

pub lead_off : (x : ℕ) (s : List ℕ) → is_digit x ≡ false → lead (x ∷ s) ≡ 0
unfolding lead
lead_off x s e = rw e

pub lead_within : (s : List ℕ) → lead s ≤ length s
unfolding lead
lead_within [] = omega arith
lead_within (x ∷ s) = by_cases (λ (k : ℕ). k ≤ suc (length s)) (is_digit x) (λ e. omega (arith, lead_within s)) (λ e. omega arith)

pub front_length : (s : List ℕ) → length (front s) ≡ lead s
front_length s = length-take-le (lead s) s (lead_within s)

-- they are digits,
digits_cons : (x : ℕ) (s : List ℕ) → is_digit x ≡ true → all_digits s ≡ true → all_digits (x ∷ s) ≡ true
unfolding all_digits
digits_cons x s = and_both

pub digits_none : all_digits [] ≡ true
unfolding all_digits
digits_none = refl

pub front_digits : (s : List ℕ) → all_digits (front s) ≡ true
unfolding lead
front_digits [] = digits_none
front_digits (x ∷ s) = go (front_digits s) (either (is_digit x))
  where
    go : all_digits (take (lead s) s) ≡ true → (is_digit x ≡ true) ⊎ (is_digit x ≡ false) → all_digits (take (lead (x ∷ s)) (x ∷ s)) ≡ true
    go more (inl e) = rw (lead_on x s e) (digits_cons x (take (lead s) s) e more)
    go more (inr e) = rw (lead_off x s e) digits_none

-- and no digit stands behind them
unfoldable pub stops : List ℕ → Bool
stops [] = true
stops (x ∷ s) = not (is_digit x)

pub behind_stops : (s : List ℕ) → stops (drop (lead s) s) ≡ true
unfolding lead stops
behind_stops [] = refl
behind_stops (x ∷ s) = go (behind_stops s) (either (is_digit x))
  where
    go : stops (drop (lead s) s) ≡ true → (is_digit x ≡ true) ⊎ (is_digit x ≡ false) → stops (drop (lead (x ∷ s)) (x ∷ s)) ≡ true
    go more (inl e) = rw (lead_on x s e) more
    go more (inr e) = rw (lead_off x s e) (stops_here e)
      where
        stops_here : is_digit x ≡ false → stops (x ∷ s) ≡ true
        stops_here e = ap not e

pub stop_digit : (x : ℕ) (s : List ℕ) → stops (x ∷ s) ≡ true → is_digit x ≡ false
unfolding stops
stop_digit x s e = not-true (is_digit x) e
