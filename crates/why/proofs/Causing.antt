-- The cause as the code finds it: from one dimension that counts it goes on behind it to the next. There are two neighbours that do not work exactly where
-- the second search finds one.
use mathlib.Core.Path.{◌≡◌, refl, ap, ◌∙◌}
use mathlib.Core.Bool.{Bool, true, false}
use mathlib.Core.List.{List}
use Prim.Native.Nat.{ℕ, ◌+◌, ◌≤◌, ◌<◌}
use native.Mathlib.Omega.{arith}
use borrow.Author.Tests.{eq-eqb, ne_eqb, le-leb, lt-leb}
use Rattle.cube.specs.Count.{count}
use Rattle.cube.specs.Cube.{flip}
use Rattle.cube.proofs.Bools.{or_none}
use Rattle.causes.specs.Cause.{bad_cause, cause_with, from, nth, out_near}
use Rattle.causes.specs.declared.Cause.{Cause}
use Rattle.causes.specs.declared.Cause.TheVariants.{Faulty, Two, Three}
use Rattle.causes.proofs.Nth.{from_same, from_within, nth_more, nth_there}
use Rattle.passes.specs.Passes.{mark_in, out_in}
use Rattle.why.specs.Helpers.{counted}

-- a search that starts behind what was found has a small number to start at
pub short : (n : ℕ) (p : ℕ → Bool) (i r : ℕ) → n ≤ 12 → r ≡ from n p i → r ≤ 12
short n p i r h e = omega (arith, e, from_within n p i)

module _ (n k : ℕ) (l : List ℕ) (x : ℕ) where
  abbrev near : Bool → ℕ → Bool
  near marks i = counted l marks (flip i x)

  module _ (a b : ℕ) (ea : a ≡ from n (near true) 0) (eb : b ≡ from n (near true) (a + 1)) where
    pub two_is : k ≡ 2 → Two a b ≡ bad_cause n k (out_in l) (mark_in l) x
    unfolding bad_cause counted nth
    two_is e = rw (eq-eqb k 2 e, eb, ea)

    pub three_is : (c : ℕ) → (k ≡ 2 → ⊥) → c ≡ from n (near true) (b + 1) → Three a b c ≡ bad_cause n k (out_in l) (mark_in l) x
    unfolding bad_cause counted nth
    three_is c e ec = rw (ne_eqb k 2 e, ec, eb, ea)

  -- without the marks, those that do not work
  out_only : (i : ℕ) → i < n → near false i ≡ out_near (out_in l) x i
  unfolding counted
  out_only i h = or_none (out_in l (flip i x)) refl

  out_from : (i : ℕ) → from n (near false) i ≡ from n (out_near (out_in l) x) i
  out_from = from_same n (near false) (out_near (out_in l) x) out_only

  module _ (a b : ℕ) (ea : a ≡ from n (near false) 0) (eb : b ≡ from n (near false) (a + 1)) where
    first_is : a ≡ nth n (out_near (out_in l) x) 0
    unfolding nth
    first_is = ea ∙ out_from 0

    second_is : b ≡ nth n (out_near (out_in l) x) 1
    unfolding nth
    second_is = eb ∙ out_from (a + 1) ∙ ap (λ i. from n (out_near (out_in l) x) (i + 1)) first_is

    pub faulty_is : b < n → Faulty a b ≡ cause_with n k (out_in l) (mark_in l) x
    unfolding cause_with
    faulty_is h =
        let two = nth_more n (out_near (out_in l) x) 1 (omega (arith, second_is)) in
        rw (le-leb 2 (count n (out_near (out_in l) x)) (omega (arith, two)), first_is, second_is)

    pub bad_is : (b < n → ⊥) → (r : Cause) → r ≡ bad_cause n k (out_in l) (mark_in l) x → r ≡ cause_with n k (out_in l) (mark_in l) x
    unfolding cause_with
    bad_is h r e =
        let few : ¬ (1 < count n (out_near (out_in l) x)) = λ m. h (omega (arith, second_is, (nth_there n (out_near (out_in l) x) 1 m).0)) in
        rw (lt-leb 2 (count n (out_near (out_in l) x)) (omega (arith, few))) e
