-- The kind of a walk that has just one: what its ending and its hops say of it, and that its counter is the only one of the four that it raises.
use mathlib.Core.Bool.{Bool, true, false}
use mathlib.Core.Logic.{◌⊎◌, inl, inr, ◌≢◌}
use mathlib.Core.Path.{◌≡◌, sym, ap, ◌∙◌}
use Prim.Native.Nat.{ℕ, ◌+◌, ◌-◌, ◌*◌, ◌%◌, ◌≤◌, ◌<◌}
use native.Mathlib.Omega.{arith}
use lib.Dec.{eqb}
use borrow.Author.Tests.{eq-eqb, eqb-true}
use Rattle.cube.specs.Count.{count, least}
use Rattle.cube.specs.declared.refusals.Refusal.{Refusal}
use Rattle.cube.proofs.Bools.{clash, either, is_false}
use Rattle.cube.proofs.Count.{count_pos, count_without, counted, without, without_is}
use Rattle.cube.proofs.Search.{least_is}
use Rattle.walk.specs.declared.Ending.TheVariants as ending
use Rattle.walk.specs.declared.Walked.{Walked}
use Rattle.figures.specs.Figures.{is_kind}
use Rattle.figures.specs.Laws.{OneKind}
use Rattle.figures.proofs.Four.{arrived_not, delivered_is, is-delivered, is-halted, refused_none}
use Rattle.counters.specs.Helpers.{kind_of}

-- if just one number below n has p, it is the least
module _ (n : ℕ) (p : ℕ → Bool) (one : count n p ≡ 1) where
  others : (i j : ℕ) → i < n → j < n → p i ≡ true → j ≢ i → p j ≡ false
  others i j hi hj pi d =
      is_false (λ pj. omega (arith, one, count_without n p i hi pi, count_pos n (without p i) j hj (without_is p i j pj d)))

  pub one_least : (i : ℕ) → i < n → p i ≡ true → least n p ≡ i
  one_least i h e = least_is n p i (omega arith) (λ j l. others i j h (omega arith) e (λ z. omega arith)) (λ _. e)

  pub only_least : (least n p < n) × ((i : ℕ) → i < n → p i ≡ eqb i (least n p))
  only_least =
      let (k, h, e) = counted n p (omega (arith, one)) in
      let z = one_least k h e in
      (omega arith, λ i l. rw z (is_it k h e i l (either (eqb i k))))
    where
      is_it : (k : ℕ) → k < n → p k ≡ true → (i : ℕ) → i < n → (eqb i k ≡ true) ⊎ (eqb i k ≡ false) → p i ≡ eqb i k
      is_it k h e i l (inl a) = ap p (eqb-true i k a) ∙ e ∙ sym a
      is_it k h e i l (inr a) = others k i h l e (λ z. clash (eq-eqb i k z) a) ∙ sym a

module _ (w : Walked) (l : ℕ) (one : OneKind w l) where
  abbrev found : (k : ℕ) × (k < 4) × (is_kind k w l ≡ true)
  found = counted 4 (λ k. is_kind k w l) (omega (arith, one))

  pub kind_below : kind_of w l < 4
  unfolding kind_of
  kind_below = (only_least 4 (λ k. is_kind k w l) one).0

  pub kind_only : (i : ℕ) → i < 4 → is_kind i w l ≡ eqb i (kind_of w l)
  unfolding kind_of
  kind_only = (only_least 4 (λ k. is_kind k w l) one).1

  is-kind : (k : ℕ) → k < 4 → is_kind k w l ≡ true → k ≡ kind_of w l
  unfolding kind_of
  is-kind k h e = sym (one_least 4 (λ k. is_kind k w l) one k h e)

  -- a delivered walk has 0, 2 or 4 extra hops
  extra : w.ending ≡ ending.Delivered → (k : ℕ) × (k < 3) × (w.hops ≡ l + 2 * k)
  extra e =
      let (k, h, t) = found in
      let d : k ≢ 3 = λ z. clash (ap (λ (i : ℕ). is_kind i w l) (sym z) ∙ t) (arrived_not w l e) in
      (k, omega arith, delivered_is w l k e t)

  pub extra_even : w.ending ≡ ending.Delivered → (l ≤ w.hops) × (w.hops - l ≤ 4) × ((w.hops - l) % 2 ≡ 0)
  extra_even e =
      let (k, h, f) = extra e in
      let z : w.hops - l ≡ k * 2 = omega arith in
      (omega arith, omega arith, omega (arith, z))

  pub delivered_kind : (r : ℕ) → w.ending ≡ ending.Delivered → w.hops - l ≡ 2 * r → r ≡ kind_of w l
  delivered_kind r e f =
      let (k, h, g) = extra e in
      is-kind r (omega arith) (is-delivered w l r (omega arith) e (omega arith))

  pub halted_kind : w.ending ≡ ending.Halted → 3 ≡ kind_of w l
  halted_kind e = is-kind 3 (omega arith) (is-halted w l e)

  pub never_refused : (r : Refusal) → w.ending ≡ ending.Refused r → ⊥
  never_refused r e = let (i, h, t) = found in clash t (refused_none w l i r e)
