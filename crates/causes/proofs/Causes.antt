-- The round and the cause of an unsafe node. The round after which x first has a mark is the only one in which it met the rule and had met it in none before: a
-- node that meets the rule is marked at once. A mark that stood when that round began was put there by an earlier one, so that node's own round is smaller.
use mathlib.Core.Path.{◌≡◌, refl, sym, ap₂, ◌∙◌}
use mathlib.Core.Logic.{◌⊎◌, inl, inr, ⊎_elim}
use mathlib.Core.Bool.{Bool, true, false, ◌||◌}
use Prim.Native.Nat.{ℕ, zero, suc, ◌+◌, ◌-◌, ◌≤◌, ◌<◌}
use native.Mathlib.Omega.{arith}
use native.Mathlib.Nat.{eq-or-lt_of_le}
use lib.Dec.{eqb, leb}
use borrow.Author.Tests.{eqb-true, eqb-false, leb-true, leb-false}
use Rattle.cube.specs.Count.{count}
use Rattle.cube.specs.Cube.{flip}
use Rattle.cube.proofs.Bools.{by_cases, clash, is_false, or_left, or_right, or_true}
use Rattle.cube.proofs.Count.{count_same}
use Rattle.cube.proofs.Search.{least_is, the_least}
use Rattle.rule.specs.Rounds.{Unsafe}
use Rattle.rule.specs.Rule.{exchanges, marked, newly, rounds}
use Rattle.rule.proofs.Rounds.{marked_suc, marked_zero, marks, meets_says, newly_says}
use Rattle.causes.specs.Cause.{bad_cause, bad_near, cause_of, cause_with, earlier, nth, out_near, round_of}
use Rattle.causes.specs.Laws.{Marked, MarkedBefore, MarkedIn, TrueCause, TwoLowest, ThreeLowest, faulty, two, three}
use Rattle.causes.specs.declared.Cause.{Cause}
use Rattle.causes.specs.declared.Cause.TheVariants.{Two, Three}
use Rattle.causes.proofs.Marks.{marks_before}
use Rattle.causes.proofs.Nth.{not_two, nth_same, three_lowest, two_lowest}

-- the lowest that have P are the lowest that have Q, where P and Q say the same
two_same : (n : ℕ) (P Q : ℕ → Type 0) (a b : ℕ) → ((i : ℕ) → P i → Q i) → ((i : ℕ) → Q i → P i) → TwoLowest n P a b → TwoLowest n Q a b
two_same n P Q a b to back L =
    record {
      first = to a L.first;
      second = to b L.second;
      rising = L.rising;
      inside = L.inside;
      no_other = λ i l q. L.no_other i l (back i q);
    }

three_same : (n : ℕ) (P Q : ℕ → Type 0) (a b c : ℕ) → ((i : ℕ) → P i → Q i) → ((i : ℕ) → Q i → P i) → ThreeLowest n P a b c → ThreeLowest n Q a b c
three_same n P Q a b c to back L =
    record {
      two = two_same n P Q a b to back L.two;
      third = to c L.third;
      rising = L.rising;
      inside = L.inside;
      no_other = λ i l q. L.no_other i l (back i q);
    }

module _ (n k : ℕ) (F : ℕ → Bool) where
  -- marks stay
  marked_up : (r s x : ℕ) → r ≤ s → marked n k F r x ≡ true → marked n k F s x ≡ true
  marked_up r zero x h e = let z : r ≡ zero = omega arith in rw z at e
  marked_up r (suc s) x h e =
      ⊎_elim (λ (q : r ≡ suc s). rw q at e) (λ (l : r < suc s). marked_suc n k F s x ∙ or_left _ (marked_up r s x (omega arith) e)) (eq-or-lt_of_le h)

  -- ---- the round

  -- a node that has a mark after r rounds got it in one of them
  earlier_lt : (r x : ℕ) → r ≤ rounds n k F → marked n k F r x ≡ true → earlier n k F x < r
  unfolding earlier
  earlier_lt zero x h e = absurd (clash e (marked_zero n k F x))
  earlier_lt (suc r) x h e =
      let late : ¬ (r < earlier n k F x) = λ l. clash e ((the_least _ (λ s. marked n k F (suc s) x)).before r l) in
      omega (arith, late)

  -- of any node it is no more than the exchanges
  pub round_within : (x : ℕ) → round_of n k F x ≤ exchanges n k F
  unfolding round_of earlier exchanges
  round_within x = omega (arith, (the_least (rounds n k F) (λ s. marked n k F (suc s) x)).within)

  -- the round that marks a node is its round, and its cause is by the marks of the rounds before
  pub earlier_is : (r x : ℕ) → r < rounds n k F → newly n k F (marked n k F r) x ≡ true → earlier n k F x ≡ r
  unfolding earlier
  earlier_is r x h t =
      least_is (rounds n k F) (λ s. marked n k F (suc s) x) r (omega arith)
      (λ j l. is_false (λ u. clash (marked_up (suc j) r x (omega arith) u) (newly_says n k F (marked n k F r) x t).1))
      (λ _. marked_suc n k F r x ∙ or_right (marked n k F r x) t)

  module _ (x : ℕ) (M : Marked n k F x) where
    abbrev e : ℕ
    e = earlier n k F x

    pub in_time : e < rounds n k F
    in_time = earlier_lt (rounds n k F) x (omega arith) M

    marked_then : marked n k F (suc e) x ≡ true
    unfolding earlier
    marked_then = (the_least _ _).hit in_time

    not_then : (s : ℕ) → s < e → marked n k F (suc s) x ≡ false
    unfolding earlier
    not_then = (the_least _ _).before

    unmarked : marked n k F e x ≡ false
    unmarked = go e refl
      where
        go : (s : ℕ) → s ≡ e → marked n k F s x ≡ false
        go zero q = marked_zero n k F x
        go (suc s) q = not_then s (omega arith)

    pub new : newly n k F (marked n k F e) x ≡ true
    new =
        ⊎_elim (λ t. absurd (clash t unmarked)) (λ t. t)
        (or_true (marked n k F e x) (newly n k F (marked n k F e) x) (sym (marked_suc n k F e x) ∙ marked_then))

    met : Unsafe n k F (marked n k F e) x
    met = (meets_says n k F (marked n k F e) x).0 (newly_says n k F (marked n k F e) x new).2

    pub round : MarkedIn n k F x (round_of n k F x)
    unfolding round_of
    round =
        record {
          one = omega arith;
          works = (newly_says n k F (marked n k F e) x new).0;
          meets = λ s q. let z : s ≡ e = omega arith in rw z met;
          not_before = λ s l u. clash (((marks n k F).next s x).1 (inr ((newly_says n k F (marked n k F e) x new).0, u))) (not_then s (omega arith));
        }

    pub alone : (r : ℕ) → MarkedIn n k F x r → r ≡ round_of n k F x
    unfolding round_of
    alone r R =
        let one = R.one in
        let low : ¬ (r < e + 1) = λ l. round.not_before (r - 1) (omega arith) (R.meets (r - 1) (omega arith)) in
        let high : ¬ (e + 1 < r) = λ l. R.not_before e l met in
        omega (arith, low, high)

    -- ---- the cause

    pub before_marked : (y : ℕ) → marked n k F e y ≡ true → MarkedBefore n k F x y
    unfolding round_of
    before_marked y t = (marked_up e (rounds n k F) y (omega (arith, in_time)) t, omega (arith, earlier_lt e y (omega (arith, in_time)) t))

  marked_before : (x y : ℕ) → MarkedBefore n k F x y → marked n k F (earlier n k F x) y ≡ true
  unfolding round_of
  marked_before x y b = marked_up (suc (earlier n k F y)) (earlier n k F x) y (omega (arith, b.1)) (marked_then y b.0)

  module _ (low : 2 ≤ k) (high : k ≤ 3) (x : ℕ) (M : Marked n k F x) where
    abbrev m : ℕ → Bool
    m = marks_before n k F x

    to : (i : ℕ) → bad_near F m x i ≡ true → (F (flip i x) ≡ true) ⊎ MarkedBefore n k F x (flip i x)
    to i t = ⊎_elim (λ (f : F (flip i x) ≡ true). inl f) (λ (b : m (flip i x) ≡ true). inr (before_marked x M (flip i x) b)) (or_true (F (flip i x)) (m (flip i x)) t)

    back : (i : ℕ) → (F (flip i x) ≡ true) ⊎ MarkedBefore n k F x (flip i x) → bad_near F m x i ≡ true
    back i q = ⊎_elim (λ (f : F (flip i x) ≡ true). or_left _ f) (λ (b : MarkedBefore n k F x (flip i x)). or_right (F (flip i x)) (marked_before x (flip i x) b)) q

    -- without two that do not work, there are as many bad ones as the rule's number
    bad : count n (out_near F x) ≤ 1 → k ≤ count n (bad_near F m x)
    bad few = ⊎_elim (λ (h : 2 ≤ count n (out_near F x)). absurd (omega arith)) (λ (h : k ≤ count n (bad_near F m x)). h) (met x M)

    -- what it is by the three cases
    abbrev True : Cause → Type 0
    True = TrueCause n k (λ y. F y ≡ true) (MarkedBefore n k F x) x

    by_two : count n (out_near F x) ≤ 1 → k ≡ 2 → True (Two (nth n (bad_near F m x) 0) (nth n (bad_near F m x) 1))
    by_two few e =
        two e (not_two n (out_near F x) few)
        (two_same n (λ i. bad_near F m x i ≡ true) (λ i. (F (flip i x) ≡ true) ⊎ MarkedBefore n k F x (flip i x)) _ _ to back
        (two_lowest n (bad_near F m x) (omega (arith, bad few))))

    by_three : count n (out_near F x) ≤ 1 → k ≡ 3 → True (Three (nth n (bad_near F m x) 0) (nth n (bad_near F m x) 1) (nth n (bad_near F m x) 2))
    by_three few e =
        three e (not_two n (out_near F x) few)
        (three_same n (λ i. bad_near F m x i ≡ true) (λ i. (F (flip i x) ≡ true) ⊎ MarkedBefore n k F x (flip i x)) _ _ _ to back
        (three_lowest n (bad_near F m x) (omega (arith, bad few))))

    pub cause : True (cause_of n k F x)
    unfolding cause_of cause_with bad_cause
    cause =
        by_cases True (leb 2 (count n (out_near F x))) (λ t. faulty (two_lowest n (out_near F x) (leb-true 2 (count n (out_near F x)) t)))
        (λ f. let few : count n (out_near F x) ≤ 1 = omega (arith, leb-false 2 (count n (out_near F x)) f) in
        by_cases True (eqb k 2) (λ t. by_two few (eqb-true k 2 t)) (λ g. by_three few (omega (arith, eqb-false k 2 g))))

-- a cause looks at the neighbours alone
pub cause_same : (n k : ℕ) (F F' m m' : ℕ → Bool) (x : ℕ) → ((i : ℕ) → i < n → F (flip i x) ≡ F' (flip i x))
    → ((i : ℕ) → i < n → m (flip i x) ≡ m' (flip i x)) → cause_with n k F m x ≡ cause_with n k F' m' x
unfolding cause_with bad_cause
cause_same n k F F' m m' x f g =
    rw (count_same n (out_near F x) (out_near F' x) f, out 0, out 1, bad 0, bad 1, bad 2)
  where
    out : (j : ℕ) → nth n (out_near F x) j ≡ nth n (out_near F' x) j
    out = nth_same n (out_near F x) (out_near F' x) f

    bad : (j : ℕ) → nth n (bad_near F m x) j ≡ nth n (bad_near F' m' x) j
    bad = nth_same n (bad_near F m x) (bad_near F' m' x) (λ i h. ap₂ ◌||◌ (f i h) (g i h))
