-- The lowest dimensions that have p. Below the one that stands after j of them there are exactly j: the search for the next begins behind it and passes over
-- none. So where more than j have p there is such a dimension, and each lower one that has p is among the first.
use mathlib.Core.Path.{◌≡◌, refl, sym, ap, ◌∙◌}
use mathlib.Core.Logic.{◌⊎◌, inl, inr, ⊎_elim}
use mathlib.Core.Bool.{Bool, true, false, ◌&&◌}
use Prim.Native.Nat.{ℕ, zero, suc, ◌+◌, ◌≤◌, ◌<◌}
use native.Mathlib.Omega.{arith}
use native.Mathlib.Decide.{ℕ_discrete}
use native.Mathlib.Nat.{eq-or-lt_of_le}
use lib.Dec.{leb, ltb}
use borrow.Author.Tests.{le-leb, leb-true, ltb-true, ltb-false}
use Rattle.cube.specs.Count.{count, least}
use Rattle.cube.proofs.Bools.{and_both, and_true, clash, either, is_false}
use Rattle.cube.proofs.Count.{below_suc, count-in, count_no, count_pos, count_up, count_without, count_zero, without, without_is}
use Rattle.cube.proofs.Search.{Least, least_is, least_none, least_same, the_least}
use Rattle.causes.specs.Cause.{from, nth}
use Rattle.causes.specs.Laws.{TwoLowest, ThreeLowest}

-- places that do not have p are not counted
count_gap : (a b : ℕ) (p : ℕ → Bool) → a ≤ b → ((j : ℕ) → a ≤ j → j < b → p j ≡ false) → count b p ≡ count a p
count_gap a zero p h f = let z : a ≡ zero = omega arith in rw z
count_gap a (suc b) p h f =
    ⊎_elim (λ (e : a ≡ suc b). rw e) (λ (l : a < suc b). count_no b p (f b (omega arith) (omega arith)) ∙ count_gap a b p (omega arith) (λ j g m. f j g (omega arith)))
    (eq-or-lt_of_le h)

module _ (n : ℕ) (p : ℕ → Bool) where
  -- the search from i on
  record From (i r : ℕ) : Type 0 where
    within : r ≤ n
    hit : r < n → (i ≤ r) × (p r ≡ true)
    passed : (j : ℕ) → i ≤ j → j < r → p j ≡ false

  from_says : (i : ℕ) → From i (from n p i)
  unfolding from
  from_says i =
      record {
        within = L.within;
        hit = λ h. let a = and_true (leb i (least n q)) (p (least n q)) (L.hit h) in (leb-true i (least n q) a.0, a.1);
        passed = λ j h l. is_false (λ t. clash (and_both (le-leb i j h) t) (L.before j l));
      }
    where
      q : ℕ → Bool
      q j = leb i j && p j

      L : Least n q
      L = the_least n q

  pub from_within : (i : ℕ) → from n p i ≤ n
  from_within i = (from_says i).within

  -- after j of them
  record After (j r : ℕ) : Type 0 where
    within : r ≤ n
    hit : r < n → (p r ≡ true) × (count r p ≡ j)
    none : n ≤ r → count n p ≤ j

  nth_zero : nth n p zero ≡ from n p 0
  unfolding nth
  nth_zero = refl

  nth_suc : (j : ℕ) → nth n p (suc j) ≡ from n p (nth n p j + 1)
  unfolding nth
  nth_suc j = refl

  after : (j : ℕ) → After j (nth n p j)
  after zero = rw nth_zero go
    where
      S : From 0 (from n p 0)
      S = from_says 0

      go : After zero (from n p 0)
      go =
          record {
            within = S.within;
            hit = λ h. ((S.hit h).1, count_gap 0 (from n p 0) p (omega arith) S.passed ∙ count_zero p);
            none = λ h. omega (arith, count_gap 0 n p (omega arith) (λ j g l. S.passed j g (omega arith)), count_zero p);
          }
  after (suc j) = rw (nth_suc j) (go (after j) (either (ltb (nth n p j) n)))
    where
      S : From (nth n p j + 1) (from n p (nth n p j + 1))
      S = from_says (nth n p j + 1)

      go : After j (nth n p j) → (ltb (nth n p j) n ≡ true) ⊎ (ltb (nth n p j) n ≡ false) → After (suc j) (from n p (nth n p j + 1))
      go A (inl t) =
          let l = ltb-true (nth n p j) n t in
          let here = A.hit l in
          let one = count-in (nth n p j) p here.0 in
          record {
            within = S.within;
            hit = λ h. ((S.hit h).1, count_gap (nth n p j + 1) (from n p (nth n p j + 1)) p (S.hit h).0 S.passed ∙ omega (arith, one, here.1));
            none = λ h. omega (arith, count_gap (nth n p j + 1) n p (omega arith) (λ m g o. S.passed m g (omega arith)), one, here.1);
          }
      go A (inr t) =
          let l = ltb-false (nth n p j) n t in
          record {
            within = S.within;
            hit = λ h. absurd (omega (arith, (S.hit h).0));
            none = λ h. omega (arith, A.none l);
          }

  pub nth_within : (j : ℕ) → nth n p j ≤ n
  nth_within j = (after j).within

  -- where more than j have p
  pub nth_there : (j : ℕ) → j < count n p → (nth n p j < n) × (p (nth n p j) ≡ true)
  nth_there j h = go (either (ltb (nth n p j) n))
    where
      go : (ltb (nth n p j) n ≡ true) ⊎ (ltb (nth n p j) n ≡ false) → (nth n p j < n) × (p (nth n p j) ≡ true)
      go (inl t) = let l = ltb-true (nth n p j) n t in (l, ((after j).hit l).0)
      go (inr t) = absurd (omega (arith, (after j).none (ltb-false (nth n p j) n t)))

  -- and the other way round
  pub nth_more : (j : ℕ) → nth n p j < n → j < count n p
  nth_more j h = let a = (after j).hit h in omega (arith, count-in (nth n p j) p a.0, a.1, more)
    where
      more : count (nth n p j + 1) p ≤ count n p
      more = count_up (nth n p j + 1) n p (omega arith)

  -- they rise, and between them none has p
  nth_rises : (j : ℕ) → suc j < count n p → nth n p j < nth n p (suc j)
  nth_rises j h = let l = (nth_there (suc j) h).0 in rw (nth_suc j) (omega (arith, ((from_says (nth n p j + 1)).hit (rw (nth_suc j) at l)).0))

  below_next : (j i : ℕ) → i < nth n p (suc j) → p i ≡ true → i ≤ nth n p j
  below_next j i l t = go (either (ltb (nth n p j) i))
    where
      go : (ltb (nth n p j) i ≡ true) ⊎ (ltb (nth n p j) i ≡ false) → i ≤ nth n p j
      go (inl e) =
          absurd (clash t ((from_says (nth n p j + 1)).passed i (omega (arith, ltb-true (nth n p j) i e)) (rw (nth_suc j) at l)))
      go (inr e) = ltb-false (nth n p j) i e

  below_first : (i : ℕ) → i < nth n p 0 → p i ≡ true → ⊥
  below_first i l t = clash t ((from_says 0).passed i (omega arith) (rw nth_zero at l))

  pub two_lowest : 2 ≤ count n p → TwoLowest n (λ i. p i ≡ true) (nth n p 0) (nth n p 1)
  two_lowest h =
      let a = nth_there 0 (omega arith) in
      let b = nth_there 1 (omega arith) in
      record {
        first = a.1;
        second = b.1;
        rising = nth_rises 0 (omega arith);
        inside = b.0;
        no_other = λ i l t. let low : ¬ (i < nth n p 0) = λ m. below_first i m t in omega (arith, below_next 0 i l t, low);
      }

  pub three_lowest : 3 ≤ count n p → ThreeLowest n (λ i. p i ≡ true) (nth n p 0) (nth n p 1) (nth n p 2)
  three_lowest h =
      let c = nth_there 2 (omega arith) in
      record {
        two = two_lowest (omega arith);
        third = c.1;
        rising = nth_rises 1 (omega arith);
        inside = c.0;
        no_other = λ i l t. ⊎_elim (λ (e : i ≡ nth n p 1). inr e) (λ (m : i < nth n p 1). inl ((two_lowest (omega arith)).no_other i m t)) (eq-or-lt_of_le (below_next 1 i l t));
      }

  -- where two different places have p, it is counted twice
  pub not_two : count n p ≤ 1 → (c d : ℕ) → c < n → d < n → p c ≡ true → p d ≡ true → c ≡ d
  not_two h c d hc hd tc td =
      elim (ℕ_discrete c d) [
        | yes s ↦ s
        | no f ↦ absurd (omega (arith, count_without n p c hc tc, count_pos n (without p c) d hd (without_is p c d td (λ e. f (sym e)))))
      ]

-- tests that agree below n find the same
module _ (n : ℕ) (p q : ℕ → Bool) (same : (i : ℕ) → i < n → p i ≡ q i) where
  pub from_same : (i : ℕ) → from n p i ≡ from n q i
  unfolding from
  from_same i = least_same n (λ j. leb i j && p j) (λ j. leb i j && q j) (λ j h. ap (λ b. leb i j && b) (same j h))

  pub nth_same : (j : ℕ) → nth n p j ≡ nth n q j
  unfolding nth
  nth_same zero = from_same 0
  nth_same (suc j) = from_same (nth n p j + 1) ∙ ap (λ i. from n q (i + 1)) (nth_same j)

-- how a loop that goes up from i learns it: at k none of those that it passed has p
pub record Passed (p : ℕ → Bool) (i k : ℕ) : Type 0 where
  pub reached : i ≤ k
  pub none : (j : ℕ) → i ≤ j → j < k → p j ≡ false

pub pass_start : (p : ℕ → Bool) (i : ℕ) → Passed p i i
pass_start p i = record { reached = omega arith; none = λ j h l. absurd (omega arith) }

module _ (p : ℕ → Bool) (i k : ℕ) (P : Passed p i k) where
  pub pass_next : p k ≡ false → Passed p i (k + 1)
  pass_next f =
      record {
        reached = omega (arith, P.reached);
        none = λ j h l. ⊎_elim (λ (e : j ≡ k). rw e f) (λ (m : j < k). P.none j h m) (below_suc (omega arith));
      }

  lower : (j : ℕ) → j < k → (leb i j && p j) ≡ false
  lower j l = is_false (λ e. let a = and_true (leb i j) (p j) e in clash a.1 (P.none j (leb-true i j a.0) l))

  pub pass_here : (n : ℕ) → k < n → p k ≡ true → k ≡ from n p i
  unfolding from
  pass_here n l t = sym (least_is n (λ j. leb i j && p j) k (omega arith) lower (λ _. and_both (le-leb i k P.reached) t))

  pub pass_end : (n : ℕ) → ¬ (k < n) → n ≡ from n p i
  unfolding from
  pass_end n l = sym (least_none n (λ j. leb i j && p j) (λ j m. lower j (omega (arith, l))))
