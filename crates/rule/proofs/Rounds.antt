-- The rounds come to rest. A round that is not quiet marks a working node that had no mark, so the marks are never more than the working
-- nodes and never fewer than the rounds: within as many rounds as there are working nodes one is quiet, and `rounds` is the first. It leaves the marks as
-- they are, so every later one is quiet too.
use mathlib.Core.Path.{◌≡◌, refl, sym, ap, ap₂, ◌∙◌}
use mathlib.Core.Logic.{◌⊎◌, inl, inr, ⊎_elim, ◌↔◌}
use mathlib.Core.Bool.{Bool, true, false, not, or-false, ◌&&◌, ◌||◌}
use Prim.Native.Nat.{ℕ, zero, suc, ◌+◌, ◌^◌, ◌≤◌, ◌<◌}
use native.Mathlib.Nat.{eq-or-lt_of_le}
use native.Mathlib.Omega.{arith}
use lib.Dec.{leb, ltb}
use borrow.Author.Tests.{ltb-true, ltb-false, eqb-true, eqb-false, eq-eqb, le-leb, leb-true, not-true}
use Rattle.cube.specs.Count.{count}
use Rattle.cube.specs.Cube.{flip}
use Rattle.cube.proofs.Bools.{and_both, and_true, clash, either, is_false, or_left, or_right, or_true}
use Rattle.cube.proofs.Count.{count_bound, count_le, count_same, count_sum, count_none, none_counted}
use Rattle.cube.proofs.Cube.{flip_lt}
use Rattle.cube.proofs.Search.{find, the_least, least_is}
use Rattle.cube.proofs.Tables.{nodes_few}
use Rattle.rule.specs.Rounds.{BringsNothing, Marks, Rested, Unsafe}
use Rattle.rule.specs.Rule.{meets, newly, marked, quiet, working, rounds}

-- the rule looks at the neighbours alone
pub meets_same : (n k : ℕ) (F F' m m' : ℕ → Bool) (x : ℕ) → ((i : ℕ) → i < n → F (flip i x) ≡ F' (flip i x))
    → ((i : ℕ) → i < n → m (flip i x) ≡ m' (flip i x)) → meets n k F m x ≡ meets n k F' m' x
unfolding meets
meets_same n k F F' m m' x f g =
    rw (
      count_same n (λ i. F (flip i x)) (λ i. F' (flip i x)) f,
      count_same n (λ i. F (flip i x) || m (flip i x)) (λ i. F' (flip i x) || m' (flip i x)) (λ i l. ap₂ ◌||◌ (f i l) (g i l)),
    )

-- in a cube of at most 12 dimensions at most 4096 nodes work
pub working_few : (n : ℕ) (F : ℕ → Bool) → n ≤ 12 → working n F ≤ 4096
unfolding working
working_few n F h = omega (arith, count_bound (2 ^ n) (λ x. not (F x)), nodes_few n h)

module _ (n k : ℕ) (F : ℕ → Bool) where
  pub marked_zero : (x : ℕ) → marked n k F 0 x ≡ false
  unfolding marked
  marked_zero x = refl

  pub marked_suc : (r x : ℕ) → marked n k F (suc r) x ≡ (marked n k F r x || newly n k F (marked n k F r) x)
  unfolding marked
  marked_suc r x = refl

  pub newly_says : (m : ℕ → Bool) (x : ℕ) → newly n k F m x ≡ true → (F x ≡ false) × (m x ≡ false) × (meets n k F m x ≡ true)
  unfolding newly
  newly_says m x e =
      let a = and_true (not (F x)) (not (m x) && meets n k F m x) e in
      let b = and_true (not (m x)) (meets n k F m x) a.1 in
      (not-true (F x) a.0, not-true (m x) b.0, b.1)

  pub newly_is : (m : ℕ → Bool) (x : ℕ) → F x ≡ false → m x ≡ false → newly n k F m x ≡ meets n k F m x
  unfolding newly
  newly_is m x a b = rw (a, b)

  pub marks_work : (r x : ℕ) → marked n k F r x ≡ true → F x ≡ false
  marks_work zero x e = absurd (clash e (marked_zero x))
  marks_work (suc r) x e =
      ⊎_elim (λ t. marks_work r x t) (λ t. (newly_says (marked n k F r) x t).0)
      (or_true (marked n k F r x) (newly n k F (marked n k F r) x) (sym (marked_suc r x) ∙ e))

  -- ---- how many are marked

  grows : (r : ℕ) → count (2 ^ n) (marked n k F (suc r)) ≡ count (2 ^ n) (marked n k F r) + count (2 ^ n) (newly n k F (marked n k F r))
  unfolding marked
  grows r = count_sum (2 ^ n) (marked n k F r) (newly n k F (marked n k F r)) go
    where
      go : (x : ℕ) → x < 2 ^ n → marked n k F r x ≡ true → newly n k F (marked n k F r) x ≡ false
      go x h e = is_false (λ t. clash e (newly_says (marked n k F r) x t).1)

  bounded : (r : ℕ) → count (2 ^ n) (marked n k F r) ≤ working n F
  unfolding working
  bounded r = count_le (2 ^ n) (marked n k F r) (λ x. not (F x)) (λ x h e. ap not (marks_work r x e))

  -- each round from s to r marks one node at least, if none before r is quiet
  pub one_each : (s r : ℕ) → s ≤ r → ((j : ℕ) → j < r → quiet n k F j ≡ false) → count (2 ^ n) (marked n k F s) + r ≤ count (2 ^ n) (marked n k F r) + s
  unfolding quiet
  one_each s zero h f = let z : s ≡ zero = omega arith in rw z (omega arith)
  one_each s (suc r) h f =
      let new = eqb-false (count (2 ^ n) (newly n k F (marked n k F r))) 0 (f r (omega arith)) in
      ⊎_elim (λ (e : s ≡ suc r). rw e (omega arith))
      (λ (l : s < suc r). omega (arith, one_each s r (omega arith) (λ j h. f j (omega arith)), grows r, new)) (eq-or-lt_of_le h)

  -- no more rounds mark something new than there are working nodes
  pub loud_le : (r : ℕ) → ((j : ℕ) → j < r → quiet n k F j ≡ false) → r ≤ working n F
  loud_le r f = omega (arith, one_each 0 r (omega arith) f, bounded r)

  -- ---- how many rounds mark something new

  -- at most as many as there are working nodes,
  rounds_le : rounds n k F ≤ working n F
  unfolding rounds
  rounds_le = (the_least _ _).within

  pub rounds_first : (j : ℕ) → j < rounds n k F → quiet n k F j ≡ false
  unfolding rounds
  rounds_first = (the_least _ _).before

  rounds_hit : rounds n k F < working n F → quiet n k F (rounds n k F) ≡ true
  unfolding rounds
  rounds_hit = (the_least _ _).hit

  pub rest : quiet n k F (rounds n k F) ≡ true
  unfolding quiet
  rest = go (either (ltb (rounds n k F) (working n F)))
    where
      go : (ltb (rounds n k F) (working n F) ≡ true) ⊎ (ltb (rounds n k F) (working n F) ≡ false) → quiet n k F (rounds n k F) ≡ true
      go (inl a) = rounds_hit (ltb-true (rounds n k F) (working n F) a)
      go (inr a) =
          let all = ltb-false (rounds n k F) (working n F) a in
          eq-eqb (count (2 ^ n) (newly n k F (marked n k F (rounds n k F)))) 0
          (omega (arith, one_each 0 (rounds n k F) (omega arith) rounds_first, bounded (suc (rounds n k F)), grows (rounds n k F)))

  -- a round that marks nothing new leaves the marks as they are,
  quiet_same : (r : ℕ) → quiet n k F r ≡ true → BringsNothing n k F r
  unfolding quiet
  quiet_same r q x h =
      let new = newly n k F (marked n k F r) in
      marked_suc r x ∙ rw (none_counted (2 ^ n) new (eqb-true (count (2 ^ n) new) 0 q) x h) (or-false (marked n k F r x))

  -- so the next one meets them again
  quiet_next : (r : ℕ) → quiet n k F r ≡ true → quiet n k F (suc r) ≡ true
  unfolding quiet newly
  quiet_next r q = eq-eqb (count (2 ^ n) (newly n k F (marked n k F (suc r)))) 0 (count_none (2 ^ n) (newly n k F (marked n k F (suc r))) again)
    where
      none : (x : ℕ) → x < 2 ^ n → newly n k F (marked n k F r) x ≡ false
      none = none_counted (2 ^ n) (newly n k F (marked n k F r)) (eqb-true (count (2 ^ n) (newly n k F (marked n k F r))) 0 q)

      again : (x : ℕ) → x < 2 ^ n → newly n k F (marked n k F (suc r)) x ≡ false
      again x h =
          rw (
            quiet_same r q x h,
            meets_same n k F F (marked n k F (suc r)) (marked n k F r) x (λ _ _. refl) (λ i l. quiet_same r q (flip i x) (flip_lt n i x l h)),
          ) (none x h)

  quiet_on : (r : ℕ) → rounds n k F ≤ r → quiet n k F r ≡ true
  quiet_on zero h = let z : rounds n k F ≡ zero = omega arith in rw z at rest
  quiet_on (suc r) h =
      ⊎_elim (λ (e : rounds n k F ≡ suc r). rw e at rest) (λ (l : rounds n k F < suc r). quiet_next r (quiet_on r (omega arith))) (eq-or-lt_of_le h)

  -- each of them marks some node that had no mark,
  round_marks : (j : ℕ) → j < rounds n k F → (x : ℕ) × (x < 2 ^ n) × (newly n k F (marked n k F j) x ≡ true)
  unfolding quiet
  round_marks j h = go (find (2 ^ n) (newly n k F (marked n k F j)))
    where
      go : ((x : ℕ) × (x < 2 ^ n) × (newly n k F (marked n k F j) x ≡ true)) ⊎ ((x : ℕ) → x < 2 ^ n → newly n k F (marked n k F j) x ≡ false)
          → (x : ℕ) × (x < 2 ^ n) × (newly n k F (marked n k F j) x ≡ true)
      go (inl a) = a
      go (inr a) = absurd (eqb-false (count (2 ^ n) (newly n k F (marked n k F j))) 0 (rounds_first j h) (count_none (2 ^ n) (newly n k F (marked n k F j)) a))

  pub rested : Rested n k F
  unfolding newly
  rested =
      record {
        loud = λ r h. let m = round_marks r h in
            let a = and_true (not (F m.0)) (not (marked n k F r m.0) && meets n k F (marked n k F r) m.0) m.2 in
            let b = and_true (not (marked n k F r m.0)) (meets n k F (marked n k F r) m.0) a.1 in
            (m.0, m.1, not-true _ b.0, marked_suc r m.0 ∙ or_right (marked n k F r m.0) m.2);
        still = λ r h. quiet_same r (quiet_on r h);
        ceiling = rounds_le;
      }

  -- ---- the words of RULES (Labels)

  pub meets_says : (m : ℕ → Bool) (x : ℕ) → (meets n k F m x ≡ true) ↔ Unsafe n k F m x
  unfolding meets
  meets_says m x = (said, given)
    where
      out : ℕ
      out = count n (λ i. F (flip i x))

      bad : ℕ
      bad = count n (λ i. F (flip i x) || m (flip i x))

      said : meets n k F m x ≡ true → Unsafe n k F m x
      said e = ⊎_elim (λ (a : leb 2 out ≡ true). inl (leb-true 2 out a)) (λ (a : leb k bad ≡ true). inr (leb-true k bad a)) (or_true (leb 2 out) (leb k bad) e)

      given : Unsafe n k F m x → meets n k F m x ≡ true
      given u = ⊎_elim (λ (h : 2 ≤ out). or_left (leb k bad) (le-leb 2 out h)) (λ (h : k ≤ bad). or_right (leb 2 out) (le-leb k bad h)) u

  pub marks : Marks n k F
  unfolding marked newly
  marks = record { none = λ x. refl; next = λ r x. (said r x, given r x) }
    where
      said : (r x : ℕ) → marked n k F (suc r) x ≡ true → (marked n k F r x ≡ true) ⊎ ((F x ≡ false) × Unsafe n k F (marked n k F r) x)
      said r x e = ⊎_elim (λ (a : marked n k F r x ≡ true). inl a) (λ (a : newly n k F (marked n k F r) x ≡ true). inr (fresh a))
          (or_true (marked n k F r x) (newly n k F (marked n k F r) x) e)
        where
          fresh : newly n k F (marked n k F r) x ≡ true → (F x ≡ false) × Unsafe n k F (marked n k F r) x
          fresh a =
              let b = and_true (not (F x)) (not (marked n k F r x) && meets n k F (marked n k F r) x) a in
              let c = and_true (not (marked n k F r x)) (meets n k F (marked n k F r) x) b.1 in
              (not-true (F x) b.0, (meets_says (marked n k F r) x).0 c.1)

      given : (r x : ℕ) → (marked n k F r x ≡ true) ⊎ ((F x ≡ false) × Unsafe n k F (marked n k F r) x) → marked n k F (suc r) x ≡ true
      given r x (inl a) = or_left (newly n k F (marked n k F r) x) a
      given r x (inr a) =
          ⊎_elim (λ (m : marked n k F r x ≡ true). or_left (newly n k F (marked n k F r) x) m)
          (λ (m : marked n k F r x ≡ false). or_right (marked n k F r x)
          (and_both (ap not a.0) (and_both (ap not m) ((meets_says (marked n k F r) x).1 a.1))))
          (either (marked n k F r x))

  -- the round after the last of them marks no node
  pub none_new : (x : ℕ) → x < 2 ^ n → newly n k F (marked n k F (rounds n k F)) x ≡ false
  unfolding quiet
  none_new =
      none_counted (2 ^ n) (newly n k F (marked n k F (rounds n k F))) (eqb-true (count (2 ^ n) (newly n k F (marked n k F (rounds n k F)))) 0 rest)

  -- the first quiet round is the one: what a loop shows at its end
  pub rounds_is : (r : ℕ) → ((j : ℕ) → j < r → quiet n k F j ≡ false) → quiet n k F r ≡ true → rounds n k F ≡ r
  unfolding rounds
  rounds_is r f q = least_is (working n F) (quiet n k F) r (loud_le r f) f (λ _. q)
