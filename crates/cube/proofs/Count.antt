-- Laws of counting: what `count` says of two tests, of a test with one place fewer, and how a loop that goes up by one learns it.
use mathlib.Core.Path.{◌≡◌, refl, sym, ap, ◌∙◌, subst}
use mathlib.Core.Logic.{◌⊎◌, inl, inr, ⊎_elim, ◌≢◌}
use mathlib.Core.Bool.{Bool, true, false, not, ◌&&◌, ◌||◌}
use Prim.Native.Nat.{ℕ, zero, suc, ◌+◌, ◌≤◌, ◌<◌}
use native.Mathlib.Omega.{arith}
use native.Mathlib.Nat.{eq-or-lt_of_le, le_of_suc-le-suc}
use native.Mathlib.Numerals.{add-one}
use lib.Dec.{eqb}
use borrow.Author.Tests.{eqb-false, ne_eqb, not-true}
use Rattle.cube.specs.Count.{count}
use Rattle.cube.proofs.Bools.{and_both, and_true, clash, either, is_false}

pub below_suc : {i n : ℕ} → i < suc n → (i ≡ n) ⊎ (i < n)
below_suc h = eq-or-lt_of_le (le_of_suc-le-suc h)

pub count_yes : (n : ℕ) (p : ℕ → Bool) → p n ≡ true → count (suc n) p ≡ suc (count n p)
unfolding count
count_yes n p e = rw e (omega arith)

pub count_no : (n : ℕ) (p : ℕ → Bool) → p n ≡ false → count (suc n) p ≡ count n p
unfolding count
count_no n p e = rw e (omega arith)

pub count_zero : (p : ℕ → Bool) → count zero p ≡ zero
unfolding count
count_zero p = refl

pub count_bound : (n : ℕ) (p : ℕ → Bool) → count n p ≤ n
count_bound zero p = omega (arith, count_zero p)
count_bound (suc n) p = go (count_bound n p) (either (p n))
  where
    go : count n p ≤ n → (p n ≡ true) ⊎ (p n ≡ false) → count (suc n) p ≤ suc n
    go ih (inl e) = omega (arith, count_yes n p e)
    go ih (inr e) = omega (arith, count_no n p e)

pub count_all : (n : ℕ) → count n (λ _. true) ≡ n
count_all zero = count_zero (λ _. true)
count_all (suc n) = count_yes n (λ _. true) refl ∙ ap suc (count_all n)

-- in more places no fewer
pub count_up : (j i : ℕ) (p : ℕ → Bool) → j ≤ i → count j p ≤ count i p
count_up j zero p h = let z : j ≡ zero = omega arith in rw z (omega arith)
count_up j (suc i) p h = go (count_up j i p) (either (p i)) (eq-or-lt_of_le h)
  where
    go : (j ≤ i → count j p ≤ count i p) → (p i ≡ true) ⊎ (p i ≡ false) → (j ≡ suc i) ⊎ (j < suc i) → count j p ≤ count (suc i) p
    go ih _ (inl e) = rw e (omega arith)
    go ih (inl t) (inr l) = omega (arith, ih (omega arith), count_yes i p t)
    go ih (inr t) (inr l) = omega (arith, ih (omega arith), count_no i p t)

pub count_le : (n : ℕ) (p q : ℕ → Bool) → ((i : ℕ) → i < n → p i ≡ true → q i ≡ true) → count n p ≤ count n q
count_le zero p q f = omega (arith, count_zero p)
count_le (suc n) p q f = go (count_le n p q (λ i h. f i (omega arith))) (either (p n)) (either (q n))
  where
    go : count n p ≤ count n q → (p n ≡ true) ⊎ (p n ≡ false) → (q n ≡ true) ⊎ (q n ≡ false) → count (suc n) p ≤ count (suc n) q
    go ih (inl e) (inl k) = omega (arith, count_yes n p e, count_yes n q k)
    go ih (inl e) (inr k) = absurd (clash (f n (omega arith) e) k)
    go ih (inr e) (inl k) = omega (arith, count_no n p e, count_yes n q k)
    go ih (inr e) (inr k) = omega (arith, count_no n p e, count_no n q k)

-- fewer p than q: some place has q and not p
pub pigeon : (n : ℕ) (p q : ℕ → Bool) → count n p < count n q → (i : ℕ) × (i < n) × (q i ≡ true) × (p i ≡ false)
pigeon zero p q h = absurd (omega (arith, count_zero p, count_zero q))
pigeon (suc n) p q h = go (pigeon n p q) (either (p n)) (either (q n))
  where
    go : (count n p < count n q → (i : ℕ) × (i < n) × (q i ≡ true) × (p i ≡ false))
        → (p n ≡ true) ⊎ (p n ≡ false) → (q n ≡ true) ⊎ (q n ≡ false) → (i : ℕ) × (i < suc n) × (q i ≡ true) × (p i ≡ false)
    go ih (inl e) (inl k) = let r = ih (omega (arith, count_yes n p e, count_yes n q k)) in (r.0, omega arith, r.2, r.3)
    go ih (inl e) (inr k) = let r = ih (omega (arith, count_yes n p e, count_no n q k)) in (r.0, omega arith, r.2, r.3)
    go ih (inr e) (inl k) = (n, omega arith, k, e)
    go ih (inr e) (inr k) = let r = ih (omega (arith, count_no n p e, count_no n q k)) in (r.0, omega arith, r.2, r.3)

pub count_pos : (n : ℕ) (p : ℕ → Bool) (i : ℕ) → i < n → p i ≡ true → 0 < count n p
count_pos zero p i h e = absurd (omega arith)
count_pos (suc n) p i h e = go (λ k. count_pos n p i k e) (either (p n)) (below_suc h)
  where
    go : (i < n → 0 < count n p) → (p n ≡ true) ⊎ (p n ≡ false) → (i ≡ n) ⊎ (i < n) → 0 < count (suc n) p
    go ih (inl t) _ = omega (arith, count_yes n p t)
    go ih (inr t) (inl k) = absurd (clash (subst (λ j. p j ≡ true) k e) t)
    go ih (inr t) (inr k) = omega (arith, count_no n p t, ih k)

pub count_none : (n : ℕ) (p : ℕ → Bool) → ((i : ℕ) → i < n → p i ≡ false) → count n p ≡ 0
count_none zero p f = count_zero p
count_none (suc n) p f = count_no n p (f n (omega arith)) ∙ count_none n p (λ i h. f i (omega arith))

-- what is counted is somewhere
pub counted : (n : ℕ) (p : ℕ → Bool) → 0 < count n p → (i : ℕ) × (i < n) × (p i ≡ true)
counted n p h = let r = pigeon n (λ _. false) p (omega (arith, count_none n (λ _. false) (λ _ _. refl))) in (r.0, r.1, r.2)

pub count_same : (n : ℕ) (p q : ℕ → Bool) → ((i : ℕ) → i < n → p i ≡ q i) → count n p ≡ count n q
count_same n p q f = omega (arith, count_le n p q (λ i h e. sym (f i h) ∙ e), count_le n q p (λ i h e. f i h ∙ e))

-- q is p with one place more
pub count_more : (n j : ℕ) (p q : ℕ → Bool) → j < n → p j ≡ false → q j ≡ true → ((i : ℕ) → i < n → i ≢ j → p i ≡ q i) → count n q ≡ suc (count n p)
count_more zero j p q h a b f = absurd (omega arith)
count_more (suc n) j p q h a b f = go (count_more n j p q) (below_suc h)
  where
    same : n ≢ j → count n q ≡ suc (count n p) → (p n ≡ true) ⊎ (p n ≡ false) → count (suc n) q ≡ suc (count (suc n) p)
    same d ih (inl e) = omega (arith, count_yes n p e, count_yes n q (sym (f n (omega arith) d) ∙ e))
    same d ih (inr e) = omega (arith, count_no n p e, count_no n q (sym (f n (omega arith) d) ∙ e))

    go : (j < n → p j ≡ false → q j ≡ true → ((i : ℕ) → i < n → i ≢ j → p i ≡ q i) → count n q ≡ suc (count n p)) → (j ≡ n) ⊎ (j < n)
        → count (suc n) q ≡ suc (count (suc n) p)
    go ih (inl e) =
        omega (
          arith,
          count_no n p (rw (← e) a),
          count_yes n q (rw (← e) b),
          count_same n p q (λ i l. f i (omega arith) (omega arith)),
        )
    go ih (inr k) = same (omega arith) (ih k a b (λ i l. f i (omega arith))) (either (p n))

-- two tests that exclude one another are counted apart
pub count_sum : (n : ℕ) (p q : ℕ → Bool) → ((i : ℕ) → i < n → p i ≡ true → q i ≡ false) → count n (λ i. p i || q i) ≡ count n p + count n q
unfolding count
count_sum zero p q f = omega arith
count_sum (suc n) p q f = go (count_sum n p q (λ i h. f i (omega arith))) (either (p n)) (either (q n))
  where
    go : count n (λ i. p i || q i) ≡ count n p + count n q → (p n ≡ true) ⊎ (p n ≡ false) → (q n ≡ true) ⊎ (q n ≡ false)
        → count (suc n) (λ i. p i || q i) ≡ count (suc n) p + count (suc n) q
    go ih (inl a) (inl b) = absurd (clash b (f n (omega arith) a))
    go ih (inl a) (inr b) = rw (a, b) (omega arith)
    go ih (inr a) (inl b) = rw (a, b) (omega arith)
    go ih (inr a) (inr b) = rw (a, b) (omega arith)

-- a test that holds only where one of two others does is counted no oftener than these
pub count_union : (n : ℕ) (p q r : ℕ → Bool) → ((i : ℕ) → i < n → p i ≡ true → (q i ≡ true) ⊎ (r i ≡ true)) → count n p ≤ count n q + count n r
count_union zero p q r f = omega (arith, count_zero p)
count_union (suc n) p q r f = go (count_union n p q r (λ i h. f i (omega arith))) (either (p n))
  where
    more : (s : ℕ → Bool) → count n s ≤ count (suc n) s
    more s = count_up n (suc n) s (omega arith)

    held : count n p ≤ count n q + count n r → p n ≡ true → (q n ≡ true) ⊎ (r n ≡ true) → count (suc n) p ≤ count (suc n) q + count (suc n) r
    held ih e (inl k) = omega (arith, count_yes n p e, count_yes n q k, more r)
    held ih e (inr k) = omega (arith, count_yes n p e, count_yes n r k, more q)

    go : count n p ≤ count n q + count n r → (p n ≡ true) ⊎ (p n ≡ false) → count (suc n) p ≤ count (suc n) q + count (suc n) r
    go ih (inl e) = held ih e (f n (omega arith) e)
    go ih (inr e) = omega (arith, count_no n p e, more q, more r)

-- ---- one place fewer

-- p, but not at i
unfoldable pub without : (ℕ → Bool) → ℕ → ℕ → Bool
without p i j = not (eqb j i) && p j

pub without_says : (p : ℕ → Bool) (i j : ℕ) → without p i j ≡ true → (p j ≡ true) × (j ≢ i)
unfolding without
without_says p i j e = let a = and_true (not (eqb j i)) (p j) e in (a.1, eqb-false j i (not-true (eqb j i) a.0))

pub without_is : (p : ℕ → Bool) (i j : ℕ) → p j ≡ true → j ≢ i → without p i j ≡ true
unfolding without
without_is p i j e d = and_both (ap not (ne_eqb j i d)) e

pub without_self : (p : ℕ → Bool) (i : ℕ) → without p i i ≡ false
without_self p i = is_false (λ t. (without_says p i i t).1 refl)

pub count_without : (n : ℕ) (p : ℕ → Bool) (i : ℕ) → i < n → p i ≡ true → count n p ≡ suc (count n (without p i))
unfolding without
count_without n p i h e = count_more n i (without p i) p h (without_self p i) e (λ j _ d. rw (ne_eqb j i d))

-- q holds wherever p does, but perhaps not at i
pub count_but_one : (n : ℕ) (p q : ℕ → Bool) (i : ℕ) → i < n → ((j : ℕ) → j < n → j ≢ i → p j ≡ true → q j ≡ true) → count n p ≤ suc (count n q)
count_but_one n p q i h f = go (either (p i))
  where
    others : count n (without p i) ≤ count n q
    others = count_le n (without p i) q (λ j l e. let a = without_says p i j e in f j l a.1 a.0)

    go : (p i ≡ true) ⊎ (p i ≡ false) → count n p ≤ suc (count n q)
    go (inl e) = omega (arith, others, count_without n p i h e)
    go (inr e) = omega (arith, count_le n p q (λ j l t. f j l (λ k. clash t (ap p k ∙ e)) t))

-- p holds at i at most
pub count_alone : (n : ℕ) (p : ℕ → Bool) (i : ℕ) → i < n → ((j : ℕ) → j < n → j ≢ i → p j ≡ true → ⊥) → count n p ≤ 1
count_alone n p i h f =
    omega (arith, count_but_one n p (λ _. false) i h (λ j l d t. absurd (f j l d t)), count_none n (λ _. false) (λ _ _. refl))

-- where f takes the places below m that have p to places below n that have q, no two to the same, p is counted no oftener than q
pub count_into : (m n : ℕ) (p q : ℕ → Bool) (f : ℕ → ℕ) → ((i : ℕ) → i < m → p i ≡ true → (f i < n) × (q (f i) ≡ true))
    → ((i j : ℕ) → i < m → j < m → f i ≡ f j → i ≡ j) → count m p ≤ count n q
count_into zero n p q f into one = omega (arith, count_zero p)
count_into (suc m) n p q f into one = go (count_into m n p) (either (p m))
  where
    others : p m ≡ true → (i : ℕ) → i < m → p i ≡ true → (f i < n) × (without q (f m) (f i) ≡ true)
    others t i h e =
        let a = into i (omega arith) e in
        (a.0, without_is q (f m) (f i) a.1 (λ s. let z = one i m (omega arith) (omega arith) s in omega arith))

    go : ((r : ℕ → Bool) (g : ℕ → ℕ) → ((i : ℕ) → i < m → p i ≡ true → (g i < n) × (r (g i) ≡ true))
        → ((i j : ℕ) → i < m → j < m → g i ≡ g j → i ≡ j) → count m p ≤ count n r)
        → (p m ≡ true) ⊎ (p m ≡ false) → count (suc m) p ≤ count n q
    go ih (inl t) =
        let a = into m (omega arith) t in
        omega (
          arith,
          count_yes m p t,
          ih (without q (f m)) f (others t) (λ i j h k. one i j (omega arith) (omega arith)),
          count_without n q (f m) a.0 a.1,
        )
    go ih (inr t) =
        omega (arith, count_no m p t, ih q f (λ i h. into i (omega arith)) (λ i j h k. one i j (omega arith) (omega arith)))

pub none_counted : (n : ℕ) (p : ℕ → Bool) → count n p ≡ 0 → (i : ℕ) → i < n → p i ≡ false
none_counted n p e i h = ⊎_elim (λ (t : p i ≡ true). absurd (omega (arith, count_pos n p i h t))) (λ t. t) (either (p i))

-- the count of a loop, one place on
pub count-in : (i : ℕ) (p : ℕ → Bool) → p i ≡ true → count (i + 1) p ≡ count i p + 1
count-in i p e = rw add-one (omega (arith, count_yes i p e))

pub count_out : (i : ℕ) (p : ℕ → Bool) → p i ≡ false → count (i + 1) p ≡ count i p
count_out i p e = rw add-one (count_no i p e)
