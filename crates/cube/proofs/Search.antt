-- Laws of searching: what `least`, `some` and `largest` say, and how a loop that goes up by one learns them.
use mathlib.Core.Path.{◌≡◌, refl, sym, ap, ◌∙◌}
use mathlib.Core.Logic.{◌⊎◌, inl, inr, ⊎_elim}
use mathlib.Core.Bool.{Bool, true, false, ◌&&◌, ◌||◌}
use Prim.Native.Nat.{ℕ, zero, suc, ◌+◌, ◌≤◌, ◌<◌}
use native.Mathlib.Omega.{arith}
use native.Mathlib.Numerals.{add-one}
use lib.Dec.{eqb, ltb}
use borrow.Author.Tests.{eqb-true, ltb-true, ltb-false, lt-ltb, le-ltb}
use Rattle.cube.specs.Count.{count, larger, largest, least, some}
use Rattle.cube.proofs.Bools.{and_both, and_true, either, clash, or_left, or_right, or_true}
use Rattle.cube.proofs.Count.{below_suc, count_alone, count_none, count_union}

least_old : (n : ℕ) (p : ℕ → Bool) → least n p < n → least (suc n) p ≡ least n p
unfolding least
least_old n p h = rw (lt-ltb (least n p) n h, least)

least_here : (n : ℕ) (p : ℕ → Bool) → n ≤ least n p → p n ≡ true → least (suc n) p ≡ n
unfolding least
least_here n p h e = rw (le-ltb (least n p) n h, least, e)

least_past : (n : ℕ) (p : ℕ → Bool) → n ≤ least n p → p n ≡ false → least (suc n) p ≡ suc n
unfolding least
least_past n p h e = rw (le-ltb (least n p) n h, least, e)

-- what the search says: its result is a place that has p or n, and no earlier place has p
pub record Least (n : ℕ) (p : ℕ → Bool) : Type 0 where
  pub within : least n p ≤ n
  pub hit : least n p < n → p (least n p) ≡ true
  pub before : (j : ℕ) → j < least n p → p j ≡ false

least_zero : (p : ℕ → Bool) → least zero p ≡ zero
unfolding least
least_zero p = refl

pub the_least : (n : ℕ) (p : ℕ → Bool) → Least n p
the_least zero p = record { within = omega (arith, least_zero p); hit = λ h. absurd (omega arith); before = λ j h. absurd (omega (arith, least_zero p)) }
the_least (suc n) p = go (the_least n p) (either (ltb (least n p) n)) (either (p n))
  where
    go : Least n p → (ltb (least n p) n ≡ true) ⊎ (ltb (least n p) n ≡ false) → (p n ≡ true) ⊎ (p n ≡ false) → Least (suc n) p
    go ih (inl a) _ =
        let l = ltb-true (least n p) n a in
        record {
          within = omega (arith, least_old n p l);
          hit = λ _. rw (least_old n p l) (ih.hit l);
          before = λ j h. ih.before j (omega (arith, least_old n p l));
        }
    go ih (inr a) (inl b) =
        let l = ltb-false (least n p) n a in
        record {
          within = omega (arith, least_here n p l b);
          hit = λ _. rw (least_here n p l b) b;
          before = λ j h. ih.before j (omega (arith, least_here n p l b));
        }
    go ih (inr a) (inr b) =
        let l = ltb-false (least n p) n a in
        record {
          within = omega (arith, least_past n p l b);
          hit = λ h. absurd (omega (arith, least_past n p l b));
          before = λ j h. ⊎_elim (λ (k : j ≡ n). rw k b) (λ (k : j < n). ih.before j (omega arith)) (below_suc (omega (arith, least_past n p l b)));
        }

pub least_found : (n : ℕ) (p : ℕ → Bool) (i : ℕ) → i < n → p i ≡ true → least n p < n
least_found n p i h e = go (either (ltb (least n p) n))
  where
    go : (ltb (least n p) n ≡ true) ⊎ (ltb (least n p) n ≡ false) → least n p < n
    go (inl a) = ltb-true (least n p) n a
    go (inr a) = absurd (clash e ((the_least n p).before i (omega (arith, ltb-false (least n p) n a))))

-- some place below n has p, or none has
pub find : (n : ℕ) (p : ℕ → Bool) → ((i : ℕ) × (i < n) × (p i ≡ true)) ⊎ ((i : ℕ) → i < n → p i ≡ false)
find n p = go (either (ltb (least n p) n))
  where
    go : (ltb (least n p) n ≡ true) ⊎ (ltb (least n p) n ≡ false) → ((i : ℕ) × (i < n) × (p i ≡ true)) ⊎ ((i : ℕ) → i < n → p i ≡ false)
    go (inl a) = let l = ltb-true (least n p) n a in inl (least n p, l, (the_least n p).hit l)
    go (inr a) = inr (λ i h. (the_least n p).before i (omega (arith, ltb-false (least n p) n a)))

pub least_mono : (n : ℕ) (p q : ℕ → Bool) → ((i : ℕ) → i < n → q i ≡ true → p i ≡ true) → least n p ≤ least n q
least_mono n p q f = go (either (ltb (least n q) (least n p)))
  where
    P : Least n p
    P = the_least n p

    go : (ltb (least n q) (least n p) ≡ true) ⊎ (ltb (least n q) (least n p) ≡ false) → least n p ≤ least n q
    go (inl a) =
        let l = ltb-true (least n q) (least n p) a in
        let h : least n q < n = omega (arith, P.within) in
        absurd (clash (f (least n q) h ((the_least n q).hit h)) (P.before (least n q) l))
    go (inr a) = ltb-false (least n q) (least n p) a

pub least_same : (n : ℕ) (p q : ℕ → Bool) → ((i : ℕ) → i < n → p i ≡ q i) → least n p ≡ least n q
least_same n p q f = omega (arith, least_mono n p q (λ i h e. f i h ∙ e), least_mono n q p (λ i h e. sym (f i h) ∙ e))

-- the search's result, from what a loop knows
pub least_is : (n : ℕ) (p : ℕ → Bool) (i : ℕ) → i ≤ n → ((j : ℕ) → j < i → p j ≡ false) → (i < n → p i ≡ true) → least n p ≡ i
least_is n p i h before hit = omega (arith, low, high)
  where
    low : ¬ (least n p < i)
    low l = clash ((the_least n p).hit (omega arith)) (before (least n p) l)

    high : ¬ (i < least n p)
    high l = clash (hit (omega (arith, (the_least n p).within))) ((the_least n p).before i l)

pub least_none : (n : ℕ) (p : ℕ → Bool) → ((i : ℕ) → i < n → p i ≡ false) → least n p ≡ n
least_none n p f = least_is n p n (omega arith) f (λ h. absurd (omega arith))

-- ---- some place below n has p

pub some_hit : (n : ℕ) (p : ℕ → Bool) (i : ℕ) → i < n → p i ≡ true → some n p ≡ true
unfolding some
some_hit n p i h e = lt-ltb (least n p) n (least_found n p i h e)

pub some_none : (n : ℕ) (p : ℕ → Bool) → ((i : ℕ) → i < n → p i ≡ false) → some n p ≡ false
unfolding some
some_none n p f = le-ltb (least n p) n (omega (arith, least_none n p f))

pub some_found : (n : ℕ) (p : ℕ → Bool) → some n p ≡ true → (i : ℕ) × (i < n) × (p i ≡ true)
unfolding some
some_found n p e = let l = ltb-true (least n p) n e in (least n p, l, (the_least n p).hit l)

-- of two tests
pub both_hit : (n : ℕ) (p q : ℕ → Bool) (i : ℕ) → i < n → p i ≡ true → q i ≡ true → some n (λ j. p j && q j) ≡ true
both_hit n p q i h e f = some_hit n (λ j. p j && q j) i h (and_both e f)

pub both_found : (n : ℕ) (p q : ℕ → Bool) → some n (λ j. p j && q j) ≡ true → (i : ℕ) × (i < n) × (p i ≡ true) × (q i ≡ true)
both_found n p q e = let (i, h, t) = some_found n (λ j. p j && q j) e in let r = and_true (p i) (q i) t in (i, h, r.0, r.1)

pub none_some : (n : ℕ) (p : ℕ → Bool) → some n p ≡ false → (i : ℕ) → i < n → p i ≡ false
unfolding some
none_some n p e i h = (the_least n p).before i (omega (arith, ltb-false (least n p) n e))

pub some_same : (n : ℕ) (p q : ℕ → Bool) → ((i : ℕ) → i < n → p i ≡ q i) → some n p ≡ some n q
unfolding some
some_same n p q f = rw (least_same n p q f)

-- one place more
pub some_suc : (n : ℕ) (p : ℕ → Bool) → some (suc n) p ≡ (some n p || p n)
some_suc n p = go (either (some n p)) (either (p n))
  where
    go : (some n p ≡ true) ⊎ (some n p ≡ false) → (p n ≡ true) ⊎ (p n ≡ false) → some (suc n) p ≡ (some n p || p n)
    go (inl a) _ = let r = some_found n p a in some_hit (suc n) p r.0 (omega arith) r.2 ∙ sym (or_left (p n) a)
    go (inr a) (inl b) = some_hit (suc n) p n (omega arith) b ∙ sym (or_right (some n p) b)
    go (inr a) (inr b) =
        some_none (suc n) p (λ j h. ⊎_elim (λ (k : j ≡ n). rw k b) (λ (k : j < n). none_some n p a j k) (below_suc h)) ∙ rw (a, b)

-- m numbers are no more than m places
pub count_named : (n m : ℕ) (g : ℕ → ℕ) → ((i : ℕ) → i < m → g i < n) → count n (λ x. some m (λ i. eqb x (g i))) ≤ m
count_named n zero g h =
    omega (arith, count_none n (λ x. some zero (λ i. eqb x (g i))) (λ x _. some_none zero (λ i. eqb x (g i)) (λ i l. absurd (omega arith))))
count_named n (suc m) g h =
    omega (
      arith,
      count_union n (λ x. some (suc m) (λ i. eqb x (g i))) (λ x. some m (λ i. eqb x (g i))) (λ x. eqb x (g m))
          (λ x _ e. or_true (some m (λ i. eqb x (g i))) (eqb x (g m)) (sym (some_suc m (λ i. eqb x (g i))) ∙ e)),
      count_named n m g (λ i l. h i (omega arith)),
      count_alone n (λ x. eqb x (g m)) (g m) (h m (omega arith)) (λ x _ d e. d (eqb-true x (g m) e)),
    )

-- ---- the largest

-- the larger of two is above top exactly where one of them is
larger_above : (top a b : ℕ) → ltb top (larger a b) ≡ (ltb top a || ltb top b)
larger_above top a b = go (either (ltb a b)) (either (ltb top a)) (either (ltb top b))
  where
    go : (ltb a b ≡ true) ⊎ (ltb a b ≡ false) → (ltb top a ≡ true) ⊎ (ltb top a ≡ false) → (ltb top b ≡ true) ⊎ (ltb top b ≡ false)
        → ltb top (larger a b) ≡ (ltb top a || ltb top b)
    go (inl p) (inl q) _ = rw (p, q) (lt-ltb top b (omega (arith, ltb-true a b p, ltb-true top a q)))
    go (inl p) (inr q) _ = rw (p, q)
    go (inr p) (inl q) _ = rw (p, q)
    go (inr p) (inr q) (inl r) = absurd (omega (arith, ltb-false a b p, ltb-false top a q, ltb-true top b r))
    go (inr p) (inr q) (inr r) = rw (p, q, r)

-- the largest is above top exactly where some number is: so one compare says it of all of them
pub largest_above : (top n : ℕ) (f : ℕ → ℕ) → ltb top (largest n f) ≡ some n (λ i. ltb top (f i))
unfolding largest some least
largest_above top zero f = le-ltb top zero (omega arith)
largest_above top (suc n) f =
    larger_above top (largest n f) (f n) ∙ ap (λ (b : Bool). b || ltb top (f n)) (largest_above top n f) ∙ sym (some_suc n (λ i. ltb top (f i)))

-- of none it is 0; and the largest of a loop, one place on
pub largest_none : (f : ℕ → ℕ) → 0 ≡ largest 0 f
unfolding largest
largest_none f = refl

pub largest_next : (f : ℕ → ℕ) (m r i : ℕ) → m ≡ largest i f → r ≡ larger m (f i) → r ≡ largest (i + 1) f
unfolding largest
largest_next f m r i e h = h ∙ rw (add-one, e)
