-- Runs: the nodes from a faulty one on begin with the run from it up to `run_end`, and behind that the other runs are those of the nodes from there on.
use mathlib.Core.Bool.{Bool, true, false}
use mathlib.Core.List.{List, [], ◌∷◌}
use mathlib.Core.Logic.{◌⊎◌, inl, inr}
use mathlib.Core.Path.{◌≡◌, refl, sym, ap, ap₂, ◌∙◌}
use Prim.Native.Nat.{ℕ, zero, suc, ◌+◌, ◌-◌, ◌≤◌, ◌<◌}
use native.Mathlib.Omega.{arith}
use lib.Dec.{eqb}
use borrow.Author.Tests.{eq-eqb, ne_eqb}
use Rattle.cube.proofs.Bools.{by_cases, either}
use Rattle.ranges.specs.Written.{grouped, join_run}
use Rattle.spelling.specs.Spelled.{having}
use Rattle.writer.proofs.Passes.{left_here}
use Rattle.list_writer.specs.Lists.{run_end}

-- ---- a node in front of runs

-- it joins a run that begins at the next node,
joins : (x last : ℕ) (more : List (ℕ × ℕ)) → join_run x ((x + 1, last) ∷ more) ≡ (x, last) ∷ more
unfolding join_run
joins x last more = rw (eq-eqb (x + 1) (x + 1) refl)

-- and none that begins later
apart : (x y : ℕ) (rs : List (ℕ × ℕ)) → x + 1 < y → join_run x (join_run y rs) ≡ (x, x) ∷ join_run y rs
unfolding join_run
apart x y [] h = rw (ne_eqb y (x + 1) (λ e. omega arith))
apart x y (r ∷ rs) h =
    by_cases (λ (l : List (ℕ × ℕ)). join_run x l ≡ (x, x) ∷ l) (eqb r.0 (y + 1))
    (λ e. rw (ne_eqb y (x + 1) (λ e. omega arith)))
    (λ e. rw (ne_eqb y (x + 1) (λ e. omega arith)))

module _ (p : ℕ → Bool) where
  -- ---- the nodes from k on, and their run's end

  having_yes : (left k : ℕ) → p k ≡ true → having (suc left) k p ≡ k ∷ having left (k + 1) p
  unfolding having
  having_yes left k t = rw t

  having_no : (left k : ℕ) → p k ≡ false → having (suc left) k p ≡ having left (k + 1) p
  unfolding having
  having_no left k t = rw t

  end_yes : (left k : ℕ) → p k ≡ true → run_end (suc left) k p ≡ run_end left (k + 1) p
  unfolding run_end
  end_yes left k t = rw t

  end_not : (left k : ℕ) → p k ≡ false → run_end (suc left) k p ≡ k
  unfolding run_end
  end_not left k t = rw t

  end_low : (left k : ℕ) → k ≤ run_end left k p
  unfolding run_end
  end_low zero k = omega arith
  end_low (suc left) k =
      let h = end_low left (k + 1) in
      by_cases (λ (e : ℕ). k ≤ e) (p k) (λ t. omega (arith, h)) (λ t. omega arith)

  end_high : (left k : ℕ) → run_end left k p ≤ k + left
  unfolding run_end
  end_high zero k = omega arith
  end_high (suc left) k =
      let h = end_high left (k + 1) in
      by_cases (λ (e : ℕ). e ≤ k + suc left) (p k) (λ t. omega (arith, h)) (λ t. omega arith)

  -- the same in a loop, at node k of so many: the run ends beyond the last node, at a node that is not faulty, or behind one that is
  module _ (size k : ℕ) where
    pub end_beyond : size ≤ k → run_end (size - k) k p ≡ k
    unfolding run_end
    end_beyond h = let e : size - k ≡ 0 = omega arith in rw e

    one_left : k < size → size - k ≡ suc (size - (k + 1))
    one_left h = omega arith

    pub end_here : k < size → p k ≡ false → run_end (size - k) k p ≡ k
    end_here h t = rw (one_left h) (end_not (size - (k + 1)) k t)

    pub end_past : k < size → p k ≡ true → run_end (size - k) k p ≡ run_end (size - (k + 1)) (k + 1) p
    end_past h t = rw (one_left h) (end_yes (size - (k + 1)) k t)

  -- ---- the first run

  -- node x joins none of the runs of the nodes from beyond the next one on
  later : (left k x : ℕ) → x + 1 < k → join_run x (grouped (having left k p)) ≡ (x, x) ∷ grouped (having left k p)
  unfolding having grouped join_run
  later zero k x h = refl
  later (suc left) k x h = go (later left (k + 1) x (omega arith)) (either (p k))
    where
      go : join_run x (grouped (having left (k + 1) p)) ≡ (x, x) ∷ grouped (having left (k + 1) p)
          → (p k ≡ true) ⊎ (p k ≡ false)
          → join_run x (grouped (having (suc left) k p)) ≡ (x, x) ∷ grouped (having (suc left) k p)
      go more (inl t) = rw (having_yes left k t) (apart x k (grouped (having left (k + 1) p)) h)
      go more (inr t) = rw (having_no left k t) more

  module _ (size : ℕ) where
    -- the run from k on, where the next node's run ends at e
    lone : (left k e : ℕ) → k + suc left ≡ size → e ≡ k + 1
        → join_run k (grouped (having left (k + 1) p)) ≡ (k, k) ∷ grouped (having left (k + 1) p)
        → join_run k (grouped (having left (k + 1) p)) ≡ (k, e - 1) ∷ grouped (having (size - e) e p)
    lone left k e s q alone =
        let a : k ≡ e - 1 = omega arith in
        let b : left ≡ size - e = omega arith in
        alone
        ∙ ap₂ (λ (x : ℕ) (l : List ℕ). (k, x) ∷ grouped l) a (ap₂ (λ (n j : ℕ). having n j p) b (sym q))

    run : (left k e : ℕ) → k + suc left ≡ size → e ≡ run_end left (k + 1) p
        → join_run k (grouped (having left (k + 1) p)) ≡ (k, e - 1) ∷ grouped (having (size - e) e p)
    unfolding having grouped join_run run_end
    run zero k e s q = lone zero k e s q refl
    run (suc left) k e s q = go (λ f. run left (k + 1) e (omega arith) f) (either (p (k + 1)))
      where
        go : (e ≡ run_end left (k + 1 + 1) p
            → join_run (k + 1) (grouped (having left (k + 1 + 1) p)) ≡ (k + 1, e - 1) ∷ grouped (having (size - e) e p))
            → (p (k + 1) ≡ true) ⊎ (p (k + 1) ≡ false)
            → join_run k (grouped (having (suc left) (k + 1) p)) ≡ (k, e - 1) ∷ grouped (having (size - e) e p)
        go more (inl t) =
            ap (λ (l : List ℕ). join_run k (grouped l)) (having_yes left (k + 1) t)
            ∙ ap (join_run k) (more (q ∙ end_yes left (k + 1) t))
            ∙ joins k (e - 1) (grouped (having (size - e) e p))
        go more (inr t) =
            lone (suc left) k e s (q ∙ end_not left (k + 1) t)
            (rw (having_no left (k + 1) t) (later left (k + 1 + 1) k (omega arith)))

  -- ---- in a pass, at node k of so many: e is where its run ends

  module _ (size k e : ℕ) (h : k < size) (q : e ≡ run_end (size - k) k p) where
    pub run_upto : e ≤ size
    run_upto = omega (arith, q, end_high (size - k) k)

    module _ (t : p k ≡ true) where
      pub run_some : k < e
      run_some = omega (arith, q, end_past size k h t, end_low (size - (k + 1)) (k + 1))

      -- the run of a faulty node is the first of those that are left
      pub first_run : grouped (having (size - k) k p) ≡ (k, e - 1) ∷ grouped (having (size - e) e p)
      unfolding grouped
      first_run = ap grouped (left_here p size k h t) ∙ run size (size - (k + 1)) k e (omega arith) (q ∙ end_past size k h t)
