-- The sums of the figures. A figure's total is a sum over the tables with so many faults, so what holds of each table, by the four kinds or by theorem 4,
-- holds of the totals; and each table is counted in the line of its one number of faults.
use mathlib.Core.Bool.{Bool, true, false, cond, not}
use mathlib.Core.Logic.{◌⊎◌, inl, inr}
use mathlib.Core.Path.{◌≡◌, refl, sym, ap, ap₂, ◌∙◌}
use Prim.Native.Nat.{ℕ, ◌+◌, ◌-◌, ◌*◌, ◌^◌, ◌≤◌, ◌<◌}
use native.Mathlib.Nat.{mul_assoc}
use native.Mathlib.Omega.{arith}
use lib.Dec.{eqb}
use borrow.Author.Tests.{eq-eqb, eqb-true}
use Rattle.cube.specs.Count.{count}
use Rattle.cube.specs.Cube.{bit}
use Rattle.cube.proofs.Bools.{either}
use Rattle.cube.proofs.Count.{count_bound, count_same}
use Rattle.cube.proofs.Search.{some_hit}
use Rattle.rule.specs.Cabinet.{Cabinet, faulty, out}
use Rattle.rule.proofs.Cabinet.{plain_faulty, plain_out}
use Rattle.enough.proofs.Enough.{few_out_safe}
use Rattle.theorems.specs.Words.{label_at}
use Rattle.figures.specs.Figures.{cube_of, faults_of, figure, figures, tables, table_of, total, walks_of}
use Rattle.figures.specs.Laws.{AllTables, Sums, choose}
use Rattle.figures.specs.Sum.{sum}
use Rattle.figures.proofs.Choose.{count_chosen}
use Rattle.figures.proofs.Four.{all_walks, none_halts, of_four}
use Rattle.figures.proofs.Numbers.{all_tables}
use Rattle.figures.proofs.Sum.{count_is_sum, count_not, sum_const, sum_counted, sum_none, sum_one, sum_same, sum_swap}

module _ (n : ℕ) (A : AllTables n) where
  abbrev size : ℕ
  size = 2 ^ n

  abbrev K : ℕ → Cabinet
  K t = cube_of n t

  -- a table is counted in line m
  abbrev with_faults : (m t : ℕ) → Bool
  with_faults m t = eqb (faults_of (K t)) m

  -- where a figure is f for each table with m faults, its total is the sum of these
  total_is : (m c : ℕ) (f : ℕ → ℕ) → ((t : ℕ) → t < tables n → faults_of (K t) ≡ m → figure c (K t) ≡ f t)
      → total n m c ≡ sum (tables n) (λ t. cond (with_faults m t) (f t) 0)
  unfolding total
  total_is m c f h = sum_same (tables n) _ _ (λ t l. each t l (either (with_faults m t)))
    where
      each : (t : ℕ) → t < tables n → (with_faults m t ≡ true) ⊎ (with_faults m t ≡ false)
          → cond (with_faults m t) (figure c (K t)) 0 ≡ cond (with_faults m t) (f t) 0
      each t l (inl e) = rw e (h t l (eqb-true _ m e))
      each t l (inr e) = rw e refl

  tables_with : (m : ℕ) → total n m 0 ≡ count (tables n) (with_faults m)
  unfolding figures
  tables_with m = total_is m 0 (λ _. 1) (λ _ _ _. refl) ∙ sym (count_is_sum (tables n) (with_faults m))

  -- ---- the walks

  working_count : (t : ℕ) → count size (λ x. not (out (K t) x)) ≡ size - faults_of (K t)
  working_count t =
      let same = count_same size (λ x. not (out (K t) x)) (λ x. not (faulty (K t) x))
      (λ x _. ap not (plain_out n 3 (table_of n t) x ∙ sym (plain_faulty n 3 (table_of n t) x))) in
      omega (arith, same, count_not size (faulty (K t)))

  -- all walks of the tables with m faults
  walks : (m : ℕ) → total n m 2 + total n m 3 + total n m 4 + total n m 5 ≡ total n m 0 * (size - m) * (size - m)
  unfolding sum figures
  walks m =
      omega (
        arith,
        total_is m 2 (λ t. walks_of (K t) 0) (λ _ _ _. refl),
        total_is m 3 (λ t. walks_of (K t) 1) (λ _ _ _. refl),
        total_is m 4 (λ t. walks_of (K t) 2) (λ _ _ _. refl),
        total_is m 5 (λ t. walks_of (K t) 3) (λ _ _ _. refl),
        sum_swap 4 (tables n) (λ k t. cond (with_faults m t) (walks_of (K t) k) 0),
        sum_same (tables n) (λ t. sum 4 (λ k. cond (with_faults m t) (walks_of (K t) k) 0)) (λ t. cond (with_faults m t) ((size - m) * (size - m)) 0)
            (λ t l. each t l (either (with_faults m t))),
        sum_counted (tables n) ((size - m) * (size - m)) (with_faults m),
        ap (λ (x : ℕ). x * ((size - m) * (size - m))) (tables_with m),
        mul_assoc (total n m 0) (size - m) (size - m),
      )
    where
      each : (t : ℕ) → t < tables n → (with_faults m t ≡ true) ⊎ (with_faults m t ≡ false)
          → sum 4 (λ k. cond (with_faults m t) (walks_of (K t) k) 0) ≡ cond (with_faults m t) ((size - m) * (size - m)) 0
      each t l (inl e) =
          let w : count size (λ x. not (out (K t) x)) ≡ size - m = working_count t ∙ ap (λ (k : ℕ). size - k) (eqb-true _ m e) in
          rw e (all_walks (K t) (A.accepted t l) ∙ ap₂ (λ (a b : ℕ). a * b) w w)
      each t l (inr e) = rw e (sum_none 4 (λ _. 0) (λ _ _. refl))

  -- ---- the tables

  chosen : (m : ℕ) → total n m 0 ≡ choose size m
  chosen m =
      tables_with m
      ∙ count_same (tables n) (with_faults m) (λ t. eqb (count size (λ x. bit x t)) m)
      (λ t _. ap (λ (k : ℕ). eqb k m) (count_same size (faulty (K t)) (λ x. bit x t) (λ x l. A.node t x l)))
      ∙ count_chosen size m

  -- each table stands in one line
  all : sum (size + 1) (λ m. total n m 0) ≡ tables n
  all =
      sum_same (size + 1) (λ m. total n m 0) _ (λ m _. tables_with m ∙ count_is_sum (tables n) (with_faults m))
      ∙ sum_swap (size + 1) (tables n) (λ m t. cond (with_faults m t) 1 0)
      ∙ sum_same (tables n) _ (λ _. 1) (λ t _. sum_one (size + 1) (faults_of (K t)) (omega (arith, count_bound size (faulty (K t)))))
      ∙ sum_const (tables n) 1 ∙ omega arith

  -- ---- few faults

  safe_node : (t : ℕ) → faults_of (K t) < n → (x : ℕ) × (x < size) × (label_at (K t) x ≡ 0)
  safe_node t h =
      let same = count_same size (out (K t)) (faulty (K t)) (λ x _. plain_out n 3 (table_of n t) x ∙ sym (plain_faulty n 3 (table_of n t) x)) in
      few_out_safe (K t) (inl (refl, omega (arith, same)))

  -- a figure that is 0 in each of the tables
  total_none : (m c : ℕ) → ((t : ℕ) → t < tables n → faults_of (K t) ≡ m → figure c (K t) ≡ 0) → total n m c ≡ 0
  total_none m c h = total_is m c (λ _. 0) h ∙ sum_none (tables n) _ (λ t _. nothing (with_faults m t))
    where
      nothing : (b : Bool) → cond {A = ℕ} b 0 0 ≡ 0
      nothing true = refl
      nothing false = refl

  few_safe : (m : ℕ) → m < n → total n m 1 ≡ 0
  unfolding figures
  few_safe m h = total_none m 1
      (λ t _ e. let (x, l, z) = safe_node t (omega arith) in rw (some_hit size (λ y. eqb (label_at (K t) y) 0) x l (eq-eqb _ 0 z)) refl)

  few_arrive : (m : ℕ) → m < n → total n m 5 ≡ 0
  unfolding figures
  few_arrive m h = total_none m 5 (λ t l e. none_halts (K t) (A.accepted t l) (safe_node t (omega arith)))

pub sums : (n : ℕ) → (1 ≤ n) × (n ≤ 12) → Sums n
sums n dim =
    let A = all_tables n dim in
    record {
      one_kind = λ t h s d hs hd. of_four (cube_of n t) 0 (A.accepted t h) s d hs hd;
      walks = walks n A;
      tables_with = tables_with n A;
      chosen = chosen n A;
      all = all n A;
      few_safe = few_safe n A;
      few_arrive = few_arrive n A;
    }
