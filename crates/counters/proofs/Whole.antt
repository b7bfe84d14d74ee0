-- All tables: after those below t each counter has what they add to it, at most 256 each, so there is always room; after the last it is the tally.
use mathlib.Core.Bool.{Bool, true, false, not, ◌&&◌}
use mathlib.Core.List.{List}
use mathlib.Core.Logic.{◌⊎◌, inl, inr}
use mathlib.Core.Path.{◌≡◌, sym, ap, ◌∙◌}
use Prim.Native.Nat.{ℕ, zero, suc, ◌+◌, ◌*◌, ◌/◌, ◌%◌, ◌^◌, ◌≤◌, ◌<◌}
use native.Mathlib.Nat.{mul-le-mul}
use native.Mathlib.Omega.{arith}
use lib.Dec.{eqb, ltb}
use lib.ListN.{get_or, length, replicate, get_or-eq_default}
use borrow.Author.Tests.{ltb-false, ltb-true}
use Rattle.cube.specs.Tables.{tab}
use Rattle.cube.proofs.Bools.{by_cases, either}
use Rattle.cube.proofs.Count.{count_bound}
use Rattle.cube.proofs.Front.{get_d_tab, length_tab, tab_cong, tab_zeros}
use Rattle.rule.specs.Cabinet.{Cabinet, out}
use Rattle.figures.specs.Figures.{any_safe, columns, counters_of, cube_of, faults_of, figure, figures, pairs, tables, tally_of, total}
use Rattle.figures.specs.Sum.{sum}
use Rattle.figures.proofs.Sum.{sum_bound, sum_next, sum_zero}
use Rattle.counters.specs.Helpers.{Room, plus, table_adds}
use Rattle.counters.proofs.Tabled.{few_nodes, few_tables}

pairs_few : (K : Cabinet) (p : ℕ → ℕ → Bool) → pairs K p ≤ 2 ^ K.n * 2 ^ K.n
unfolding pairs
pairs_few K p =
    sum_bound (2 ^ K.n) (2 ^ K.n) _
    (λ s _. by_cases (λ (m : ℕ). m ≤ 2 ^ K.n) (out K s) (λ _. omega arith) (λ _. count_bound (2 ^ K.n) (λ d. not (out K d) && p s d)))

module _ (n : ℕ) where
  -- what the tables below t add to counter i
  abbrev added : (t i : ℕ) → ℕ
  added t i = sum t (λ u. table_adds n u i)

  -- the counters after these
  pub record Added (t : ℕ) (l : List ℕ) : Type 0 where
    pub counters : l ≡ tab (counters_of n) (added t)
    pub upto : t ≤ tables n

  pub none_added : Added 0 (replicate (counters_of n) 0)
  none_added =
      record {
        counters = sym (tab_zeros (counters_of n)) ∙ tab_cong (counters_of n) (λ _. 0) (added 0) (λ i _. sym (sum_zero (λ u. table_adds n u i)));
        upto = omega arith;
      }

module _ (n : ℕ) (dim : (1 ≤ n) × (n ≤ 4)) where
  walks : (t : ℕ) (p : ℕ → ℕ → Bool) → pairs (cube_of n t) p ≤ 256
  walks t p = omega (arith, pairs_few (cube_of n t) p, mul-le-mul (few_nodes n dim) (few_nodes n dim))

  figure_few : (c t : ℕ) → figure c (cube_of n t) ≤ 256
  unfolding figures
  figure_few zero t = omega arith
  figure_few (suc zero) t = by_cases (λ (m : ℕ). m ≤ 256) (any_safe (cube_of n t)) (λ _. omega arith) (λ _. omega arith)
  figure_few (suc (suc zero)) t = walks t _
  figure_few (suc (suc (suc zero))) t = walks t _
  figure_few (suc (suc (suc (suc zero)))) t = walks t _
  figure_few (suc (suc (suc (suc (suc zero))))) t = walks t _
  figure_few (suc (suc (suc (suc (suc (suc c)))))) t = omega arith

  table_adds_few : (t i : ℕ) → table_adds n t i ≤ 256
  table_adds_few t i =
      by_cases (λ (m : ℕ). m ≤ 256) (eqb (faults_of (cube_of n t)) (i / columns)) (λ _. figure_few (i % columns) t) (λ _. omega arith)

  module _ (t : ℕ) (l : List ℕ) (A : Added n t l) where
    pub added_length : length l ≡ counters_of n
    added_length = ap length A.counters ∙ length_tab (counters_of n) (added n t)

    pub added_room : Room (counters_of n) 512 l
    added_room = record { sized = added_length; below = λ i. go i (either (ltb i (counters_of n))) }
      where
        go : (i : ℕ) → (ltb i (counters_of n) ≡ true) ⊎ (ltb i (counters_of n) ≡ false) → get_or l i 0 + 512 < 2 ^ 32
        go i (inl e) =
            let h = ltb-true i (counters_of n) e in
            omega (
              arith,
              ap (λ (r : List ℕ). get_or r i 0) A.counters ∙ get_d_tab (counters_of n) (added n t) i h,
              sum_bound t 256 (λ u. table_adds n u i) (λ u _. table_adds_few u i),
              A.upto,
              few_tables n dim,
            )
        go i (inr e) =
            let z : get_or l i 0 ≡ 0 = get_or-eq_default l 0 (omega (arith, added_length, ltb-false i (counters_of n) e)) in
            omega (arith, z)

    pub one_added : (r : List ℕ) → t < tables n → r ≡ plus (counters_of n) (table_adds n t) l → Added n (t + 1) r
    unfolding plus
    one_added r h e =
        record {
          counters = e ∙ tab_cong (counters_of n) _ (added n (t + 1)) (λ i j.
              let here = ap (λ (s : List ℕ). get_or s i 0) A.counters ∙ get_d_tab (counters_of n) (added n t) i j in
              ap (λ (x : ℕ). x + table_adds n t i) here ∙ sym (sum_next t (λ u. table_adds n u i)));
          upto = omega arith;
        }

    pub all_added : tables n ≤ t → l ≡ tally_of n
    unfolding tally_of total
    all_added h = let e : t ≡ tables n = omega (arith, A.upto) in A.counters ∙ ap (λ (k : ℕ). tab (counters_of n) (added n k)) e
