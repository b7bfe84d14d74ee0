-- The six counters of a table's number of faults: one table more, one more without a safe node where it has none, and the walks of the four kinds.
use mathlib.Core.Bool.{Bool, true, false, cond}
use mathlib.Core.List.{List, ◌++◌}
use mathlib.Core.Logic.{◌≢◌}
use mathlib.Core.Path.{◌≡◌, refl, sym, ap, subst, ◌∙◌}
use Prim.Native.Nat.{ℕ, zero, suc, ◌+◌, ◌-◌, ◌*◌, ◌^◌, ◌≤◌, ◌<◌}
use native.Mathlib.Nat.{mul-le-mul}
use native.Mathlib.Omega.{arith}
use lib.Dec.{eqb}
use lib.ListN.{drop, get_or, length, set, take}
use lib.Pow.{pow_mono}
use Rattle.cube.specs.Count.{count}
use Rattle.cube.specs.Tables.{label_count}
use Rattle.cube.proofs.Count.{counted, none_counted}
use Rattle.cube.proofs.Search.{some_hit, some_none}
use Rattle.jobs.specs.Jobs.{half}
use Rattle.rule.specs.Cabinet.{Cabinet, plain}
use Rattle.rule.proofs.Cabinet.{labels_length}
use Rattle.theorems.specs.Words.{label_at}
use Rattle.figures.specs.Figures.{any_safe, figure, figures, walks_of}
use Rattle.counters.specs.Helpers.{Room, Tallying, plus}
use Rattle.counters.proofs.Adding.{in_part, part_room, plus_length, plus_one, plus_part, plus_room, plus_same, plus_then, room_less}

-- how many nodes of the table have a label
pub label-count : (n : ℕ) (faults labels : List ℕ) → Tallying n faults labels → (k : ℕ)
    → label_count (half 0 (2 ^ n) labels) k ≡ count (2 ^ n) (λ x. eqb (label_at (plain n 3 faults) x) k)
label-count n faults labels T k =
    ap (λ (h : List ℕ). label_count h k) T.labelled
    ∙ ap (λ (m : ℕ). count m (λ x. eqb (label_at (plain n 3 faults) x) k)) (labels_length (plain n 3 faults))

-- what is added to the first two counters, where some node is safe or none is
abbrev pub first_two : (safe : Bool) (i : ℕ) → ℕ
first_two safe i = cond (eqb i 0) 1 0 + cond (eqb i 1) (cond safe 0 1) 0

module _ (n : ℕ) (faults labels : List ℕ) (T : Tallying n faults labels) where
  abbrev K : Cabinet
  K = plain n 3 faults

  none_safe : label_count (half 0 (2 ^ n) labels) 0 ≡ 0 → any_safe K ≡ false
  none_safe e = some_none (2 ^ n) _ (none_counted (2 ^ n) (λ x. eqb (label_at K x) 0) (sym (label-count n faults labels T 0) ∙ e))

  some_safe : label_count (half 0 (2 ^ n) labels) 0 ≢ 0 → any_safe K ≡ true
  some_safe d =
      let (x, h, e) = counted (2 ^ n) (λ x. eqb (label_at K x) 0) (omega (arith, d, label-count n faults labels T 0)) in
      some_hit (2 ^ n) (λ x. eqb (label_at K x) 0) x h e

  module _ (l : List ℕ) (R : Room 6 512 l) where
    abbrev tabled : List ℕ
    tabled = set l 0 (get_or l 0 0 + 1)

    tabled_is : tabled ≡ plus 6 (λ i. cond (eqb i 0) 1 0) l
    tabled_is = plus_one 6 l R.sized 0 1 (omega arith)

    pub tabled_room : Room 6 256 tabled
    tabled_room = subst (Room 6 256) (sym tabled_is) (plus_room 6 (λ i. cond (eqb i 0) 1 0) l 512 256 R (λ i _. few (eqb i 0)) (omega arith))
      where
        few : (b : Bool) → cond b 1 0 + 256 ≤ 512
        few true = omega arith
        few false = omega arith

    pub with_none : label_count (half 0 (2 ^ n) labels) 0 ≡ 0 → set tabled 1 (get_or tabled 1 0 + 1) ≡ plus 6 (first_two (any_safe K)) l
    with_none e =
        let none = none_safe e in
        plus_one 6 tabled tabled_room.sized 1 1 (omega arith) ∙ ap (plus 6 (λ i. cond (eqb i 1) 1 0)) tabled_is
        ∙ plus_then 6 (λ i. cond (eqb i 0) 1 0) l (λ i. cond (eqb i 1) 1 0) ∙ rw none refl

    pub with_some : label_count (half 0 (2 ^ n) labels) 0 ≢ 0 → tabled ≡ plus 6 (first_two (any_safe K)) l
    with_some d =
        let found = some_safe d in
        tabled_is ∙ plus_same 6 _ l (first_two (any_safe K)) (λ i _. rw found (zero_more (eqb i 0) (eqb i 1)))
      where
        zero_more : (a b : Bool) → cond a 1 0 ≡ cond a 1 0 + cond b 0 0
        zero_more a true = omega arith
        zero_more a false = omega arith

    -- the last four
    module _ (row : List ℕ) (e : row ≡ plus 6 (first_two (any_safe K)) l) where
      pub row_length : length row ≡ 6
      row_length = ap length e ∙ plus_length 6 (first_two (any_safe K)) l

      pub walks_room : Room 4 (2 ^ n * 2 ^ n) (take (length row - 2) (drop 2 row))
      walks_room =
          let four : length row - 2 ≡ 4 = omega (arith, row_length) in
          let few : 2 ^ n ≤ 16 = pow_mono {i = n} {j = 4} T.small.1 in
          let R₂ = subst (Room 6 256) (sym e) (plus_room 6 (first_two (any_safe K)) l 512 256 R (λ i _. two (eqb i 0) (eqb i 1) (any_safe K)) (omega arith)) in
          rw four (room_less 4 256 (2 ^ n * 2 ^ n) _ (mul-le-mul few few) (part_room 6 row row_length 2 4 (omega arith) 256 R₂))
        where
          bit : (a : Bool) (x : ℕ) → x ≤ 1 → cond a x 0 ≤ 1
          bit true x h = h
          bit false x h = omega arith

          two : (a b c : Bool) → cond a 1 0 + cond b (cond c 0 1) 0 + 256 ≤ 512
          two a b true = omega (arith, bit a 1 (omega arith), bit b 0 (omega arith))
          two a b false = omega (arith, bit a 1 (omega arith), bit b 1 (omega arith))

      six : (i : ℕ) → i < 6 → first_two (any_safe K) i + in_part 2 4 (walks_of K) i ≡ figure i K
      unfolding figures
      six zero _ = refl
      six (suc zero) _ = omega arith
      six (suc (suc zero)) _ = omega arith
      six (suc (suc (suc zero))) _ = omega arith
      six (suc (suc (suc (suc zero)))) _ = omega arith
      six (suc (suc (suc (suc (suc zero))))) _ = omega arith
      six (suc (suc (suc (suc (suc (suc i)))))) h = absurd (omega arith)

      pub row_done : (r : List ℕ) → r ≡ plus 4 (walks_of K) (take (length row - 2) (drop 2 row))
          → take 2 row ++ (r ++ drop (length row - 2) (drop 2 row)) ≡ plus 6 (λ c. figure c K) l
      row_done r f =
          let four : length row - 2 ≡ 4 = omega (arith, row_length) in
          rw four
          (plus_part 6 row row_length 2 4 (omega arith) (walks_of K) r (rw four at f) ∙ ap (plus 6 (in_part 2 4 (walks_of K))) e
          ∙ plus_then 6 (first_two (any_safe K)) l (in_part 2 4 (walks_of K)) ∙ plus_same 6 _ l (λ c. figure c K) six)
