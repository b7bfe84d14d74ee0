-- No text has more than 12,913 bytes. The nodes are gone through from the last to the first, each put in front of the runs behind it, and three bounds are
-- kept of the bytes of runs from a node on, each run counted with a comma. A node that joins a run gives it its first number, and where the run was one node,
-- a dash; one that stands alone needs its number, and that the next node is not faulty. The bounds for 4,096 nodes are computed, and hold for fewer.
use mathlib.Core.Path.{◌≡◌, refl, ap, ◌∙◌}
use mathlib.Core.Bool.{Bool, true, cond}
use mathlib.Core.List.{List, [], ◌∷◌}
use Prim.Native.Nat.{ℕ, zero, suc, ◌+◌, ◌-◌, ◌/◌, ◌^◌, ◌≤◌, ◌<◌, max}
use native.Mathlib.Omega.{arith}
use native.Mathlib.Decide.{ℕ_discrete}
use lib.Dec.{ltb}
use lib.ListN.{length, length-append}
use borrow.Author.Tests.{ltb-true, ltb-false, eq-eqb, ne_eqb}
use Rattle.cube.specs.Tables.{node_bit}
use Rattle.cube.proofs.Bools.{by_cases}
use Rattle.cube.proofs.Tables.{nodes_few}
use Rattle.spelling.specs.Spelled.{having}
use Rattle.spelling.proofs.Having.{having_rises}
use Rattle.ranges.specs.Grammar.{dash}
use Rattle.ranges.specs.Laws.{runs_rise}
use Rattle.ranges.specs.Written.{decimal, entry_text, entry_texts, behind, joined, join_run, grouped, list_text}
use Rattle.ranges.proofs.Decimal.{decimal_small, decimal_large}
use Rattle.ranges.proofs.Runs.{FirstRun, first_run, grouped_rises, join_apart, join_next, runs_from}

-- ---- the digits of a node

unfoldable pub width : ℕ → ℕ
width v = cond (ltb v 10) 1 (cond (ltb v 100) 2 (cond (ltb v 1000) 3 4))

one_digit : (v : ℕ) → v < 10 → length (decimal v) ≡ 1
one_digit v h = rw (decimal_small v h)

digit_more : (v : ℕ) → 10 ≤ v → length (decimal v) ≡ length (decimal (v / 10)) + 1
digit_more v h = rw (decimal_large v h) (length-append (decimal (v / 10)) _)

width_is : (v : ℕ) → v < 10000 → length (decimal v) ≡ width v
unfolding width
width_is v small =
    by_cases Wide (ltb v 10) (λ t. one_digit v (ltb-true v 10 t))
    (λ t. let a = ltb-false v 10 t in by_cases Wide (ltb v 100) (λ u. let b = ltb-true v 100 u in two v a b)
    (λ u. let b = ltb-false v 100 u in by_cases Wide (ltb v 1000) (λ w. let c = ltb-true v 1000 w in three v b c)
    (λ w. let c = ltb-false v 1000 w in digit_more v a ∙ omega (arith, three (v / 10) (omega arith) (omega arith)))))
  where
    Wide : ℕ → Type 0
    Wide w = length (decimal v) ≡ w

    two : (v : ℕ) → 10 ≤ v → v < 100 → length (decimal v) ≡ 2
    two v a b = digit_more v a ∙ omega (arith, one_digit (v / 10) (omega arith))

    three : (v : ℕ) → 100 ≤ v → v < 1000 → length (decimal v) ≡ 3
    three v b c = digit_more v (omega arith) ∙ omega (arith, two (v / 10) (omega arith) (omega arith))

-- ---- the bytes of runs, each counted with a comma

unfoldable pub cost : List (ℕ × ℕ) → ℕ
cost runs = length (behind (entry_texts runs))

pub cost_cons : (x y : ℕ) (more : List (ℕ × ℕ)) → cost ((x, y) ∷ more) ≡ length (entry_text x y) + 1 + cost more
unfolding cost behind entry_texts
cost_cons x y more = omega (arith, length-append (entry_text x y) (behind (entry_texts more)))

pub cost_lone : (x : ℕ) (more : List (ℕ × ℕ)) → x < 10000 → cost ((x, x) ∷ more) ≡ width x + 1 + cost more
unfolding entry_text
cost_lone x more h = cost_cons x x more ∙ rw (eq-eqb x x refl, width_is x h)

pub cost_range : (x y : ℕ) (more : List (ℕ × ℕ)) → x < y → y < 10000 → cost ((x, y) ∷ more) ≡ width x + width y + 2 + cost more
unfolding entry_text
cost_range x y more h l =
    cost_cons x y more
    ∙ rw (ne_eqb x y (λ z. omega arith), length-append (decimal x) (dash ∷ decimal y), width_is x (omega arith), width_is y l) (omega arith)

-- a text has no comma in front of its first entry
pub joined_length : (ps : List (List ℕ)) → length (joined ps) ≡ length (behind ps) - 1
unfolding joined behind
joined_length [] = refl
joined_length (p ∷ more) = omega arith

pub text_cost : (runs : List (ℕ × ℕ)) → length (joined (entry_texts runs)) ≡ cost runs - 1
unfolding cost
text_cost runs = joined_length (entry_texts runs)

-- ---- the bounds

-- of runs from a node on: of any; of those that begin behind it; and, of those whose first begins at it, of what stands behind the first number, where a node
-- in front joins that run
abbrev next : (k : ℕ) → ℕ × ℕ × ℕ → ℕ × ℕ × ℕ
next k t = (max t.0 (width k + max (1 + t.1) t.2), t.0, max (width k + 2 + t.1) t.2)

-- of the last nodes of 4,096
unfoldable bounds : (rest : ℕ) → ℕ × ℕ × ℕ
bounds zero = (0, 0, 0)
bounds (suc rest) = next (4095 - rest) (bounds rest)

abbrev Run : (k m : ℕ) → List (ℕ × ℕ) → Type 0
Run k m [] = 0 ≤ m
Run k m (r ∷ more) = r.0 ≡ k → width r.1 + 2 + cost more ≤ m

record Bounded (k size : ℕ) (runs : List (ℕ × ℕ)) (t : ℕ × ℕ × ℕ) : Type 0 where
  any : cost runs ≤ t.0
  past : runs_rise (k + 1) size runs ≡ true → cost runs ≤ t.1
  run : Run k t.2 runs

pub cost_none : cost [] ≡ 0
unfolding cost behind entry_texts
cost_none = refl

-- ---- one node more

-- one that is not faulty
past_node : (k size : ℕ) (runs : List (ℕ × ℕ)) (t : ℕ × ℕ × ℕ) → runs_rise (k + 1) size runs ≡ true → Bounded (k + 1) size runs t
    → Bounded k size runs (next k t)
past_node k size runs t up b = let all = b.any in record { any = omega arith; past = λ _. b.any; run = later runs up }
  where
    later : (runs : List (ℕ × ℕ)) → runs_rise (k + 1) size runs ≡ true → Run k (next k t).2 runs
    later [] up = omega arith
    later (r ∷ more) up = λ (e : r.0 ≡ k). absurd (omega (arith, (first_run (k + 1) size r more up).from))

-- one that is: the runs that begin with it
module _ (k size : ℕ) (few : size ≤ 4096) (here : k < size) (t : ℕ × ℕ × ℕ) where
  not_past : (y : ℕ) (more : List (ℕ × ℕ)) → runs_rise (k + 1) size ((k, y) ∷ more) ≡ true → ⊥
  not_past y more up = omega (arith, (first_run (k + 1) size (k, y) more up).from)

  lone_node : (more : List (ℕ × ℕ)) → cost more ≤ t.1 → Bounded k size ((k, k) ∷ more) (next k t)
  lone_node more h = record {
    any = omega (arith, cost_lone k more (omega arith));
    past = λ up. absurd (not_past k more up);
    run = λ _. omega arith;
  }

  longer_run : (y : ℕ) (more : List (ℕ × ℕ)) → k < y → y < size → width y + 2 + cost more ≤ t.2 → Bounded k size ((k, y) ∷ more) (next k t)
  longer_run y more l below h = record {
    any = omega (arith, cost_range k y more l (omega arith));
    past = λ up. absurd (not_past y more up);
    run = λ _. omega arith;
  }

  join_node : (runs : List (ℕ × ℕ)) → runs_rise (k + 1) size runs ≡ true → Bounded (k + 1) size runs t → Bounded k size (join_run k runs) (next k t)
  unfolding join_run
  join_node [] up b = lone_node [] (omega (arith, cost_none))
  join_node (r ∷ more) up b = go (first_run (k + 1) size r more up) (ℕ_discrete r.0 (k + 1))
    where
      go : FirstRun (k + 1) size r more → Dec (r.0 ≡ k + 1) → Bounded k size (join_run k (r ∷ more)) (next k t)
      go f (yes e) = rw (join_next k r more e) (longer_run r.1 more (omega (arith, f.ordered)) f.below (b.run e))
      go f (no d) =
          rw (join_apart k r more d) (lone_node (r ∷ more) (b.past (runs_from (k + 1) (k + 1 + 1) size r more f (omega (arith, f.from)))))

-- ---- all nodes

bounds_at : (k : ℕ) → k < 4096 → bounds (4096 - k) ≡ next k (bounds (4096 - (k + 1)))
unfolding bounds
bounds_at k h =
    let z : 4096 - k ≡ suc (4096 - (k + 1)) = omega arith in
    let q : 4095 - (4096 - (k + 1)) ≡ k = omega arith in
    ap bounds z ∙ ap (λ (j : ℕ). next j (bounds (4096 - (k + 1)))) q

module _ (size : ℕ) (few : size ≤ 4096) (p : ℕ → Bool) where
  nodes_bounded : (left k : ℕ) → k + left ≡ size → Bounded k size (grouped (having left k p)) (bounds (4096 - k))
  unfolding having grouped
  nodes_bounded zero k e = record { any = omega (arith, cost_none); past = λ _. omega (arith, cost_none); run = omega arith }
  nodes_bounded (suc left) k e =
      let more : List ℕ = having left (k + 1) p in
      let up = grouped_rises (k + 1) size more (having_rises size p left (k + 1) (omega arith)) in
      let b = nodes_bounded left (k + 1) (omega arith) in
      rw (bounds_at k (omega arith))
      (by_cases (λ (l : List ℕ). Bounded k size (grouped l) (next k (bounds (4096 - (k + 1))))) (p k)
      (λ _. join_node k size few (omega arith) (bounds (4096 - (k + 1))) (grouped more) up b)
      (λ _. past_node k size (grouped more) (bounds (4096 - (k + 1))) up b))

most : (bounds 4096).0 ≡ 12914
unfolding bounds width
most = refl

pub short : (n : ℕ) (faults : List ℕ) → n ≤ 12 → length (list_text n faults) ≤ 12913
unfolding list_text
short n faults h =
    let b = nodes_bounded (2 ^ n) (nodes_few n h) (node_bit faults) (2 ^ n) 0 (omega arith) in
    omega (arith, text_cost (grouped (having (2 ^ n) 0 (node_bit faults))), b.any, most)
