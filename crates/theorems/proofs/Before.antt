-- Where no node drains and the job closes none, nothing changed. Labelling is proofs/BeforeLabels.antt, and what is said of labels without a 4 proofs/NoFour.antt.
use mathlib.Core.Bool.{Bool, true, false, not}
use mathlib.Core.List.{List, [], ◌∷◌, ◌++◌}
use mathlib.Core.Logic.{⊎_elim, ◌≢◌}
use mathlib.Core.Path.{◌≡◌, refl, sym, ap, ◌∙◌}
use Prim.Native.Nat.{ℕ, zero, suc, ◌*◌, ◌^◌, ◌<◌}
use native.Mathlib.Decide.{ℕ_discrete}
use native.Mathlib.Omega.{arith}
use lib.Dec.{eqb, leb, ltb}
use lib.ListN.{get_or}
use borrow.Author.Tests.{eqb-true, eqb-false, ne_eqb, le-leb, lt-leb, ltb-false}
use Rattle.cube.specs.Count.{some}
use Rattle.cube.specs.Cube.{dist, flip}
use Rattle.cube.specs.Refusal.{Test, first, ◌⇒◌}
use Rattle.cube.specs.Tables.{highest}
use Rattle.cube.proofs.Bools.{either}
use Rattle.cube.proofs.Refusal.{first_stops}
use Rattle.cube.proofs.Search.{least_same, none_some, some_same}
use Rattle.jobs.proofs.Halves.{is-job}
use Rattle.scans.specs.Scans.{first_scan, forward, lowest, no_scan, suits, takes}
use Rattle.hop.specs.Helpers.{place_refusal, place_tests}
use Rattle.hop.specs.Hop.{decide, hop, hop_refusal, hopped, node_tests}
use Rattle.hop.proofs.Refusals.{placed}
use Rattle.walk.specs.Walk.{hops_tests, last, refused, route, row_bytes, stops, table_tests, walk_refusal, walked}
use Rattle.walk.proofs.Local.{last_same, route_across, walk_same}
use Rattle.theorems.specs.Before.{
  AsBefore,
  first_scan_then,
  hop_tests_then,
  hop_then,
  hopped_then,
  lowest_then,
  route_then,
  scan_of_then,
  scans_then,
  size_tests_then,
  suits_then,
  walk_tests_then,
  walked_then,
}
use Rattle.theorems.proofs.NoFour.{NoFour, above_same, none_first, not_four}
use Rattle.theorems.proofs.BeforeLabels.{label_then, labels_then, no_four, twice_same}

-- the tests that need no label
place_same : (n j : ℕ) → j < 2 → (s d m : ℕ) (wrong : Bool)
    → place_refusal n j s d (2 * m) wrong ≡ first (size_tests_then n m ++ (wrong ⇒ 2 ∷ node_tests n s d))
unfolding place_refusal first
place_same n j job s d m wrong = rw (is-job j job, twice_same n m)

module _ (n : ℕ) (lab : ℕ → ℕ) (none : NoFour lab) where
  -- scan 0 takes nothing, and the other lines have no lowest label but 0
  module _ (c d own : ℕ) where
    abbrev near : ℕ → ℕ
    near i = lab (flip i c)

    line : (s i : ℕ) → takes c d own near s i ≡ suits_then c d near (get_or (scans_then (dist c d) own) s (scan_of_then forward 0 false)) i
    unfolding takes suits
    line zero i = none_first n lab none c d own i
    line (suc zero) i = rw (le-leb 0 (near i) (omega arith))
    line (suc (suc zero)) i = rw (le-leb 0 (near i) (omega arith))
    line (suc (suc (suc zero))) i = rw (le-leb 0 (near i) (omega arith))
    line (suc (suc (suc (suc zero)))) i = rw (le-leb 0 (near i) (omega arith))
    line (suc (suc (suc (suc (suc zero))))) i = rw (le-leb 0 (near i) (omega arith))
    line (suc (suc (suc (suc (suc (suc s)))))) i = refl

    lowest_same : (s : ℕ) → lowest n c d own near s ≡ lowest_then n c d own near s
    unfolding lowest
    lowest_same s = least_same n (takes c d own near s) _ (λ i _. line s i)

    first_same : first_scan n c d own near ≡ first_scan_then n c d own near
    unfolding first_scan
    first_same =
        least_same no_scan (λ s. ltb (lowest n c d own near s) n) (λ s. ltb (lowest_then n c d own near s) n) (λ s _. ap (λ (k : ℕ). ltb k n) (lowest_same s))

  hop_same : (c d : ℕ) → hop n lab c d ≡ hop_then n lab c d
  unfolding hop decide
  hop_same c d = rw (first_same c d (lab c), lowest_same c d (lab c) (first_scan_then n c d (lab c) (λ i. lab (flip i c))))

  hop_refusal_same : (j : ℕ) → j < 2 → (c d m : ℕ) → hop_refusal n j c d (2 * m) lab ≡ first (hop_tests_then n c d m lab)
  unfolding hop_refusal first
  hop_refusal_same j job c d m =
      rw (
        is-job j job,
        twice_same n m,
        above_same (lab c) (none c),
        some_same n (λ i. ltb highest (lab (flip i c))) (λ i. ltb 3 (lab (flip i c))) (λ i _. above_same (lab (flip i c)) (none (flip i c))),
        not_four n lab none c,
      )

  hop-then : (j : ℕ) → j < 2 → (c d m : ℕ) → hopped n j c d (2 * m) lab ≡ hopped_then n c d m lab
  unfolding hopped
  hop-then j job c d m = rw (hop_refusal_same j job c d m, hop_same c d)

  -- ---- the walk

  module _ (j : ℕ) (job : j < 2) (s d m room : ℕ) where
    abbrev wrong : Bool
    wrong = not (eqb room row_bytes)

    abbrev high : Bool
    high = some (2 ^ n) (λ x. ltb 3 (lab x))

    high_same : some (2 ^ n) (λ x. ltb highest (lab x)) ≡ high
    high_same = some_same (2 ^ n) (λ x. ltb highest (lab x)) (λ x. ltb 3 (lab x)) (λ x _. above_same (lab x) (none x))

    module _ (hs : s < 2 ^ n) where
      last_then : last n (route n lab d) s ≡ last n (route_then n lab d) s
      last_then = last_same n (route n lab d) (route_across n lab d) s hs (route_then n lab d) (λ x _. hop_same x d)

      -- where no label is above 3, the source is out of work exactly where it is faulty
      source_same : high ≡ false → leb 3 (lab s) ≡ eqb (lab s) 3
      source_same f =
          let l = ltb-false 3 (lab s) (none_some (2 ^ n) (λ x. ltb 3 (lab x)) f s hs) in
          ⊎_elim (λ (t : eqb (lab s) 3 ≡ true). le-leb 3 (lab s) (omega (arith, eqb-true (lab s) 3 t)) ∙ sym t)
          (λ (t : eqb (lab s) 3 ≡ false). lt-leb 3 (lab s) (omega (arith, eqb-false (lab s) 3 t)) ∙ sym t) (either (eqb (lab s) 3))

      walk_refusal_same : walk_refusal n j s d (2 * m) room lab ≡ first (walk_tests_then n s d m room lab)
      unfolding walk_refusal first
      walk_refusal_same =
          ⊎_elim (λ (t : high ≡ true). rw (is-job j job, twice_same n m, high_same, t))
          (λ (t : high ≡ false). rw (is-job j job, twice_same n m, high_same, t, source_same t, last_then)) (either high)

      inside_then : walked n j s d (2 * m) room lab ≡ walked_then n s d m room lab
      unfolding walked
      inside_then = rw (walk_refusal_same, walk_same n (route n lab d) (route_across n lab d) s hs (route_then n lab d) (λ x _. hop_same x d))

    -- a place that is refused is the whole answer
    out_now : place_refusal n j s d (2 * m) wrong ≢ 0 → walked n j s d (2 * m) room lab ≡ refused (place_refusal n j s d (2 * m) wrong)
    unfolding walked walk_refusal place_refusal
    out_now e =
        let places : List Test = place_tests n j s d (2 * m) wrong in
        rw (first_stops places (table_tests n s d lab ++ hops_tests n s d lab) e, ne_eqb (first places) 0 e)

    walk_then : walked n j s d (2 * m) room lab ≡ walked_then n s d m room lab
    walk_then =
        elim (ℕ_discrete k 0) [
          | yes e ↦ inside_then (placed n j s d (2 * m) wrong e).first
          | no e ↦ out_now e ∙ sym (out_then e)
        ]
      where
        k : ℕ
        k = place_refusal n j s d (2 * m) wrong

        places : List Test
        places = size_tests_then n m ++ (wrong ⇒ 2 ∷ node_tests n s d)

        places_same : k ≡ first places
        places_same = place_same n j job s d m wrong

        rest : List Test
        rest = high ⇒ 4 ∷ eqb (lab s) 3 ⇒ 6 ∷ eqb (lab d) 3 ⇒ 7 ∷ not (stops (last n (route_then n lab d) s)) ⇒ 8 ∷ []

        out_then : k ≢ 0 → walked_then n s d m room lab ≡ refused k
        out_then e = rw (first_stops places rest (λ z. e (places_same ∙ z)) ∙ sym places_same, ne_eqb k 0 e)

pub as_before : (j : ℕ) → j < 2 → AsBefore j
as_before j job =
    record {
      label = λ n rule m faults. label_then n rule faults j job m;
      labels = λ n rule m faults before e. labels_then n rule faults j job m before e;
      no_four = no_four;
      hop = λ n c d m lab none. hop-then n lab none j job c d m;
      walk = λ n s d m room lab none. walk_then n lab none j job s d m room;
    }
