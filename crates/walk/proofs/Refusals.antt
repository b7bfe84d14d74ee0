-- The refusals of a walk, from those that the code finds one after the other: first what needs no label, then what the labels give, and 8 where the
-- walk would go on. The question's table is these parts in a row, so the first part that refuses gives the number of the whole.
use mathlib.Core.Path.{◌≡◌, refl, sym, ◌∙◌}
use mathlib.Core.Logic.{◌≢◌}
use mathlib.Core.Bool.{Bool, true, not}
use mathlib.Core.List.{List, ◌++◌}
use Prim.Native.Nat.{ℕ, ◌^◌, ◌≤◌, ◌<◌}
use native.Mathlib.Omega.{arith}
use lib.Dec.{eqb, ltb}
use Rattle.std.specs.Prelude.{Result, Err, Ok}
use Rattle.std.specs.Result.{MatchResult}
use borrow.Author.Tests.{eqb-false, eqb-true, leb-false, ltb-false, ne_eqb, not-false}
use Rattle.cube.specs.Refusal.{Test, first}
use Rattle.cube.specs.Refused.{answered, number}
use Rattle.cube.specs.declared.refusals.Refusal.{Refusal}
use Rattle.cube.specs.Tables.{highest, is_dimension}
use Rattle.cube.proofs.Bools.{by_cases}
use Rattle.cube.proofs.Refusal.{first_le, first_none, first_passes}
use Rattle.cube.proofs.Refused.{accepted, refuses, refusing}
use Rattle.cube.proofs.Search.{none_some}
use Rattle.hop.specs.Helpers.{Asked, place_refusal}
use Rattle.hop.proofs.Refusals.{good_place, misplaced, refuses_first, well_placed}
use Rattle.walk.specs.Helpers.{table_refusal, walk_asked, walk_or_refusal}
use Rattle.walk.specs.Walk.{hops_tests, last, refused, route, row_bytes, stops, table_tests, walk_from, walk_refusal, walk_tests, walked}
use Rattle.walk.specs.declared.Walked.{Walked}
use Rattle.walk.proofs.Steps.{hops_within}

module _ (n j s d m room : ℕ) (lab : ℕ → ℕ) where
  abbrev wrong : Bool
  wrong = not (eqb room row_bytes)

  abbrev eight : List Test
  eight = hops_tests n s d lab

  -- the walk, or the refused one
  pub walk_answered : (a : Result Walked Refusal) → a ≡ walk_asked n j s d m room lab → (w : Walked) → MatchResult a (λ x. w ≡ x) (λ r. w ≡ refused (number r))
      → w ≡ walked n j s d m room lab
  unfolding walk_asked walked walk_refusal first
  walk_answered (Ok x) e w h =
      let a = accepted (walk_refusal n j s d m room lab) (walk_from n (route n lab d) s) x (sym e) in
      h ∙ rw a.0 (sym a.1)
  walk_answered (Err r) e w h =
      let k = walk_refusal n j s d m room lab in
      let l : k ≤ 19 = first_le 19 (walk_tests n j s d m room lab) refl in
      let x = walk_from n (route n lab d) s in
      h ∙ rw (refuses k x r l (sym e), ne_eqb (number r) 0 (λ z. refusing k x r (sym e) (refuses k x r l (sym e) ∙ z)))

  -- a place that is refused is the whole answer
  pub walk_misplaced : {A : Type 0} (x : A) (r : Refusal) → answered (place_refusal n j s d m wrong) x ≡ Err r → walk_asked n j s d m room lab ≡ Err r
  unfolding walk_asked walk_refusal
  walk_misplaced x r e = misplaced n j s d m wrong (table_tests n s d lab ++ eight) x (walk_from n (route n lab d) s) r e

  module _ (good : place_refusal n j s d m wrong ≡ 0) where
    walk_placed : walk_refusal n j s d m room lab ≡ first (table_tests n s d lab ++ eight)
    unfolding walk_refusal
    walk_placed = well_placed n j s d m wrong (table_tests n s d lab ++ eight) good

    pub walk_refuses : {A : Type 0} (x : A) (r : Refusal) → answered (table_refusal n s d lab) x ≡ Err r → walk_asked n j s d m room lab ≡ Err r
    unfolding walk_asked table_refusal
    walk_refuses x r e = rw walk_placed (refuses_first (table_tests n s d lab) eight x (walk_from n (route n lab d) s) r e)

    pub walk_starts : table_refusal n s d lab ≡ 0 → walk_or_refusal n lab d s ≡ walk_asked n j s d m room lab
    unfolding walk_asked table_refusal walk_or_refusal
    walk_starts e = rw (walk_placed ∙ first_passes (table_tests n s d lab) eight (first_none 7 (table_tests n s d lab) refl e))

-- ---- what a walk has that is not refused: every test passes

pub record WalkGood (n j s d m room : ℕ) (lab : ℕ → ℕ) : Type 0 where
  pub dimension : is_dimension n ≡ true
  pub placed : Asked n j s d m
  pub lent : room ≡ row_bytes
  pub low : (x : ℕ) → x < 2 ^ n → lab x ≤ highest
  pub source : lab s ≤ 2
  pub target : lab d ≢ 3
  pub stops : stops (last n (route n lab d) s) ≡ true

module _ (n j s d m room : ℕ) (lab : ℕ → ℕ) where
  pub walk_good : walk_refusal n j s d m room lab ≡ 0 → WalkGood n j s d m room lab
  unfolding walk_refusal
  walk_good e =
      let t = first_none 19 (walk_tests n j s d m room lab) refl e in
      record {
        dimension = not-false _ t.0;
        placed = good_place n j s d m (not (eqb room row_bytes)) (table_tests n s d lab ++ eight n j s d m room lab) t;
        lent = eqb-true _ _ (not-false _ t.1.1.1.0);
        low = λ x h. ltb-false highest (lab x) (none_some (2 ^ n) (λ y. ltb highest (lab y)) t.1.1.1.1.1.0 x h);
        source = let l = leb-false 3 (lab s) t.1.1.1.1.1.1.0 in omega arith;
        target = eqb-false (lab d) 3 t.1.1.1.1.1.1.1.0;
        stops = not-false _ t.1.1.1.1.1.1.1.1.0;
      }

  -- so it has at most 16 hops, and the row a place for each of its nodes
  pub hops_few : (walked n j s d m room lab).hops ≤ 16
  unfolding walked walk_from refused
  hops_few =
      by_cases (λ (w : Walked). w.hops ≤ 16) (eqb (walk_refusal n j s d m room lab) 0)
      (λ e. omega (arith, (walk_good (eqb-true _ _ e)).placed.halved.small, hops_within n (route n lab d) s)) (λ _. omega arith)
