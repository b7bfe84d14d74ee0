-- The refusals of a hop by networks, from those that the code finds one after the other: of the board, of what needs no label, of the labels, and 16 with the
-- decision. The question's table is these parts in a row, so the first part that refuses gives the number of the whole.
use mathlib.Core.Path.{◌≡◌, refl, sym, ◌∙◌}
use mathlib.Core.Logic.{⊎_elim}
use mathlib.Core.Bool.{Bool, true, false}
use mathlib.Core.List.{List, [], ◌∷◌, ◌++◌}
use Prim.Native.Nat.{ℕ, ◌^◌, ◌≤◌, ◌<◌}
use lib.Dec.{leb, ltb}
use borrow.Author.Tests.{eqb-true, leb-false, leb-true, ltb-false, ltb-true, not-false}
use Rattle.std.specs.Prelude.{Ok, Err}
use Rattle.cube.specs.declared.refusals.Refusal.{Refusal}
use Rattle.cube.specs.Cube.{flip}
use Rattle.cube.specs.Refusal.{Test, first, ◌⇒◌}
use Rattle.cube.specs.Refused.{answered}
use Rattle.cube.specs.Tables.{is_dimension}
use Rattle.cube.proofs.Bools.{and_true, either, or_false}
use Rattle.cube.proofs.Refusal.{first_none, first_passes}
use Rattle.cube.proofs.Tables.{dimension_is}
use Rattle.jobs.specs.Jobs.{is_job, label_bytes}
use Rattle.hop.specs.Helpers.{Asked, around, at_node, near_refusal}
use Rattle.cube.proofs.Refused.{accepted}
use Rattle.hop.specs.Hop.{job_tests, near_tests, node_tests}
use Rattle.hop.specs.declared.Decision.{Decision}
use Rattle.hop.proofs.Refusals.{refuses_first}
use Rattle.blocks.specs.Blocks.{decide_in, hop_in}
use Rattle.blocks.specs.Board.{beyond}
use Rattle.blocks.specs.Phase.{phase_of}
use Rattle.hop_networks.specs.Helpers.{board_refusal, decided_on, list_refusal, list_tests}
use Rattle.hop_networks.specs.Hopping.{board_tests, hop_refusal_in, hopped_in, is_board, lacks}

-- ---- what the tests show that pass

pub record Boarded (n N w g : ℕ) : Type 0 where
  pub small : n ≤ 12
  pub some : 0 < N
  pub few : N ≤ 5
  pub network : w < N
  pub direction : g ≤ 1

pub board_is : (N : ℕ) → is_board N ≡ true → (0 < N) × (N ≤ 5)
unfolding is_board
board_is N e = let r = and_true (leb 1 N) (leb N 5) e in (leb-true 1 N r.0, leb-true N 5 r.1)

pub boarded : (n N w g : ℕ) → is_dimension n ≡ true → lacks N w g ≡ false → Boarded n N w g
unfolding lacks
boarded n N w g e f =
    let r = or_false _ _ f in
    let b = board_is N (not-false _ r.0) in
    let t = or_false (leb N w) (ltb 1 g) r.1 in
    record { small = (dimension_is n e).1; some = b.0; few = b.1; network = leb-false N w t.0; direction = ltb-false 1 g t.1 }

pub board_good : (n : ℕ) (lacking : Bool) → board_refusal n lacking ≡ 0 → (is_dimension n ≡ true) × (lacking ≡ false)
unfolding board_refusal
board_good n lacking e = let t = first_none 19 (board_tests n lacking) refl e in (not-false _ t.0, t.1.0)

pub list_good : (n j a b m : ℕ) (short : Bool) → n ≤ 12 → list_refusal n j a b m short ≡ 0 → Asked n j a b m × (short ≡ false)
unfolding list_refusal is_job
list_good n j a b m short small e =
    let t = first_none 19 (list_tests n j a b m short) refl e in
    let r = or_false (leb (2 ^ n) a) (leb (2 ^ n) b) t.1.1.1.0 in (
      record {
        halved = record { small = small; job = ltb-true j 2 (not-false _ t.0); sized = eqb-true m (label_bytes n) (not-false _ t.1.0) };
        first = leb-false (2 ^ n) a r.0;
        second = leb-false (2 ^ n) b r.1;
      },
      t.1.1.0,
    )

-- ---- a row of tests, part by part

module _ (n : ℕ) (lacking : Bool) (more : List Test) where
  pub board_stops : {A B : Type 0} (x : A) (y : B) (r : Refusal) → answered (board_refusal n lacking) x ≡ Err r
      → answered (first (board_tests n lacking ++ more)) y ≡ Err r
  unfolding board_refusal
  board_stops x y r e = refuses_first (board_tests n lacking) more x y r e

  pub board_passes : board_refusal n lacking ≡ 0 → first (board_tests n lacking ++ more) ≡ first more
  unfolding board_refusal
  board_passes e = first_passes (board_tests n lacking) more (first_none 19 (board_tests n lacking) refl e)

module _ (n j a b m : ℕ) (short : Bool) (more : List Test) where
  pub list_stops : {A B : Type 0} (x : A) (y : B) (r : Refusal) → answered (list_refusal n j a b m short) x ≡ Err r
      → answered (first (list_tests n j a b m short ++ more)) y ≡ Err r
  unfolding list_refusal
  list_stops x y r e = refuses_first (list_tests n j a b m short) more x y r e

  pub list_passes : list_refusal n j a b m short ≡ 0 → first (list_tests n j a b m short ++ more) ≡ first more
  unfolding list_refusal
  list_passes e = first_passes (list_tests n j a b m short) more (first_none 19 (list_tests n j a b m short) refl e)

-- ---- the hop

module _ (n N j c d w g m : ℕ) (lab : ℕ → ℕ) where
  abbrev near : List Test
  near = near_tests n c d (lab c) (λ i. lab (flip i c))

  abbrev sixteen : List Test
  sixteen = beyond N (phase_of w g) c (hop_in n lab d (phase_of w g) c) ⇒ 16 ∷ []

  pub hop_unboarded : {A : Type 0} (x : A) (r : Refusal) → answered (board_refusal n (lacks N w g)) x ≡ Err r → Err r ≡ hopped_in n N j c d w g m lab
  unfolding hop_refusal_in hopped_in
  hop_unboarded x r e = sym (board_stops n (lacks N w g) ((job_tests n j m ++ node_tests n c d) ++ (near ++ sixteen)) x _ r e)

  module _ (board : board_refusal n (lacks N w g) ≡ 0) where
    -- a hop has no list that could be too short
    past_board : hop_refusal_in n N j c d w g m lab ≡ first (list_tests n j c d m false ++ (near ++ sixteen))
    unfolding hop_refusal_in first
    past_board = board_passes n (lacks N w g) ((job_tests n j m ++ node_tests n c d) ++ (near ++ sixteen)) board

    pub hop_unlisted : {A : Type 0} (x : A) (r : Refusal) → answered (list_refusal n j c d m false) x ≡ Err r → Err r ≡ hopped_in n N j c d w g m lab
    unfolding hopped_in
    hop_unlisted x r e = rw past_board (sym (list_stops n j c d m false (near ++ sixteen) x _ r e))

    module _ (listed : list_refusal n j c d m false ≡ 0) where
      past_list : hop_refusal_in n N j c d w g m lab ≡ first (near ++ sixteen)
      past_list = past_board ∙ list_passes n j c d m false (near ++ sixteen) listed

      hop_unlabelled : {A : Type 0} (x : A) (r : Refusal) → answered (first near) x ≡ Err r → Err r ≡ hopped_in n N j c d w g m lab
      unfolding hopped_in
      hop_unlabelled x r e = rw past_list (sym (refuses_first near sixteen x _ r e))

      pub hop_unread : (r : Refusal) → at_node n c d lab ≡ Err r → Err r ≡ hopped_in n N j c d w g m lab
      unfolding at_node near_refusal
      hop_unread r e = hop_unlabelled _ r e

      -- what was read at the node, where nothing is refused
      pub hop_read : (s : ℕ × ℕ × ℕ × ℕ × List ℕ) → at_node n c d lab ≡ Ok s → (first near ≡ 0) × (s ≡ around n c d lab)
      unfolding at_node near_refusal
      hop_read s e = let r = accepted _ _ _ e in (r.0, sym r.1)

      pub hop_decided : first near ≡ 0 → decided_on n N c d (phase_of w g) (lab c) (λ i. lab (flip i c)) ≡ hopped_in n N j c d w g m lab
      unfolding hopped_in decided_on hop_in first
      hop_decided e =
          ⊎_elim (λ (t : beyond N (phase_of w g) c decision ≡ true). rw (f, t)) (λ (t : beyond N (phase_of w g) c decision ≡ false). rw (f, t))
          (either (beyond N (phase_of w g) c decision))
        where
          decision : Decision
          decision = decide_in n c d (phase_of w g) (lab c) (λ i. lab (flip i c))

          f : hop_refusal_in n N j c d w g m lab ≡ first sixteen
          f = past_list ∙ first_passes near sixteen (first_none 19 near refl e)
