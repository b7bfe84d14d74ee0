-- The refusals of a walk by networks, from those that the code finds one after the other: of the board, of what needs no label, of the labels, and 16 with
-- the walk. The question's table is these parts in a row, so the first part that refuses gives the number of the whole, and then the hop list is as it was.
use mathlib.Core.Path.{◌≡◌, refl, sym, ap, ◌∙◌}
use mathlib.Core.Bool.{Bool, true, false, not}
use mathlib.Core.List.{List, [], ◌∷◌, ◌++◌}
use Prim.Native.Nat.{ℕ, zero, suc, ◌^◌, ◌≤◌, ◌<◌}
use native.Mathlib.Omega.{arith}
use lib.ListN.{drop, length, take}
use lib.Seq.{take-append_seam}
use Rattle.cube.specs.Tables.{tab}
use borrow.Author.Tests.{ne_eqb}
use Rattle.std.specs.Prelude.{Result, Ok, Err}
use Rattle.cube.specs.Over.{over}
use Rattle.cube.specs.Refused as R
use Rattle.cube.specs.Refused.{answered, number}
use Rattle.cube.specs.declared.refusals.Refusal.{Refusal}
use Rattle.cube.specs.declared.refusals.Refusal.TheVariants.{Network}
use Rattle.cube.specs.Refusal.{Test, first, ◌⇒◌}
use Rattle.cube.proofs.Bools.{clash}
use Rattle.cube.proofs.Front.{front, length_tab}
use Rattle.cube.proofs.Refusal.{first_none, first_passes}
use Rattle.cube.proofs.Refused.{number_range, refusing}
use Rattle.hop.proofs.Refusals.{refuses_first}
use Rattle.hop.specs.declared.Decision.{Decision}
use Rattle.hop.specs.declared.Decision.TheVariants.{Deliver, Hop, Halted}
use Rattle.walk.specs.Helpers.{table_refusal}
use Rattle.walk.specs.Walk.{stops, table_tests}
use Rattle.blocks.specs.Board.{hop_list, hops_on, last_on, most_hops, number_at}
use Rattle.blocks.proofs.Board.{walks}
use Rattle.hop_networks.specs.Helpers.{board_refusal, list_refusal, list_tests}
use Rattle.hop_networks.specs.Hopping.{is_board}
use Rattle.hop_networks.proofs.Refusals.{board_passes, board_stops, list_passes, list_stops}
use Rattle.walk_networks.specs.Crossing.{cross_refusal, crossing, ended_by, hops_after, hops_of, made, refusal_of, too_short}
use Rattle.walk_networks.specs.declared.Crossed.{Crossed}
use Rattle.walk_networks.proofs.Steps.{most_few}

-- a number that refuses has its refusal
pub refused_for : {A : Type 0} (k : ℕ) (x : A) → (k ≡ 0 → ⊥) → answered k x ≡ Err (R.refusal k)
refused_for zero x h = absurd (h refl)
refused_for (suc k) x h = refl

refused_by : {A : Type 0} (k : ℕ) (x : A) (r : Refusal) → answered k x ≡ Err r → r ≡ R.refusal k
refused_by zero x r e = absurd (refusing zero x r e refl)
refused_by (suc k) x r e = cc

-- a walk that ends has its hop count, and one that does not end is refused
pub hops-of : (k : ℕ) (x : Decision) → stops x ≡ true → hops_of (ended_by k x) ≡ k
unfolding stops ended_by
hops-of k Deliver e = refl
hops-of k (Hop i) e = absurd (clash e refl)
hops-of k Halted e = refl

ended : (k : ℕ) (x : Decision) (c : Crossed) → ended_by k x ≡ Ok c → (stops x ≡ true) × (made c ≡ k)
unfolding stops ended_by
ended k Deliver c e = (refl, ap hops_of (sym e))
ended k (Hop i) c e = let z : ◌≡◌ {A = ℕ} 16 0 = ap refusal_of e in absurd (omega arith)
ended k Halted c e = (refl, ap hops_of (sym e))

lacked : (k : ℕ) (x : Decision) (r : Refusal) → ended_by k x ≡ Err r → (stops x ≡ false) × (r ≡ Network)
unfolding stops ended_by
lacked k Deliver r e = let z : 0 ≡ number r = ap refusal_of e in absurd (omega (arith, (number_range r).0))
lacked k (Hop i) r e = (refl, cc)
lacked k Halted r e = let z : 0 ≡ number r = ap refusal_of e in absurd (omega (arith, (number_range r).0))

pub hops_within : (k : ℕ) (x : Decision) → hops_of (ended_by k x) ≤ k
unfolding ended_by
hops_within k Deliver = omega arith
hops_within k (Hop i) = omega arith
hops_within k Halted = omega arith

-- so a walk that is found has no more hops than a walk may have
pub found_few : (n N : ℕ) (lab : ℕ → ℕ) (d s : ℕ) (c : Crossed) → 0 < N → s < 2 ^ n → Ok c ≡ ended_by (hops_on n N lab d s) (last_on n N lab d s)
    → made c ≤ most_hops n N
found_few n N lab d s c some hs e =
    omega (arith, ap hops_of e, hops_within (hops_on n N lab d s) (last_on n N lab d s), (walks n lab d s hs N some).within)

-- nor than there are places for, and so too where it is refused, with none
pub made_few : (n N : ℕ) (lab : ℕ → ℕ) (d s : ℕ) (r : Result Crossed Refusal) (count : ℕ) → (1 ≤ n) × (n ≤ 12) → (0 < N) × (N ≤ 5) → s < 2 ^ n
    → r ≡ ended_by (hops_on n N lab d s) (last_on n N lab d s) → count ≡ hops_of r → (count ≤ 120) × (count ≤ most_hops n N)
made_few n N lab d s r count dimension networks hs e ec =
    let w = walks n lab d s hs N networks.0 in
    let few : count ≤ most_hops n N = omega (arith, ec, ap hops_of e, hops_within (hops_on n N lab d s) (last_on n N lab d s), w.within) in
    (omega (arith, few, most_few n N dimension.1 networks.1), few)

module _ (n N j s d m : ℕ) (lab : ℕ → ℕ) (list : List ℕ) where
  abbrev refusal : ℕ
  refusal = cross_refusal n N j s d m (length list) lab

  abbrev answer : Result Crossed Refusal
  answer = crossing n N j s d m (length list) lab

  abbrev after : List ℕ
  after = hops_after n N j s d m lab list

  abbrev short : Bool
  short = too_short n N (length list)

  abbrev sixteen : List Test
  sixteen = not (stops (last_on n N lab d s)) ⇒ 16 ∷ []

  stops_with : {A : Type 0} (x : A) (r : Refusal) → answered refusal x ≡ Err r → (Err r ≡ answer) × (list ≡ after)
  unfolding crossing hops_after
  stops_with x r e = let h = refusing refusal x r e in let q = ne_eqb refusal 0 h in (ap Err (refused_by refusal x r e) ∙ rw q, rw q)

  pub unboarded : {A : Type 0} (x : A) (r : Refusal) → answered (board_refusal n (not (is_board N))) x ≡ Err r → (Err r ≡ answer) × (list ≡ after)
  unfolding cross_refusal
  unboarded x r e = stops_with x r (board_stops n (not (is_board N)) (list_tests n j s d m short ++ (table_tests n s d lab ++ sixteen)) x x r e)

  module _ (board : board_refusal n (not (is_board N)) ≡ 0) where
    past_board : refusal ≡ first (list_tests n j s d m short ++ (table_tests n s d lab ++ sixteen))
    unfolding cross_refusal
    past_board = board_passes n (not (is_board N)) (list_tests n j s d m short ++ (table_tests n s d lab ++ sixteen)) board

    pub unlisted : {A : Type 0} (x : A) (r : Refusal) → answered (list_refusal n j s d m short) x ≡ Err r → (Err r ≡ answer) × (list ≡ after)
    unlisted x r e = stops_with x r (rw past_board (list_stops n j s d m short (table_tests n s d lab ++ sixteen) x x r e))

    module _ (listed : list_refusal n j s d m short ≡ 0) where
      past_list : refusal ≡ first (table_tests n s d lab ++ sixteen)
      past_list = past_board ∙ list_passes n j s d m short (table_tests n s d lab ++ sixteen) listed

      pub unlabelled : {A : Type 0} (x : A) (r : Refusal) → answered (table_refusal n s d lab) x ≡ Err r → (Err r ≡ answer) × (list ≡ after)
      unfolding table_refusal
      unlabelled x r e = stops_with x r (rw past_list (refuses_first (table_tests n s d lab) sixteen x x r e))

      module _ (labelled : table_refusal n s d lab ≡ 0) where
        past_labels : refusal ≡ first sixteen
        unfolding table_refusal
        past_labels = past_list ∙ first_passes (table_tests n s d lab) sixteen (first_none 19 (table_tests n s d lab) refl labelled)

        -- a walk that is refused
        pub unwalked : (r : Refusal) → Err r ≡ ended_by (hops_on n N lab d s) (last_on n N lab d s) → (Err r ≡ answer) × (list ≡ after)
        unfolding first
        unwalked r e =
            let l = lacked (hops_on n N lab d s) (last_on n N lab d s) r (sym e) in
            let z : refusal ≡ 16 = past_labels ∙ rw l.0 in
            stops_with n r (rw (z, l.1))

        -- the hops that were found, written over the front of the list
        written : (found old : List ℕ) → found ≡ front (number_at n lab d s) (hops_on n N lab d s) old
            → take (hops_on n N lab d s) found ++ drop (hops_on n N lab d s) list ≡ over (hop_list n N lab d s) list
        unfolding front over hop_list
        written found old e =
            let long = length_tab (hops_on n N lab d s) (number_at n lab d s) in
            rw (e, long)
            (ap (λ (w : List ℕ). w ++ drop (hops_on n N lab d s) list)
            (rw long at (take-append_seam (tab (hops_on n N lab d s) (number_at n lab d s)) (drop (hops_on n N lab d s) old))))

        pub walked : (c : Crossed) (found old out : List ℕ) → Ok c ≡ ended_by (hops_on n N lab d s) (last_on n N lab d s)
            → found ≡ front (number_at n lab d s) (hops_on n N lab d s) old → out ≡ take (made c) found ++ drop (made c) list
            → (Ok c ≡ answer) × (out ≡ after)
        unfolding crossing hops_after first
        walked c found old out er ef eo =
            let l = ended (hops_on n N lab d s) (last_on n N lab d s) c (sym er) in
            let z : refusal ≡ 0 = past_labels ∙ rw l.0 in
            (er ∙ rw z, eo ∙ ap (λ (k : ℕ). take k found ++ drop k list) l.1 ∙ written found old ef ∙ rw z)
