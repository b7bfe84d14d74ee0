-- Locality. A walk by networks stays in the cube, so it depends on the labels of the cube's nodes alone.
use mathlib.Core.Path.{◌≡◌, refl, sym, ap, ap₂, ◌∙◌}
use mathlib.Core.Bool.{not, ◌||◌}
use mathlib.Core.List.{List}
use Prim.Native.Nat.{ℕ, zero, suc, ◌^◌, ◌<◌}
use native.Mathlib.Decide.{ℕ_discrete}
use lib.Dec.{ltb}
use lib.ListN.{length}
use Rattle.cube.specs.Cube.{flip}
use Rattle.cube.specs.Refused.{refusal}
use Rattle.cube.specs.Tables.{highest}
use Rattle.cube.proofs.Cube.{flip_lt}
use Rattle.cube.proofs.Front.{tab_cong}
use Rattle.cube.proofs.Search.{least_same, some_same}
use Rattle.cube.proofs.Tables.{dimension_is}
use Rattle.hop.specs.Hop.{decision_value}
use Rattle.hop.specs.declared.Decision.{Decision}
use Rattle.hop.specs.declared.Decision.TheVariants.{Deliver, Hop, Halted}
use Rattle.walk.specs.Walk.{stops}
use Rattle.blocks.specs.Blocks.{hop_in}
use Rattle.blocks.specs.Board.{beyond, ends_on, hop_list, hops_on, last_on, most_hops, number_at, numbered}
use Rattle.blocks.specs.Course.{Place, moved, phase, place, spot, turn}
use Rattle.blocks.proofs.Rising.{dim_lt}
use Rattle.hop_networks.specs.Helpers.{board_refusal, list_refusal}
use Rattle.hop_networks.specs.Hopping.{is_board}
use Rattle.hop_networks.proofs.Local.{hop_in_same}
use Rattle.hop_networks.proofs.Refusals.{board_good, list_good}
use Rattle.walk_networks.specs.Crossing.{cross_refusal, crossing, hops_after, too_short}
use Rattle.walk_networks.specs.Local.{CrossingLocal}
use Rattle.walk_networks.proofs.Refusals.{refused_for, unboarded, unlisted}

module _ (n : ℕ) (lab lab' : ℕ → ℕ) (d s : ℕ) (hs : s < 2 ^ n) (same : (x : ℕ) → x < 2 ^ n → lab x ≡ lab' x) where
  -- it stays in the cube
  inside : (k : ℕ) → spot n lab d s k < 2 ^ n
  unfolding place moved
  inside zero = hs
  inside (suc k) = by (inside k) (turn n lab d s k) refl
    where
      by : spot n lab d s k < 2 ^ n → (x : Decision) → turn n lab d s k ≡ x → (moved x (place n lab d s k)).node < 2 ^ n
      by h Deliver e = h
      by h (Hop i) e = flip_lt n i (spot n lab d s k) (dim_lt n lab d (phase n lab d s k) (spot n lab d s k) i e) h
      by h Halted e = h

  decides : (p x : ℕ) → x < 2 ^ n → hop_in n lab d p x ≡ hop_in n lab' d p x
  decides p x h = hop_in_same n lab lab' x d (same x h) (λ i l. same (flip i x) (flip_lt n i x l h)) p

  place_same : (k : ℕ) → place n lab d s k ≡ place n lab' d s k
  unfolding place
  place_same zero = refl
  place_same (suc k) =
      ap (λ (x : Decision). moved x (place n lab d s k)) (decides (phase n lab d s k) (spot n lab d s k) (inside k))
      ∙ ap (λ (q : Place). moved (hop_in n lab' d q.phase q.node) q) (place_same k)

  turn_same : (k : ℕ) → turn n lab d s k ≡ turn n lab' d s k
  turn_same k =
      decides (phase n lab d s k) (spot n lab d s k) (inside k) ∙ ap (λ (q : Place). hop_in n lab' d q.phase q.node) (place_same k)

  hops_same : (N : ℕ) → hops_on n N lab d s ≡ hops_on n N lab' d s
  unfolding hops_on ends_on
  hops_same N =
      least_same (most_hops n N) (ends_on n N lab d s) (ends_on n N lab' d s)
      (λ k _. ap₂ (λ (q : Place) (x : Decision). stops x || beyond N q.phase q.node x) (place_same k) (turn_same k))

  last_same : (N : ℕ) → last_on n N lab d s ≡ last_on n N lab' d s
  unfolding last_on
  last_same N = turn_same (hops_on n N lab d s) ∙ ap (turn n lab' d s) (hops_same N)

  list_same : (N : ℕ) → hop_list n N lab d s ≡ hop_list n N lab' d s
  unfolding hop_list number_at
  list_same N =
      rw (hops_same N)
      (tab_cong (hops_on n N lab' d s) (number_at n lab d s) (number_at n lab' d s)
      (λ k _. ap₂ (λ (q : Place) (x : Decision). decision_value (numbered q.phase q.node x)) (place_same k) (turn_same k)))

-- and so do its refusals: nodes outside are refused before any label is looked at
module _ (n N j s d m : ℕ) (lab lab' : ℕ → ℕ) (same : (x : ℕ) → x < 2 ^ n → lab x ≡ lab' x) where
  inside_same : s < 2 ^ n → d < 2 ^ n → (room : ℕ) → cross_refusal n N j s d m room lab ≡ cross_refusal n N j s d m room lab'
  unfolding cross_refusal
  inside_same hs hd room =
      rw (
        some_same (2 ^ n) (λ x. ltb highest (lab x)) (λ x. ltb highest (lab' x)) (λ x h. ap (ltb highest) (same x h)),
        same s hs,
        same d hd,
        last_same n lab lab' d s hs same N,
      )

  answer_same : s < 2 ^ n → d < 2 ^ n → (room : ℕ) → crossing n N j s d m room lab ≡ crossing n N j s d m room lab'
  unfolding crossing
  answer_same hs hd room = rw (inside_same hs hd room, hops_same n lab lab' d s hs same N, last_same n lab lab' d s hs same N)

  after_same : s < 2 ^ n → d < 2 ^ n → (list : List ℕ) → hops_after n N j s d m lab list ≡ hops_after n N j s d m lab' list
  unfolding hops_after
  after_same hs hd list = rw (inside_same hs hd (length list), list_same n lab lab' d s hs same N)

  -- where the board or the place is refused, no label counts
  both : (list : List ℕ)
      → (crossing n N j s d m (length list) lab ≡ crossing n N j s d m (length list) lab') × (hops_after n N j s d m lab list ≡ hops_after n N j s d m lab' list)
  both list =
      elim (ℕ_discrete b 0) [
        | yes e ↦ elim (ℕ_discrete l 0) [
          | yes h ↦
              let p = (list_good n j s d m (too_short n N (length list)) (dimension_is n (board_good n (not (is_board N)) e).0).1 h).0 in
              (answer_same p.first p.second (length list), after_same p.first p.second list)
          | no h ↦
              let x = unlisted n N j s d m lab list e n (refusal l) (refused_for l n h) in
              let y = unlisted n N j s d m lab' list e n (refusal l) (refused_for l n h) in
              (sym x.0 ∙ y.0, sym x.1 ∙ y.1)
        ]
        | no e ↦
            let x = unboarded n N j s d m lab list n (refusal b) (refused_for b n e) in
            let y = unboarded n N j s d m lab' list n (refusal b) (refused_for b n e) in
            (sym x.0 ∙ y.0, sym x.1 ∙ y.1)
      ]
    where
      b : ℕ
      b = board_refusal n (not (is_board N))

      l : ℕ
      l = list_refusal n j s d m (too_short n N (length list))

pub crossing_local : CrossingLocal
crossing_local n N j s d m lab lab' same = both n N j s d m lab lab' same
