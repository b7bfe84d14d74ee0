-- Locality. A walk stays in the cube, so it depends on the labels of the cube's nodes alone.
use mathlib.Core.Path.{◌≡◌, refl, sym, ap, ap₂, ◌∙◌}
use mathlib.Core.Bool.{cond, not}
use Prim.Native.Nat.{ℕ, zero, suc, ◌+◌, ◌^◌, ◌<◌}
use lib.Dec.{eqb, leb, ltb}
use Rattle.std.specs.Prelude.{Result, Ok, Err}
use Rattle.cube.specs.Cube.{flip}
use Rattle.cube.specs.Refused.{answered, number}
use Rattle.cube.specs.declared.refusals.Refusal.{Refusal}
use Rattle.cube.specs.Tables.{highest}
use Rattle.cube.proofs.Refused.{accepted}
use Rattle.cube.proofs.Search.{least_same, some_same}
use Rattle.cube.proofs.Cube.{flip_lt}
use Rattle.cube.proofs.Front.{tab_cong}
use Rattle.hop.specs.Helpers.{place_refusal}
use Rattle.hop.specs.declared.Decision.{Decision}
use Rattle.hop.specs.declared.Decision.TheVariants.{Deliver, Hop, Halted}
use Rattle.hop.proofs.Local.{hop_dim, hop_same}
use Rattle.hop.proofs.Refusals.{placed}
use Rattle.walk.specs.Local.{WalkLocal}
use Rattle.walk.specs.Walk.{onto, stops, spot, turn, hops, last, refused, route, row, row_bytes, walk_from, walk_refusal, walked}
use Rattle.walk.proofs.Refusals.{walk_answered, walk_misplaced}

-- where every hop is across one of the n dimensions, it stays in the cube
module _ (n : ℕ) (go : ℕ → Decision) (across : (x i : ℕ) → go x ≡ Hop i → i < n) (s : ℕ) (hs : s < 2 ^ n) where
  onto_lt : (x : ℕ) → x < 2 ^ n → onto (go x) x < 2 ^ n
  unfolding onto
  onto_lt x h = by (go x) refl
    where
      by : (k : Decision) → go x ≡ k → onto k x < 2 ^ n
      by Deliver e = h
      by Halted e = h
      by (Hop i) e = flip_lt n i x (across x i e) h

  stays : (k : ℕ) → spot go s k < 2 ^ n
  unfolding spot
  stays zero = hs
  stays (suc k) = onto_lt (spot go s k) (stays k)

  -- so one that decides alike at every node of the cube walks alike
  module _ (go' : ℕ → Decision) (same : (x : ℕ) → x < 2 ^ n → go x ≡ go' x) where
    spot_same : (k : ℕ) → spot go s k ≡ spot go' s k
    unfolding spot
    spot_same zero = refl
    spot_same (suc k) = ap (λ h. onto h (spot go s k)) (same (spot go s k) (stays k)) ∙ ap (λ x. onto (go' x) x) (spot_same k)

    turn_same : (k : ℕ) → turn go s k ≡ turn go' s k
    unfolding turn
    turn_same k = same (spot go s k) (stays k) ∙ ap go' (spot_same k)

    hops_same : hops n go s ≡ hops n go' s
    unfolding hops
    hops_same = least_same (n + 4) (λ k. stops (turn go s k)) (λ k. stops (turn go' s k)) (λ k _. ap stops (turn_same k))

    pub last_same : last n go s ≡ last n go' s
    unfolding last
    last_same = turn_same (hops n go s) ∙ ap (turn go' s) hops_same

    row_same : row n go s ≡ row n go' s
    unfolding row
    row_same =
        tab_cong 17 (λ k. cond (leb k (hops n go s)) (spot go s k) 0) (λ k. cond (leb k (hops n go' s)) (spot go' s k) 0)
        (λ k _. ap₂ (λ (h x : ℕ). cond (leb k h) x 0) hops_same (spot_same k))

    pub walk_same : walk_from n go s ≡ walk_from n go' s
    unfolding walk_from
    walk_same = rw (row_same, hops_same, last_same)

-- a hop is across one of them
module _ (n : ℕ) (lab : ℕ → ℕ) (d : ℕ) where
  pub route_across : (x i : ℕ) → route n lab d x ≡ Hop i → i < n
  route_across x i = hop_dim n lab x d i

  pub spot_lt : (s : ℕ) → s < 2 ^ n → (k : ℕ) → spot (route n lab d) s k < 2 ^ n
  spot_lt s hs = stays n (route n lab d) route_across s hs

-- and its refusals: nodes outside are refused before any label is looked at
module _ (n j s d m room : ℕ) (lab lab' : ℕ → ℕ) (same : (x : ℕ) → x < 2 ^ n → lab x ≡ lab' x) where
  inside_same : s < 2 ^ n → d < 2 ^ n → walked n j s d m room lab ≡ walked n j s d m room lab'
  unfolding walked walk_refusal
  inside_same hs hd =
      rw (
        some_same (2 ^ n) (λ x. ltb highest (lab x)) (λ x. ltb highest (lab' x)) (λ x h. ap (ltb highest) (same x h)),
        same s hs,
        same d hd,
        last_same n (route n lab d) (route_across n lab d) s hs (route n lab' d) decides,
        walk_same n (route n lab d) (route_across n lab d) s hs (route n lab' d) decides,
      )
    where
      decides : (x : ℕ) → x < 2 ^ n → route n lab d x ≡ route n lab' d x
      decides x h = hop_same n lab lab' x d (same x h) (λ i l. same (flip i x) (flip_lt n i x l h))

  walked_same : walked n j s d m room lab ≡ walked n j s d m room lab'
  walked_same = by (answered (place_refusal n j s d m (not (eqb room row_bytes))) 0) refl
    where
      by : (a : Result ℕ Refusal) → answered (place_refusal n j s d m (not (eqb room row_bytes))) 0 ≡ a
          → walked n j s d m room lab ≡ walked n j s d m room lab'
      by (Ok x) e = let p = placed n j s d m (not (eqb room row_bytes)) (accepted _ _ _ e).0 in inside_same p.first p.second
      by (Err r) e =
          sym (walk_answered n j s d m room lab (Err r) (sym (walk_misplaced n j s d m room lab 0 r e)) (refused (number r)) refl)
          ∙ walk_answered n j s d m room lab' (Err r) (sym (walk_misplaced n j s d m room lab' 0 r e)) (refused (number r)) refl

pub walk_local : WalkLocal
walk_local = walked_same
