-- Every walk, WHATEVER THE LABELS, good or not: its phase never goes back, and its height rises with every hop. So a walk with the networks below
-- N has at most 2 * n * N hops, no channel is used twice, and no messages wait for one another in a circle (the condition of Dally and Seitz): the
-- channels stand in an order that rises from the channel that a message holds to the one that it wants.
use mathlib.Core.Path.{◌≡◌, refl, ap, ◌∙◌}
use mathlib.Core.Logic.{◌⊎◌, inl, inr, ⊎_elim, ◌≢◌}
use mathlib.Core.Bool.{true, false}
use Prim.Native.Nat.{ℕ, zero, suc, ◌*◌, ◌^◌, ◌≤◌, ◌<◌}
use native.Mathlib.Omega.{arith}
use native.Mathlib.Nat.{eq-or-lt_of_le, mul-le-mul_right}
use lib.Count.{ones}
use Rattle.cube.specs.Cube.{flip}
use Rattle.cube.proofs.Count.{below_suc}
use Rattle.cube.proofs.Cube.{flip_lt}
use Rattle.walk.specs.Walk.{stops}
use Rattle.hop.specs.declared.Decision.{Decision}
use Rattle.hop.specs.declared.Decision.TheVariants.{Deliver, Hop}
use Rattle.blocks.specs.Phase.{down, after, height, channel, order}
use Rattle.blocks.specs.Blocks.{hop_in}
use Rattle.blocks.specs.Course.{channel_at, moved, place, spot, phase, turn, Runs}
use Rattle.blocks.proofs.Phases.{keeps_or_adds, height_le, rises, after_ones, order_is}
use Rattle.blocks.proofs.Calls.{hop_dim}

pub stops_deliver : {h : Decision} → h ≡ Deliver → stops h ≡ true
unfolding stops
stops_deliver e = ap stops e

pub stops_hop : {h : Decision} (i : ℕ) → h ≡ Hop i → stops h ≡ false
unfolding stops
stops_hop i e = ap stops e

hop_same : {h : Decision} (i j : ℕ) → h ≡ Hop i → h ≡ Hop j → i ≡ j
hop_same i j e f = cc

-- a hop is across a dimension of the cube
pub dim_lt : (n : ℕ) (lab : ℕ → ℕ) (d p c i : ℕ) → hop_in n lab d p c ≡ Hop i → i < n
dim_lt n lab d p c i e = let r = hop_dim n lab d p c (stops_hop i e) in omega (arith, hop_same i r.0 e r.2)

module _ (n : ℕ) (lab : ℕ → ℕ) (d s : ℕ) where
  pub spot_zero : spot n lab d s 0 ≡ s
  unfolding place
  spot_zero = refl

  pub phase_zero : phase n lab d s 0 ≡ 0
  unfolding place
  phase_zero = refl

  pub place_suc :
      (k i : ℕ) → turn n lab d s k ≡ Hop i
      → place n lab d s (suc k) ≡ record { node = flip i (spot n lab d s k); phase = after (phase n lab d s k) (spot n lab d s k) i }
  unfolding place moved
  place_suc k i e = ap (λ h. moved h (place n lab d s k)) e

  -- how high the walk is after k hops
  abbrev high : ℕ → ℕ
  high k = height n (phase n lab d s k) (spot n lab d s k)

  module _ (hs : s < 2 ^ n) where
    -- one hop of a walk
    pub record Step (k : ℕ) : Type 0 where
      pub dim : ℕ
      pub dim_below : dim < n
      pub decided : turn n lab d s k ≡ Hop dim
      pub node_is : spot n lab d s (suc k) ≡ flip dim (spot n lab d s k)
      pub phase_is : phase n lab d s (suc k) ≡ after (phase n lab d s k) (spot n lab d s k) dim

    pub step : (k : ℕ) → stops (turn n lab d s k) ≡ false → Step k
    step k e =
        let r = hop_dim n lab d (phase n lab d s k) (spot n lab d s k) e in
        let q = place_suc k r.0 r.2 in
        record { dim = r.0; dim_below = r.1; decided = r.2; node_is = ap (λ x. x.node) q; phase_is = ap (λ x. x.phase) q }

    pub node_lt : (k : ℕ) → Runs n lab d s k → spot n lab d s k < 2 ^ n
    node_lt zero f = rw spot_zero hs
    node_lt (suc k) f =
        let r = step k (f k (omega arith)) in
        rw r.node_is (flip_lt n r.dim (spot n lab d s k) r.dim_below (node_lt k (λ j h. f j (omega arith))))

    -- a hop keeps the phase or adds one
    pub phase_step : (k : ℕ) → Runs n lab d s (suc k) → (phase n lab d s (suc k) ≡ phase n lab d s k) ⊎ (phase n lab d s (suc k) ≡ suc (phase n lab d s k))
    phase_step k f =
        let r = step k (f k (omega arith)) in
        ⊎_elim (λ e. inl (r.phase_is ∙ e)) (λ e. inr (r.phase_is ∙ e)) (keeps_or_adds (phase n lab d s k) (spot n lab d s k) r.dim)

    pub high_step : (k : ℕ) → Runs n lab d s (suc k) → high k < high (suc k)
    high_step k f =
        let r = step k (f k (omega arith)) in
        rw (r.node_is, r.phase_is) (rises n (phase n lab d s k) (spot n lab d s k) r.dim (node_lt k (λ j h. f j (omega arith))) r.dim_below)

    pub high_rises : (j k : ℕ) → j < k → Runs n lab d s k → high j < high k
    high_rises j zero h f = absurd (omega arith)
    high_rises j (suc k) h f = go (high_rises j k) (high_step k f) (below_suc h)
      where
        go : (j < k → Runs n lab d s k → high j < high k) → high k < high (suc k) → (j ≡ k) ⊎ (j < k) → high j < high (suc k)
        go ih u (inl e) = omega (arith, ap high e)
        go ih u (inr l) = omega (arith, ih l (λ i m. f i (omega arith)))

    -- the phase never goes back: all up hops of a network come before its down hops, and these before those of the next network
    pub phase_rises : (j k : ℕ) → j ≤ k → Runs n lab d s k → phase n lab d s j ≤ phase n lab d s k
    phase_rises j zero h f = let e : j ≡ 0 = omega arith in omega (arith, ap (phase n lab d s) e)
    phase_rises j (suc k) h f = go (phase_rises j k) (phase_step k f) (below_suc (omega arith))
      where
        go : (j ≤ k → Runs n lab d s k → phase n lab d s j ≤ phase n lab d s k)
            → (phase n lab d s (suc k) ≡ phase n lab d s k) ⊎ (phase n lab d s (suc k) ≡ suc (phase n lab d s k))
            → (j ≡ suc k) ⊎ (j < suc k) → phase n lab d s j ≤ phase n lab d s (suc k)
        go ih _ (inl e) = omega (arith, ap (phase n lab d s) e)
        go ih (inl u) (inr l) = omega (arith, ih (omega arith) (λ i m. f i (omega arith)))
        go ih (inr u) (inr l) = omega (arith, ih (omega arith) (λ i m. f i (omega arith)))

    -- k hops lift a walk by k or more
    high_ge : (k : ℕ) → Runs n lab d s k → k ≤ high k
    high_ge zero f = omega arith
    high_ge (suc k) f = omega (arith, high_ge k (λ j h. f j (omega arith)), high_step k f)

    -- at most n hops a phase
    pub hops-bound : (k N : ℕ) → Runs n lab d s k → phase n lab d s k < 2 * N → k ≤ 2 * n * N
    hops-bound k N f h =
        omega (
          arith,
          high_ge k f,
          height_le n (phase n lab d s k) (spot n lab d s k) (node_lt k f),
          mul-le-mul_right n h,
        )

    -- from the channel of one hop to that of a later one the order rises, so none is used twice
    pub channel_rises :
        (j k i m : ℕ) → j < k → Runs n lab d s k → turn n lab d s j ≡ Hop i → turn n lab d s k ≡ Hop m
        → order n (channel_at n lab d s j i) < order n (channel_at n lab d s k m)
    channel_rises j k i m h f e g =
        let up = rises n (phase n lab d s k) (spot n lab d s k) m (node_lt k f) (dim_lt n lab d (phase n lab d s k) (spot n lab d s k) m g) in
        omega (
          arith,
          ap (λ q. height n q.phase q.node) (place_suc j i e),
          order_is n (phase n lab d s j) (spot n lab d s j) i,
          order_is n (phase n lab d s k) (spot n lab d s k) m,
          later (suc j) h,
        )
      where
        later : (t : ℕ) → t ≤ k → high t ≤ high k
        later t l = ⊎_elim (λ (q : t ≡ k). omega (arith, ap high q)) (λ (q : t < k). omega (arith, high_rises t k q f)) (eq-or-lt_of_le l)

    pub channel_once :
        (j k i m : ℕ) → j < k → Runs n lab d s k → turn n lab d s j ≡ Hop i → turn n lab d s k ≡ Hop m → channel_at n lab d s j i ≢ channel_at n lab d s k m
    channel_once j k i m h f e g same = omega (arith, channel_rises j k i m h f e g, ap (order n) same)

    -- the ones of the node rise by one with a hop of a phase that goes up, and fall by one with a hop of a phase that goes down
    pub ones_step :
        (k : ℕ) → Runs n lab d s (suc k)
        → ((down (phase n lab d s (suc k)) ≡ false) × (ones (spot n lab d s (suc k)) ≡ suc (ones (spot n lab d s k))))
        ⊎ ((down (phase n lab d s (suc k)) ≡ true) × (ones (spot n lab d s k) ≡ suc (ones (spot n lab d s (suc k)))))
    ones_step k f =
        let r = step k (f k (omega arith)) in
        rw (r.node_is, r.phase_is)
        (after_ones n (phase n lab d s k) (spot n lab d s k) r.dim (node_lt k (λ j h. f j (omega arith))) r.dim_below)

-- ---- no circle of waiting

-- each hop of each message raises the order, be the labels at the next node the same or not
pub hop_rises :
    (n : ℕ) (lab lab' : ℕ → ℕ) (d p c i j : ℕ) → c < 2 ^ n → hop_in n lab d p c ≡ Hop i → hop_in n lab' d (after p c i) (flip i c) ≡ Hop j
    → order n (channel p c i) < order n (channel (after p c i) (flip i c) j)
hop_rises n lab lab' d p c i j hc e f =
    let hi = dim_lt n lab d p c i e in
    omega (
      arith,
      order_is n p c i,
      order_is n (after p c i) (flip i c) j,
      rises n (after p c i) (flip i c) j (flip_lt n i c hi hc) (dim_lt n lab' d (after p c i) (flip i c) j f),
    )
