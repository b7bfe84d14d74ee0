-- What a decision says. A call of FORWARD makes the hop of the first block that takes a dimension, if that block may; else it passes. The
-- decision is the hop to a draining destination next door, else the forward call's hop, else the spare call's, else to halt.
use mathlib.Core.Path.{◌≡◌, refl, sym, ap, ◌∙◌}
use mathlib.Core.Logic.{◌⊎◌, inl, inr, ⊎_elim, ◌≢◌}
use mathlib.Core.Bool.{Bool, true, false}
use Prim.Native.Nat.{ℕ, ◌^◌, ◌≤◌, ◌<◌}
use native.Mathlib.Omega.{arith}
use lib.Dec.{ltb, eqb}
use borrow.Author.Tests.{ltb-true, ltb-false, lt-ltb, le-ltb, eqb-true, eqb-false}
use Rattle.cube.specs.Count.{least}
use Rattle.cube.specs.Cube.{flip, apart, dist}
use Rattle.cube.proofs.Bools.{either, clash}
use Rattle.cube.proofs.Cube.{dist_self, dist_zero}
use Rattle.cube.proofs.Laws.{across_one, one_across}
use Rattle.cube.proofs.Search.{Least, the_least}
use Rattle.hop.proofs.Scanning.{last_hits, last_misses}
use Rattle.scans.specs.Progress.{WorksOrEnds}
use Rattle.scans.specs.Scans.{forward, spare}
use Rattle.walk.specs.Walk.{stops}
use Rattle.hop.specs.declared.Decision.TheVariants.{Deliver, Hop, Halted}
use Rattle.blocks.specs.Phase.{turns}
use Rattle.blocks.specs.Blocks.{Block, block_at, call, decide_in, first_block, fits, home, hop_in, lowest, no_block, pick}
use Rattle.blocks.proofs.Picks.{pick_forward, pick_home, pick_spare}
use Rattle.blocks.proofs.Blocks.{Fits, fits_says, Made, made, may_low, may_lt, may_early, may_near, not-safe, not_ordinary, not_working, not_safe_on}

module _ (n : ℕ) (lab : ℕ → ℕ) (d p c : ℕ) where
  -- row s of the table here
  abbrev pub row_at : ℕ → Block
  row_at s = block_at (lab c) (dist c d) p s

  module _ (side : Bool) where
    abbrev pub takes : (s i : ℕ) → Bool
    takes s = fits c d p (λ j. lab (flip j c)) side (row_at s)

    -- block s takes no dimension
    abbrev pub Misses : ℕ → Type 0
    Misses s = (j : ℕ) → j < n → takes s j ≡ false

    -- block s makes the hop across dimension i
    pub record Hops (s i : ℕ) : Type 0 where
      pub dim_lt : i < n
      pub fit : Fits c d p (λ j. lab (flip j c)) side (row_at s) i
      pub row : Made (lab c) (dist c d) p s
      pub earlier : (t : ℕ) → t < s → Misses t

    -- no block makes a hop: each takes nothing, up to the first that may not
    abbrev pub Passes : Type 0
    Passes = (t : ℕ) → t < 6 → ((u : ℕ) → u ≤ t → (row_at u).may ≡ true) → Misses t

    abbrev pub low : ℕ → ℕ
    low = lowest n c d p (lab c) (λ j. lab (flip j c)) side

    abbrev pub here : ℕ
    here = first_block n c d p (lab c) (λ j. lab (flip j c)) side

    abbrev pub called : ℕ
    called = call n c d p (lab c) (λ j. lab (flip j c)) side

    missed : (t : ℕ) → ltb (low t) n ≡ false → Misses t
    unfolding lowest
    missed t e j h = (the_least n (takes t)).before j (omega (arith, ltb-false (least n (takes t)) n e))

    pub taken : (t : ℕ) → low t < n → takes t (low t) ≡ true
    unfolding lowest
    taken t l = (the_least n (takes t)).hit l

    pub lower : (t j : ℕ) → j < low t → takes t j ≡ false
    unfolding lowest
    lower t j l = (the_least n (takes t)).before j l

    the_first : Least no_block (λ s. ltb (low s) n)
    the_first = the_least no_block (λ s. ltb (low s) n)

    pub before : (t : ℕ) → t < here → Misses t
    unfolding first_block
    before t h = missed t (the_first.before t h)

    pub found : here < 6 → low here < n
    unfolding first_block
    found h = ltb-true (low here) n (the_first.hit h)

    pub called_may : (row_at here).may ≡ true → called ≡ low here
    unfolding call
    called_may e = rw e

    pub called_not : (row_at here).may ≡ false → called ≡ n
    unfolding call
    called_not e = rw e

    calls : ((s : ℕ) × Hops s called) ⊎ (Passes × (called ≡ n))
    calls = go (either (row_at here).may)
      where
        hops : (row_at here).may ≡ true → Hops here (low here)
        hops e =
            let l = may_lt (lab c) (dist c d) p here e in
            let f = fits_says c d p (λ j. lab (flip j c)) side (row_at here) (low here) (taken here (found l)) in
            record {
              dim_lt = found l;
              fit = f;
              row = made (lab c) (dist c d) p here l f.looked e;
              earlier = before;
            }

        reached : (t : ℕ) → (row_at here).may ≡ false → ((u : ℕ) → u ≤ t → (row_at u).may ≡ true) → t < here
        reached t e f = ⊎_elim (λ a. ltb-true t here a) (λ a. absurd (clash (f here (ltb-false t here a)) e)) (either (ltb t here))

        go : ((row_at here).may ≡ true) ⊎ ((row_at here).may ≡ false) → ((s : ℕ) × Hops s called) ⊎ (Passes × (called ≡ n))
        go (inl e) = inl (here, rw (called_may e) (hops e))
        go (inr e) = inr ((λ t h f. before t (reached t e f)), called_not e)

    -- ---- what the missed blocks say of the neighbours on that side

    module _ (i : ℕ) (hi : i < n) (on : apart i c d ≡ side) where
      pub none_safe : Misses 0 → Misses 1 → 0 < lab (flip i c)
      none_safe a b = not-safe (lab c) (dist c d) p c d (λ j. lab (flip j c)) side i on (a i hi) (b i hi)

      pub none_ordinary : Misses 2 → Misses 3 → 1 < lab (flip i c)
      none_ordinary a b = not_ordinary (lab c) (dist c d) p c d (λ j. lab (flip j c)) side i on (a i hi) (b i hi)

      pub none_safe_on : Misses 0 → turns p c i ≡ false → 0 < lab (flip i c)
      none_safe_on a = not_safe_on (lab c) (dist c d) p c d (λ j. lab (flip j c)) side i on (a i hi)

      pub pass_safe : Passes → 0 < lab (flip i c)
      pass_safe q =
          none_safe
          (q 0 (omega arith) (λ u h. may_low (lab c) (dist c d) p u (omega arith)))
          (q 1 (omega arith) (λ u h. may_low (lab c) (dist c d) p u (omega arith)))

      pub pass_ordinary : p ≤ 1 → Passes → 1 < lab (flip i c)
      pass_ordinary l q =
          none_ordinary
          (q 2 (omega arith) (λ u h. may_early (lab c) (dist c d) p l u (omega arith)))
          (q 3 (omega arith) (λ u h. may_early (lab c) (dist c d) p l u (omega arith)))

      pub pass_working : dist c d ≤ 2 → Passes → 2 < lab (flip i c)
      pass_working l q =
          not_working (lab c) (dist c d) p c d (λ j. lab (flip j c)) side i on l
          (q 4 (omega arith) (λ u h. may_near (lab c) (dist c d) p l u (omega arith)) i hi)
          (q 5 (omega arith) (λ u h. may_near (lab c) (dist c d) p l u (omega arith)) i hi)

  -- ---- the decision

  -- no draining destination is next door
  abbrev pub Away : Type 0
  Away = (i : ℕ) → i < n → apart i c d ≡ true → dist c d ≡ 1 → lab (flip i c) ≢ 4

  pub data Picked : Type 0 where
    arrived : dist c d ≡ 0 → hop_in n lab d p c ≡ Deliver → Picked
    homing : (i : ℕ) → i < n → dist c d ≡ 1 → apart i c d ≡ true → hop_in n lab d p c ≡ Hop i → Picked
    ahead : (s i : ℕ) → hop_in n lab d p c ≡ Hop i → Hops forward s i → Picked
    aside : (s i : ℕ) → 0 < dist c d → Away → hop_in n lab d p c ≡ Hop i → Passes forward → Hops spare s i → Picked
    stopped : 0 < dist c d → Away → hop_in n lab d p c ≡ Halted → Passes forward → Passes spare → Picked

  abbrev pub homed : ℕ
  homed = home n c d (λ j. lab (flip j c))

  homes : ((homed < n) × (dist c d ≡ 1) × (apart homed c d ≡ true)) ⊎ ((n ≤ homed) × Away)
  homes = go (either (ltb homed n))
    where
      go : (ltb homed n ≡ true) ⊎ (ltb homed n ≡ false) → ((homed < n) × (dist c d ≡ 1) × (apart homed c d ≡ true)) ⊎ ((n ≤ homed) × Away)
      go (inl a) =
          let l = ltb-true homed n a in
          let r = across_one homed c d (last_hits n c d 0 (λ j. lab (flip j c)) l) in
          inl (l, r.1, r.0)
      go (inr a) =
          let l = ltb-false homed n a in
          inr (l, λ i hi on e q. last_misses n c d 0 (λ j. lab (flip j c)) l i hi (one_across i c d on e) q)

  abbrev near : ℕ → ℕ
  near j = lab (flip j c)

  abbrev the_pick : ℕ
  the_pick = pick n c d p (lab c) near

  module _ (far : eqb (dist c d) 0 ≡ false) where
    pub hops_so : (i : ℕ) → the_pick ≡ i → i < n → hop_in n lab d p c ≡ Hop i
    unfolding hop_in decide_in
    hops_so i e l = rw (far, e, lt-ltb i n l)

    pub halts_so : the_pick ≡ n → hop_in n lab d p c ≡ Halted
    unfolding hop_in decide_in
    halts_so e = rw (far, e, le-ltb n n (omega arith))

  pub picks : Picked
  unfolding hop_in decide_in
  picks = go (either (eqb (dist c d) 0)) homes (calls forward) (calls spare)
    where
      far : eqb (dist c d) 0 ≡ false → 0 < dist c d
      far a = omega (arith, eqb-false (dist c d) 0 a)

      go : (eqb (dist c d) 0 ≡ true) ⊎ (eqb (dist c d) 0 ≡ false)
          → ((homed < n) × (dist c d ≡ 1) × (apart homed c d ≡ true)) ⊎ ((n ≤ homed) × Away)
          → ((s : ℕ) × Hops forward s (called forward)) ⊎ (Passes forward × (called forward ≡ n))
          → ((s : ℕ) × Hops spare s (called spare)) ⊎ (Passes spare × (called spare ≡ n)) → Picked
      go (inl a) _ _ _ = arrived (eqb-true (dist c d) 0 a) (rw a)
      go (inr a) (inl h) _ _ = homing homed h.0 h.1 h.2 (hops_so a homed (pick_home n c d p (lab c) near h.0) h.0)
      go (inr a) (inr h) (inl r) _ =
          let l = r.1.dim_lt in
          ahead r.0 (called forward) (hops_so a (called forward) (pick_forward n c d p (lab c) near h.0 l) l) r.1
      go (inr a) (inr h) (inr q) (inl r) =
          aside r.0 (called spare) (far a) h.1 (hops_so a (called spare) (pick_spare n c d p (lab c) near h.0 (omega arith)) r.1.dim_lt) q.0 r.1
      go (inr a) (inr h) (inr q) (inr r) = stopped (far a) h.1 (halts_so a (pick_spare n c d p (lab c) near h.0 (omega arith) ∙ r.1)) q.0 r.0

  -- a decision that does not stop the walk is a hop across a dimension of the cube
  pub hop_dim : stops (hop_in n lab d p c) ≡ false → (i : ℕ) × (i < n) × (hop_in n lab d p c ≡ Hop i)
  unfolding stops
  hop_dim e = go picks
    where
      go : Picked → (i : ℕ) × (i < n) × (hop_in n lab d p c ≡ Hop i)
      go (arrived _ h) = absurd (clash refl (rw h at e))
      go (homing i hi _ _ h) = (i, hi, h)
      go (ahead s i h r) = (i, r.dim_lt, h)
      go (aside s i _ _ h _ r) = (i, r.dim_lt, h)
      go (stopped _ _ h _ _) = absurd (clash refl (rw h at e))

  -- a hop enters a node that works, or the destination; and none is made there
  pub enters : (i : ℕ) → hop_in n lab d p c ≡ Hop i → WorksOrEnds lab d (flip i c)
  enters i e = go picks
    where
      same : (j : ℕ) → hop_in n lab d p c ≡ Hop j → j ≡ i
      same j h = let q : Hop j ≡ Hop i = sym h ∙ e in cc

      go : Picked → WorksOrEnds lab d (flip i c)
      go (arrived _ h) = absurd (let q : Deliver ≡ Hop i = sym h ∙ e in let z : ◌≡◌ {A = ℕ} 0 1 = cc in omega arith)
      go (homing j hj one on h) = inr (ap (λ (k : ℕ). flip k c) (sym (same j h)) ∙ one_across j c d on one)
      go (ahead s j h r) = inl (omega (arith, r.fit.low, r.row.works, ap (λ (k : ℕ). lab (flip k c)) (same j h)))
      go (aside s j _ _ h _ r) = inl (omega (arith, r.fit.low, r.row.works, ap (λ (k : ℕ). lab (flip k c)) (same j h)))
      go (stopped _ _ h _ _) = absurd (let q : Halted ≡ Hop i = sym h ∙ e in let z : ◌≡◌ {A = ℕ} 0 1 = cc in omega arith)

  pub away : (i : ℕ) → hop_in n lab d p c ≡ Hop i → c ≢ d
  unfolding hop_in decide_in
  away i e q = let h : Deliver ≡ Hop i = rw (q, dist_self) at e in let z : ◌≡◌ {A = ℕ} 0 1 = cc in omega arith

  -- and what ends there has arrived
  pub delivers_at : c < 2 ^ n → d < 2 ^ n → hop_in n lab d p c ≡ Deliver → c ≡ d
  delivers_at hc hd e = go picks
    where
      go : Picked → c ≡ d
      go (arrived h _) = dist_zero n c d hc hd h
      go (homing j _ _ _ h) = absurd (let q : Deliver ≡ Hop j = sym e ∙ h in let z : ◌≡◌ {A = ℕ} 0 1 = cc in omega arith)
      go (ahead s j h _) = absurd (let q : Deliver ≡ Hop j = sym e ∙ h in let z : ◌≡◌ {A = ℕ} 0 1 = cc in omega arith)
      go (aside s j _ _ h _ _) = absurd (let q : Deliver ≡ Hop j = sym e ∙ h in let z : ◌≡◌ {A = ℕ} 0 1 = cc in omega arith)
      go (stopped _ _ h _ _) = absurd (let q : Deliver ≡ Halted = sym e ∙ h in let z : ◌≡◌ {A = ℕ} 0 1 = cc in omega arith)
