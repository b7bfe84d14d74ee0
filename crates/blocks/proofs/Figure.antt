-- The decision is the one of the figure's words. A row of the table takes a dimension exactly where the words find it, and may exactly where they hop; so what
-- the two searches of a call give is the first block and its lowest dimension. That the words allow no other is in Alone.antt.
use mathlib.Core.Path.{◌≡◌, refl, sym, ◌∙◌}
use mathlib.Core.Logic.{◌⊎◌, inl, inr, ⊎_elim}
use mathlib.Core.Bool.{Bool, true, false, not}
use Prim.Native.Nat.{ℕ, zero, suc, ◌+◌, ◌*◌, ◌/◌, ◌≤◌, ◌<◌}
use native.Mathlib.Omega.{arith}
use lib.Dec.{eqb, leb, ltb}
use borrow.Author.Tests.{eqb-false, eqb-true, le-leb, ltb-false, ltb-true}
use Rattle.cube.specs.Cube.{apart, dist, flip}
use Rattle.cube.proofs.Bools.{clash, either, or_left, or_right}
use Rattle.cube.proofs.Laws.{agree_apart, apart_agree, apart_differ, differ_apart}
use Rattle.cube.proofs.Search.{the_least}
use Rattle.scans.specs.Hit.{MayEnterStrong, takes_at}
use Rattle.scans.specs.Picks.{Misses, Picks}
use Rattle.scans.specs.Scans as scans
use Rattle.scans.specs.Scans.{forward, spare}
use Rattle.scans.proofs.Hit.{table_hits}
use Rattle.hop.specs.declared.Decision.{Decision}
use Rattle.hop.specs.declared.Decision.TheVariants.{Hop}
use Rattle.blocks.specs.Blocks.{block_at, decide_in, eager, hop_in, may_fourth, may_sixth}
use Rattle.blocks.specs.Board.{numbered}
use Rattle.blocks.specs.Figure.{Chosen, Finds, First, Forwards, HopChosen, Hops, OnSide, Passes}
use Rattle.blocks.specs.Figure.{ahead, aside, block1, block2, block3, block4, block5, block6, always1, always2, always3, hops4, always5, hops6}
use Rattle.blocks.specs.Figure.{none, barred, home, forwarded, derouted, arrived, took, stopped}
use Rattle.blocks.specs.Phase.{after, channel_number, down, phase_of}
use Rattle.blocks.proofs.Alone.{alone}
use Rattle.blocks.proofs.Blocks.{Fits, eager_says, fits_says, fits_so, may-fourth, may_lt, may-sixth, says_eager}
use Rattle.blocks.proofs.Calls as calls
use Rattle.blocks.proofs.Directions.{bends, is_down, is_up, keeps, network, onward, turning, up_or_down}
use Rattle.blocks.proofs.Picks.{pick_forward, pick_home, pick_spare}

-- ---- one call

-- the table counts its rows from 0, the words count blocks from 1
abbrev row_of : (block : ℕ) → ℕ
row_of zero = 0
row_of (suc s) = s

module _ (n : ℕ) (lab : ℕ → ℕ) (c d w g : ℕ) (hg : g ≤ 1) where
  abbrev at : ℕ
  at = phase_of w g

  module _ (side : Bool) where
    sided : (i : ℕ) → apart i c d ≡ side → OnSide c d i side
    sided i e = go side e
      where
        go : (side : Bool) → apart i c d ≡ side → OnSide c d i side
        go true e = ahead (apart_differ i c d e)
        go false e = aside (apart_agree i c d e)

    unsided : {i : ℕ} → OnSide c d i side → apart i c d ≡ side
    unsided {i} o = go o
      where
        go : {side : Bool} → OnSide c d i side → apart i c d ≡ side
        go (ahead f) = differ_apart i c d f
        go (aside e) = agree_apart i c d e

    abbrev FitsAt : (s i : ℕ) → Type 0
    FitsAt s i = Fits c d at (λ j. lab (flip j c)) side (block_at (lab c) (dist c d) at s) i

    enters_strong : eager (lab c) (dist c d) ≡ true → MayEnterStrong lab c d
    enters_strong = eager_says (lab c) (dist c d) at

    strong_enters : MayEnterStrong lab c d → eager (lab c) (dist c d) ≡ true
    strong_enters = says_eager (lab c) (dist c d) at

    find : (s i : ℕ) → FitsAt s i → Finds lab c d g side (suc s) i
    find zero i f = block1 (sided i f.on) (onward w g hg c i f.way) (omega (arith, f.low))
    find (suc zero) i f = block2 (sided i f.on) (turning w g hg c i f.way) (omega (arith, f.low))
    find (suc (suc zero)) i f = block3 (sided i f.on) (onward w g hg c i f.way) f.low
    find (suc (suc (suc zero))) i f = block4 (sided i f.on) (turning w g hg c i f.way) f.low
    find (suc (suc (suc (suc zero)))) i f = block5 (sided i f.on) (onward w g hg c i f.way) f.low (enters_strong f.looked)
    find (suc (suc (suc (suc (suc zero))))) i f = block6 (sided i f.on) (turning w g hg c i f.way) f.low (enters_strong f.looked)
    find (suc (suc (suc (suc (suc (suc s)))))) i f = absurd (clash f.looked refl)

    fit : {s i : ℕ} → Finds lab c d g side s i → FitsAt (row_of s) i
    fit {s} {i} (block1 o t e) = record { on = unsided o; way = keeps w g hg c i t; low = omega (arith, e); looked = refl }
    fit {s} {i} (block2 o t e) = record { on = unsided o; way = bends w g hg c i t; low = omega (arith, e); looked = refl }
    fit {s} {i} (block3 o t e) = record { on = unsided o; way = keeps w g hg c i t; low = e; looked = refl }
    fit {s} {i} (block4 o t e) = record { on = unsided o; way = bends w g hg c i t; low = e; looked = refl }
    fit {s} {i} (block5 o t e m) = record { on = unsided o; way = keeps w g hg c i t; low = e; looked = strong_enters m }
    fit {s} {i} (block6 o t e m) = record { on = unsided o; way = bends w g hg c i t; low = e; looked = strong_enters m }

    blocks_are : {s i : ℕ} → Finds lab c d g side s i → (s ≡ suc (row_of s)) × (s ≤ 6)
    blocks_are (block1 _ _ _) = (refl, omega arith)
    blocks_are (block2 _ _ _) = (refl, omega arith)
    blocks_are (block3 _ _ _) = (refl, omega arith)
    blocks_are (block4 _ _ _) = (refl, omega arith)
    blocks_are (block5 _ _ _ _) = (refl, omega arith)
    blocks_are (block6 _ _ _ _) = (refl, omega arith)

    -- ---- which blocks hop

    abbrev may_at : ℕ → Bool
    may_at s = (block_at (lab c) (dist c d) at s).may

    may_hops : (s : ℕ) → may_at s ≡ true → Hops (dist c d) w g (suc s)
    unfolding may_fourth may_sixth
    may_hops zero e = always1
    may_hops (suc zero) e = always2
    may_hops (suc (suc zero)) e = always3
    may_hops (suc (suc (suc zero))) e = hops4 (go (up_or_down w g hg))
      where
        go : (g ≡ 0) ⊎ (g ≡ 1) → (g ≡ 0) ⊎ (w ≡ 0) ⊎ (dist c d ≤ 2)
        go (inl z) = inl z
        go (inr z) =
            inr (⊎_elim (λ (l : dist c d ≤ 2). inr l) (λ (l : at ≤ 1). inl (omega arith)) (may-fourth (lab c) (dist c d) at e (is_down w g hg z)))
    may_hops (suc (suc (suc (suc zero)))) e = always5
    may_hops (suc (suc (suc (suc (suc zero))))) e =
        hops6 (⊎_elim (λ (z : g ≡ 0). inl z) (λ (z : g ≡ 1). inr (may-sixth (lab c) (dist c d) at e (is_down w g hg z))) (up_or_down w g hg))
    may_hops (suc (suc (suc (suc (suc (suc s)))))) e = absurd (clash e refl)

    hops_may : {s : ℕ} → Hops (dist c d) w g s → may_at (row_of s) ≡ true
    unfolding may_fourth may_sixth
    hops_may always1 = refl
    hops_may always2 = refl
    hops_may always3 = refl
    hops_may (hops4 (inl z)) = or_left {a = not (down at)} _ (rw (is_up w g hg z))
    hops_may (hops4 (inr (inl z))) = or_right (not (down at)) (or_left _ (le-leb at 1 (omega (arith, hg))))
    hops_may (hops4 (inr (inr l))) = or_right (not (down at)) (or_right (leb at 1) (le-leb (dist c d) 2 l))
    hops_may always5 = refl
    hops_may (hops6 (inl z)) = or_left {a = not (down at)} _ (rw (is_up w g hg z))
    hops_may (hops6 (inr l)) = or_right (not (down at)) (le-leb (dist c d) 2 l)

    -- ---- the call

    abbrev here : ℕ
    here = calls.here n lab d at c side

    abbrev low : ℕ
    low = calls.low n lab d at c side here

    takes_so : {s i : ℕ} → Finds lab c d g side s i → calls.takes n lab d at c side (row_of s) i ≡ true
    takes_so {s} {i} f = fits_so c d at (λ j. lab (flip j c)) side (block_at (lab c) (dist c d) at (row_of s)) i (fit f)

    no_find : {s i : ℕ} → calls.takes n lab d at c side (row_of s) i ≡ false → ¬ (Finds lab c d g side s i)
    no_find e f = clash (takes_so f) e

    the_first : here < 6 → First n lab c d g side (suc here) low
    the_first l =
        let h = calls.found n lab d at c side l in
        record {
          dimension = h;
          finds = find here low (fits_says c d at (λ j. lab (flip j c)) side (block_at (lab c) (dist c d) at here) low (calls.taken n lab d at c side here h));
          lowest = λ j k. no_find {s = suc here} (calls.lower n lab d at c side here j k);
          earlier = λ t k j m f. no_find (calls.before n lab d at c side (row_of t) (omega (arith, blocks_are f)) j m) f;
        }

    abbrev result : ℕ
    result = calls.called n lab d at c side

    called : ((result < n) × Forwards n lab c d w g side result) ⊎ (Passes n lab c d w g side × (result ≡ n))
    called = go (either (may_at here)) (either (ltb here 6))
      where
        go : (may_at here ≡ true) ⊎ (may_at here ≡ false) → (ltb here 6 ≡ true) ⊎ (ltb here 6 ≡ false)
            → ((result < n) × Forwards n lab c d w g side result) ⊎ (Passes n lab c d w g side × (result ≡ n))
        go (inl e) _ =
            let f = the_first (may_lt (lab c) (dist c d) at here e) in
            inl (rw (calls.called_may n lab d at c side e) (f.dimension, (suc here, f, may_hops here e)))
        go (inr e) (inl l) = inr (barred (suc here) low (the_first (ltb-true here 6 l)) (λ h. clash (hops_may h) e), calls.called_not n lab d at c side e)
        go (inr e) (inr l) =
            inr (
              none (λ s j k f. no_find (calls.before n lab d at c side (row_of s) (omega (arith, ltb-false here 6 l, blocks_are f)) j k) f),
              calls.called_not n lab d at c side e,
            )

  -- ---- the decision

  abbrev near : ℕ → ℕ
  near j = lab (flip j c)

  abbrev homed : ℕ
  homed = calls.homed n lab d at c

  home_takes : (i : ℕ) → scans.takes c d 0 near 0 i ≡ takes_at lab c d 0 i
  unfolding scans.takes
  home_takes i = refl

  home_picks : homed < n → Picks n lab c d 0 homed
  unfolding scans.lowest
  home_picks l =
      record {
        dimension = l;
        hits = (table_hits lab c d 0 homed).0 (sym (home_takes homed) ∙ (the_least n (scans.takes c d 0 near 0)).hit l);
        lowest = λ j k h. clash (home_takes j ∙ (table_hits lab c d 0 j).1 h) ((the_least n (scans.takes c d 0 near 0)).before j k);
        earlier = λ t k. absurd (omega arith);
      }

  home_misses : n ≤ homed → Misses n lab c d 0
  unfolding scans.lowest
  home_misses l j k h = clash (home_takes j ∙ (table_hits lab c d 0 j).1 h) ((the_least n (scans.takes c d 0 near 0)).before j (omega arith))

  abbrev decision : Decision
  decision = numbered at c (hop_in n lab d at c)

  hops : (i : ℕ) → hop_in n lab d at c ≡ Hop i → Chosen n lab c d w g (Hop (after at c i / 2 * 16 + i)) → Chosen n lab c d w g decision
  unfolding numbered channel_number
  hops i e k = rw e k

  chosen : Chosen n lab c d w g decision
  unfolding hop_in decide_in numbered
  chosen = go (either (eqb (dist c d) 0)) (either (ltb homed n)) (called forward) (called spare)
    where
      far : eqb (dist c d) 0 ≡ false → 0 < dist c d
      far a = omega (arith, eqb-false (dist c d) 0 a)

      go : (eqb (dist c d) 0 ≡ true) ⊎ (eqb (dist c d) 0 ≡ false) → (ltb homed n ≡ true) ⊎ (ltb homed n ≡ false)
          → ((result forward < n) × Forwards n lab c d w g forward (result forward)) ⊎ (Passes n lab c d w g forward × (result forward ≡ n))
          → ((result spare < n) × Forwards n lab c d w g spare (result spare)) ⊎ (Passes n lab c d w g spare × (result spare ≡ n))
          → Chosen n lab c d w g decision
      go (inl a) _ _ _ = rw a (arrived (eqb-true (dist c d) 0 a))
      go (inr a) (inl h) _ _ =
          let l = ltb-true homed n h in
          hops homed (calls.hops_so n lab d at c a homed (pick_home n c d at (lab c) near l) l) (took (far a) (home (home_picks l)) (network w g hg c homed))
      go (inr a) (inr h) (inl r) _ =
          let l = ltb-false homed n h in
          let i = result forward in
          hops i (calls.hops_so n lab d at c a i (pick_forward n c d at (lab c) near l r.0) r.0)
          (took (far a) (forwarded (home_misses l) r.1) (network w g hg c i))
      go (inr a) (inr h) (inr q) (inl r) =
          let l = ltb-false homed n h in
          let i = result spare in
          hops i (calls.hops_so n lab d at c a i (pick_spare n c d at (lab c) near l (omega (arith, q.1))) r.0)
          (took (far a) (derouted (home_misses l) q.0 r.1) (network w g hg c i))
      go (inr a) (inr h) (inr q) (inr r) =
          let l = ltb-false homed n h in
          rw (calls.halts_so n lab d at c a (pick_spare n c d at (lab c) near l (omega (arith, q.1)) ∙ r.1)) (stopped (far a) (home_misses l) q.0 r.0)

pub hop_chosen : (n : ℕ) (lab : ℕ → ℕ) (c d w g : ℕ) → HopChosen n lab c d w g
hop_chosen n lab c d w g = record { chosen = λ hg. chosen n lab c d w g hg; alone = alone n lab c d w g }
