-- A hop of the forward call, on good labels with a safe node. A SAFE node far from the destination takes a safe one, and turns only where all the
-- dimensions of the phase's direction lead to unsafe nodes, of which it has two at most: the bound of `bends`. An UNSAFE node, 2 hops or more
-- away, is met in a phase of at most 3 (ordinarily) or 1 (strongly unsafe), which is p + 4 + 2 * label ≤ 9; the table lets such a phase pass only
-- towards a safe node, from up to down, in network 0, or in the last two hops. The hop leads nearer and, but for the last two, to no worse a label.
use mathlib.Core.Path.{◌≡◌, sym, ◌∙◌}
use mathlib.Core.Logic.{◌⊎◌, inl, inr, ⊎_elim}
use mathlib.Core.Bool.{true, false, beq, ◌&&◌}
use Prim.Native.Nat.{ℕ, suc, ◌+◌, ◌*◌, ◌^◌, ◌≤◌, ◌<◌}
use native.Mathlib.Omega.{arith}
use lib.Dec.{leb, ltb}
use borrow.Author.Tests.{leb-true, leb-false, le-leb, ltb-true, ltb-false}
use Rattle.cube.specs.Count.{count}
use Rattle.cube.specs.Cube.{flip, apart, dist}
use Rattle.cube.proofs.Bools.{and_true, beq_true, either}
use Rattle.cube.proofs.Cube.{dist_fall}
use Rattle.rule.specs.Good.{Good}
use Rattle.scans.proofs.Toward.{safe_step}
use Rattle.scans.specs.Progress.{rank}
use Rattle.scans.proofs.Progress.{rank_far, rank_ge, rank_le, rank_near}
use Rattle.scans.specs.Scans.{forward}
use Rattle.blocks.specs.Phase.{down, turns, after}
use Rattle.blocks.specs.Turns.{ways, Room}
use Rattle.blocks.proofs.Phases.{up_even, after_turn, after_keep, after_le}
use Rattle.blocks.proofs.Calls.{Misses, Hops, none_safe, none_safe_on}
use Rattle.blocks.proofs.Turns.{ways_sum, ways_le, bends_five, bends_step, still_near, still_most, early}

module _
    (n : ℕ) (lab : ℕ → ℕ) (G : Good n lab) (d : ℕ) (hd : d < 2 ^ n) (p c : ℕ) (hc : c < 2 ^ n) (room : Room n lab d p c) where
  -- ---- the turns to come, from a node that is safe or next door to the destination

  near_few : dist c d ≤ 2 → ways n d p c false ≤ 2
  near_few h = omega (arith, ways_sum n d p c hc hd)

  settled_room :
      (i : ℕ) → i < n → apart i c d ≡ true → (dist c d ≤ 1) ⊎ (lab c ≡ 0) → (dist (flip i c) d ≤ 1) ⊎ (lab (flip i c) ≡ 0)
      → (turns p c i ≡ true → ways n d p c false ≤ 2) → Room n lab d (after p c i) (flip i c)
  settled_room i hi on a b few =
      omega (arith, still_near n lab d p c a, still_near n lab d (after p c i) (flip i c) b, bends_step n d p c i hi on few)

  pub next_door : (i : ℕ) → i < n → apart i c d ≡ true → dist c d ≤ 1 → Room n lab d (after p c i) (flip i c)
  next_door i hi on h =
      settled_room i hi on (inl h) (inl (omega (arith, dist_fall n i c d hc hd hi on))) (λ _. near_few (omega arith))

  -- ---- a forward hop leads nearer

  module _ (s i : ℕ) (r : Hops n lab d p c forward s i) where
    nearer : dist c d ≡ suc (dist (flip i c) d)
    nearer = dist_fall n i c d hc hd r.dim_lt r.fit.on

    -- far from the destination, a safe node takes a safe one
    stays_safe : 2 < dist c d → lab c ≡ 0 → lab (flip i c) ≡ 0
    stays_safe h e = go (either (ltb s 2)) (safe_step n lab G c d hc hd e h)
      where
        go : (ltb s 2 ≡ true) ⊎ (ltb s 2 ≡ false) → (j : ℕ) × (j < n) × (apart j c d ≡ true) × (lab (flip j c) ≡ 0) → lab (flip i c) ≡ 0
        go (inl a) j = omega (arith, ltb-true s 2 a, r.fit.low, r.row.late)
        go (inr a) j =
            let l = ltb-false s 2 a in
            absurd (omega (arith, none_safe n lab d p c forward j.0 j.1 j.2 (r.earlier 0 (omega arith)) (r.earlier 1 (omega arith))))

    -- and any node takes none that is worse
    no_worse : 2 < dist c d → lab (flip i c) ≤ lab c
    no_worse h = go (either (leb (lab c) 0)) (either (leb (lab (flip i c)) 1))
      where
        go : (leb (lab c) 0 ≡ true) ⊎ (leb (lab c) 0 ≡ false) → (leb (lab (flip i c)) 1 ≡ true) ⊎ (leb (lab (flip i c)) 1 ≡ false) → lab (flip i c) ≤ lab c
        go (inl a) _ = omega (arith, stays_safe h (omega (arith, leb-true (lab c) 0 a)))
        go (inr a) (inl b) = omega (arith, leb-false (lab c) 0 a, leb-true (lab (flip i c)) 1 b)
        go (inr a) (inr b) =
            ⊎_elim (λ (e : lab c ≡ 2). omega (arith, r.fit.low, r.row.works)) (λ (e : dist c d ≤ 2). absurd (omega arith))
            (r.row.worst (omega (arith, r.fit.low, leb-false (lab (flip i c)) 1 b)))

    pub ahead_rank : rank lab d (flip i c) < rank lab d c
    ahead_rank = go (either (leb (dist c d) 2))
      where
        go : (leb (dist c d) 2 ≡ true) ⊎ (leb (dist c d) 2 ≡ false) → rank lab d (flip i c) < rank lab d c
        go (inl a) =
            let l = leb-true (dist c d) 2 a in
            omega (arith, nearer, rank_near lab d (flip i c) (omega (arith, nearer)), rank_ge lab d c)
        go (inr a) =
            let l = leb-false (dist c d) 2 a in
            omega (arith, nearer, no_worse l, rank_le lab d (flip i c), rank_far lab d c (omega arith))

    -- a safe node that turns has at most two dimensions left in the phase's direction
    turn_few : lab c ≡ 0 → turns p c i ≡ true → ways n d p c false ≤ 2
    turn_few e t = omega (arith, G.few_unsafe c hc e, within)
      where
        first_missed : Misses n lab d p c forward 0
        first_missed = r.earlier 0 (r.row.second (sym r.fit.way ∙ t))

        unsafe : (j : ℕ) → j < n → (apart j c d && beq (turns p c j) false) ≡ true → leb 1 (lab (flip j c)) ≡ true
        unsafe j h k =
            let m = and_true (apart j c d) (beq (turns p c j) false) k in
            le-leb 1 (lab (flip j c)) (none_safe_on n lab d p c forward j h m.0 first_missed (beq_true (turns p c j) false m.1))

        within : ways n d p c false ≤ count n (λ j. leb 1 (lab (flip j c)))
        within = ways_le n d p c false (λ j. leb 1 (lab (flip j c))) unsafe

    safe_room : lab c ≡ 0 → Room n lab d (after p c i) (flip i c)
    safe_room e = go (either (leb (dist c d) 2))
      where
        go : (leb (dist c d) 2 ≡ true) ⊎ (leb (dist c d) 2 ≡ false) → Room n lab d (after p c i) (flip i c)
        go (inl a) =
            let l = leb-true (dist c d) 2 a in
            settled_room i r.dim_lt r.fit.on (inr e) (inl (omega (arith, nearer))) (λ _. near_few l)
        go (inr a) = settled_room i r.dim_lt r.fit.on (inr e) (inr (stays_safe (leb-false (dist c d) 2 a) e)) (turn_few e)

    -- from an unsafe node, far away, to another: the table lets the phase pass in network 0 alone, or from up to down
    unsafe_room : 2 < dist c d → 0 < lab c → 0 < lab (flip i c) → after p c i + (4 + 2 * lab (flip i c)) ≤ 9
    unsafe_room h k m = go (either (turns p c i)) (either (down p))
      where
        w : lab (flip i c) ≤ lab c
        w = no_worse h

        e : p + 4 + 2 * lab c ≤ 9
        e = early n lab d p c room (omega arith) k

        go : (turns p c i ≡ true) ⊎ (turns p c i ≡ false) → (down p ≡ true) ⊎ (down p ≡ false) → after p c i + (4 + 2 * lab (flip i c)) ≤ 9
        go (inr t) _ = omega (arith, w, e, after_keep p c i t)
        go (inl t) (inr b) = omega (arith, w, e, after_turn p c i t, up_even p b)
        go (inl t) (inl b) =
            ⊎_elim (λ (a : dist c d ≤ 2). absurd (omega arith)) (λ a. omega (arith, a.0, a.1, r.fit.low, after_turn p c i t))
            (r.row.bend (sym r.fit.way ∙ t) (omega (arith, r.fit.low)) b)

    far_room : 1 < dist c d → 0 < lab c → Room n lab d (after p c i) (flip i c)
    far_room h k = go (either (leb (dist c d) 2)) (either (leb (lab (flip i c)) 0))
      where
        e : p + 4 + 2 * lab c ≤ 9
        e = early n lab d p c room h k

        go : (leb (dist c d) 2 ≡ true) ⊎ (leb (dist c d) 2 ≡ false) → (leb (lab (flip i c)) 0 ≡ true) ⊎ (leb (lab (flip i c)) 0 ≡ false)
            → Room n lab d (after p c i) (flip i c)
        go (inl a) _ =
            let l = leb-true (dist c d) 2 a in
            omega (
              arith,
              e,
              after_le p c i,
              still_near n lab d (after p c i) (flip i c) (inl (omega (arith, nearer))),
              bends_five (ways n d (after p c i) (flip i c) false) (ways n d (after p c i) (flip i c) true),
            )
        go (inr a) (inl b) = omega (arith, e, after_le p c i, still_most n lab d (after p c i) (flip i c), leb-true (lab (flip i c)) 0 b)
        go (inr a) (inr b) =
            let m = leb-false (lab (flip i c)) 0 b in
            omega (arith, unsafe_room (leb-false (dist c d) 2 a) k m, still_most n lab d (after p c i) (flip i c))

    pub ahead_room : Room n lab d (after p c i) (flip i c)
    ahead_room = go (either (leb (dist c d) 1)) (either (leb (lab c) 0))
      where
        go : (leb (dist c d) 1 ≡ true) ⊎ (leb (dist c d) 1 ≡ false) → (leb (lab c) 0 ≡ true) ⊎ (leb (lab c) 0 ≡ false)
            → Room n lab d (after p c i) (flip i c)
        go (inl a) _ = next_door i r.dim_lt r.fit.on (leb-true (dist c d) 1 a)
        go (inr a) (inl b) = safe_room (omega (arith, leb-true (lab c) 0 b))
        go (inr a) (inr b) = far_room (leb-false (dist c d) 1 a) (leb-false (lab c) 0 b)
