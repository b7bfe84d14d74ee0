-- Where the forward call makes no hop, on good labels with a safe node: the node is unsafe and 2 hops or more away, and the spare call takes a
-- neighbour with a better label. A safe node has a forward neighbour that its call would take. An ordinarily unsafe one has a safe neighbour, which
-- either call takes in its first two blocks; a strongly unsafe one has an ordinarily unsafe neighbour (theorem 5), which either call takes in its third
-- or fourth block, since it is met in network 0. The better label counts double, so the rank falls, and it makes up for a turn.
use mathlib.Core.Path.{◌≡◌, ap, ◌∙◌}
use mathlib.Core.Logic.{◌⊎◌, inl, inr, ⊎_elim, ◌≢◌}
use mathlib.Core.Bool.{true, false}
use Prim.Native.Nat.{ℕ, ◌^◌, ◌≤◌, ◌<◌}
use native.Mathlib.Omega.{arith}
use lib.Dec.{leb, ltb}
use borrow.Author.Tests.{leb-true, leb-false, ltb-true, ltb-false}
use Rattle.cube.specs.Cube.{flip, apart, dist}
use Rattle.cube.proofs.Bools.{either}
use Rattle.cube.proofs.Cube.{flip_flip, dist_rise, neighbour}
use Rattle.rule.specs.Good.{Good}
use Rattle.scans.proofs.Toward.{safe_step, near_step, theorem5}
use Rattle.scans.specs.Progress.{Receives, rank}
use Rattle.scans.proofs.Progress.{rank_far, rank_le}
use Rattle.scans.specs.Scans.{forward, spare}
use Rattle.blocks.specs.Phase.{after}
use Rattle.blocks.specs.Turns.{Room}
use Rattle.blocks.proofs.Phases.{after_le}
use Rattle.blocks.proofs.Calls.{Hops, Passes, none_safe, none_ordinary, pass_safe, pass_ordinary, pass_working, Away}
use Rattle.blocks.proofs.Turns.{still_most, early}

module _ (n : ℕ) (lab : ℕ → ℕ) (G : Good n lab) (d : ℕ) (hd : d < 2 ^ n) (wd : Receives (lab d)) (x : ℕ) (hx : x < 2 ^ n) (ex : lab x ≡ 0) where
  module _ (p c : ℕ) (hc : c < 2 ^ n) where
    -- ---- where the forward call makes no hop

    -- the destination is not next door
    pass_far : 0 < dist c d → Away n lab d p c → Passes n lab d p c forward → 1 < dist c d
    pass_far h away q = omega (arith, not_one)
      where
        not_one : dist c d ≢ 1
        not_one e = go wd
          where
            r : (i : ℕ) × (i < n) × (apart i c d ≡ true) × (c ≡ flip i d)
            r = neighbour n c d hc hd e

            same : lab (flip r.0 c) ≡ lab d
            same = ap lab (ap (flip r.0) r.3 ∙ flip_flip n r.0 d r.1 hd)

            go : Receives (lab d) → ⊥
            go (inl w) = omega (arith, same, pass_working n lab d p c forward r.0 r.1 r.2 (omega arith) q)
            go (inr w) = away r.0 r.1 r.2 e (same ∙ w)

    -- the node is not safe
    pass_unsafe : 1 < dist c d → Passes n lab d p c forward → 0 < lab c
    pass_unsafe h q = omega (arith, not-safe (either (leb (dist c d) 2)))
      where
        not-safe : (leb (dist c d) 2 ≡ true) ⊎ (leb (dist c d) 2 ≡ false) → lab c ≢ 0
        not-safe (inl a) e =
            let r = near_step n lab G c d hc hd e h in
            omega (arith, pass_working n lab d p c forward r.0 r.1 r.2 (leb-true (dist c d) 2 a) q)
        not-safe (inr a) e =
            let r = safe_step n lab G c d hc hd e (leb-false (dist c d) 2 a) in
            omega (arith, pass_safe n lab d p c forward r.0 r.1 r.2 q)

    -- the neighbour with a better label is across a spare dimension
    ordinary_aside : Passes n lab d p c forward → lab c ≡ 1 → (j : ℕ) × (j < n) × (apart j c d ≡ false) × (lab (flip j c) ≡ 0)
    ordinary_aside q e = go (G.ordinary c hc e)
      where
        go : (j : ℕ) × (j < n) × (lab (flip j c) ≡ 0) → (j : ℕ) × (j < n) × (apart j c d ≡ false) × (lab (flip j c) ≡ 0)
        go r = ⊎_elim (λ a. absurd (omega (arith, pass_safe n lab d p c forward r.0 r.1 a q))) (λ a. (r.0, r.1, a, r.2)) (either (apart r.0 c d))

    strong_aside : p ≤ 1 → Passes n lab d p c forward → lab c ≡ 2 → (j : ℕ) × (j < n) × (apart j c d ≡ false) × (lab (flip j c) ≡ 1)
    strong_aside l q e = go (theorem5 n lab G c hc e x hx ex)
      where
        go : (j : ℕ) × (j < n) × (lab (flip j c) ≡ 1) → (j : ℕ) × (j < n) × (apart j c d ≡ false) × (lab (flip j c) ≡ 1)
        go r = ⊎_elim (λ a. absurd (omega (arith, pass_ordinary n lab d p c forward r.0 r.1 a l q))) (λ a. (r.0, r.1, a, r.2)) (either (apart r.0 c d))

    module _ (wc : lab c ≤ 2) (room : Room n lab d p c) where
      -- the spare call never passes too
      pub never_halted : 0 < dist c d → Away n lab d p c → Passes n lab d p c forward → Passes n lab d p c spare → ⊥
      never_halted h away q r = omega (arith, wc, k, not_one, not_two)
        where
          l : 1 < dist c d
          l = pass_far h away q

          k : 0 < lab c
          k = pass_unsafe l q

          not_one : lab c ≢ 1
          not_one e = let j = ordinary_aside q e in omega (arith, pass_safe n lab d p c spare j.0 j.1 j.2 r)

          not_two : lab c ≢ 2
          not_two e =
              let s = early n lab d p c room l k in
              let m : p ≤ 1 = omega arith in
              let j = strong_aside m q e in
              omega (arith, pass_ordinary n lab d p c spare j.0 j.1 j.2 m r)

      -- ---- a spare hop leads to a better label

      module _ (s i : ℕ) (h : 0 < dist c d) (away : Away n lab d p c) (q : Passes n lab d p c forward) (r : Hops n lab d p c spare s i) where
        far : 1 < dist c d
        far = pass_far h away q

        better_one : lab c ≡ 1 → lab (flip i c) < lab c
        better_one e = go (ordinary_aside q e) (either (ltb s 2))
          where
            go : (j : ℕ) × (j < n) × (apart j c d ≡ false) × (lab (flip j c) ≡ 0) → (ltb s 2 ≡ true) ⊎ (ltb s 2 ≡ false) → lab (flip i c) < lab c
            go j (inl a) = omega (arith, ltb-true s 2 a, r.fit.low, r.row.late)
            go j (inr a) =
                let l = ltb-false s 2 a in
                absurd (omega (arith, none_safe n lab d p c spare j.0 j.1 j.2 (r.earlier 0 (omega arith)) (r.earlier 1 (omega arith))))

        better_two : lab c ≡ 2 → lab (flip i c) < lab c
        better_two e = go (strong_aside (omega (arith, early n lab d p c room far (omega arith))) q e) (either (ltb s 4))
          where
            go : (j : ℕ) × (j < n) × (apart j c d ≡ false) × (lab (flip j c) ≡ 1) → (ltb s 4 ≡ true) ⊎ (ltb s 4 ≡ false) → lab (flip i c) < lab c
            go j (inl a) = omega (arith, ltb-true s 4 a, r.fit.low, r.row.late)
            go j (inr a) =
                let l = ltb-false s 4 a in
                absurd (omega (arith, none_ordinary n lab d p c spare j.0 j.1 j.2 (r.earlier 2 (omega arith)) (r.earlier 3 (omega arith))))

        pub better : lab (flip i c) < lab c
        better = go (either (leb (lab c) 1))
          where
            go : (leb (lab c) 1 ≡ true) ⊎ (leb (lab c) 1 ≡ false) → lab (flip i c) < lab c
            go (inl a) = better_one (omega (arith, leb-true (lab c) 1 a, pass_unsafe far q))
            go (inr a) = better_two (omega (arith, leb-false (lab c) 1 a))

        pub aside_rank : rank lab d (flip i c) < rank lab d c
        aside_rank =
            omega (arith, better, rank_le lab d (flip i c), rank_far lab d c far, dist_rise n i c d hc hd r.dim_lt r.fit.on)

        pub aside_room : Room n lab d (after p c i) (flip i c)
        aside_room = omega (arith, better, early n lab d p c room far (pass_unsafe far q), after_le p c i, still_most n lab d (after p c i) (flip i c))
