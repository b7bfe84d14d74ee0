-- Each pick on good labels makes progress. ONE RANK serves: the distance l where it is 0 or 1, else l and twice the label. A pick of any scan lowers it: scans 1
-- to 3 lead one nearer and, but for the last two hops, never to a worse label; scans 4 and 5 lead one farther and to a better label, which counts double. Where
-- the destination is safe, or no node is, every pick is forward and l itself falls. The hop to a draining destination, scan 0, is forward and the last.
use mathlib.Core.Path.{◌≡◌, refl, ap, ◌∙◌}
use mathlib.Core.Logic.{◌⊎◌, inl, inr, ⊎_elim, ◌≢◌}
use mathlib.Core.Bool.{true, false}
use Prim.Native.Nat.{ℕ, zero, suc, ◌+◌, ◌*◌, ◌^◌, ◌≤◌, ◌<◌}
use native.Mathlib.Omega.{arith}
use lib.Dec.{leb}
use borrow.Author.Tests.{leb-true, leb-false, le-leb, lt-leb}
use Rattle.cube.specs.Cube.{flip, apart, dist}
use Rattle.cube.proofs.Bools.{either}
use Rattle.cube.proofs.Cube.{flip_lt, flip_flip, dist_fall, dist_rise, dist_self, dist_sym, apart_sym, neighbour}
use Rattle.cube.proofs.Laws.{across_one, agree_apart, apart_agree, apart_differ, differ_apart}
use Rattle.rule.specs.Good.{Good}
use Rattle.scans.specs.Hit.{Draining, Forward, Hit, MayEnterStrong, Spare, scan0, scan1, scan2, scan3, scan4, scan5}
use Rattle.scans.specs.Picks.{Misses, NonePicks, Picks}
use Rattle.scans.specs.Progress.{GoodProgress, Inside, Progress, Receives, ScansProgress, WorksOrEnds, rank}
use Rattle.scans.proofs.Toward.{safe_step, near_step, toward, theorem5}

side : (c d i : ℕ) → Forward c d i ⊎ Spare c d i
side c d i =
    ⊎_elim (λ (a : apart i c d ≡ true). inl (apart_differ i c d a)) (λ (a : apart i c d ≡ false). inr (apart_agree i c d a)) (either (apart i c d))

module _ (lab : ℕ → ℕ) (d x : ℕ) where
  pub rank_near : dist x d ≤ 1 → rank lab d x ≡ dist x d
  unfolding rank
  rank_near h = rw (le-leb (dist x d) 1 h)

  pub rank_far : 1 < dist x d → rank lab d x ≡ dist x d + 2 * lab x
  unfolding rank
  rank_far h = rw (lt-leb (dist x d) 1 h)

  rank_within : (dist x d ≤ rank lab d x) × (rank lab d x ≤ dist x d + 2 * lab x)
  rank_within =
      ⊎_elim
      (λ (t : leb (dist x d) 1 ≡ true). let e = rank_near (leb-true (dist x d) 1 t) in (omega arith, omega arith))
      (λ (t : leb (dist x d) 1 ≡ false). let e = rank_far (leb-false (dist x d) 1 t) in (omega arith, omega arith))
      (either (leb (dist x d) 1))

  pub rank_ge : dist x d ≤ rank lab d x
  rank_ge = rank_within.0

  pub rank_le : rank lab d x ≤ dist x d + 2 * lab x
  rank_le = rank_within.1

module _ (n : ℕ) (lab : ℕ → ℕ) (G : Good n lab) (d : ℕ) (hd : d < 2 ^ n) (wd : Receives (lab d)) where
  -- ---- what scans that take nothing say of the label of c

  module _ (c : ℕ) (hc : c < 2 ^ n) where
    -- at distance 1 scan 3 hits the dimension where the destination works, and scan 0 where it drains
    beyond : 0 < dist c d → Misses n lab c d 0 → Misses n lab c d 3 → 1 < dist c d
    beyond h m0 m3 = omega (arith, not_one)
      where
        not_one : dist c d ≢ 1
        not_one e =
            let r = neighbour n c d hc hd e in
            let there = ap (flip r.0) r.3 ∙ flip_flip n r.0 d r.1 hd in
            ⊎_elim
            (λ (w : lab d ≤ 2). m3 r.0 r.1 (scan3 (apart_differ r.0 c d r.2) (omega (arith, ap lab there)) (inr (omega arith))))
            (λ (w : Draining (lab d)). m0 r.0 r.1 (scan0 there w)) wd

    unsafe_at : 1 < dist c d → Misses n lab c d 2 → 0 < lab c
    unsafe_at h m2 = omega (arith, no)
      where
        no : lab c ≢ 0
        no e = let r = near_step n lab G c d hc hd e h in m2 r.0 r.1 (scan2 (apart_differ r.0 c d r.2) r.3)

    unsafe_far : 2 < dist c d → Misses n lab c d 1 → 0 < lab c
    unsafe_far h m1 = omega (arith, no)
      where
        no : lab c ≢ 0
        no e = let r = safe_step n lab G c d hc hd e h in m1 r.0 r.1 (scan1 (apart_differ r.0 c d r.2) r.3)

    -- a safe neighbour is hit by scan 1 or 4, whichever side it is on; an ordinarily unsafe one by scan 2 or 5
    not_ordinary : Misses n lab c d 1 → Misses n lab c d 4 → lab c ≢ 1
    not_ordinary m1 m4 e =
        let r = G.ordinary c hc e in
        ⊎_elim (λ (f : Forward c d r.0). m1 r.0 r.1 (scan1 f r.2)) (λ (f : Spare c d r.0). m4 r.0 r.1 (scan4 f r.2))
        (side c d r.0)

    not_strong : (s : ℕ) → s < 2 ^ n → lab s ≡ 0 → Misses n lab c d 2 → Misses n lab c d 5 → lab c ≢ 2
    not_strong s hs es m2 m5 e =
        let r = theorem5 n lab G c hc e s hs es in
        let l : lab (flip r.0 c) ≤ 1 = omega (arith, r.2) in
        ⊎_elim (λ (f : Forward c d r.0). m2 r.0 r.1 (scan2 f l)) (λ (f : Spare c d r.0). m5 r.0 r.1 (scan5 f l)) (side c d r.0)

    -- ---- the rank falls

    -- one nearer, and not to a worse label but for the last two hops
    forward_falls : (i : ℕ) → i < n → Forward c d i → (2 < dist c d → lab (flip i c) ≤ lab c) → rank lab d (flip i c) < rank lab d c
    forward_falls i hi f w =
        let near = dist_fall n i c d hc hd hi (differ_apart i c d f) in
        ⊎_elim
        (λ (t : leb (dist c d) 2 ≡ true). omega (arith, rank_near lab d (flip i c) (omega (arith, leb-true (dist c d) 2 t)), rank_ge lab d c))
        (λ (t : leb (dist c d) 2 ≡ false).
        let l = leb-false (dist c d) 2 t in
        omega (arith, w l, rank_le lab d (flip i c), rank_far lab d c (omega arith)))
        (either (leb (dist c d) 2))

    -- one farther, and to a better label
    spare_falls : (i : ℕ) → i < n → Spare c d i → 1 < dist c d → lab (flip i c) < lab c → rank lab d (flip i c) < rank lab d c
    spare_falls i hi f l w = omega (arith, dist_rise n i c d hc hd hi (agree_apart i c d f), rank_le lab d (flip i c), rank_far lab d c l)

    -- a pick leads to a node that works, or to the destination, and the rank falls
    falls : 0 < dist c d → {s i : ℕ} → i < n → Hit lab c d s i → ((t : ℕ) → t < s → Misses n lab c d t)
        → WorksOrEnds lab d (flip i c) × (rank lab d (flip i c) < rank lab d c)
    falls p {s} {i} hi (scan0 e q) m =
        let r = across_one i c d e in
        (inr e, forward_falls i hi (apart_differ i c d r.0) (λ l. absurd (omega (arith, r.1))))
    falls p {s} {i} hi (scan1 f e) m = (inl (omega (arith, e)), forward_falls i hi f (λ l. omega (arith, e)))
    falls p {s} {i} hi (scan2 f e) m = (inl (omega (arith, e)), forward_falls i hi f (λ l. omega (arith, e, unsafe_far l (m 1 (omega arith)))))
    falls p {s} {i} hi (scan3 f e o) m = (inl e, forward_falls i hi f (no_worse o))
      where
        no_worse : MayEnterStrong lab c d → 2 < dist c d → lab (flip i c) ≤ lab c
        no_worse (inl q) l = omega (arith, e, q)
        no_worse (inr q) l = absurd (omega arith)
    falls p {s} {i} hi (scan4 f e) m =
        let l = beyond p (m 0 (omega arith)) (m 3 (omega arith)) in
        (inl (omega (arith, e)), spare_falls i hi f l (omega (arith, e, unsafe_at l (m 2 (omega arith)))))
    falls p {s} {i} hi (scan5 f e) m =
        let l = beyond p (m 0 (omega arith)) (m 3 (omega arith)) in
        let w = not_ordinary (m 1 (omega arith)) (m 4 (omega arith)) in
        (inl (omega (arith, e)), spare_falls i hi f l (omega (arith, e, unsafe_at l (m 2 (omega arith)))))

  -- away from the destination, a node inside works
  away : (c : ℕ) → Inside n lab d c → 0 < dist c d → lab c ≤ 2
  away c p far =
      ⊎_elim (λ (w : lab c ≤ 2). w) (λ (e : c ≡ d). absurd (omega (arith, ap (λ x. dist x d) e, dist_self d))) p.1

  -- the rank falls, and nothing is picked only where no node is safe
  by_rank : Progress n lab d (rank lab d) (λ _. (x : ℕ) → x < 2 ^ n → lab x ≢ 0)
  by_rank =
      record {
        inside = λ c t i p far k. (flip_lt n i c k.dimension p.0, (falls c p.0 far k.dimension k.hits k.earlier).0);
        falls = λ c t i p far k. (falls c p.0 far k.dimension k.hits k.earlier).1;
        stuck = λ c p far m s hs es.
            let l = beyond c p.0 far (m 0) (m 3) in
            let w = not_ordinary c p.0 (m 1) (m 4) in
            let z = not_strong c p.0 s hs es (m 2) (m 5) in
            omega (arith, unsafe_at c p.0 l (m 2), away c p far);
      }

  -- ---- every pick leads nearer

  -- every scan leads from c nearer, to a node that works or to the destination
  abbrev Nearer : (c : ℕ) → Type 0
  Nearer c =
      (s i : ℕ) → i < n → Hit lab c d s i → ((t : ℕ) → t < s → Misses n lab c d t) → Forward c d i × WorksOrEnds lab d (flip i c)

  to_end : (c i : ℕ) → flip i c ≡ d → Forward c d i × WorksOrEnds lab d (flip i c)
  to_end c i e = (apart_differ i c d (across_one i c d e).0, inr e)

  -- where they do from every node, the distance falls
  nearer : (Stuck : ℕ → Type 0) → ((c : ℕ) → Inside n lab d c → 0 < dist c d → Nearer c)
      → ((c : ℕ) → Inside n lab d c → 0 < dist c d → NonePicks n lab c d → Stuck c) → Progress n lab d (λ x. dist x d) Stuck
  nearer Stuck step stuck =
      record {
        inside = λ c s i p far k. (flip_lt n i c k.dimension p.0, (stepped c s i p far k).1);
        falls = λ c s i p far k.
            omega (arith, dist_fall n i c d p.0 hd k.dimension (differ_apart i c d (stepped c s i p far k).0));
        stuck = stuck;
      }
    where
      stepped : (c s i : ℕ) → Inside n lab d c → 0 < dist c d → Picks n lab c d s i → Forward c d i × WorksOrEnds lab d (flip i c)
      stepped c s i p far k = step c p far s i k.dimension k.hits k.earlier

  -- so it is where the destination is safe, and something is always picked;
  to_safe : lab d ≡ 0 → Progress n lab d (λ x. dist x d) (λ _. ⊥)
  to_safe ed = nearer (λ _. ⊥) step (λ c p far m. second c p far (m 2))
    where
      -- the second scan hits something
      second : (c : ℕ) → Inside n lab d c → 0 < dist c d → Misses n lab c d 2 → ⊥
      second c p far m2 =
          let r = towards (dist c d) refl in
          m2 r.0 r.1 (scan2 (apart_differ r.0 c d (apart_sym r.0 c d ∙ r.2)) r.3)
        where
          towards : (k : ℕ) → dist c d ≡ k → (j : ℕ) × (j < n) × (apart j d c ≡ true) × (lab (flip j c) ≤ 1)
          towards zero e = absurd (omega arith)
          towards (suc k) e = toward n lab G c p.0 k d hd (dist_sym d c ∙ e) ed

      step : (c : ℕ) → Inside n lab d c → 0 < dist c d → Nearer c
      step c p far s i hi (scan0 e q) m = to_end c i e
      step c p far s i hi (scan1 f e) m = (f, inl (omega (arith, e)))
      step c p far s i hi (scan2 f e) m = (f, inl (omega (arith, e)))
      step c p far s i hi (scan3 f e o) m = absurd (second c p far (m 2 (omega arith)))
      step c p far s i hi (scan4 f e) m = absurd (second c p far (m 2 (omega arith)))
      step c p far s i hi (scan5 f e) m = absurd (second c p far (m 2 (omega arith)))

  -- and where no node is safe: then nothing is picked only where no neighbour nearer the destination works
  module _ (none : (x : ℕ) → x < 2 ^ n → lab x ≢ 0) where
    dark : (x : ℕ) → x < 2 ^ n → 1 < lab x
    dark x hx = omega (arith, none x hx, no)
      where
        no : lab x ≢ 1
        no e = let r = G.ordinary x hx e in none (flip r.0 x) (flip_lt n r.0 x r.1 hx) r.2

    in_the_dark : Progress n lab d (λ x. dist x d) (λ x. (1 < dist x d) × ((i : ℕ) → i < n → apart i x d ≡ true → 2 < lab (flip i x)))
    in_the_dark =
        nearer (λ x. (1 < dist x d) × ((i : ℕ) → i < n → apart i x d ≡ true → 2 < lab (flip i x))) (λ c p far. step c p.0)
        (λ c p far m. (beyond c p.0 far (m 0) (m 3), halted c p far m))
      where
        halted : (c : ℕ) → Inside n lab d c → 0 < dist c d → NonePicks n lab c d → (i : ℕ) → i < n → apart i c d ≡ true → 2 < lab (flip i c)
        halted c p far m i hi a = omega (arith, no)
          where
            no : ¬ (lab (flip i c) ≤ 2)
            no l = m 3 i hi (scan3 (apart_differ i c d a) l (inl (omega (arith, dark c p.0, away c p far))))

        -- but for the hop to the destination, only scan 3 hits anything
        step : (c : ℕ) → c < 2 ^ n → Nearer c
        step c hc s i hi (scan0 e q) m = to_end c i e
        step c hc s i hi (scan1 f e) m = absurd (omega (arith, e, dark (flip i c) (flip_lt n i c hi hc)))
        step c hc s i hi (scan2 f e) m = absurd (omega (arith, e, dark (flip i c) (flip_lt n i c hi hc)))
        step c hc s i hi (scan3 f e o) m = (f, inl e)
        step c hc s i hi (scan4 f e) m = absurd (omega (arith, e, dark (flip i c) (flip_lt n i c hi hc)))
        step c hc s i hi (scan5 f e) m = absurd (omega (arith, e, dark (flip i c) (flip_lt n i c hi hc)))

  all_three : GoodProgress n lab d
  all_three = record { by_rank = by_rank; to_safe = to_safe; in_the_dark = in_the_dark }

pub scans_progress : ScansProgress
scans_progress = all_three
