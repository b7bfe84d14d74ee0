-- The table of the scans says what RULES says (One hop), also of the hop before them. A dimension that suits a line has all of its parts: so they
-- are read off the line of its scan and put together again.
use mathlib.Core.Path.{◌≡◌, refl, ap}
use mathlib.Core.Logic.{◌⊎◌, inl, inr, ⊎_elim}
use mathlib.Core.Bool.{true, ◌&&◌, beq}
use Prim.Native.Nat.{ℕ, zero, suc, ◌≤◌}
use native.Mathlib.Omega.{arith}
use lib.Dec.{eqb, leb}
use borrow.Author.Tests.{eq-eqb, eqb-true, leb-true, le-leb}
use Rattle.cube.specs.Cube.{apart, dist, flip}
use Rattle.cube.proofs.Bools.{and_true, beq_same, beq_true, clash, or_left, or_right, or_true}
use Rattle.cube.proofs.Laws.{across_one, agree_apart, apart_agree, apart_differ, differ_apart, one_across}
use Rattle.scans.specs.Hit.{Hit, MayEnterStrong, TableHits, scan0, scan1, scan2, scan3, scan4, scan5, takes_at}
use Rattle.scans.specs.Scans.{Scan, scan_at, suits, takes}

module _ (lab : ℕ → ℕ) (c d : ℕ) where
  abbrev scan_here : ℕ → Scan
  scan_here = scan_at (dist c d) (lab c)

  -- ---- a line of the table, taken apart and put together

  record Suits (s i : ℕ) : Type 0 where
    allowed : (scan_here s).allowed ≡ true
    side : apart i c d ≡ (scan_here s).side
    bottom : (scan_here s).bottom ≤ lab (flip i c)
    top : lab (flip i c) ≤ (scan_here s).top

  suited : (s i : ℕ) → takes_at lab c d s i ≡ true → Suits s i
  unfolding takes suits
  suited s i e =
      let z = scan_here s in
      let y = lab (flip i c) in
      let a = and_true z.allowed (beq (apart i c d) z.side && (leb z.bottom y && leb y z.top)) e in
      let b = and_true (beq (apart i c d) z.side) (leb z.bottom y && leb y z.top) a.1 in
      let l = and_true (leb z.bottom y) (leb y z.top) b.1 in
      record { allowed = a.0; side = beq_true (apart i c d) z.side b.0; bottom = leb-true z.bottom y l.0; top = leb-true y z.top l.1 }

  taken : (s i : ℕ) → Suits s i → takes_at lab c d s i ≡ true
  unfolding takes suits
  taken s i z =
      rw (z.allowed, z.side, beq_same (scan_here s).side, le-leb (scan_here s).bottom (lab (flip i c)) z.bottom)
      (le-leb (lab (flip i c)) (scan_here s).top z.top)

  -- ---- line by line

  -- where scan 3 is allowed: the table's bound on the distance is that of the words
  open_third : (scan_here 3).allowed ≡ true → MayEnterStrong lab c d
  open_third e =
      ⊎_elim (λ (t : eqb (lab c) 2 ≡ true). inl (eqb-true (lab c) 2 t)) (λ t. inr (leb-true (dist c d) _ t)) (or_true (eqb (lab c) 2) _ e)

  third_open : MayEnterStrong lab c d → (scan_here 3).allowed ≡ true
  third_open (inl e) = or_left _ (eq-eqb (lab c) 2 e)
  third_open (inr l) = or_right (eqb (lab c) 2) (le-leb (dist c d) _ l)

  hit : (s i : ℕ) → Suits s i → Hit lab c d s i
  hit zero i z =
      let e = one_across i c d z.side (eqb-true (dist c d) _ z.allowed) in
      scan0 e (omega (arith, z.bottom, z.top, ap lab e))
  hit (suc zero) i z = scan1 (apart_differ i c d z.side) (omega (arith, z.top))
  hit (suc (suc zero)) i z = scan2 (apart_differ i c d z.side) z.top
  hit (suc (suc (suc zero))) i z = scan3 (apart_differ i c d z.side) z.top (open_third z.allowed)
  hit (suc (suc (suc (suc zero)))) i z = scan4 (apart_agree i c d z.side) (omega (arith, z.top))
  hit (suc (suc (suc (suc (suc zero))))) i z = scan5 (apart_agree i c d z.side) z.top
  hit (suc (suc (suc (suc (suc (suc s)))))) i z = absurd (clash z.allowed refl)

  suit : {s i : ℕ} → Hit lab c d s i → Suits s i
  suit {s} {i} (scan0 e q) =
      let r = across_one i c d e in
      record { allowed = eq-eqb (dist c d) 1 r.1; side = r.0; bottom = omega (arith, q, ap lab e); top = omega (arith, q, ap lab e) }
  suit {s} {i} (scan1 f e) = record { allowed = refl; side = differ_apart i c d f; bottom = omega arith; top = omega (arith, e) }
  suit {s} {i} (scan2 f l) = record { allowed = refl; side = differ_apart i c d f; bottom = omega arith; top = l }
  suit {s} {i} (scan3 f l o) = record { allowed = third_open o; side = differ_apart i c d f; bottom = omega arith; top = l }
  suit {s} {i} (scan4 e z) = record { allowed = refl; side = agree_apart i c d e; bottom = omega arith; top = omega (arith, z) }
  suit {s} {i} (scan5 e l) = record { allowed = refl; side = agree_apart i c d e; bottom = omega arith; top = l }

pub table_hits : TableHits
table_hits lab c d s i = (λ e. hit lab c d s i (suited lab c d s i e), λ h. taken lab c d s i (suit lab c d h))
