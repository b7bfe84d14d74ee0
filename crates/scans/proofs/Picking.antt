-- What the scans pick: the two searches of the definition, over the scans and over the dimensions, give the first scan and its lowest dimension.
use mathlib.Core.Path.{◌≡◌}
use mathlib.Core.Bool.{false}
use Prim.Native.Nat.{ℕ, ◌≤◌, ◌<◌}
use native.Mathlib.Omega.{arith}
use lib.Dec.{ltb}
use borrow.Author.Tests.{ltb-true, ltb-false}
use Rattle.cube.specs.Cube.{flip}
use Rattle.cube.proofs.Bools.{clash}
use Rattle.cube.proofs.Search.{Least, the_least}
use Rattle.scans.specs.Hit.{Hit, scan0, scan1, scan2, scan3, scan4, scan5, takes_at}
use Rattle.scans.specs.Picks.{Misses, NonePicks, Picks}
use Rattle.scans.specs.Scans.{first_scan, lowest, no_scan}
use Rattle.scans.proofs.Hit.{table_hits}

-- the first scan that takes a dimension, and the lowest that scan s takes
abbrev pub first_scan_at : (n : ℕ) (lab : ℕ → ℕ) (c d : ℕ) → ℕ
first_scan_at n lab c d = first_scan n c d (lab c) (λ j. lab (flip j c))

abbrev pub lowest_at : (n : ℕ) (lab : ℕ → ℕ) (c d s : ℕ) → ℕ
lowest_at n lab c d = lowest n c d (lab c) (λ j. lab (flip j c))

module _ (n : ℕ) (lab : ℕ → ℕ) (c d : ℕ) where
  abbrev first : ℕ
  first = first_scan_at n lab c d

  the_lowest : (s : ℕ) → Least n (takes_at lab c d s)
  the_lowest s = the_least n (takes_at lab c d s)

  the_first : Least no_scan (λ s. ltb (lowest_at n lab c d s) n)
  the_first = the_least no_scan (λ s. ltb (lowest_at n lab c d s) n)

  no_hit : (s i : ℕ) → takes_at lab c d s i ≡ false → ¬ (Hit lab c d s i)
  no_hit s i e h = clash ((table_hits lab c d s i).1 h) e

  missed : (t : ℕ) → t < first → Misses n lab c d t
  unfolding first_scan lowest
  missed t h j l = no_hit t j ((the_lowest t).before j (omega (arith, ltb-false (lowest_at n lab c d t) n (the_first.before t h))))

  pub first_picks : first < no_scan → Picks n lab c d first (lowest_at n lab c d first)
  unfolding first_scan lowest
  first_picks h =
      let i = ltb-true (lowest_at n lab c d first) n (the_first.hit h) in
      record {
        dimension = i;
        hits = (table_hits lab c d first (lowest_at n lab c d first)).0 ((the_lowest first).hit i);
        lowest = λ j l. no_hit first j ((the_lowest first).before j l);
        earlier = missed;
      }

  -- there is no scan but these
  pub hit_scan : {s i : ℕ} → Hit lab c d s i → s < no_scan
  hit_scan (scan0 _ _) = omega arith
  hit_scan (scan1 _ _) = omega arith
  hit_scan (scan2 _ _) = omega arith
  hit_scan (scan3 _ _ _) = omega arith
  hit_scan (scan4 _ _) = omega arith
  hit_scan (scan5 _ _) = omega arith

  pub none_picks : no_scan ≤ first → NonePicks n lab c d
  none_picks h s j l k = missed s (omega (arith, hit_scan k)) j l k
