-- The five scans of Algorithm ROUTE at a node c on the way to d, as a table in their order (RULES, One hop), and before them, as scan 0, the hop to a draining
-- destination. own is c's label and near i the label of the neighbour across dimension i: what the scans pick depends on these, on
-- n, c and d, and on nothing else.
use Rattle.std.specs.Prelude.{Bool, true, false, ◌&&◌, ◌||◌, List, [], ◌∷◌, ℕ, eqb, leb, ltb, get_or}
use Rattle.std.specs.Bool.{beq}
use Rattle.cube.specs.Count.{least}
use Rattle.cube.specs.Cube.{apart, dist}

-- a dimension in which c and d differ is forward, any other spare
abbrev pub forward : Bool
forward = true

abbrev pub spare : Bool
spare = false

-- a scan goes through the dimensions of one side and takes one whose neighbour's label is from bottom to top (0 to 0: safe, to 1: safe or ordinarily
-- unsafe, to 2: it works; 4 to 4: draining), where it is allowed at all
pub record Scan : Type 0 where
  pub side : Bool
  pub bottom : ℕ
  pub top : ℕ
  pub allowed : Bool

abbrev pub scan_of : (side : Bool) (bottom top : ℕ) (allowed : Bool) → Scan
scan_of side bottom top allowed = record { side = side; bottom = bottom; top = top; allowed = allowed }

-- scans 0 to 5 at distance l from the destination: at distance 1 the forward neighbour is the destination
abbrev pub scans : (l own : ℕ) → List Scan
scans l own =
    scan_of forward 4 4 (eqb l 1)
    ∷ scan_of forward 0 0 true
    ∷ scan_of forward 0 1 true
    ∷ scan_of forward 0 2 (eqb own 2 || leb l 2)
    ∷ scan_of spare 0 0 true
    ∷ scan_of spare 0 1 true
    ∷ []

-- scan s, and the number that no scan has
abbrev pub scan_at : (l own s : ℕ) → Scan
scan_at l own s = get_or (scans l own) s (scan_of forward 0 0 false)

abbrev pub no_scan : ℕ
no_scan = 6

-- dimension i suits a scan
unfoldable pub suits : (c d : ℕ) (near : ℕ → ℕ) (z : Scan) (i : ℕ) → Bool
suits c d near z i = z.allowed && (beq (apart i c d) z.side && (leb z.bottom (near i) && leb (near i) z.top))

-- scan s takes dimension i
unfoldable pub takes : (c d own : ℕ) (near : ℕ → ℕ) (s i : ℕ) → Bool
takes c d own near s i = suits c d near (scan_at (dist c d) own s) i

-- the lowest dimension that scan s takes, n where it takes none
unfoldable pub lowest : (n c d own : ℕ) (near : ℕ → ℕ) (s : ℕ) → ℕ
lowest n c d own near s = least n (takes c d own near s)

-- the first scan that takes one, no_scan where none does
unfoldable pub first_scan : (n c d own : ℕ) (near : ℕ → ℕ) → ℕ
first_scan n c d own near = least no_scan (λ s. ltb (lowest n c d own near s) n)
