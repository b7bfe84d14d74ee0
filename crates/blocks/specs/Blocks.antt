-- The decision of Algorithm ROUTE_C, figure 4 of Chiu and Wu 1994 (RULES, Virtual networks). FORWARD tries six blocks in order, and is called for the forward
-- dimensions and, where that makes no hop, for the spare ones. own is c's label and near i the label of the neighbour across dimension i: 0 safe, 1 ordinarily
-- unsafe, 2 strongly unsafe, 3 faulty, 4 draining, which here counts as faulty. p is the message's phase. How many networks the board has plays no part.
use Rattle.std.specs.Prelude.{Bool, true, false, cond, not, ◌&&◌, ◌||◌, List, [], ◌∷◌, ℕ, eqb, leb, ltb, get_or}
use Rattle.std.specs.Bool.{beq}
use Rattle.cube.specs.Count.{least}
use Rattle.cube.specs.Cube.{apart, dist, flip}
use Rattle.scans.specs.Scans as scans
use Rattle.scans.specs.Scans.{forward, spare}
use Rattle.hop.specs.declared.Decision.{Decision}
use Rattle.hop.specs.declared.Decision.TheVariants.{Deliver, Hop, Halted}
use Rattle.blocks.specs.Phase.{down, turns}

-- a block looks for a neighbour with a label of at most top: across a dimension in the phase's direction (the figure's dim_set1) or, where it `turns`, in the
-- other (dim_set2). `tried`: it is looked at in this state; `may`: the hop that it finds is made, and otherwise FORWARD exits without a hop
pub record Block : Type 0 where
  pub turning : Bool
  pub top : ℕ
  pub tried : Bool
  pub may : Bool

abbrev pub block_of : (turning : Bool) (top : ℕ) (tried may : Bool) → Block
block_of turning top tried may = record { turning = turning; top = top; tried = tried; may = may }

abbrev pub on : Bool
on = false

abbrev pub turning : Bool
turning = true

-- "c is strongly unsafe or l ≤ 2"
unfoldable pub eager : (own l : ℕ) → Bool
eager own l = eqb own 2 || leb l 2

-- from down the fourth block hops "in network 0, or where l ≤ 2", the sixth "where l ≤ 2"; from up both do
unfoldable pub may_fourth : (l p : ℕ) → Bool
may_fourth l p = not (down p) || (leb p 1 || leb l 2)

unfoldable pub may_sixth : (l p : ℕ) → Bool
may_sixth l p = not (down p) || leb l 2

-- the figure's six blocks, at distance l from the destination
abbrev pub blocks : (own l p : ℕ) → List Block
blocks own l p =
    block_of on 0 true true
    ∷ block_of turning 0 true true
    ∷ block_of on 1 true true
    ∷ block_of turning 1 true (may_fourth l p)
    ∷ block_of on 2 (eager own l) true
    ∷ block_of turning 2 (eager own l) (may_sixth l p)
    ∷ []

-- block s, and the number that no block has
abbrev pub block_at : (own l p s : ℕ) → Block
block_at own l p s = get_or (blocks own l p) s (block_of on 0 false false)

abbrev pub no_block : ℕ
no_block = 6

-- the block takes dimension i of that side
unfoldable pub fits : (c d p : ℕ) (near : ℕ → ℕ) (side : Bool) (b : Block) (i : ℕ) → Bool
fits c d p near side b i = (beq (apart i c d) side && beq (turns p c i) b.turning) && (leb (near i) b.top && b.tried)

-- the lowest dimension that block s takes, n where it takes none
unfoldable pub lowest : (n c d p own : ℕ) (near : ℕ → ℕ) (side : Bool) (s : ℕ) → ℕ
lowest n c d p own near side s = least n (fits c d p near side (block_at own (dist c d) p s))

-- the first block that takes a dimension, no_block where none does
unfoldable pub first_block : (n c d p own : ℕ) (near : ℕ → ℕ) (side : Bool) → ℕ
first_block n c d p own near side = least no_block (λ s. ltb (lowest n c d p own near side s) n)

-- one call of FORWARD: the dimension of its hop, n where it makes none
unfoldable pub call : (n c d p own : ℕ) (near : ℕ → ℕ) (side : Bool) → ℕ
call n c d p own near side =
    let s : ℕ = first_block n c d p own near side in
    cond (block_at own (dist c d) p s).may (lowest n c d p own near side s) n

-- the hop before FORWARD is Algorithm ROUTE's before its scans, to a draining destination next door: its dimension, n where none is there
abbrev pub home : (n c d : ℕ) (near : ℕ → ℕ) → ℕ
home n c d near = scans.lowest n c d 0 near 0

-- the dimension that is picked: of the hop to a draining destination, else of the forward call's hop, else of the spare call's; n where there is none
unfoldable pub pick : (n c d p own : ℕ) (near : ℕ → ℕ) → ℕ
pick n c d p own near =
    let h : ℕ = home n c d near in
    let i : ℕ = call n c d p own near forward in
    cond (ltb h n) h (cond (ltb i n) i (call n c d p own near spare))

unfoldable pub decide_in : (n c d p own : ℕ) (near : ℕ → ℕ) → Decision
decide_in n c d p own near =
    let i : ℕ = pick n c d p own near in
    cond (eqb (dist c d) 0) Deliver (cond (ltb i n) (Hop i) Halted)

-- the decision with the labels lab
unfoldable pub hop_in : (n : ℕ) (lab : ℕ → ℕ) (d p c : ℕ) → Decision
hop_in n lab d p c = decide_in n c d p (lab c) (λ i. lab (flip i c))
