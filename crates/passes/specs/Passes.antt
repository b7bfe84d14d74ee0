-- How labelling keeps its rounds in the lent label table l, the job's half of the buffer. Until the labels are final, 3 is a node that does not work, 2 one
-- that an earlier round marked, 128 one that this round marked, and 0 one that has no mark: so the nodes that the rule counts are those of 3 and of 2. Each
-- definition below the line is what one pass over the table leaves at x.
use Rattle.std.specs.Prelude.{Bool, cond, ◌&&◌, List, ◌≡◌, ℕ, ◌^◌, ◌≤◌, ◌<◌, eqb, length}
use Rattle.cube.specs.Count.{some}
use Rattle.cube.specs.Cube.{flip}
use Rattle.cube.specs.Tables.{label_in}
use Rattle.rule.specs.Cabinet.{Cabinet, out}
use Rattle.rule.specs.Rule.{marked, meets}

-- l is a table of an n-cube; x is a node of it: what the functions inside the crate may assume
pub record Sized (n : ℕ) (l : List ℕ) : Type 0 where
  pub small : n ≤ 12
  pub sized : length l ≡ 2 ^ n

pub record NodeOf (n : ℕ) (l : List ℕ) (x : ℕ) : Type 0 where
  pub small : n ≤ 12
  pub sized : length l ≡ 2 ^ n
  pub inside : x < 2 ^ n

-- while the rounds go on the table has these bytes and no other
pub data KeptByte : ℕ → Type 0 where
  kept_plain : KeptByte 0
  kept_mark : KeptByte 2
  kept_out : KeptByte 3
  kept_new : KeptByte 128

abbrev pub Kept : (l : List ℕ) → Type 0
Kept l = (x : ℕ) → x < length l → KeptByte (label_in l x)

-- by their bytes: the nodes that do not work, those that an earlier round marked, and those without a mark
unfoldable pub out_in : (l : List ℕ) (x : ℕ) → Bool
out_in l x = eqb (label_in l x) 3

unfoldable pub mark_in : (l : List ℕ) (x : ℕ) → Bool
mark_in l x = eqb (label_in l x) 2

unfoldable pub plain_in : (l : List ℕ) (x : ℕ) → Bool
plain_in l x = eqb (label_in l x) 0

-- the round that begins with the table l marks x
unfoldable pub fresh : (n k : ℕ) (l : List ℕ) (x : ℕ) → Bool
fresh n k l x = plain_in l x && meets n k (out_in l) (mark_in l) x

-- x is marked and has a neighbour without a mark
unfoldable pub ordinary : (n : ℕ) (l : List ℕ) (x : ℕ) → Bool
ordinary n l x = mark_in l x && some n (λ i. plain_in l (flip i x))

-- the byte of x after r rounds of the cabinet K
unfoldable pub held : (K : Cabinet) (r x : ℕ) → ℕ
held K r x = cond (out K x) 3 (cond (marked K.n K.rule (out K) r x) 2 0)

-- ---- the passes

-- before the first round: F are the nodes that do not work
unfoldable pub started : (F : ℕ → Bool) (x : ℕ) → ℕ
started F x = cond (F x) 3 0

-- a round: 128 where it marks, elsewhere what stood there
unfoldable pub swept : (n k : ℕ) (l : List ℕ) (x : ℕ) → ℕ
swept n k l x = cond (fresh n k l x) 128 (label_in l x)

-- the end of a round: its marks are marks of an earlier round from now on
unfoldable pub settled : (l : List ℕ) (x : ℕ) → ℕ
settled l x = cond (eqb (label_in l x) 128) 2 (label_in l x)

-- the end of labelling: a node that does not work gets its own byte, and 1 tells the ordinarily unsafe nodes from the strongly unsafe ones
unfoldable pub finished : (n : ℕ) (byte : ℕ → ℕ) (l : List ℕ) (x : ℕ) → ℕ
finished n byte l x = cond (out_in l x) (byte x) (cond (ordinary n l x) 1 (label_in l x))
