-- The labels (RULES, Labels), over n, the dimension; k, the number of the rule; F, the nodes that do not work; and byte, the byte of a node that does not work.
-- A mark means unsafe. (Chiu and Wu have rule 3, only faulty nodes in F, and 3 for their byte.)
use Rattle.std.specs.Prelude.{Bool, false, cond, not, ◌&&◌, ◌||◌, ℕ, zero, suc, ◌+◌, ◌^◌, eqb, leb}
use Rattle.cube.specs.Count.{count, least, some}
use Rattle.cube.specs.Cube.{flip}

-- x meets the rule with the marks m: two or more neighbours do not work, or k or more do not work or are marked
unfoldable pub meets : (n k : ℕ) (F m : ℕ → Bool) (x : ℕ) → Bool
meets n k F m x = leb 2 (count n (λ i. F (flip i x))) || leb k (count n (λ i. F (flip i x) || m (flip i x)))

-- a round that begins with the marks m marks x: it works, has no mark yet, and meets the rule
unfoldable pub newly : (n k : ℕ) (F m : ℕ → Bool) (x : ℕ) → Bool
newly n k F m x = not (F x) && (not (m x) && meets n k F m x)

-- the marks after r rounds
unfoldable pub marked : (n k : ℕ) (F : ℕ → Bool) (r x : ℕ) → Bool
marked n k F zero x = false
marked n k F (suc r) x = marked n k F r x || newly n k F (marked n k F r) x

-- round r + 1 marks nothing new
unfoldable pub quiet : (n k : ℕ) (F : ℕ → Bool) (r : ℕ) → Bool
quiet n k F r = eqb (count (2 ^ n) (newly n k F (marked n k F r))) 0

-- how many nodes work
unfoldable pub working : (n : ℕ) (F : ℕ → Bool) → ℕ
working n F = count (2 ^ n) (λ x. not (F x))

-- how many rounds marked something new: the first quiet round is looked for among as many as there are working nodes. The search always ends in
-- time: if none of these is quiet, every working node has its mark and the next one is (`rested`, proofs/Rounds.antt)
unfoldable pub rounds : (n k : ℕ) (F : ℕ → Bool) → ℕ
rounds n k F = least (working n F) (quiet n k F)

-- how many exchanges the cards make (RULES, Exchanges): one for each of these rounds, and the quiet one after them
unfoldable pub exchanges : (n k : ℕ) (F : ℕ → Bool) → ℕ
exchanges n k F = rounds n k F + 1

-- x works and has no mark when the rounds have come to rest
unfoldable pub safe : (n k : ℕ) (F : ℕ → Bool) (x : ℕ) → Bool
safe n k F x = not (F x || marked n k F (rounds n k F) x)

-- the label byte of x, where S are the safe nodes: 0 safe; unsafe: 1 with a safe neighbour, 2 without
unfoldable pub label_of : (n : ℕ) (F : ℕ → Bool) (byte : ℕ → ℕ) (S : ℕ → Bool) (x : ℕ) → ℕ
label_of n F byte S x = cond (F x) (byte x) (cond (S x) 0 (cond (some n (λ i. S (flip i x))) 1 2))

unfoldable pub label : (n k : ℕ) (F : ℕ → Bool) (byte : ℕ → ℕ) (x : ℕ) → ℕ
label n k F byte = label_of n F byte (safe n k F)
