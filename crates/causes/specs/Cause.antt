-- Why an unsafe node is unsafe (RULES, Why a node has its label), over n, the dimension; k, the number of the rule; and F, the nodes that do not work: draining
-- counts as faulty here. A cause names neighbours by their dimensions.
use Rattle.std.specs.Prelude.{Bool, cond, ◌&&◌, ◌||◌, ℕ, zero, suc, ◌+◌, eqb, leb}
use Rattle.cube.specs.Count.{count, least}
use Rattle.cube.specs.Cube.{flip}
use Rattle.rule.specs.Rule.{marked, rounds}
use Rattle.causes.specs.declared.Cause.{Cause}
use Rattle.causes.specs.declared.Cause.TheVariants.{Faulty, Two, Three}

-- the lowest dimension from i on that has p, n where there is none
unfoldable pub from : (n : ℕ) (p : ℕ → Bool) (i : ℕ) → ℕ
from n p i = least n (λ j. leb i j && p j)

-- the dimension that has p and has so many lower ones before it that have p; n where there is none
unfoldable pub nth : (n : ℕ) (p : ℕ → Bool) (passed : ℕ) → ℕ
nth n p zero = from n p 0
nth n p (suc passed) = from n p (nth n p passed + 1)

-- the neighbours of x that do not work, and those that do not work or have a mark of m
abbrev pub out_near : (F : ℕ → Bool) (x i : ℕ) → Bool
out_near F x i = F (flip i x)

abbrev pub bad_near : (F m : ℕ → Bool) (x i : ℕ) → Bool
bad_near F m x i = F (flip i x) || m (flip i x)

-- as many bad ones as the rule's number
unfoldable pub bad_cause : (n k : ℕ) (F m : ℕ → Bool) (x : ℕ) → Cause
bad_cause n k F m x =
    cond (eqb k 2)
    (Two (nth n (bad_near F m x) 0) (nth n (bad_near F m x) 1))
    (Three (nth n (bad_near F m x) 0) (nth n (bad_near F m x) 1) (nth n (bad_near F m x) 2))

-- the cause of x, where m are the marks of the earlier rounds: two that do not work, if it has two, and otherwise so many bad ones
unfoldable pub cause_with : (n k : ℕ) (F m : ℕ → Bool) (x : ℕ) → Cause
cause_with n k F m x = cond (leb 2 (count n (out_near F x))) (Faulty (nth n (out_near F x) 0) (nth n (out_near F x) 1)) (bad_cause n k F m x)

-- how many rounds were over when x was marked, and the round that marked it: the next one
unfoldable pub earlier : (n k : ℕ) (F : ℕ → Bool) (x : ℕ) → ℕ
earlier n k F x = least (rounds n k F) (λ r. marked n k F (suc r) x)

unfoldable pub round_of : (n k : ℕ) (F : ℕ → Bool) (x : ℕ) → ℕ
round_of n k F x = earlier n k F x + 1

-- the cause of an unsafe node x: with the marks that stood when that round began
unfoldable pub cause_of : (n k : ℕ) (F : ℕ → Bool) (x : ℕ) → Cause
cause_of n k F x = cause_with n k F (marked n k F (earlier n k F x)) x
