-- What the functions inside the crate answer. No contract of a question cites these: proofs/Watching.antt shows that the node is watched well, and
-- proofs/Reasons.antt how the reason is made of it.
use Rattle.std.specs.Prelude.{Bool, cond, ◌&&◌, ◌||◌, List, ℕ, eqb, leb, Option, Some, None}
use Rattle.cube.specs.Count.{count}
use Rattle.cube.specs.Cube.{flip}
use Rattle.cube.specs.Tables.{label_in}
use Rattle.rule.specs.Cabinet.{Cabinet, out}
use Rattle.rule.specs.Rule.{marked, rounds}
use Rattle.causes.specs.Cause.{cause_of, cause_with, round_of}
use Rattle.causes.specs.declared.Cause.{Cause}
use Rattle.passes.specs.Passes.{mark_in, out_in}
use Rattle.why.specs.declared.HopReason.{HopReason}
use Rattle.why.specs.declared.HopReason.TheVariants as hop
use Rattle.why.specs.declared.NodeReason.{NodeReason}
use Rattle.why.specs.declared.NodeReason.TheVariants as reason

-- by the table l while the rounds go on: node y does not work or, where marks count too, an earlier round marked it
unfoldable pub counted : (l : List ℕ) (marks : Bool) (y : ℕ) → Bool
counted l marks y = out_in l y || (marks && mark_in l y)

-- what is seen of the watched node: the round that marked it and its cause
abbrev pub Watched : Type 0
Watched = Option (ℕ × Cause)

-- once the round of this number has made its marks in the table l
unfoldable pub watched_on : (n k : ℕ) (l : List ℕ) (x round : ℕ) (before : Watched) → Watched
watched_on n k l x round before = cond (eqb (label_in l x) 128) (Some (round, cause_with n k (out_in l) (mark_in l) x)) before

-- what is seen of x after r rounds, and in the end
unfoldable pub watched_after : (K : Cabinet) (x r : ℕ) → Watched
watched_after K x r =
    cond (marked K.n K.rule (out K) r x) (Some (round_of K.n K.rule (out K) x, cause_of K.n K.rule (out K) x)) None

unfoldable pub watched_of : (K : Cabinet) (x : ℕ) → Watched
watched_of K x = watched_after K x (rounds K.n K.rule (out K))

-- the reason, by the final labels lab and by what was seen
unfoldable pub unmarked : (n : ℕ) (lab : ℕ → ℕ) (x : ℕ) → NodeReason
unmarked n lab x = cond (leb 3 (lab x)) (reason.Out (lab x)) (reason.Safe (count n (λ i. leb 3 (lab (flip i x)))) (count n (λ i. leb 1 (lab (flip i x)))))

abbrev pub reason_by : (n : ℕ) (lab : ℕ → ℕ) (x : ℕ) → Watched → NodeReason
reason_by n lab x None = unmarked n lab x
reason_by n lab x (Some (r, c)) = reason.Unsafe (lab x) r c

-- why a hop is taken away from the destination, by what the scans picked, the scan and its dimension
abbrev pub taken : (picked : Option (ℕ × ℕ)) → HopReason
taken None = hop.Halted
taken (Some p) = hop.Hop p.0 p.1
