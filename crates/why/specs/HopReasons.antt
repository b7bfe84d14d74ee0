-- Why a hop is taken (RULES, Why a hop is taken): the decision of the hop question, with the scan that took it. The question is asked for a job of any label
-- buffer: m is the buffer's length, j the job, and lab x the byte of node x in the job's half.
use Rattle.std.specs.Prelude.{cond, ℕ, ◌+◌, ◌*◌, eqb, ltb, Result, Ok, Err}
use Rattle.cube.specs.Cube.{dist, flip}
use Rattle.cube.specs.declared.refusals.Refusal.{Refusal}
use Rattle.cube.specs.Refused.{answered}
use Rattle.scans.specs.Scans.{first_scan, lowest, no_scan}
use Rattle.hop.specs.Hop.{hop_refusal}
use Rattle.hop.specs.declared.Decision.{Decision}
use Rattle.hop.specs.declared.Decision.TheVariants as decision
use Rattle.why.specs.declared.HopReason.{HopReason}
use Rattle.why.specs.declared.HopReason.TheVariants.{Deliver, Hop, Halted}

-- at distance l, where scan s picked dimension i
unfoldable pub answer : (l s i : ℕ) → HopReason
answer l s i = cond (eqb l 0) Deliver (cond (ltb s no_scan) (Hop s i) Halted)

-- at c for d: near i is the label of the neighbour across dimension i
unfoldable pub explain : (n c d own : ℕ) (near : ℕ → ℕ) → HopReason
explain n c d own near = answer (dist c d) (first_scan n c d own near) (lowest n c d own near (first_scan n c d own near))

-- the answer, with the refusals of the hop question
unfoldable pub hop_reason : (n j c d m : ℕ) (lab : ℕ → ℕ) → Result HopReason Refusal
hop_reason n j c d m lab = answered (hop_refusal n j c d m lab) (explain n c d (lab c) (λ i. lab (flip i c)))

-- the hop question's answer: the same without the scan
abbrev pub without_scan : Result HopReason Refusal → Result Decision Refusal
without_scan (Ok Deliver) = Ok decision.Deliver
without_scan (Ok (Hop s i)) = Ok (decision.Hop i)
without_scan (Ok Halted) = Ok decision.Halted
without_scan (Err r) = Err r

-- the numbers for the cases (RULES, To C), beside the refusal number
abbrev pub kind_of : Result HopReason Refusal → ℕ
kind_of (Ok Deliver) = 0
kind_of (Ok (Hop s i)) = 1
kind_of (Ok Halted) = 2
kind_of (Err r) = 0

abbrev pub value_of : Result HopReason Refusal → ℕ
value_of (Ok Deliver) = 0
value_of (Ok (Hop s i)) = s * 256 + i
value_of (Ok Halted) = 0
value_of (Err r) = 0
