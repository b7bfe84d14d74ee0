-- What the functions inside the crate answer. No contract of a question cites these: proofs/Refusals.antt shows how the refusals of a walk are made
-- of them.
use Rattle.std.specs.Prelude.{ℕ, Result}
use Rattle.cube.specs.Refusal.{first}
use Rattle.cube.specs.Refused.{answered}
use Rattle.cube.specs.declared.refusals.Refusal.{Refusal}
use Rattle.walk.specs.Walk.{hops_tests, route, table_tests, walk_from, walk_refusal}
use Rattle.walk.specs.declared.Walked.{Walked}

-- the refusals that the labels give
unfoldable pub table_refusal : (n s d : ℕ) (lab : ℕ → ℕ) → ℕ
table_refusal n s d lab = first (table_tests n s d lab)

-- the walk where these are past: refused with 8 where it would go on
unfoldable pub walk_or_refusal : (n : ℕ) (lab : ℕ → ℕ) (d s : ℕ) → Result Walked Refusal
walk_or_refusal n lab d s = answered (first (hops_tests n s d lab)) (walk_from n (route n lab d) s)

-- the walk, or the refusal of the question
unfoldable pub walk_asked : (n j s d m room : ℕ) (lab : ℕ → ℕ) → Result Walked Refusal
walk_asked n j s d m room lab = answered (walk_refusal n j s d m room lab) (walk_from n (route n lab d) s)
