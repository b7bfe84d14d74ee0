-- What a walk depends on (RULES, Which nodes work). Proved in proofs/Local.antt.
use Rattle.std.specs.Prelude.{◌≡◌, ℕ, ◌^◌, ◌<◌}
use Rattle.walk.specs.Walk.{walked}

-- a walk, and its refusals too, depend on the numbers that it is asked with and on the labels of the cube's nodes in the job's half alone
abbrev pub WalkLocal : Type 0
WalkLocal =
    (n j s d m room : ℕ) (lab lab' : ℕ → ℕ) → ((x : ℕ) → x < 2 ^ n → lab x ≡ lab' x)
    → walked n j s d m room lab ≡ walked n j s d m room lab'
