-- What a decision depends on (RULES, One hop). Proved in proofs/Local.antt.
use Rattle.std.specs.Prelude.{◌≡◌, ℕ, ◌<◌}
use Rattle.cube.specs.Cube.{flip}
use Rattle.hop.specs.Hop.{hopped}

-- the decision, and its refusals too, depend on n, the job, c, d, the label buffer's length, and in the job's half on the label of c and those of c's n
-- neighbours, and on no other byte
abbrev pub HopLocal : Type 0
HopLocal =
    (n j c d m : ℕ) (lab lab' : ℕ → ℕ) → lab c ≡ lab' c → ((i : ℕ) → i < n → lab (flip i c) ≡ lab' (flip i c))
    → hopped n j c d m lab ≡ hopped n j c d m lab'
