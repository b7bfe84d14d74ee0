-- What a decision by networks depends on (RULES, Virtual networks). Proved in proofs/Local.antt.
use Rattle.std.specs.Prelude.{◌≡◌, ℕ, ◌<◌}
use Rattle.cube.specs.Cube.{flip}
use Rattle.hop_networks.specs.Hopping.{hopped_in}

-- the decision, and its refusals too, depend on the numbers that it is asked with, the label buffer's length, and in the job's half on the label of c and those
-- of c's n neighbours, and on no other byte
abbrev pub HopInLocal : Type 0
HopInLocal =
    (n N j c d w g m : ℕ) (lab lab' : ℕ → ℕ) → lab c ≡ lab' c → ((i : ℕ) → i < n → lab (flip i c) ≡ lab' (flip i c))
    → hopped_in n N j c d w g m lab ≡ hopped_in n N j c d w g m lab'
