-- What a walk by networks depends on (RULES, Which nodes work). Proved in proofs/Local.antt.
use Rattle.std.specs.Prelude.{List, ◌≡◌, ℕ, ◌^◌, ◌<◌, length}
use Rattle.walk_networks.specs.Crossing.{crossing, hops_after}

-- a walk, its refusals and its hops depend on the numbers that it is asked with, the length of the hop list and the labels of the cube's nodes in the job's
-- half alone
abbrev pub CrossingLocal : Type 0
CrossingLocal =
    (n N j s d m : ℕ) (lab lab' : ℕ → ℕ) → ((x : ℕ) → x < 2 ^ n → lab x ≡ lab' x) → (list : List ℕ)
    → (crossing n N j s d m (length list) lab ≡ crossing n N j s d m (length list) lab')
    × (hops_after n N j s d m lab list ≡ hops_after n N j s d m lab' list)
