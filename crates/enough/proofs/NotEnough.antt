-- Each is proved where its nodes are.
use Prim.Native.Nat.{ℕ}
use Rattle.enough.specs.Enough.{NotEnough}
use Rattle.enough.proofs.NoneBeside.{three, three_out}
use Rattle.enough.proofs.Stones.{two, two_out}

pub not_enough : (n : ℕ) → NotEnough n
not_enough n = record { three_out = three_out n; three = three n; two_out = two_out n; two = two n }
