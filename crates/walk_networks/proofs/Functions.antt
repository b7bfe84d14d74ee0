-- The crate's public function as it is seen from outside, with the claims that the check makes of its clauses, and what its contract says: the answer, and
-- what is left of the hop list, for whatever is handed; and that it asks nothing of its caller.
use mathlib.Core.List.{List}
use mathlib.Core.Path.{refl}
use Prim.Native.Nat.{ℕ}
use lib.ListN.{length}
use Rattle.std.specs.Prelude.{Result}
use Rattle.cube.specs.Allowed.{AsksNothing, Function}
use Rattle.cube.proofs.Contracts.{Says}
use Rattle.cube.specs.declared.refusals.Refusal.{Refusal}
use Rattle.jobs.specs.Jobs.{label_for}
use Rattle.walk_networks.specs.Crossing.{crossing, hops_after}
use Rattle.walk_networks.specs.declared.Crossed.{Crossed}
use Rattle.walk_networks.specs.contracts.walk_networks
use Rattle.walk_networks.proofs.walk_networks.Reads as walk_networks-reads

-- handed the dimension, how many networks there are, the job, both nodes, the labels and a hop list
abbrev pub walk-networks : Function walk_networks.ended (ℕ × ℕ × ℕ × ℕ × ℕ × List ℕ × List ℕ) (Result Crossed Refusal) (List ℕ)
walk-networks =
    record {
      clauses = λ w. walk_networks.clauses w.𝓛 w.𝓜.mem w.𝓡.returns;
      asked = walk_networks-reads.Asked;
      post = walk_networks-reads.Post;
      handed = λ κs a.
          (a.0, a.1.0, a.1.1.0, a.1.1.1.0, a.1.1.1.1.0, a.1.1.1.1.1.0.now, a.1.1.1.1.1.1.0.now);
      answered = λ κs r. r;
      left = λ κs e. e.1.1.1.1.1.1.0.now;
    }

pub walk_networks_asks : AsksNothing walk-networks
walk_networks_asks = record { asked = λ κs a. tt; empty = λ w κs a. (tt, refl) }

pub walk_networks_says :
    Says walk-networks (λ i. crossing i.0 i.1 i.2 i.3 i.4 (length i.5) (length i.6) (label_for i.0 i.2 i.5))
    (λ i. hops_after i.0 i.1 i.2 i.3 i.4 (length i.5) (label_for i.0 i.2 i.5) i.6)
walk_networks_says = record { says = λ κs a r e p. p }
