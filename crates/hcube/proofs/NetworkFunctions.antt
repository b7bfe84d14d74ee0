-- The functions of proofs/Functions.antt that go by networks.
use mathlib.Core.List.{List}
use mathlib.Core.Path.{refl}
use Prim.Native.Nat.{ℕ}
use lib.ListN.{length}
use Rattle.cube.specs.Allowed.{AsksNothing, Function, Nothing}
use Rattle.cube.proofs.Contracts.{Says}
use Rattle.jobs.specs.Jobs.{label_for}
use Rattle.hop_networks.specs.Hopping.{hopped_in}
use Rattle.walk_networks.specs.Crossing.{crossing, hops_after}
use Rattle.hcube.specs.Answers.{crossed_number, hop_number}
use Rattle.hcube.specs.contracts.hcube_hop_networks
use Rattle.hcube.proofs.hcube_hop_networks.Reads as hcube_hop_networks-reads
use Rattle.hcube.specs.contracts.hcube_walk_networks
use Rattle.hcube.proofs.hcube_walk_networks.Reads as hcube_walk_networks-reads

abbrev pub hop-networks : Function hcube_hop_networks.ended (ℕ × ℕ × ℕ × ℕ × ℕ × ℕ × ℕ × List ℕ) ℕ Nothing
hop-networks =
    record {
      clauses = λ w. hcube_hop_networks.clauses w.𝓛 w.𝓜.mem w.𝓡.returns;
      asked = hcube_hop_networks-reads.Asked;
      post = hcube_hop_networks-reads.Post;
      handed = λ κs a.
          (a.0, a.1.0, a.1.1.0, a.1.1.1.0, a.1.1.1.1.0, a.1.1.1.1.1.0, a.1.1.1.1.1.1.0, a.1.1.1.1.1.1.1.0.now);
      answered = λ κs r. r;
      left = λ κs e. tt;
    }

pub hop_networks_asks : AsksNothing hop-networks
hop_networks_asks = record { asked = λ κs a. tt; empty = λ w κs a. (tt, refl) }

pub hop_networks_says :
    Says hop-networks (λ i. hop_number (hopped_in i.0 i.1 i.2 i.3 i.4 i.5 i.6 (length i.7) (label_for i.0 i.2 i.7))) (λ i. tt)
hop_networks_says = record { says = λ κs a r e p. (p, refl) }

abbrev pub walk-networks : Function hcube_walk_networks.ended (ℕ × ℕ × ℕ × ℕ × ℕ × List ℕ × List ℕ) ℕ (List ℕ)
walk-networks =
    record {
      clauses = λ w. hcube_walk_networks.clauses w.𝓛 w.𝓜.mem w.𝓡.returns;
      asked = hcube_walk_networks-reads.Asked;
      post = hcube_walk_networks-reads.Post;
      handed = λ κs a.
          (a.0, a.1.0, a.1.1.0, a.1.1.1.0, a.1.1.1.1.0, a.1.1.1.1.1.0.now, a.1.1.1.1.1.1.0.now);
      answered = λ κs r. r;
      left = λ κs e. e.1.1.1.1.1.1.0.now;
    }

pub walk_networks_asks : AsksNothing walk-networks
walk_networks_asks = record { asked = λ κs a. tt; empty = λ w κs a. (tt, refl) }

pub walk_networks_says :
    Says walk-networks (λ i. crossed_number (crossing i.0 i.1 i.2 i.3 i.4 (length i.5) (length i.6) (label_for i.0 i.2 i.5)))
    (λ i. hops_after i.0 i.1 i.2 i.3 i.4 (length i.5) (label_for i.0 i.2 i.5) i.6)
walk_networks_says = record { says = λ κs a r e p. p }
