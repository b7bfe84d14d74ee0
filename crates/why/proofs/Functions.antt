-- The crate's public functions as they are seen from outside, each with the claims that the check makes of its clauses, and what its contract says: the
-- answer, and what is left of what was lent, for whatever is handed; and that an entry point asks nothing of its caller.
use mathlib.Core.List.{List}
use mathlib.Core.Path.{refl}
use Prim.Native.Nat.{ℕ}
use lib.ListN.{length}
use Rattle.std.specs.Prelude.{Result}
use Rattle.cube.specs.declared.refusals.Refusal.{Refusal}
use Rattle.cube.specs.Allowed.{AsksNothing, Function, Nothing}
use Rattle.cube.proofs.Contracts.{Says}
use Rattle.jobs.specs.Jobs.{label_for}
use Rattle.rule.specs.Cabinet.{cabinet}
use Rattle.why.specs.HopReasons.{hop_reason}
use Rattle.why.specs.NodeReasons.{labels_left, node_reason}
use Rattle.why.specs.declared.HopReason.{HopReason}
use Rattle.why.specs.declared.NodeReason.{NodeReason}
use Rattle.why.specs.contracts.why_hop
use Rattle.why.proofs.why_hop.Reads as why_hop-reads
use Rattle.why.specs.contracts.why_node
use Rattle.why.proofs.why_node.Reads as why_node-reads

-- handed what labelling is, and between the job and the tables the node
abbrev pub why-node : Function why_node.ended (ℕ × ℕ × ℕ × ℕ × List ℕ × List ℕ × List ℕ × List ℕ) (Result NodeReason Refusal) (List ℕ)
why-node =
    record {
      clauses = λ w. why_node.clauses w.𝓛 w.𝓜.mem w.𝓡.returns;
      asked = why_node-reads.Asked;
      post = why_node-reads.Post;
      handed = λ κs a.
          (a.0, a.1.0, a.1.1.0, a.1.1.1.0, a.1.1.1.1.0.now, a.1.1.1.1.1.0.now, a.1.1.1.1.1.1.0.now, a.1.1.1.1.1.1.1.0.now);
      answered = λ κs r. r;
      left = λ κs e. e.1.1.1.1.1.1.1.0.now;
    }

pub why_node_asks : AsksNothing why-node
why_node_asks = record { asked = λ κs a. tt; empty = λ w κs a. (tt, refl) }

pub why_node_says : Says why-node
    (λ i. node_reason (cabinet i.0 i.1 i.4 i.5 i.6) i.2 (length i.7) i.3)
    (λ i. labels_left (cabinet i.0 i.1 i.4 i.5 i.6) i.2 i.3 i.7)
why_node_says = record { says = λ κs a r e p. (p.0, p.1) }

abbrev pub why-hop : Function why_hop.ended (ℕ × ℕ × ℕ × ℕ × List ℕ) (Result HopReason Refusal) Nothing
why-hop =
    record {
      clauses = λ w. why_hop.clauses w.𝓛 w.𝓜.mem w.𝓡.returns;
      asked = why_hop-reads.Asked;
      post = why_hop-reads.Post;
      handed = λ κs a. (a.0, a.1.0, a.1.1.0, a.1.1.1.0, a.1.1.1.1.0.now);
      answered = λ κs r. r;
      left = λ κs e. tt;
    }

pub why_hop_asks : AsksNothing why-hop
why_hop_asks = record { asked = λ κs a. tt; empty = λ w κs a. (tt, refl) }

pub why_hop_says : Says why-hop (λ i. hop_reason i.0 i.1 i.2 i.3 (length i.4) (label_for i.0 i.1 i.4)) (λ i. tt)
why_hop_says = record { says = λ κs a r e p. (p, refl) }
