-- The crate's public functions as they are seen from outside, each with the claims that the check makes of its clauses, and what its contract says: the
-- answer, and what is left of what was lent, for whatever is handed; and that an entry point asks nothing of its caller.
use mathlib.Core.Bool.{Bool}
use mathlib.Core.List.{List}
use mathlib.Core.Path.{refl}
use Prim.Native.Nat.{ℕ}
use lib.Dec.{ltb}
use lib.ListN.{get_or, length}
use Rattle.std.specs.Prelude.{Option, Result}
use Rattle.std.specs.Result.{result_map_both}
use Rattle.cube.specs.Allowed.{AsksNothing, Function, Nothing}
use Rattle.cube.proofs.Contracts.{Says}
use Rattle.cube.specs.Count.{least, some}
use Rattle.cube.specs.Cube.{flip}
use Rattle.cube.specs.Refused.{answered}
use Rattle.cube.specs.Tables.{highest, label_in}
use Rattle.jobs.specs.Jobs.{label_for}
use Rattle.scans.specs.Scans as scans
use Rattle.hop.specs.Helpers as helpers
use Rattle.hop.specs.Helpers.{found, gathered, in_set, near_refusal, place_refusal}
use Rattle.hop.specs.Hop as spec
use Rattle.hop.specs.declared.Decision.{Decision}
use Rattle.cube.specs.declared.refusals.Refusal.{Refusal}
use Rattle.hop.specs.contracts.hop as hop-claims
use Rattle.hop.proofs.hop.Reads as hop-claims-reads
use Rattle.hop.specs.contracts.place_refusal
use Rattle.hop.proofs.place_refusal.Reads as place_refusal-reads
use Rattle.hop.specs.contracts.Here.chosen as chosen-claims
use Rattle.hop.proofs.Here.chosen.Reads as chosen-claims-reads
use Rattle.hop.specs.contracts.gather as gather-claims
use Rattle.hop.proofs.gather.Reads as gather-claims-reads
use Rattle.hop.specs.contracts.around as around-claims
use Rattle.hop.proofs.around.Reads as around-claims-reads
use Rattle.hop.specs.contracts.at_node
use Rattle.hop.proofs.at_node.Reads as at_node-reads
use Rattle.hop.specs.contracts.hop_at
use Rattle.hop.proofs.hop_at.Reads as hop_at-reads
use Rattle.hop.specs.contracts.Here.last_hop
use Rattle.hop.proofs.Here.last_hop.Reads as last_hop-reads
use Rattle.hop.specs.contracts.lowest as lowest-claims
use Rattle.hop.proofs.lowest.Reads as lowest-claims-reads
use Rattle.hop.specs.contracts.near_refusal
use Rattle.hop.proofs.near_refusal.Reads as near_refusal-reads

abbrev pub hop : Function hop-claims.ended (ℕ × ℕ × ℕ × ℕ × List ℕ) (Result Decision Refusal) Nothing
hop =
    record {
      clauses = λ w. hop-claims.clauses w.𝓛 w.𝓜.mem w.𝓡.returns;
      asked = hop-claims-reads.Asked;
      post = hop-claims-reads.Post;
      handed = λ κs a. (a.0, a.1.0, a.1.1.0, a.1.1.1.0, a.1.1.1.1.0.now);
      answered = λ κs r. r;
      left = λ κs e. tt;
    }

pub hop_asks : AsksNothing hop
hop_asks = record { asked = λ κs a. tt; empty = λ w κs a. (tt, refl) }

pub hop_says : Says hop (λ i. spec.hopped i.0 i.1 i.2 i.3 (length i.4) (label_for i.0 i.1 i.4)) (λ i. tt)
hop_says = record { says = λ κs a r e p. (p, refl) }

abbrev pub place-refusal : Function place_refusal.ended (ℕ × ℕ × ℕ × ℕ × ℕ × Bool) (Result Unit Refusal) Nothing
place-refusal =
    record {
      clauses = λ w. place_refusal.clauses w.𝓛 w.𝓜.mem w.𝓡.returns;
      asked = place_refusal-reads.Asked;
      post = place_refusal-reads.Post;
      handed = λ κs a. (a.0, a.1.0, a.1.1.0, a.1.1.1.0, a.1.1.1.1.0, a.1.1.1.1.1.0);
      answered = λ κs r. r;
      left = λ κs e. tt;
    }

pub place_refusal_asks : AsksNothing place-refusal
place_refusal_asks = record { asked = λ κs a. tt; empty = λ w κs a. (tt, refl) }

pub place_refusal_says : Says place-refusal (λ i. answered (place_refusal i.0 i.1 i.2 i.3 i.4 i.5) tt) (λ i. tt)
place_refusal_says = record { says = λ κs a r e p. (p, refl) }

abbrev pub near-refusal : Function near_refusal.ended (ℕ × ℕ × ℕ × Bool) (Result Unit Refusal) Nothing
near-refusal =
    record {
      clauses = λ w. near_refusal.clauses w.𝓛 w.𝓜.mem w.𝓡.returns;
      asked = near_refusal-reads.Asked;
      post = near_refusal-reads.Post;
      handed = λ κs a. (a.0, a.1.0, a.1.1.0, a.1.1.1.0);
      answered = λ κs r. r;
      left = λ κs e. tt;
    }

pub near_refusal_asks : AsksNothing near-refusal
near_refusal_asks = record { asked = λ κs a. tt; empty = λ w κs a. (tt, refl) }

pub near_refusal_says : Says near-refusal (λ i. answered (near_refusal i.0 i.1 i.2 i.3) tt) (λ i. tt)
near_refusal_says = record { says = λ κs a r e p. (p, refl) }

-- handed the dimension, the labels and both nodes
abbrev pub hop-at : Function hop_at.ended (ℕ × List ℕ × ℕ × ℕ) Decision Nothing
hop-at =
    record {
      clauses = λ w. hop_at.clauses w.𝓛 w.𝓜.mem w.𝓡.returns;
      asked = hop_at-reads.Asked;
      post = hop_at-reads.Post;
      handed = λ κs a. (a.0.n, a.0.bytes.now, a.1.0, a.1.1.0);
      answered = λ κs r. r;
      left = λ κs e. tt;
    }

pub hop_at_says : Says hop-at (λ i. spec.hop i.0 (label_in i.1) i.2 i.3) (λ i. tt)
hop_at_says = record { says = λ κs a r e p. (p, refl) }

-- handed the dimension, the labels and both nodes
abbrev pub at-node : Function at_node.ended (ℕ × List ℕ × ℕ × ℕ) (Result (ℕ × ℕ × ℕ × ℕ × List ℕ) Refusal) Nothing
at-node =
    record {
      clauses = λ w. at_node.clauses w.𝓛 w.𝓜.mem w.𝓡.returns;
      asked = at_node-reads.Asked;
      post = at_node-reads.Post;
      handed = λ κs a. (a.0.n, a.0.bytes.now, a.1.0, a.1.1.0);
      answered = λ κs r. result_map_both (λ h. (h.n, h.c, h.d, h.own, h.near.now)) (λ x. x) r;
      left = λ κs e. tt;
    }

pub at_node_says : Says at-node (λ i. helpers.at_node i.0 i.2 i.3 (label_in i.1)) (λ i. tt)
at_node_says = record { says = λ κs a r e p. (p, refl) }

-- handed the same
abbrev pub around : Function around-claims.ended (ℕ × List ℕ × ℕ × ℕ) ((ℕ × ℕ × ℕ × ℕ × List ℕ) × Bool) Nothing
around =
    record {
      clauses = λ w. around-claims.clauses w.𝓛 w.𝓜.mem w.𝓡.returns;
      asked = around-claims-reads.Asked;
      post = around-claims-reads.Post;
      handed = λ κs a. (a.0.n, a.0.bytes.now, a.1.0, a.1.1.0);
      answered = λ κs r. ((r.0.n, r.0.c, r.0.d, r.0.own, r.0.near.now), r.1);
      left = λ κs e. tt;
    }

pub around_says : Says around (λ i. (helpers.around i.0 i.2 i.3 (label_in i.1), some i.0 (λ k. ltb highest (label_in i.1 (flip k i.2))))) (λ i. tt)
around_says = record { says = λ κs a r e p. (rw (p.0, p.1) refl, refl) }

-- handed the dimension, the labels, the node and twelve places
abbrev pub gather : Function gather-claims.ended (ℕ × List ℕ × ℕ × List ℕ) Bool (List ℕ)
gather =
    record {
      clauses = λ w. gather-claims.clauses w.𝓛 w.𝓜.mem w.𝓡.returns;
      asked = gather-claims-reads.Asked;
      post = gather-claims-reads.Post;
      handed = λ κs a. (a.0.n, a.0.bytes.now, a.1.0, a.1.1.0.now);
      answered = λ κs r. r;
      left = λ κs e. e.1.1.0.now;
    }

pub gather_says : Says gather (λ i. some i.0 (λ k. ltb highest (label_in i.1 (flip k i.2)))) (λ i. gathered i.0 (label_in i.1) i.2)
gather_says = record { says = λ κs a r e p. (p.1, p.0) }

-- handed the dimension, both nodes, the label of the first and those of its neighbours
abbrev pub chosen : Function chosen-claims.ended (ℕ × ℕ × ℕ × ℕ × List ℕ) (Option (ℕ × ℕ)) Nothing
chosen =
    record {
      clauses = λ w. chosen-claims.clauses w.𝓛 w.𝓜.mem w.𝓡.returns;
      asked = chosen-claims-reads.Asked;
      post = chosen-claims-reads.Post;
      handed = λ κs a. let h = a.0.now in (h.n, h.c, h.d, h.own, h.near.now);
      answered = λ κs r. r;
      left = λ κs e. tt;
    }

pub chosen_says : Says chosen (λ i. helpers.chosen i.0 i.1 i.2 i.3 (λ k. get_or i.4 k 0)) (λ i. tt)
chosen_says = record { says = λ κs a r e p. (p, refl) }

-- handed the dimension, a set of dimensions, the labels across them and the highest that will do
abbrev pub lowest : Function lowest-claims.ended (ℕ × ℕ × List ℕ × ℕ) (Option ℕ) Nothing
lowest =
    record {
      clauses = λ w. lowest-claims.clauses w.𝓛 w.𝓜.mem w.𝓡.returns;
      asked = lowest-claims-reads.Asked;
      post = lowest-claims-reads.Post;
      handed = λ κs a. (a.0, a.1.0, a.1.1.0.now, a.1.1.1.0);
      answered = λ κs r. r;
      left = λ κs e. tt;
    }

pub lowest_says : Says lowest (λ i. found i.0 (least i.0 (in_set i.1 (λ k. get_or i.2 k 0) i.3))) (λ i. tt)
lowest_says = record { says = λ κs a r e p. (p, refl) }

-- handed the dimension, both nodes and the labels of the first's neighbours
abbrev pub last-hop : Function last_hop.ended (ℕ × ℕ × ℕ × List ℕ) (Option ℕ) Nothing
last-hop =
    record {
      clauses = λ w. last_hop.clauses w.𝓛 w.𝓜.mem w.𝓡.returns;
      asked = last_hop-reads.Asked;
      post = last_hop-reads.Post;
      handed = λ κs a. let h = a.0.now in (h.n, h.c, h.d, h.near.now);
      answered = λ κs r. r;
      left = λ κs e. tt;
    }

pub last_hop_says : Says last-hop (λ i. found i.0 (scans.lowest i.0 i.1 i.2 0 (λ k. get_or i.3 k 0) 0)) (λ i. tt)
last_hop_says = record { says = λ κs a r e p. (p, refl) }
