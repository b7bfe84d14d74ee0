-- The crate's public functions as they are seen from outside, each with the claims that the check makes of its clauses, and what its contract says: the
-- answer, and what is left of what was lent, for whatever is handed; and that an entry point asks nothing of its caller.
use mathlib.Core.List.{List}
use mathlib.Core.Path.{refl, ap₂}
use Prim.Native.Nat.{ℕ}
use lib.ListN.{length}
use Rattle.cube.specs.Allowed.{AsksNothing, Function, Nothing}
use Rattle.cube.proofs.Contracts.{Says}
use Rattle.jobs.specs.Jobs.{label_for}
use Rattle.rule.specs.Cabinet.{cabinet}
use Rattle.labels.specs.Labelling.{labelled, labels_after}
use Rattle.hop.specs.Hop.{hopped}
use Rattle.why.specs.HopReasons.{hop_reason}
use Rattle.why.specs.NodeReasons.{labels_left, node_reason}
use Rattle.notice.specs.Notice.{dimension_at, noticed, table_after}
use Rattle.writer.specs.Writing.{buffer_after, wrote}
use Rattle.list_reader.specs.Reading.{list_refusal, list_table}
use Rattle.list_writer.specs.Lists.{list_after, wrote_list}
use Rattle.repair.specs.Repairing.{namers_after, repair_refusal, result_after}
use Rattle.hcube.specs.Answers.{
  dimension_number,
  hop_number,
  hop_reason_number,
  label_number,
  done_number,
  node_reason_number,
  notice_number,
  row_after,
  walk_number,
  walked_by,
  written_number,
}
use Rattle.hcube.specs.contracts.hcube_label
use Rattle.hcube.proofs.hcube_label.Reads as hcube_label-reads
use Rattle.hcube.specs.contracts.hcube_hop
use Rattle.hcube.proofs.hcube_hop.Reads as hcube_hop-reads
use Rattle.hcube.specs.contracts.hcube_walk
use Rattle.hcube.proofs.hcube_walk.Reads as hcube_walk-reads
use Rattle.hcube.specs.contracts.hcube_why_node
use Rattle.hcube.proofs.hcube_why_node.Reads as hcube_why_node-reads
use Rattle.hcube.specs.contracts.hcube_why_hop
use Rattle.hcube.proofs.hcube_why_hop.Reads as hcube_why_hop-reads
use Rattle.hcube.specs.contracts.hcube_notice_dimension
use Rattle.hcube.proofs.hcube_notice_dimension.Reads as hcube_notice_dimension-reads
use Rattle.hcube.specs.contracts.hcube_read_notice
use Rattle.hcube.proofs.hcube_read_notice.Reads as hcube_read_notice-reads
use Rattle.hcube.specs.contracts.hcube_write_notice
use Rattle.hcube.proofs.hcube_write_notice.Reads as hcube_write_notice-reads
use Rattle.hcube.specs.contracts.hcube_read_list
use Rattle.hcube.proofs.hcube_read_list.Reads as hcube_read_list-reads
use Rattle.hcube.specs.contracts.hcube_write_list
use Rattle.hcube.proofs.hcube_write_list.Reads as hcube_write_list-reads
use Rattle.hcube.specs.contracts.hcube_repair
use Rattle.hcube.proofs.hcube_repair.Reads as hcube_repair-reads
pub use Rattle.hcube.proofs.NetworkFunctions.{hop-networks, hop_networks_asks, hop_networks_says, walk-networks, walk_networks_asks, walk_networks_says}

abbrev pub label : Function hcube_label.ended (ℕ × ℕ × ℕ × List ℕ × List ℕ × List ℕ × List ℕ) ℕ (List ℕ)
label =
    record {
      clauses = λ w. hcube_label.clauses w.𝓛 w.𝓜.mem w.𝓡.returns;
      asked = hcube_label-reads.Asked;
      post = hcube_label-reads.Post;
      handed = λ κs a.
          (a.0, a.1.0, a.1.1.0, a.1.1.1.0.now, a.1.1.1.1.0.now, a.1.1.1.1.1.0.now, a.1.1.1.1.1.1.0.now);
      answered = λ κs r. r;
      left = λ κs e. e.1.1.1.1.1.1.0.now;
    }

pub label_asks : AsksNothing label
label_asks = record { asked = λ κs a. tt; empty = λ w κs a. (tt, refl) }

pub label_says :
    Says label (λ i. label_number (labelled (cabinet i.0 i.1 i.3 i.4 i.5) i.2 (length i.6)))
    (λ i. labels_after (cabinet i.0 i.1 i.3 i.4 i.5) i.2 i.6)
label_says = record { says = λ κs a r e p. (p.0, p.1) }

abbrev pub hop : Function hcube_hop.ended (ℕ × ℕ × ℕ × ℕ × List ℕ) ℕ Nothing
hop =
    record {
      clauses = λ w. hcube_hop.clauses w.𝓛 w.𝓜.mem w.𝓡.returns;
      asked = hcube_hop-reads.Asked;
      post = hcube_hop-reads.Post;
      handed = λ κs a. (a.0, a.1.0, a.1.1.0, a.1.1.1.0, a.1.1.1.1.0.now);
      answered = λ κs r. r;
      left = λ κs e. tt;
    }

pub hop_asks : AsksNothing hop
hop_asks = record { asked = λ κs a. tt; empty = λ w κs a. (tt, refl) }

pub hop_says : Says hop (λ i. hop_number (hopped i.0 i.1 i.2 i.3 (length i.4) (label_for i.0 i.1 i.4))) (λ i. tt)
hop_says = record { says = λ κs a r e p. (p, refl) }

abbrev pub walk : Function hcube_walk.ended (ℕ × ℕ × ℕ × ℕ × List ℕ × List ℕ) ℕ (List ℕ)
walk =
    record {
      clauses = λ w. hcube_walk.clauses w.𝓛 w.𝓜.mem w.𝓡.returns;
      asked = hcube_walk-reads.Asked;
      post = hcube_walk-reads.Post;
      handed = λ κs a. (a.0, a.1.0, a.1.1.0, a.1.1.1.0, a.1.1.1.1.0.now, a.1.1.1.1.1.0.now);
      answered = λ κs r. r;
      left = λ κs e. e.1.1.1.1.1.0.now;
    }

pub walk_asks : AsksNothing walk
walk_asks = record { asked = λ κs a. tt; empty = λ w κs a. (tt, refl) }

pub walk_says :
    Says walk (λ i. walk_number (walked_by i.0 i.1 i.2 i.3 i.4 i.5))
    (λ i. row_after (walked_by i.0 i.1 i.2 i.3 i.4 i.5) i.5)
walk_says = record { says = λ κs a r e p. (p.0, p.1) }

-- handed what labelling is, and between the job and the tables the node
abbrev pub why-node : Function hcube_why_node.ended (ℕ × ℕ × ℕ × ℕ × List ℕ × List ℕ × List ℕ × List ℕ) ℕ (List ℕ)
why-node =
    record {
      clauses = λ w. hcube_why_node.clauses w.𝓛 w.𝓜.mem w.𝓡.returns;
      asked = hcube_why_node-reads.Asked;
      post = hcube_why_node-reads.Post;
      handed = λ κs a.
          (a.0, a.1.0, a.1.1.0, a.1.1.1.0, a.1.1.1.1.0.now, a.1.1.1.1.1.0.now, a.1.1.1.1.1.1.0.now, a.1.1.1.1.1.1.1.0.now);
      answered = λ κs r. r;
      left = λ κs e. e.1.1.1.1.1.1.1.0.now;
    }

pub why_node_asks : AsksNothing why-node
why_node_asks = record { asked = λ κs a. tt; empty = λ w κs a. (tt, refl) }

pub why_node_says :
    Says why-node (λ i. node_reason_number (node_reason (cabinet i.0 i.1 i.4 i.5 i.6) i.2 (length i.7) i.3))
    (λ i. labels_left (cabinet i.0 i.1 i.4 i.5 i.6) i.2 i.3 i.7)
why_node_says = record { says = λ κs a r e p. (p.0, p.1) }

abbrev pub why-hop : Function hcube_why_hop.ended (ℕ × ℕ × ℕ × ℕ × List ℕ) ℕ Nothing
why-hop =
    record {
      clauses = λ w. hcube_why_hop.clauses w.𝓛 w.𝓜.mem w.𝓡.returns;
      asked = hcube_why_hop-reads.Asked;
      post = hcube_why_hop-reads.Post;
      handed = λ κs a. (a.0, a.1.0, a.1.1.0, a.1.1.1.0, a.1.1.1.1.0.now);
      answered = λ κs r. r;
      left = λ κs e. tt;
    }

pub why_hop_asks : AsksNothing why-hop
why_hop_asks = record { asked = λ κs a. tt; empty = λ w κs a. (tt, refl) }

pub why_hop_says :
    Says why-hop (λ i. hop_reason_number (hop_reason i.0 i.1 i.2 i.3 (length i.4) (label_for i.0 i.1 i.4))) (λ i. tt)
why_hop_says = record { says = λ κs a r e p. (p, refl) }

abbrev pub notice_dimension : Function hcube_notice_dimension.ended (List ℕ) ℕ Nothing
notice_dimension =
    record {
      clauses = λ w. hcube_notice_dimension.clauses w.𝓛 w.𝓜.mem w.𝓡.returns;
      asked = hcube_notice_dimension-reads.Asked;
      post = hcube_notice_dimension-reads.Post;
      handed = λ κs a. a.0.now;
      answered = λ κs r. r;
      left = λ κs e. tt;
    }

pub notice_dimension_asks : AsksNothing notice_dimension
notice_dimension_asks = record { asked = λ κs a. tt; empty = λ w κs a. (tt, refl) }

pub notice_dimension_says : Says notice_dimension (λ i. dimension_number (dimension_at i)) (λ i. tt)
notice_dimension_says = record { says = λ κs a r e p. (p, refl) }

abbrev pub read_notice : Function hcube_read_notice.ended (List ℕ × List ℕ) ℕ (List ℕ)
read_notice =
    record {
      clauses = λ w. hcube_read_notice.clauses w.𝓛 w.𝓜.mem w.𝓡.returns;
      asked = hcube_read_notice-reads.Asked;
      post = hcube_read_notice-reads.Post;
      handed = λ κs a. (a.0.now, a.1.0.now);
      answered = λ κs r. r;
      left = λ κs e. e.1.0.now;
    }

pub read_notice_asks : AsksNothing read_notice
read_notice_asks = record { asked = λ κs a. tt; empty = λ w κs a. (tt, refl) }

pub read_notice_says : Says read_notice (λ i. notice_number (noticed i.0 i.1)) (λ i. table_after i.0 i.1)
read_notice_says = record { says = λ κs a r e p. (p.0, p.1) }

abbrev pub write_notice : Function hcube_write_notice.ended (ℕ × List ℕ × List ℕ) ℕ (List ℕ)
write_notice =
    record {
      clauses = λ w. hcube_write_notice.clauses w.𝓛 w.𝓜.mem w.𝓡.returns;
      asked = hcube_write_notice-reads.Asked;
      post = hcube_write_notice-reads.Post;
      handed = λ κs a. (a.0, a.1.0.now, a.1.1.0.now);
      answered = λ κs r. r;
      left = λ κs e. e.1.1.0.now;
    }

pub write_notice_asks : AsksNothing write_notice
write_notice_asks = record { asked = λ κs a. tt; empty = λ w κs a. (tt, refl) }

pub write_notice_says : Says write_notice (λ i. written_number (wrote i.0 i.1 (length i.2))) (λ i. buffer_after i.0 i.1 i.2)
write_notice_says = record { says = λ κs a r e p. (p.0, p.1) }

abbrev pub read_list : Function hcube_read_list.ended (ℕ × List ℕ × List ℕ) ℕ (List ℕ)
read_list =
    record {
      clauses = λ w. hcube_read_list.clauses w.𝓛 w.𝓜.mem w.𝓡.returns;
      asked = hcube_read_list-reads.Asked;
      post = hcube_read_list-reads.Post;
      handed = λ κs a. (a.0, a.1.0.now, a.1.1.0.now);
      answered = λ κs r. r;
      left = λ κs e. e.1.1.0.now;
    }

pub read_list_asks : AsksNothing read_list
read_list_asks = record { asked = λ κs a. tt; empty = λ w κs a. (tt, refl) }

pub read_list_says : Says read_list (λ i. done_number (list_refusal i.0 i.1 i.2)) (λ i. list_table i.0 i.1 i.2)
read_list_says = record { says = λ κs a r e p. (p.0, p.1) }

abbrev pub write_list : Function hcube_write_list.ended (ℕ × List ℕ × List ℕ) ℕ (List ℕ)
write_list =
    record {
      clauses = λ w. hcube_write_list.clauses w.𝓛 w.𝓜.mem w.𝓡.returns;
      asked = hcube_write_list-reads.Asked;
      post = hcube_write_list-reads.Post;
      handed = λ κs a. (a.0, a.1.0.now, a.1.1.0.now);
      answered = λ κs r. r;
      left = λ κs e. e.1.1.0.now;
    }

pub write_list_asks : AsksNothing write_list
write_list_asks = record { asked = λ κs a. tt; empty = λ w κs a. (tt, refl) }

pub write_list_says : Says write_list (λ i. written_number (wrote_list i.0 i.1 (length i.2))) (λ i. list_after i.0 i.1 i.2)
write_list_says = record { says = λ κs a r e p. (p.0, p.1) }

abbrev pub repair : Function hcube_repair.ended (ℕ × List ℕ × List ℕ × List ℕ × List ℕ) ℕ (List ℕ × List ℕ)
repair =
    record {
      clauses = λ w. hcube_repair.clauses w.𝓛 w.𝓜.mem w.𝓡.returns;
      asked = hcube_repair-reads.Asked;
      post = hcube_repair-reads.Post;
      handed = λ κs a. (a.0, a.1.0.now, a.1.1.0.now, a.1.1.1.0.now, a.1.1.1.1.0.now);
      answered = λ κs r. r;
      left = λ κs e. (e.1.1.1.0.now, e.1.1.1.1.0.now);
    }

pub repair_asks : AsksNothing repair
repair_asks = record { asked = λ κs a. tt; empty = λ w κs a. (tt, refl) }

pub repair_says :
    Says repair (λ i. done_number (repair_refusal i.0 i.1 i.2 (length i.3) (length i.4)))
    (λ i. (result_after i.0 i.1 i.2 i.3 i.4, namers_after i.0 i.1 i.2 i.3 i.4))
repair_says = record { says = λ κs a r e p. (p.0, ap₂ (λ (x y : List ℕ). (x, y)) p.1.0 p.1.1) }
