-- What a question is handed is what its caller hands it, in that order.
use Rattle.std.specs.Prelude.{◌≡◌}
use contract.Lifetimes.{Lfts}
use denote.Triple.Clauses.{Ended}
use denote.Triple.Entry.{Args}
use Rattle.cube.specs.Allowed.{Function}
use Rattle.notice.proofs.Functions as notice
use Rattle.labels.proofs.Functions as labels
use Rattle.hop.proofs.Functions as hop
use Rattle.walk.proofs.Functions as walk
use Rattle.hop_networks.proofs.Functions as hop_networks
use Rattle.walk_networks.proofs.Functions as walk_networks
use Rattle.why.proofs.Functions as why
use Rattle.writer.proofs.Functions as writer
use Rattle.list_reader.proofs.Functions as list_reader
use Rattle.list_writer.proofs.Functions as list_writer
use Rattle.repair.proofs.Functions as repair
use Rattle.counters.proofs.Functions as counters
use Rattle.hcube.proofs.Functions as hcube

-- f is seen to be handed this of its parameters
abbrev pub Handed : {T : Ended} {A X B : Type 0} → Function T A X B → ((κs : Lfts T.signature.lifetimes) → Args T.signature κs → A) → Type 0
Handed {T} f seen = (κs : Lfts T.signature.lifetimes) (a : Args T.signature κs) → f.handed κs a ≡ seen κs a

-- the questions are handed their parameters one after the other, numbers as they are and tables by their bytes: so the first number is the dimension and
-- the job stands before the nodes, the first node is the one that a hop is decided at, a walk begins at or a label is asked about, and of labelling's tables
-- the first is the fault table, the second that of the draining nodes and the third that of the nodes that the job closes; a repair is handed the old table,
-- the masks, the result and the row; by networks their number stands behind the dimension, and the message's network and direction behind the nodes
pub record InOrder : Type 0 where
  pub hcube-label :
      Handed hcube.label (λ κs a.
      (a.0, a.1.0, a.1.1.0, a.1.1.1.0.now, a.1.1.1.1.0.now, a.1.1.1.1.1.0.now, a.1.1.1.1.1.1.0.now))
  pub hcube-hop : Handed hcube.hop (λ κs a. (a.0, a.1.0, a.1.1.0, a.1.1.1.0, a.1.1.1.1.0.now))
  pub hcube-walk : Handed hcube.walk (λ κs a. (a.0, a.1.0, a.1.1.0, a.1.1.1.0, a.1.1.1.1.0.now, a.1.1.1.1.1.0.now))
  pub hcube-why-node :
      Handed hcube.why-node (λ κs a. (
        a.0,
        a.1.0,
        a.1.1.0,
        a.1.1.1.0,
        a.1.1.1.1.0.now,
        a.1.1.1.1.1.0.now,
        a.1.1.1.1.1.1.0.now,
        a.1.1.1.1.1.1.1.0.now,
      ))
  pub hcube-why-hop : Handed hcube.why-hop (λ κs a. (a.0, a.1.0, a.1.1.0, a.1.1.1.0, a.1.1.1.1.0.now))
  pub hcube-notice-dimension : Handed hcube.notice_dimension (λ κs a. a.0.now)
  pub hcube-read-notice : Handed hcube.read_notice (λ κs a. (a.0.now, a.1.0.now))
  pub hcube-write-notice : Handed hcube.write_notice (λ κs a. (a.0, a.1.0.now, a.1.1.0.now))
  pub hcube-read-list : Handed hcube.read_list (λ κs a. (a.0, a.1.0.now, a.1.1.0.now))
  pub hcube-write-list : Handed hcube.write_list (λ κs a. (a.0, a.1.0.now, a.1.1.0.now))
  pub hcube-repair : Handed hcube.repair (λ κs a. (a.0, a.1.0.now, a.1.1.0.now, a.1.1.1.0.now, a.1.1.1.1.0.now))
  pub hcube-hop-networks :
      Handed hcube.hop-networks (λ κs a.
      (a.0, a.1.0, a.1.1.0, a.1.1.1.0, a.1.1.1.1.0, a.1.1.1.1.1.0, a.1.1.1.1.1.1.0, a.1.1.1.1.1.1.1.0.now))
  pub hcube-walk-networks :
      Handed hcube.walk-networks (λ κs a.
      (a.0, a.1.0, a.1.1.0, a.1.1.1.0, a.1.1.1.1.0, a.1.1.1.1.1.0.now, a.1.1.1.1.1.1.0.now))
  pub labels_label :
      Handed labels.label (λ κs a.
      (a.0, a.1.0, a.1.1.0, a.1.1.1.0.now, a.1.1.1.1.0.now, a.1.1.1.1.1.0.now, a.1.1.1.1.1.1.0.now))
  pub hop_hop : Handed hop.hop (λ κs a. (a.0, a.1.0, a.1.1.0, a.1.1.1.0, a.1.1.1.1.0.now))
  pub walk_walk : Handed walk.walk (λ κs a. (a.0, a.1.0, a.1.1.0, a.1.1.1.0, a.1.1.1.1.0.now))
  pub walk_walk_for : Handed walk.walk-for (λ κs a. (a.0, a.1.0, a.1.1.0, a.1.1.1.0, a.1.1.1.1.0.now, a.1.1.1.1.1.0))
  pub hop_networks_hop_networks :
      Handed hop_networks.hop-networks (λ κs a.
      (a.0, a.1.0, a.1.1.0, a.1.1.1.0, a.1.1.1.1.0, a.1.1.1.1.1.0, a.1.1.1.1.1.1.0, a.1.1.1.1.1.1.1.0.now))
  pub walk_networks_walk_networks :
      Handed walk_networks.walk-networks (λ κs a.
      (a.0, a.1.0, a.1.1.0, a.1.1.1.0, a.1.1.1.1.0, a.1.1.1.1.1.0.now, a.1.1.1.1.1.1.0.now))
  pub why_why_node :
      Handed why.why-node (λ κs a. (
        a.0,
        a.1.0,
        a.1.1.0,
        a.1.1.1.0,
        a.1.1.1.1.0.now,
        a.1.1.1.1.1.0.now,
        a.1.1.1.1.1.1.0.now,
        a.1.1.1.1.1.1.1.0.now,
      ))
  pub why_why_hop : Handed why.why-hop (λ κs a. (a.0, a.1.0, a.1.1.0, a.1.1.1.0, a.1.1.1.1.0.now))
  pub notice_dimension : Handed notice.dimension (λ κs a. a.0.now)
  pub notice_read : Handed notice.read (λ κs a. (a.0.now, a.1.0.now))
  pub writer_write : Handed writer.write (λ κs a. (a.0, a.1.0.now, a.1.1.0.now))
  pub list_reader_read : Handed list_reader.read (λ κs a. (a.0, a.1.0.now, a.1.1.0.now))
  pub list_writer_write : Handed list_writer.write (λ κs a. (a.0, a.1.0.now, a.1.1.0.now))
  pub repair_repair : Handed repair.repair (λ κs a. (a.0, a.1.0.now, a.1.1.0.now, a.1.1.1.0.now, a.1.1.1.1.0.now))
  pub counters_tally : Handed counters.tally (λ κs a. (a.0, a.1.0.now))
