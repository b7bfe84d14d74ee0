-- What a question is seen to answer and to leave is its result and the bytes of each buffer that it was lent to write, as they are: so a promise on an answer is
-- one on what the caller has in hand. (`InOrder`, in Handed.antt, says it of what is handed.) Proved in proofs/Seen.antt.
use Rattle.std.specs.Prelude.{◌≡◌}
use contract.Lifetimes.{Lfts}
use denote.Triple.Clauses.{AtExit, Ended}
use denote.Triple.Entry.{Res}
use Rattle.cube.specs.Allowed.{Function}
use Rattle.notice.proofs.Functions as notice
use Rattle.labels.proofs.Functions as labels
use Rattle.hop.proofs.Functions as hop
use Rattle.walk.proofs.Functions as walk
use Rattle.hop_networks.proofs.Functions as hop_networks
use Rattle.walk_networks.proofs.Functions as walk_networks
use Rattle.why.proofs.Functions as why
use Rattle.writer.proofs.Functions as writer
use Rattle.list_reader.proofs.Functions as list_reader
use Rattle.list_writer.proofs.Functions as list_writer
use Rattle.repair.proofs.Functions as repair
use Rattle.counters.proofs.Functions as counters
use Rattle.hcube.proofs.Functions as hcube

module _ {T : Ended} {A X B : Type 0} (f : Function T A X B) where
  -- f is seen to answer this of its result, and to leave this
  abbrev pub Answered : ((κs : Lfts T.signature.lifetimes) → Res T.signature κs → X) → Type 0
  Answered seen = (κs : Lfts T.signature.lifetimes) (r : Res T.signature κs) → f.answered κs r ≡ seen κs r

  abbrev pub Leaves : ((κs : Lfts T.signature.lifetimes) → AtExit T κs → B) → Type 0
  Leaves seen = (κs : Lfts T.signature.lifetimes) (e : AtExit T κs) → f.left κs e ≡ seen κs e

pub record AsSeen : Type 0 where
  pub hcube-label : Answered hcube.label (λ κs r. r)
  pub hcube-hop : Answered hcube.hop (λ κs r. r)
  pub hcube-walk : Answered hcube.walk (λ κs r. r)
  pub hcube-why-node : Answered hcube.why-node (λ κs r. r)
  pub hcube-why-hop : Answered hcube.why-hop (λ κs r. r)
  pub hcube-notice-dimension : Answered hcube.notice_dimension (λ κs r. r)
  pub hcube-read-notice : Answered hcube.read_notice (λ κs r. r)
  pub hcube-write-notice : Answered hcube.write_notice (λ κs r. r)
  pub hcube-read-list : Answered hcube.read_list (λ κs r. r)
  pub hcube-write-list : Answered hcube.write_list (λ κs r. r)
  pub hcube-repair : Answered hcube.repair (λ κs r. r)
  pub hcube-hop-networks : Answered hcube.hop-networks (λ κs r. r)
  pub hcube-walk-networks : Answered hcube.walk-networks (λ κs r. r)
  pub labels_label : Answered labels.label (λ κs r. r)
  pub hop_hop : Answered hop.hop (λ κs r. r)
  pub walk_walk : Answered walk.walk (λ κs r. r)
  pub walk_walk_for : Answered walk.walk-for (λ κs r. r)
  pub why_why_node : Answered why.why-node (λ κs r. r)
  pub why_why_hop : Answered why.why-hop (λ κs r. r)
  pub notice_dimension : Answered notice.dimension (λ κs r. r)
  pub notice_read : Answered notice.read (λ κs r. r)
  pub writer_write : Answered writer.write (λ κs r. r)
  pub list_reader_read : Answered list_reader.read (λ κs r. r)
  pub list_writer_write : Answered list_writer.write (λ κs r. r)
  pub repair_repair : Answered repair.repair (λ κs r. r)
  pub counters_tally : Answered counters.tally (λ κs r. r)
  pub hop_networks_hop_networks : Answered hop_networks.hop-networks (λ κs r. r)
  pub walk_networks_walk_networks : Answered walk_networks.walk-networks (λ κs r. r)
  -- and what is left: the label buffer, the row, the fault table, the buffer for a notice or a list text, the result and the row of a
  -- repair, the tally's counters, the hop list
  pub hcube_label_left : Leaves hcube.label (λ κs e. e.1.1.1.1.1.1.0.now)
  pub hcube_walk_left : Leaves hcube.walk (λ κs e. e.1.1.1.1.1.0.now)
  pub hcube_why_node_left : Leaves hcube.why-node (λ κs e. e.1.1.1.1.1.1.1.0.now)
  pub hcube_read_notice_left : Leaves hcube.read_notice (λ κs e. e.1.0.now)
  pub hcube_write_notice_left : Leaves hcube.write_notice (λ κs e. e.1.1.0.now)
  pub hcube_read_list_left : Leaves hcube.read_list (λ κs e. e.1.1.0.now)
  pub hcube_write_list_left : Leaves hcube.write_list (λ κs e. e.1.1.0.now)
  pub hcube_repair_left : Leaves hcube.repair (λ κs e. (e.1.1.1.0.now, e.1.1.1.1.0.now))
  pub labels_label_left : Leaves labels.label (λ κs e. e.1.1.1.1.1.1.0.now)
  pub why_why_node_left : Leaves why.why-node (λ κs e. e.1.1.1.1.1.1.1.0.now)
  pub notice_read_left : Leaves notice.read (λ κs e. e.1.0.now)
  pub writer_write_left : Leaves writer.write (λ κs e. e.1.1.0.now)
  pub list_reader_read_left : Leaves list_reader.read (λ κs e. e.1.1.0.now)
  pub list_writer_write_left : Leaves list_writer.write (λ κs e. e.1.1.0.now)
  pub repair_repair_left : Leaves repair.repair (λ κs e. (e.1.1.1.0.now, e.1.1.1.1.0.now))
  pub counters_tally_left : Leaves counters.tally (λ κs e. e.1.0.now)
  pub hcube_walk_networks_left : Leaves hcube.walk-networks (λ κs e. e.1.1.1.1.1.1.0.now)
  pub walk_networks_walk_networks_left : Leaves walk_networks.walk-networks (λ κs e. e.1.1.1.1.1.1.0.now)
