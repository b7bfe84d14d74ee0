-- The functions that the promises speak of are those of the code: for each public function by its name, the clauses and claims that its crate's
-- Functions gives are those that the check made of that very function.
use Rattle.std.specs.Prelude.{◌≡◌}
use base.Logic.{emp}
use borrow.Fn.Claims.{AllOf}
use borrow.Fn.Read.{ReadAt, no_know}
use borrow.Fn.World.{World, w₀}
use contract.Lifetimes.{Lfts}
use denote.Param.Laws.{Laws}
use denote.RattleType.{RattleType}
use denote.Triple.Clauses.{AtExit, Ended}
use denote.Triple.Entry.{Args, Res}
use mir.Syntax.{Dict}
use Rattle.cube.specs.Allowed.{Function, Tied, Written}
use Rattle.cube.proofs.Functions as cube
use Rattle.cube.specs.contracts.count_of as cube_count_of
use Rattle.cube.proofs.count_of.Reads as cube_count_of-reads
use Rattle.cube.specs.contracts.distance as cube_distance
use Rattle.cube.proofs.distance.Reads as cube_distance-reads
use Rattle.cube.specs.contracts.is_dimension as cube_is_dimension
use Rattle.cube.proofs.is_dimension.Reads as cube_is_dimension-reads
use Rattle.cube.specs.contracts.neighbour as cube_neighbour
use Rattle.cube.proofs.neighbour.Reads as cube_neighbour-reads
use Rattle.cube.specs.contracts.node_bit as cube_node_bit
use Rattle.cube.proofs.node_bit.Reads as cube_node_bit-reads
use Rattle.cube.specs.contracts.nodes as cube_nodes
use Rattle.cube.proofs.nodes.Reads as cube_nodes-reads
use Rattle.cube.specs.contracts.table_len as cube_table_len
use Rattle.cube.proofs.table_len.Reads as cube_table_len-reads
use Rattle.cube.specs.contracts.NodeTable.has as cube_has
use Rattle.cube.proofs.NodeTable.has.Reads as cube_has-reads
use Rattle.cube.specs.contracts.refusals.U32FromRefusal.from as cube_from
use Rattle.cube.proofs.refusals.U32FromRefusal.from.Reads as cube_from-reads
use Rattle.cube.specs.contracts.unused_set as cube_unused_set
use Rattle.cube.proofs.unused_set.Reads as cube_unused_set-reads
use Rattle.groups.proofs.Functions as groups
use Rattle.groups.specs.contracts.number_at as groups_number_at
use Rattle.groups.proofs.number_at.Reads as groups_number_at-reads
use Rattle.notice.proofs.Functions as notice
use Rattle.notice.specs.contracts.clear as notice_clear
use Rattle.notice.proofs.clear.Reads as notice_clear-reads
use Rattle.notice.specs.contracts.dimension as notice_dimension
use Rattle.notice.proofs.dimension.Reads as notice_dimension-reads
use Rattle.notice.specs.contracts.read as notice_read
use Rattle.notice.proofs.read.Reads as notice_read-reads
use Rattle.notice.specs.contracts.set_bit as notice_set_bit
use Rattle.notice.proofs.set_bit.Reads as notice_set_bit-reads
use Rattle.notice.specs.contracts.tail as notice_tail
use Rattle.notice.proofs.tail.Reads as notice_tail-reads
use Rattle.reader.proofs.Functions as reader
use Rattle.reader.specs.contracts.Reader.new as reader_new
use Rattle.reader.specs.contracts.Reader.next as reader_next
use Rattle.reader.specs.contracts.next_at as reader_next_at
use Rattle.reader.proofs.next_at.Reads as reader_next_at-reads
use Rattle.jobs.proofs.Functions as jobs
use Rattle.jobs.specs.contracts.Labels.at as jobs_at
use Rattle.jobs.proofs.Labels.at.Reads as jobs_at-reads
use Rattle.jobs.specs.contracts.Labels.of as jobs_of
use Rattle.jobs.proofs.Labels.of.Reads as jobs_of-reads
use Rattle.jobs.specs.contracts.half as jobs_half
use Rattle.jobs.proofs.half.Reads as jobs_half-reads
use Rattle.jobs.specs.contracts.is_job as jobs_is_job
use Rattle.jobs.proofs.is_job.Reads as jobs_is_job-reads
use Rattle.jobs.specs.contracts.label_bytes as jobs_label_bytes
use Rattle.jobs.proofs.label_bytes.Reads as jobs_label_bytes-reads
use Rattle.passes.proofs.Functions as passes
use Rattle.passes.specs.contracts.Node.label as passes_label
use Rattle.passes.proofs.Node.label.Reads as passes_label-reads
use Rattle.passes.specs.contracts.Node.near as passes_near
use Rattle.passes.proofs.Node.near.Reads as passes_near-reads
use Rattle.passes.specs.contracts.Faulty.finish as passes_finish
use Rattle.passes.proofs.Faulty.finish.Reads as passes_finish-reads
use Rattle.passes.specs.contracts.settle as passes_settle
use Rattle.passes.proofs.settle.Reads as passes_settle-reads
use Rattle.passes.specs.contracts.Tables.start as passes_start
use Rattle.passes.proofs.Tables.start.Reads as passes_start-reads
use Rattle.passes.specs.contracts.sweep as passes_sweep
use Rattle.passes.proofs.sweep.Reads as passes_sweep-reads
use Rattle.labels.proofs.Functions as labels
use Rattle.labels.specs.contracts.label as labels_label
use Rattle.labels.proofs.label.Reads as labels_label-reads
use Rattle.labels.specs.declared.Watch.{Ghosts}
use Rattle.labels.specs.contracts.label_nodes as labels_label_nodes
use Rattle.labels.proofs.label_nodes.Reads as labels_label_nodes-reads
use Rattle.labels.specs.contracts.label_refusal as labels_label_refusal
use Rattle.labels.proofs.label_refusal.Reads as labels_label_refusal-reads
use Rattle.hop.proofs.Functions as hop
use Rattle.hop.specs.contracts.around as hop_around
use Rattle.hop.proofs.around.Reads as hop_around-reads
use Rattle.hop.specs.contracts.at_node as hop_at_node
use Rattle.hop.proofs.at_node.Reads as hop_at_node-reads
use Rattle.hop.specs.contracts.Here.chosen as hop_chosen
use Rattle.hop.proofs.Here.chosen.Reads as hop_chosen-reads
use Rattle.hop.specs.contracts.gather as hop_gather
use Rattle.hop.proofs.gather.Reads as hop_gather-reads
use Rattle.hop.specs.contracts.hop as hop_hop
use Rattle.hop.proofs.hop.Reads as hop_hop-reads
use Rattle.hop.specs.contracts.hop_at as hop_hop_at
use Rattle.hop.proofs.hop_at.Reads as hop_hop_at-reads
use Rattle.hop.specs.contracts.place_refusal as hop_place_refusal
use Rattle.hop.proofs.place_refusal.Reads as hop_place_refusal-reads
use Rattle.hop.specs.contracts.Here.last_hop as hop_last_hop
use Rattle.hop.proofs.Here.last_hop.Reads as hop_last_hop-reads
use Rattle.hop.specs.contracts.lowest as hop_lowest
use Rattle.hop.proofs.lowest.Reads as hop_lowest-reads
use Rattle.hop.specs.contracts.near_refusal as hop_near_refusal
use Rattle.hop.proofs.near_refusal.Reads as hop_near_refusal-reads
use Rattle.walk.proofs.Functions as walk
use Rattle.walk.specs.contracts.walk as walk_walk
use Rattle.walk.proofs.walk.Reads as walk_walk-reads
use Rattle.walk.specs.contracts.table_refusal as walk_table_refusal
use Rattle.walk.proofs.table_refusal.Reads as walk_table_refusal-reads
use Rattle.walk.specs.contracts.walk_for as walk_walk_for
use Rattle.walk.proofs.walk_for.Reads as walk_walk_for-reads
use Rattle.why.proofs.Functions as why
use Rattle.why.specs.contracts.why_hop as why_why_hop
use Rattle.why.proofs.why_hop.Reads as why_why_hop-reads
use Rattle.why.specs.contracts.why_node as why_why_node
use Rattle.why.proofs.why_node.Reads as why_why_node-reads
use Rattle.writer.proofs.Functions as writer
use Rattle.writer.specs.contracts.table_refusal as writer_table_refusal
use Rattle.writer.proofs.table_refusal.Reads as writer_table_refusal-reads
use Rattle.writer.specs.contracts.write as writer_write
use Rattle.writer.proofs.write.Reads as writer_write-reads
use Rattle.list_reader.proofs.Functions as list_reader
use Rattle.list_reader.specs.contracts.read as list_reader_read
use Rattle.list_reader.proofs.read.Reads as list_reader_read-reads
use Rattle.list_writer.proofs.Functions as list_writer
use Rattle.list_writer.specs.contracts.write as list_writer_write
use Rattle.list_writer.proofs.write.Reads as list_writer_write-reads
use Rattle.repair.proofs.Functions as repair
use Rattle.repair.specs.contracts.repair as repair_repair
use Rattle.repair.proofs.repair.Reads as repair_repair-reads
use Rattle.counters.proofs.Functions as counters
use Rattle.counters.specs.contracts.tally as counters_tally
use Rattle.counters.proofs.tally.Reads as counters_tally-reads
use Rattle.hcube.proofs.Functions as hcube
use Rattle.hcube.specs.contracts.hcube_hop as hcube-hop
use Rattle.hcube.proofs.hcube_hop.Reads as hcube-hop-reads
use Rattle.hcube.specs.contracts.hcube_label as hcube-label
use Rattle.hcube.proofs.hcube_label.Reads as hcube-label-reads
use Rattle.hcube.specs.contracts.hcube_notice_dimension as hcube-notice-dimension
use Rattle.hcube.proofs.hcube_notice_dimension.Reads as hcube-notice-dimension-reads
use Rattle.hcube.specs.contracts.hcube_read_notice as hcube-read-notice
use Rattle.hcube.proofs.hcube_read_notice.Reads as hcube-read-notice-reads
use Rattle.hcube.specs.contracts.hcube_walk as hcube-walk
use Rattle.hcube.proofs.hcube_walk.Reads as hcube-walk-reads
use Rattle.hcube.specs.contracts.hcube_why_hop as hcube-why-hop
use Rattle.hcube.proofs.hcube_why_hop.Reads as hcube-why-hop-reads
use Rattle.hcube.specs.contracts.hcube_why_node as hcube-why-node
use Rattle.hcube.proofs.hcube_why_node.Reads as hcube-why-node-reads
use Rattle.hcube.specs.contracts.hcube_write_notice as hcube-write-notice
use Rattle.hcube.proofs.hcube_write_notice.Reads as hcube-write-notice-reads
use Rattle.hcube.specs.contracts.hcube_read_list as hcube-read-list
use Rattle.hcube.proofs.hcube_read_list.Reads as hcube-read-list-reads
use Rattle.hcube.specs.contracts.hcube_write_list as hcube-write-list
use Rattle.hcube.proofs.hcube_write_list.Reads as hcube-write-list-reads
use Rattle.hcube.specs.contracts.hcube_repair as hcube-repair
use Rattle.hcube.proofs.hcube_repair.Reads as hcube-repair-reads
use Rattle.promises.specs.TiedNetworks.{NetworksTied}

module _ {T : Ended} {A X B : Type 0} (f : Function T A X B) (written : Written T) where
  -- a method that holds a borrow: these are its clauses, and the claim is what whoever has its `ensures` learns
  pub record TiedMethod : Type 2 where
    pub clauses : (w : World) → f.clauses w ≡ written w
    pub post :
        (κs : Lfts T.signature.lifetimes) (a : Args T.signature κs) (g : (written w₀ κs a).ghost) (r : Res T.signature κs) (e : AtExit T κs)
        → (read : ReadAt w₀ (λ w. emp w.𝓤) no_know ((written w₀ κs a).ensures g r e)) × (f.post κs a r e ≡ AllOf read.tells)

pub record AllTied : Type 2 where
  pub networks : NetworksTied
  pub hcube-label :
      Tied hcube.label (λ w. hcube-label.clauses w.𝓛 w.𝓜.mem w.𝓡.returns)
      hcube-label-reads.Asked hcube-label-reads.Post
  pub hcube-hop : Tied hcube.hop (λ w. hcube-hop.clauses w.𝓛 w.𝓜.mem w.𝓡.returns) hcube-hop-reads.Asked hcube-hop-reads.Post
  pub hcube-walk :
      Tied hcube.walk (λ w. hcube-walk.clauses w.𝓛 w.𝓜.mem w.𝓡.returns)
      hcube-walk-reads.Asked hcube-walk-reads.Post
  pub hcube-why-node :
      Tied hcube.why-node (λ w. hcube-why-node.clauses w.𝓛 w.𝓜.mem w.𝓡.returns)
      hcube-why-node-reads.Asked hcube-why-node-reads.Post
  pub hcube-why-hop :
      Tied hcube.why-hop (λ w. hcube-why-hop.clauses w.𝓛 w.𝓜.mem w.𝓡.returns)
      hcube-why-hop-reads.Asked hcube-why-hop-reads.Post
  pub hcube-notice-dimension :
      Tied hcube.notice_dimension (λ w. hcube-notice-dimension.clauses w.𝓛 w.𝓜.mem w.𝓡.returns)
      hcube-notice-dimension-reads.Asked hcube-notice-dimension-reads.Post
  pub hcube-read-notice :
      Tied hcube.read_notice (λ w. hcube-read-notice.clauses w.𝓛 w.𝓜.mem w.𝓡.returns)
      hcube-read-notice-reads.Asked hcube-read-notice-reads.Post
  pub hcube-write-notice :
      Tied hcube.write_notice (λ w. hcube-write-notice.clauses w.𝓛 w.𝓜.mem w.𝓡.returns)
      hcube-write-notice-reads.Asked hcube-write-notice-reads.Post
  pub hcube-read-list :
      Tied hcube.read_list (λ w. hcube-read-list.clauses w.𝓛 w.𝓜.mem w.𝓡.returns)
      hcube-read-list-reads.Asked hcube-read-list-reads.Post
  pub hcube-write-list :
      Tied hcube.write_list (λ w. hcube-write-list.clauses w.𝓛 w.𝓜.mem w.𝓡.returns)
      hcube-write-list-reads.Asked hcube-write-list-reads.Post
  pub hcube-repair :
      Tied hcube.repair (λ w. hcube-repair.clauses w.𝓛 w.𝓜.mem w.𝓡.returns) hcube-repair-reads.Asked hcube-repair-reads.Post
  pub labels_label :
      Tied labels.label (λ w. labels_label.clauses w.𝓛 w.𝓜.mem w.𝓡.returns)
      labels_label-reads.Asked labels_label-reads.Post
  pub labels_label_refusal :
      Tied labels.label-refusal (λ w. labels_label_refusal.clauses w.𝓛 w.𝓜.mem w.𝓡.returns)
      labels_label_refusal-reads.Asked labels_label_refusal-reads.Post
  pub passes_start :
      Tied passes.start (λ w. passes_start.clauses w.𝓛 w.𝓜.mem w.𝓡.returns)
      passes_start-reads.Asked passes_start-reads.Post
  pub passes_sweep :
      Tied passes.sweep (λ w. passes_sweep.clauses w.𝓛 w.𝓜.mem w.𝓡.returns)
      passes_sweep-reads.Asked passes_sweep-reads.Post
  pub passes_settle :
      Tied passes.settle (λ w. passes_settle.clauses w.𝓛 w.𝓜.mem w.𝓡.returns)
      passes_settle-reads.Asked passes_settle-reads.Post
  pub passes_label :
      Tied passes.label (λ w. passes_label.clauses w.𝓛 w.𝓜.mem w.𝓡.returns)
      passes_label-reads.Asked passes_label-reads.Post
  pub passes_near :
      Tied passes.near (λ w. passes_near.clauses w.𝓛 w.𝓜.mem w.𝓡.returns)
      passes_near-reads.Asked passes_near-reads.Post
  pub passes_finish :
      Tied passes.finish (λ w. passes_finish.clauses w.𝓛 w.𝓜.mem w.𝓡.returns)
      passes_finish-reads.Asked passes_finish-reads.Post
  pub hop_hop : Tied hop.hop (λ w. hop_hop.clauses w.𝓛 w.𝓜.mem w.𝓡.returns) hop_hop-reads.Asked hop_hop-reads.Post
  pub hop_place_refusal :
      Tied hop.place-refusal (λ w. hop_place_refusal.clauses w.𝓛 w.𝓜.mem w.𝓡.returns)
      hop_place_refusal-reads.Asked hop_place_refusal-reads.Post
  pub hop_gather :
      Tied hop.gather (λ w. hop_gather.clauses w.𝓛 w.𝓜.mem w.𝓡.returns)
      hop_gather-reads.Asked hop_gather-reads.Post
  pub hop_around :
      Tied hop.around (λ w. hop_around.clauses w.𝓛 w.𝓜.mem w.𝓡.returns)
      hop_around-reads.Asked hop_around-reads.Post
  pub hop_at_node :
      Tied hop.at-node (λ w. hop_at_node.clauses w.𝓛 w.𝓜.mem w.𝓡.returns)
      hop_at_node-reads.Asked hop_at_node-reads.Post
  pub hop_chosen :
      Tied hop.chosen (λ w. hop_chosen.clauses w.𝓛 w.𝓜.mem w.𝓡.returns)
      hop_chosen-reads.Asked hop_chosen-reads.Post
  pub hop_hop_at :
      Tied hop.hop-at (λ w. hop_hop_at.clauses w.𝓛 w.𝓜.mem w.𝓡.returns)
      hop_hop_at-reads.Asked hop_hop_at-reads.Post
  pub hop_near_refusal :
      Tied hop.near-refusal (λ w. hop_near_refusal.clauses w.𝓛 w.𝓜.mem w.𝓡.returns)
      hop_near_refusal-reads.Asked hop_near_refusal-reads.Post
  pub hop_lowest :
      Tied hop.lowest (λ w. hop_lowest.clauses w.𝓛 w.𝓜.mem w.𝓡.returns)
      hop_lowest-reads.Asked hop_lowest-reads.Post
  pub hop_last_hop :
      Tied hop.last-hop (λ w. hop_last_hop.clauses w.𝓛 w.𝓜.mem w.𝓡.returns)
      hop_last_hop-reads.Asked hop_last_hop-reads.Post
  pub walk_table_refusal :
      Tied walk.table-refusal (λ w. walk_table_refusal.clauses w.𝓛 w.𝓜.mem w.𝓡.returns)
      walk_table_refusal-reads.Asked walk_table_refusal-reads.Post
  pub walk_walk : Tied walk.walk (λ w. walk_walk.clauses w.𝓛 w.𝓜.mem w.𝓡.returns) walk_walk-reads.Asked walk_walk-reads.Post
  pub walk_walk_for :
      Tied walk.walk-for (λ w. walk_walk_for.clauses w.𝓛 w.𝓜.mem w.𝓡.returns)
      walk_walk_for-reads.Asked walk_walk_for-reads.Post
  pub why_why_node :
      Tied why.why-node (λ w. why_why_node.clauses w.𝓛 w.𝓜.mem w.𝓡.returns)
      why_why_node-reads.Asked why_why_node-reads.Post
  pub why_why_hop :
      Tied why.why-hop (λ w. why_why_hop.clauses w.𝓛 w.𝓜.mem w.𝓡.returns)
      why_why_hop-reads.Asked why_why_hop-reads.Post
  pub notice_dimension :
      Tied notice.dimension (λ w. notice_dimension.clauses w.𝓛 w.𝓜.mem w.𝓡.returns)
      notice_dimension-reads.Asked notice_dimension-reads.Post
  pub notice_read :
      Tied notice.read (λ w. notice_read.clauses w.𝓛 w.𝓜.mem w.𝓡.returns)
      notice_read-reads.Asked notice_read-reads.Post
  pub writer_write :
      Tied writer.write (λ w. writer_write.clauses w.𝓛 w.𝓜.mem w.𝓡.returns)
      writer_write-reads.Asked writer_write-reads.Post
  pub writer_table_refusal :
      Tied writer.table-refusal (λ w. writer_table_refusal.clauses w.𝓛 w.𝓜.mem w.𝓡.returns)
      writer_table_refusal-reads.Asked writer_table_refusal-reads.Post
  pub list_reader_read :
      Tied list_reader.read (λ w. list_reader_read.clauses w.𝓛 w.𝓜.mem w.𝓡.returns)
      list_reader_read-reads.Asked list_reader_read-reads.Post
  pub list_writer_write :
      Tied list_writer.write (λ w. list_writer_write.clauses w.𝓛 w.𝓜.mem w.𝓡.returns)
      list_writer_write-reads.Asked list_writer_write-reads.Post
  pub repair_repair :
      Tied repair.repair (λ w. repair_repair.clauses w.𝓛 w.𝓜.mem w.𝓡.returns)
      repair_repair-reads.Asked repair_repair-reads.Post
  pub counters_tally :
      Tied counters.tally (λ w. counters_tally.clauses w.𝓛 w.𝓜.mem w.𝓡.returns)
      counters_tally-reads.Asked counters_tally-reads.Post
  pub notice_tail :
      Tied notice.tail (λ w. notice_tail.clauses w.𝓛 w.𝓜.mem w.𝓡.returns)
      notice_tail-reads.Asked notice_tail-reads.Post
  pub notice_clear :
      Tied notice.clear (λ w. notice_clear.clauses w.𝓛 w.𝓜.mem w.𝓡.returns)
      notice_clear-reads.Asked notice_clear-reads.Post
  pub notice_set_bit :
      Tied notice.set-bit (λ w. notice_set_bit.clauses w.𝓛 w.𝓜.mem w.𝓡.returns)
      notice_set_bit-reads.Asked notice_set_bit-reads.Post
  pub groups_number_at :
      Tied groups.number-at (λ w. groups_number_at.clauses w.𝓛 w.𝓜.mem w.𝓡.returns)
      groups_number_at-reads.Asked groups_number_at-reads.Post
  pub reader_new : TiedMethod reader.new (λ w. reader_new.clauses w.𝓛 w.𝓜.mem w.𝓡.returns)
  pub reader_next : TiedMethod reader.next (λ w. reader_next.clauses w.𝓛 w.𝓜.mem w.𝓡.returns)
  pub reader_next_at :
      Tied reader.next-at (λ w. reader_next_at.clauses w.𝓛 w.𝓜.mem w.𝓡.returns)
      reader_next_at-reads.Asked reader_next_at-reads.Post
  pub cube_distance :
      Tied cube.distance (λ w. cube_distance.clauses w.𝓛 w.𝓜.mem w.𝓡.returns)
      cube_distance-reads.Asked cube_distance-reads.Post
  pub cube_is_dimension :
      Tied cube.is-dimension (λ w. cube_is_dimension.clauses w.𝓛 w.𝓜.mem w.𝓡.returns)
      cube_is_dimension-reads.Asked cube_is_dimension-reads.Post
  pub cube_count_of :
      Tied cube.count-of (λ w. cube_count_of.clauses w.𝓛 w.𝓜.mem w.𝓡.returns)
      cube_count_of-reads.Asked cube_count_of-reads.Post
  pub cube_nodes :
      Tied cube.nodes (λ w. cube_nodes.clauses w.𝓛 w.𝓜.mem w.𝓡.returns)
      cube_nodes-reads.Asked cube_nodes-reads.Post
  pub cube_neighbour :
      Tied cube.neighbour (λ w. cube_neighbour.clauses w.𝓛 w.𝓜.mem w.𝓡.returns)
      cube_neighbour-reads.Asked cube_neighbour-reads.Post
  pub cube_table_len :
      Tied cube.table-len (λ w. cube_table_len.clauses w.𝓛 w.𝓜.mem w.𝓡.returns)
      cube_table_len-reads.Asked cube_table_len-reads.Post
  pub cube_node_bit :
      Tied cube.node-bit (λ w. cube_node_bit.clauses w.𝓛 w.𝓜.mem w.𝓡.returns)
      cube_node_bit-reads.Asked cube_node_bit-reads.Post
  pub cube_has :
      Tied cube.has (λ w. cube_has.clauses w.𝓛 w.𝓜.mem w.𝓡.returns)
      cube_has-reads.Asked cube_has-reads.Post
  pub cube_from :
      Tied cube.refusal-number (λ w. cube_from.clauses w.𝓛 w.𝓜.mem w.𝓡.returns)
      cube_from-reads.Asked cube_from-reads.Post
  pub cube_unused_set :
      Tied cube.unused-set (λ w. cube_unused_set.clauses w.𝓛 w.𝓜.mem w.𝓡.returns)
      cube_unused_set-reads.Asked cube_unused_set-reads.Post
  pub jobs_is_job :
      Tied jobs.is-job (λ w. jobs_is_job.clauses w.𝓛 w.𝓜.mem w.𝓡.returns)
      jobs_is_job-reads.Asked jobs_is_job-reads.Post
  pub jobs_label_bytes :
      Tied jobs.label-bytes (λ w. jobs_label_bytes.clauses w.𝓛 w.𝓜.mem w.𝓡.returns)
      jobs_label_bytes-reads.Asked jobs_label_bytes-reads.Post
  pub jobs_of :
      Tied jobs.labels-of (λ w. jobs_of.clauses w.𝓛 w.𝓜.mem w.𝓡.returns)
      jobs_of-reads.Asked jobs_of-reads.Post
  pub jobs_at :
      Tied jobs.label-at (λ w. jobs_at.clauses w.𝓛 w.𝓜.mem w.𝓡.returns)
      jobs_at-reads.Asked jobs_at-reads.Post
  pub jobs_half : Tied jobs.half (λ w. jobs_half.clauses w.𝓛 w.𝓜.mem w.𝓡.returns) jobs_half-reads.Asked jobs_half-reads.Post

-- and the one that is generic, whoever watches
pub record TiedWatched (W : RattleType) (laws : Laws W) (G : Ghosts W.Denot) (dict : Dict) : Type 2 where
  pub labels_label_nodes :
      Tied (labels.label-nodes W laws G dict) (λ w. labels_label_nodes.clauses W G dict w.𝓛 w.𝓜.mem w.𝓡.returns)
      (labels_label_nodes-reads.Asked W laws G dict) (labels_label_nodes-reads.Post W laws G dict)
