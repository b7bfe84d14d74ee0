-- Each contract settles everything (RULES, What the contracts settle): two answers that it allows are equal, and so is each lent buffer afterwards. And nothing
-- is asked of a caller. Both are said of the claims that the check makes of the function's own clauses, for every public function of the library's crates.
use denote.Param.Laws.{Laws}
use denote.RattleType.{RattleType}
use mir.Syntax.{Dict}
use Rattle.cube.specs.Allowed.{AsksNothing, Settles}
use Rattle.cube.proofs.Functions as cube
use Rattle.groups.proofs.Functions as groups
use Rattle.notice.proofs.Functions as notice
use Rattle.reader.proofs.Functions as reader
use Rattle.jobs.proofs.Functions as jobs
use Rattle.passes.proofs.Functions as passes
use Rattle.labels.proofs.Functions as labels
use Rattle.labels.specs.declared.Watch.{Ghosts}
use Rattle.hop.proofs.Functions as hop
use Rattle.walk.proofs.Functions as walk
use Rattle.hop_networks.proofs.Functions as hop_networks
use Rattle.walk_networks.proofs.Functions as walk_networks
use Rattle.why.proofs.Functions as why
use Rattle.writer.proofs.Functions as writer
use Rattle.list_reader.proofs.Functions as list_reader
use Rattle.list_writer.proofs.Functions as list_writer
use Rattle.repair.proofs.Functions as repair
use Rattle.counters.proofs.Functions as counters
use Rattle.hcube.proofs.Functions as hcube

pub record Settled : Type 0 where
  pub hcube-label : Settles hcube.label
  pub hcube-hop : Settles hcube.hop
  pub hcube-walk : Settles hcube.walk
  pub hcube-why-node : Settles hcube.why-node
  pub hcube-why-hop : Settles hcube.why-hop
  pub hcube-notice-dimension : Settles hcube.notice_dimension
  pub hcube-read-notice : Settles hcube.read_notice
  pub hcube-write-notice : Settles hcube.write_notice
  pub hcube-read-list : Settles hcube.read_list
  pub hcube-write-list : Settles hcube.write_list
  pub hcube-repair : Settles hcube.repair
  pub hcube-hop-networks : Settles hcube.hop-networks
  pub hcube-walk-networks : Settles hcube.walk-networks
  pub labels_label : Settles labels.label
  pub labels_label_refusal : Settles labels.label-refusal
  pub passes_settle : Settles passes.settle
  pub passes_label : Settles passes.label
  pub hop_hop : Settles hop.hop
  pub hop_place_refusal : Settles hop.place-refusal
  pub hop_near_refusal : Settles hop.near-refusal
  pub walk_walk : Settles walk.walk
  pub walk_walk_for : Settles walk.walk-for
  pub hop_networks_hop_networks : Settles hop_networks.hop-networks
  pub hop_networks_is_board : Settles hop_networks.is-board
  pub hop_networks_board_refusal : Settles hop_networks.board-refusal
  pub walk_networks_walk_networks : Settles walk_networks.walk-networks
  pub why_why_node : Settles why.why-node
  pub why_why_hop : Settles why.why-hop
  pub notice_dimension : Settles notice.dimension
  pub notice_read : Settles notice.read
  pub writer_write : Settles writer.write
  pub writer_table_refusal : Settles writer.table-refusal
  pub list_reader_read : Settles list_reader.read
  pub list_writer_write : Settles list_writer.write
  pub repair_repair : Settles repair.repair
  pub counters_tally : Settles counters.tally
  -- the returned part: its bytes, and its place in the caller's memory. (The ghost name that the logic gives a reference is not settled: no
  -- program can see it.)
  pub notice_tail : Settles notice.tail
  pub notice_clear : Settles notice.clear
  pub groups_number_at : Settles groups.number-at
  pub reader_new : Settles reader.new
  pub reader_next : Settles reader.next
  pub reader_next_at : Settles reader.next-at
  pub cube_distance : Settles cube.distance
  pub cube_is_dimension : Settles cube.is-dimension
  pub cube_count_of : Settles cube.count-of
  pub jobs_is_job : Settles jobs.is-job
  -- what one crate lends another
  pub passes_start : Settles passes.start
  pub passes_sweep : Settles passes.sweep
  pub passes_finish : Settles passes.finish
  pub passes_near : Settles passes.near
  pub hop_hop_at : Settles hop.hop-at
  pub hop_gather : Settles hop.gather
  pub hop_at_node : Settles hop.at-node
  pub hop_around : Settles hop.around
  pub hop_chosen : Settles hop.chosen
  pub hop_lowest : Settles hop.lowest
  pub hop_last_hop : Settles hop.last-hop
  pub walk_table_refusal : Settles walk.table-refusal
  pub hop_networks_list_refusal : Settles hop_networks.list-refusal
  pub hop_networks_after : Settles hop_networks.after
  pub hop_networks_pick_at : Settles hop_networks.pick-at
  pub cube_nodes : Settles cube.nodes
  pub cube_neighbour : Settles cube.neighbour
  pub cube_table_len : Settles cube.table-len
  pub cube_node_bit : Settles cube.node-bit
  pub cube_has : Settles cube.has
  pub cube_from : Settles cube.refusal-number
  pub cube_unused_set : Settles cube.unused-set
  pub jobs_label_bytes : Settles jobs.label-bytes
  pub notice_set_bit : Settles notice.set-bit
  -- the half of a job: its bytes, and its place in the caller's memory
  pub jobs_half : Settles jobs.half
  -- it as a type, with the dimension, and a label of it
  pub jobs_of : Settles jobs.labels-of
  pub jobs_at : Settles jobs.label-at

-- and the one that is generic, whoever watches
pub record Watched (W : RattleType) (laws : Laws W) (G : Ghosts W.Denot) (dict : Dict) : Type 0 where
  pub labels_label_nodes : Settles (labels.label-nodes W laws G dict)

-- all but those that have a `requires`
pub record Unasked : Type 2 where
  pub hcube-label : AsksNothing hcube.label
  pub hcube-hop : AsksNothing hcube.hop
  pub hcube-walk : AsksNothing hcube.walk
  pub hcube-why-node : AsksNothing hcube.why-node
  pub hcube-why-hop : AsksNothing hcube.why-hop
  pub hcube-notice-dimension : AsksNothing hcube.notice_dimension
  pub hcube-read-notice : AsksNothing hcube.read_notice
  pub hcube-write-notice : AsksNothing hcube.write_notice
  pub hcube-read-list : AsksNothing hcube.read_list
  pub hcube-write-list : AsksNothing hcube.write_list
  pub hcube-repair : AsksNothing hcube.repair
  pub hcube-hop-networks : AsksNothing hcube.hop-networks
  pub hcube-walk-networks : AsksNothing hcube.walk-networks
  pub labels_label : AsksNothing labels.label
  pub labels_label_refusal : AsksNothing labels.label-refusal
  pub passes_settle : AsksNothing passes.settle
  pub passes_label : AsksNothing passes.label
  pub hop_hop : AsksNothing hop.hop
  pub hop_place_refusal : AsksNothing hop.place-refusal
  pub hop_near_refusal : AsksNothing hop.near-refusal
  pub walk_walk : AsksNothing walk.walk
  pub walk_walk_for : AsksNothing walk.walk-for
  pub hop_networks_hop_networks : AsksNothing hop_networks.hop-networks
  pub hop_networks_is_board : AsksNothing hop_networks.is-board
  pub hop_networks_board_refusal : AsksNothing hop_networks.board-refusal
  pub walk_networks_walk_networks : AsksNothing walk_networks.walk-networks
  pub why_why_node : AsksNothing why.why-node
  pub why_why_hop : AsksNothing why.why-hop
  pub notice_dimension : AsksNothing notice.dimension
  pub notice_read : AsksNothing notice.read
  pub writer_write : AsksNothing writer.write
  pub writer_table_refusal : AsksNothing writer.table-refusal
  pub list_reader_read : AsksNothing list_reader.read
  pub list_writer_write : AsksNothing list_writer.write
  pub repair_repair : AsksNothing repair.repair
  pub counters_tally : AsksNothing counters.tally
  pub notice_tail : AsksNothing notice.tail
  pub notice_clear : AsksNothing notice.clear
  pub groups_number_at : AsksNothing groups.number-at
  pub reader_new : AsksNothing reader.new
  pub reader_next : AsksNothing reader.next
  pub reader_next_at : AsksNothing reader.next-at
  pub cube_distance : AsksNothing cube.distance
  pub cube_is_dimension : AsksNothing cube.is-dimension
  pub cube_count_of : AsksNothing cube.count-of
  pub cube_from : AsksNothing cube.refusal-number
  pub jobs_is_job : AsksNothing jobs.is-job
