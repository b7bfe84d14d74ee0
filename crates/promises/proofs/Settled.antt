-- Each contract gives the answer and what is left as functions of what is handed (the `says` of each crate's Functions), so it settles both.
use denote.Param.Laws.{Laws}
use denote.RattleType.{RattleType}
use mir.Syntax.{Dict}
use Rattle.cube.proofs.Contracts.{settles}
use Rattle.cube.proofs.Functions as cube
use Rattle.groups.proofs.Functions as groups
use Rattle.notice.proofs.Functions as notice
use Rattle.reader.proofs.Functions as reader
use Rattle.jobs.proofs.Functions as jobs
use Rattle.passes.proofs.Functions as passes
use Rattle.labels.proofs.Functions as labels
use Rattle.labels.specs.declared.Watch.{Ghosts}
use Rattle.hop.proofs.Functions as hop
use Rattle.walk.proofs.Functions as walk
use Rattle.hop_networks.proofs.Functions as hop_networks
use Rattle.walk_networks.proofs.Functions as walk_networks
use Rattle.why.proofs.Functions as why
use Rattle.writer.proofs.Functions as writer
use Rattle.list_reader.proofs.Functions as list_reader
use Rattle.list_writer.proofs.Functions as list_writer
use Rattle.repair.proofs.Functions as repair
use Rattle.counters.proofs.Functions as counters
use Rattle.hcube.proofs.Functions as hcube
use Rattle.promises.specs.Settled.{Settled, Unasked, Watched}

pub settled : Settled
settled =
    record {
      hcube-label = settles hcube.label_says;
      hcube-hop = settles hcube.hop_says;
      hcube-walk = settles hcube.walk_says;
      hcube-why-node = settles hcube.why_node_says;
      hcube-why-hop = settles hcube.why_hop_says;
      hcube-notice-dimension = settles hcube.notice_dimension_says;
      hcube-read-notice = settles hcube.read_notice_says;
      hcube-write-notice = settles hcube.write_notice_says;
      hcube-read-list = settles hcube.read_list_says;
      hcube-write-list = settles hcube.write_list_says;
      hcube-repair = settles hcube.repair_says;
      hop_near_refusal = settles hop.near_refusal_says;
      hop_networks_hop_networks = settles hop_networks.hop_networks_says;
      hop_networks_is_board = settles hop_networks.is_board_says;
      hop_networks_board_refusal = settles hop_networks.board_refusal_says;
      walk_networks_walk_networks = settles walk_networks.walk_networks_says;
      hcube-hop-networks = settles hcube.hop_networks_says;
      hcube-walk-networks = settles hcube.walk_networks_says;
      hop_lowest = settles hop.lowest_says;
      hop_last_hop = settles hop.last_hop_says;
      walk_table_refusal = settles walk.table_refusal_says;
      hop_networks_list_refusal = settles hop_networks.list_refusal_says;
      hop_networks_after = settles hop_networks.after_says;
      hop_networks_pick_at = settles hop_networks.pick_at_says;
      labels_label = settles labels.label_says;
      labels_label_refusal = settles labels.label_refusal_says;
      passes_settle = settles passes.settle_says;
      hop_hop = settles hop.hop_says;
      hop_place_refusal = settles hop.place_refusal_says;
      walk_walk = settles walk.walk_says;
      walk_walk_for = settles walk.walk_for_says;
      why_why_node = settles why.why_node_says;
      why_why_hop = settles why.why_hop_says;
      notice_dimension = settles notice.dimension_says;
      notice_read = settles notice.read_says;
      writer_write = settles writer.write_says;
      writer_table_refusal = settles writer.table_refusal_says;
      list_reader_read = settles list_reader.read_says;
      list_writer_write = settles list_writer.write_says;
      repair_repair = settles repair.repair_says;
      counters_tally = settles counters.tally_says;
      notice_tail = settles notice.tail_says;
      notice_clear = settles notice.clear_says;
      groups_number_at = settles groups.number_at_says;
      reader_new = settles reader.new_says;
      reader_next = settles reader.next_says;
      reader_next_at = settles reader.next_at_says;
      cube_distance = settles cube.distance_says;
      cube_is_dimension = settles cube.is_dimension_says;
      cube_count_of = settles cube.count_of_says;
      jobs_is_job = settles jobs.is_job_says;
      passes_start = settles passes.start_says;
      passes_sweep = settles passes.sweep_says;
      passes_finish = settles passes.finish_says;
      passes_label = settles passes.label_says;
      passes_near = settles passes.near_says;
      hop_gather = settles hop.gather_says;
      hop_chosen = settles hop.chosen_says;
      hop_at_node = settles hop.at_node_says;
      hop_around = settles hop.around_says;
      hop_hop_at = settles hop.hop_at_says;
      cube_nodes = settles cube.nodes_says;
      cube_neighbour = settles cube.neighbour_says;
      cube_table_len = settles cube.table_len_says;
      cube_node_bit = settles cube.node_bit_says;
      cube_has = settles cube.has_says;
      cube_from = settles cube.refusal_number_says;
      cube_unused_set = settles cube.unused_set_says;
      jobs_label_bytes = settles jobs.label_bytes_says;
      notice_set_bit = settles notice.set_bit_says;
      jobs_half = settles jobs.half_says;
      jobs_of = settles jobs.labels_of_says;
      jobs_at = settles jobs.label_at_says;
    }

pub watched : (W : RattleType) (laws : Laws W) (G : Ghosts W.Denot) (dict : Dict) → Watched W laws G dict
watched W laws G dict = record { labels_label_nodes = settles (labels.label_nodes_says W laws G dict) }

pub unasked : Unasked
unasked =
    record {
      hcube-label = hcube.label_asks;
      hcube-hop = hcube.hop_asks;
      hcube-walk = hcube.walk_asks;
      hcube-why-node = hcube.why_node_asks;
      hcube-why-hop = hcube.why_hop_asks;
      hcube-notice-dimension = hcube.notice_dimension_asks;
      hcube-read-notice = hcube.read_notice_asks;
      hcube-write-notice = hcube.write_notice_asks;
      hcube-read-list = hcube.read_list_asks;
      hcube-write-list = hcube.write_list_asks;
      hcube-repair = hcube.repair_asks;
      hop_near_refusal = hop.near_refusal_asks;
      hop_networks_hop_networks = hop_networks.hop_networks_asks;
      hop_networks_is_board = hop_networks.is_board_asks;
      hop_networks_board_refusal = hop_networks.board_refusal_asks;
      walk_networks_walk_networks = walk_networks.walk_networks_asks;
      hcube-hop-networks = hcube.hop_networks_asks;
      hcube-walk-networks = hcube.walk_networks_asks;
      labels_label = labels.label_asks;
      labels_label_refusal = labels.label_refusal_asks;
      passes_settle = passes.settle_asks;
      passes_label = passes.label_asks;
      hop_hop = hop.hop_asks;
      hop_place_refusal = hop.place_refusal_asks;
      walk_walk = walk.walk_asks;
      walk_walk_for = walk.walk_for_asks;
      why_why_node = why.why_node_asks;
      why_why_hop = why.why_hop_asks;
      notice_dimension = notice.dimension_asks;
      notice_read = notice.read_asks;
      writer_write = writer.write_asks;
      writer_table_refusal = writer.table_refusal_asks;
      list_reader_read = list_reader.read_asks;
      list_writer_write = list_writer.write_asks;
      repair_repair = repair.repair_asks;
      counters_tally = counters.tally_asks;
      notice_tail = notice.tail_asks;
      notice_clear = notice.clear_asks;
      groups_number_at = groups.number_at_asks;
      reader_new = reader.new_asks;
      reader_next = reader.next_asks;
      reader_next_at = reader.next_at_asks;
      cube_distance = cube.distance_asks;
      cube_is_dimension = cube.is_dimension_asks;
      cube_count_of = cube.count_of_asks;
      cube_from = cube.refusal_number_asks;
      jobs_is_job = jobs.is_job_asks;
    }
