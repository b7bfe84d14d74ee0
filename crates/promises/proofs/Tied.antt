-- Each is the same by its text.
use mathlib.Core.Path.{refl}
use borrow.Fn.World.{w₀}
use denote.Param.Laws.{Laws}
use denote.RattleType.{RattleType}
use mir.Syntax.{Dict}
use Rattle.labels.specs.declared.Watch.{Ghosts}
use Rattle.reader.proofs.Functions as reader
use Rattle.promises.specs.Handed.{InOrder}
use Rattle.promises.specs.Tied.{AllTied, TiedWatched}
use Rattle.promises.specs.TiedNetworks.{NetworksTied}

networks_tied : NetworksTied
networks_tied =
    record {
      hcube-hop-networks = record { clauses = λ w. refl; asked = refl; post = refl };
      hcube-walk-networks = record { clauses = λ w. refl; asked = refl; post = refl };
      hop_networks_hop_networks = record { clauses = λ w. refl; asked = refl; post = refl };
      hop_networks_is_board = record { clauses = λ w. refl; asked = refl; post = refl };
      hop_networks_board_refusal = record { clauses = λ w. refl; asked = refl; post = refl };
      hop_networks_list_refusal = record { clauses = λ w. refl; asked = refl; post = refl };
      hop_networks_after = record { clauses = λ w. refl; asked = refl; post = refl };
      hop_networks_pick_at = record { clauses = λ w. refl; asked = refl; post = refl };
      walk_networks_walk_networks = record { clauses = λ w. refl; asked = refl; post = refl };
    }

pub all_tied : AllTied
all_tied =
    record {
      networks = networks_tied;
      hcube-label = record { clauses = λ w. refl; asked = refl; post = refl };
      hcube-hop = record { clauses = λ w. refl; asked = refl; post = refl };
      hcube-walk = record { clauses = λ w. refl; asked = refl; post = refl };
      hcube-why-node = record { clauses = λ w. refl; asked = refl; post = refl };
      hcube-why-hop = record { clauses = λ w. refl; asked = refl; post = refl };
      hcube-notice-dimension = record { clauses = λ w. refl; asked = refl; post = refl };
      hcube-read-notice = record { clauses = λ w. refl; asked = refl; post = refl };
      hcube-write-notice = record { clauses = λ w. refl; asked = refl; post = refl };
      hcube-read-list = record { clauses = λ w. refl; asked = refl; post = refl };
      hcube-write-list = record { clauses = λ w. refl; asked = refl; post = refl };
      hcube-repair = record { clauses = λ w. refl; asked = refl; post = refl };
      labels_label = record { clauses = λ w. refl; asked = refl; post = refl };
      labels_label_refusal = record { clauses = λ w. refl; asked = refl; post = refl };
      passes_start = record { clauses = λ w. refl; asked = refl; post = refl };
      passes_sweep = record { clauses = λ w. refl; asked = refl; post = refl };
      passes_settle = record { clauses = λ w. refl; asked = refl; post = refl };
      passes_label = record { clauses = λ w. refl; asked = refl; post = refl };
      passes_near = record { clauses = λ w. refl; asked = refl; post = refl };
      passes_finish = record { clauses = λ w. refl; asked = refl; post = refl };
      hop_hop = record { clauses = λ w. refl; asked = refl; post = refl };
      hop_place_refusal = record { clauses = λ w. refl; asked = refl; post = refl };
      hop_near_refusal = record { clauses = λ w. refl; asked = refl; post = refl };
      hop_lowest = record { clauses = λ w. refl; asked = refl; post = refl };
      hop_last_hop = record { clauses = λ w. refl; asked = refl; post = refl };
      walk_table_refusal = record { clauses = λ w. refl; asked = refl; post = refl };
      hop_gather = record { clauses = λ w. refl; asked = refl; post = refl };
      hop_at_node = record { clauses = λ w. refl; asked = refl; post = refl };
      hop_around = record { clauses = λ w. refl; asked = refl; post = refl };
      hop_chosen = record { clauses = λ w. refl; asked = refl; post = refl };
      hop_hop_at = record { clauses = λ w. refl; asked = refl; post = refl };
      walk_walk = record { clauses = λ w. refl; asked = refl; post = refl };
      walk_walk_for = record { clauses = λ w. refl; asked = refl; post = refl };
      why_why_node = record { clauses = λ w. refl; asked = refl; post = refl };
      why_why_hop = record { clauses = λ w. refl; asked = refl; post = refl };
      notice_dimension = record { clauses = λ w. refl; asked = refl; post = refl };
      notice_read = record { clauses = λ w. refl; asked = refl; post = refl };
      writer_write = record { clauses = λ w. refl; asked = refl; post = refl };
      writer_table_refusal = record { clauses = λ w. refl; asked = refl; post = refl };
      list_reader_read = record { clauses = λ w. refl; asked = refl; post = refl };
      list_writer_write = record { clauses = λ w. refl; asked = refl; post = refl };
      repair_repair = record { clauses = λ w. refl; asked = refl; post = refl };
      counters_tally = record { clauses = λ w. refl; asked = refl; post = refl };
      notice_clear = record { clauses = λ w. refl; asked = refl; post = refl };
      notice_set_bit = record { clauses = λ w. refl; asked = refl; post = refl };
      notice_tail = record { clauses = λ w. refl; asked = refl; post = refl };
      groups_number_at = record { clauses = λ w. refl; asked = refl; post = refl };
      reader_new = record { clauses = λ w. refl; post = λ κs a g r e. (reader.new_ensures w₀ κs a r e, refl) };
      reader_next = record { clauses = λ w. refl; post = λ κs a g r e. (reader.next_ensures w₀ κs a r e, refl) };
      reader_next_at = record { clauses = λ w. refl; asked = refl; post = refl };
      cube_distance = record { clauses = λ w. refl; asked = refl; post = refl };
      cube_is_dimension = record { clauses = λ w. refl; asked = refl; post = refl };
      cube_count_of = record { clauses = λ w. refl; asked = refl; post = refl };
      cube_nodes = record { clauses = λ w. refl; asked = refl; post = refl };
      cube_neighbour = record { clauses = λ w. refl; asked = refl; post = refl };
      cube_table_len = record { clauses = λ w. refl; asked = refl; post = refl };
      cube_node_bit = record { clauses = λ w. refl; asked = refl; post = refl };
      cube_has = record { clauses = λ w. refl; asked = refl; post = refl };
      cube_from = record { clauses = λ w. refl; asked = refl; post = refl };
      cube_unused_set = record { clauses = λ w. refl; asked = refl; post = refl };
      jobs_is_job = record { clauses = λ w. refl; asked = refl; post = refl };
      jobs_label_bytes = record { clauses = λ w. refl; asked = refl; post = refl };
      jobs_of = record { clauses = λ w. refl; asked = refl; post = refl };
      jobs_at = record { clauses = λ w. refl; asked = refl; post = refl };
      jobs_half = record { clauses = λ w. refl; asked = refl; post = refl };
    }

pub tied_watched : (W : RattleType) (laws : Laws W) (G : Ghosts W.Denot) (dict : Dict) → TiedWatched W laws G dict
tied_watched W laws G dict = record { labels_label_nodes = record { clauses = λ w. refl; asked = refl; post = refl } }

pub in_order : InOrder
in_order =
    record {
      hcube-label = λ κs a. refl;
      hcube-hop = λ κs a. refl;
      hcube-walk = λ κs a. refl;
      hcube-why-node = λ κs a. refl;
      hcube-why-hop = λ κs a. refl;
      hcube-notice-dimension = λ κs a. refl;
      hcube-read-notice = λ κs a. refl;
      hcube-write-notice = λ κs a. refl;
      hcube-read-list = λ κs a. refl;
      hcube-write-list = λ κs a. refl;
      hcube-repair = λ κs a. refl;
      hcube-hop-networks = λ κs a. refl;
      hcube-walk-networks = λ κs a. refl;
      hop_networks_hop_networks = λ κs a. refl;
      walk_networks_walk_networks = λ κs a. refl;
      labels_label = λ κs a. refl;
      hop_hop = λ κs a. refl;
      walk_walk = λ κs a. refl;
      walk_walk_for = λ κs a. refl;
      why_why_node = λ κs a. refl;
      why_why_hop = λ κs a. refl;
      notice_dimension = λ κs a. refl;
      notice_read = λ κs a. refl;
      writer_write = λ κs a. refl;
      list_reader_read = λ κs a. refl;
      list_writer_write = λ κs a. refl;
      repair_repair = λ κs a. refl;
      counters_tally = λ κs a. refl;
    }
