-- Each is the same by its text.
use mathlib.Core.Path.{refl}
use Rattle.promises.specs.Seen.{AsSeen}

pub as_seen : AsSeen
as_seen =
    record {
      hcube-label = λ κs r. refl;
      hcube-hop = λ κs r. refl;
      hcube-walk = λ κs r. refl;
      hcube-why-node = λ κs r. refl;
      hcube-why-hop = λ κs r. refl;
      hcube-notice-dimension = λ κs r. refl;
      hcube-read-notice = λ κs r. refl;
      hcube-write-notice = λ κs r. refl;
      hcube-read-list = λ κs r. refl;
      hcube-write-list = λ κs r. refl;
      hcube-repair = λ κs r. refl;
      labels_label = λ κs r. refl;
      hop_hop = λ κs r. refl;
      walk_walk = λ κs r. refl;
      walk_walk_for = λ κs r. refl;
      why_why_node = λ κs r. refl;
      why_why_hop = λ κs r. refl;
      notice_dimension = λ κs r. refl;
      notice_read = λ κs r. refl;
      writer_write = λ κs r. refl;
      list_reader_read = λ κs r. refl;
      list_writer_write = λ κs r. refl;
      repair_repair = λ κs r. refl;
      counters_tally = λ κs r. refl;
      hcube_label_left = λ κs r. refl;
      hcube_walk_left = λ κs r. refl;
      hcube_why_node_left = λ κs r. refl;
      hcube_read_notice_left = λ κs r. refl;
      hcube_write_notice_left = λ κs r. refl;
      hcube_read_list_left = λ κs r. refl;
      hcube_write_list_left = λ κs r. refl;
      hcube_repair_left = λ κs r. refl;
      labels_label_left = λ κs r. refl;
      why_why_node_left = λ κs r. refl;
      notice_read_left = λ κs r. refl;
      writer_write_left = λ κs r. refl;
      list_reader_read_left = λ κs r. refl;
      list_writer_write_left = λ κs r. refl;
      hcube-hop-networks = λ κs r. refl;
      hcube-walk-networks = λ κs r. refl;
      hop_networks_hop_networks = λ κs r. refl;
      walk_networks_walk_networks = λ κs r. refl;
      hcube_walk_networks_left = λ κs r. refl;
      walk_networks_walk_networks_left = λ κs r. refl;
      repair_repair_left = λ κs r. refl;
      counters_tally_left = λ κs r. refl;
    }
