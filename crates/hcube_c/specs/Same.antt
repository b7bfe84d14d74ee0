-- What the archive exports has the contracts of the library: for each function, the clauses that the check made of the export are those that it made of
-- hcube's function of the same name. So what is promised of that function is promised of the export.
use Rattle.std.specs.Prelude.{◌≡◌}
use borrow.Fn.World.{World}
use Rattle.hcube.specs.contracts.hcube_label as lib_label
use Rattle.hcube_c.specs.contracts.hcube_label as c_label
use Rattle.hcube.specs.contracts.hcube_hop as lib_hop
use Rattle.hcube_c.specs.contracts.hcube_hop as c_hop
use Rattle.hcube.specs.contracts.hcube_walk as lib_walk
use Rattle.hcube_c.specs.contracts.hcube_walk as c_walk
use Rattle.hcube.specs.contracts.hcube_hop_networks as lib_hop_networks
use Rattle.hcube_c.specs.contracts.hcube_hop_networks as c_hop_networks
use Rattle.hcube.specs.contracts.hcube_walk_networks as lib_walk_networks
use Rattle.hcube_c.specs.contracts.hcube_walk_networks as c_walk_networks
use Rattle.hcube.specs.contracts.hcube_why_node as lib_why_node
use Rattle.hcube_c.specs.contracts.hcube_why_node as c_why_node
use Rattle.hcube.specs.contracts.hcube_why_hop as lib_why_hop
use Rattle.hcube_c.specs.contracts.hcube_why_hop as c_why_hop
use Rattle.hcube.specs.contracts.hcube_notice_dimension as lib_notice_dimension
use Rattle.hcube_c.specs.contracts.hcube_notice_dimension as c_notice_dimension
use Rattle.hcube.specs.contracts.hcube_read_notice as lib_read_notice
use Rattle.hcube_c.specs.contracts.hcube_read_notice as c_read_notice
use Rattle.hcube.specs.contracts.hcube_write_notice as lib_write_notice
use Rattle.hcube_c.specs.contracts.hcube_write_notice as c_write_notice
use Rattle.hcube.specs.contracts.hcube_read_list as lib_read_list
use Rattle.hcube_c.specs.contracts.hcube_read_list as c_read_list
use Rattle.hcube.specs.contracts.hcube_write_list as lib_write_list
use Rattle.hcube_c.specs.contracts.hcube_write_list as c_write_list
use Rattle.hcube.specs.contracts.hcube_repair as lib_repair
use Rattle.hcube_c.specs.contracts.hcube_repair as c_repair

pub record Same : Type 2 where
  pub label : (w : World) → c_label.clauses w.𝓛 w.𝓜.mem w.𝓡.returns ≡ lib_label.clauses w.𝓛 w.𝓜.mem w.𝓡.returns
  pub hop : (w : World) → c_hop.clauses w.𝓛 w.𝓜.mem w.𝓡.returns ≡ lib_hop.clauses w.𝓛 w.𝓜.mem w.𝓡.returns
  pub walk : (w : World) → c_walk.clauses w.𝓛 w.𝓜.mem w.𝓡.returns ≡ lib_walk.clauses w.𝓛 w.𝓜.mem w.𝓡.returns
  pub hop_networks : (w : World) → c_hop_networks.clauses w.𝓛 w.𝓜.mem w.𝓡.returns ≡ lib_hop_networks.clauses w.𝓛 w.𝓜.mem w.𝓡.returns
  pub walk_networks : (w : World) → c_walk_networks.clauses w.𝓛 w.𝓜.mem w.𝓡.returns ≡ lib_walk_networks.clauses w.𝓛 w.𝓜.mem w.𝓡.returns
  pub why_node : (w : World) → c_why_node.clauses w.𝓛 w.𝓜.mem w.𝓡.returns ≡ lib_why_node.clauses w.𝓛 w.𝓜.mem w.𝓡.returns
  pub why_hop : (w : World) → c_why_hop.clauses w.𝓛 w.𝓜.mem w.𝓡.returns ≡ lib_why_hop.clauses w.𝓛 w.𝓜.mem w.𝓡.returns
  pub notice_dimension : (w : World) → c_notice_dimension.clauses w.𝓛 w.𝓜.mem w.𝓡.returns ≡ lib_notice_dimension.clauses w.𝓛 w.𝓜.mem w.𝓡.returns
  pub read_notice : (w : World) → c_read_notice.clauses w.𝓛 w.𝓜.mem w.𝓡.returns ≡ lib_read_notice.clauses w.𝓛 w.𝓜.mem w.𝓡.returns
  pub write_notice : (w : World) → c_write_notice.clauses w.𝓛 w.𝓜.mem w.𝓡.returns ≡ lib_write_notice.clauses w.𝓛 w.𝓜.mem w.𝓡.returns
  pub read_list : (w : World) → c_read_list.clauses w.𝓛 w.𝓜.mem w.𝓡.returns ≡ lib_read_list.clauses w.𝓛 w.𝓜.mem w.𝓡.returns
  pub write_list : (w : World) → c_write_list.clauses w.𝓛 w.𝓜.mem w.𝓡.returns ≡ lib_write_list.clauses w.𝓛 w.𝓜.mem w.𝓡.returns
  pub repair : (w : World) → c_repair.clauses w.𝓛 w.𝓜.mem w.𝓡.returns ≡ lib_repair.clauses w.𝓛 w.𝓜.mem w.𝓡.returns
