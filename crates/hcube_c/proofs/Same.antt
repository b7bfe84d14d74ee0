-- The two texts say the same, word for word.
use mathlib.Core.Path.{refl}
use Rattle.hcube_c.specs.Same.{Same}

pub same : Same
same =
    record {
      label = λ w. refl;
      hop = λ w. refl;
      walk = λ w. refl;
      hop_networks = λ w. refl;
      walk_networks = λ w. refl;
      why_node = λ w. refl;
      why_hop = λ w. refl;
      notice_dimension = λ w. refl;
      read_notice = λ w. refl;
      write_notice = λ w. refl;
      read_list = λ w. refl;
      write_list = λ w. refl;
      repair = λ w. refl;
    }
