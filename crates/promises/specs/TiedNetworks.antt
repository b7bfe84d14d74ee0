-- The functions that go by networks are those of the code, as specs/Tied.antt says it of the others.
use Rattle.cube.specs.Allowed.{Tied}
use Rattle.hop_networks.proofs.Functions as hop_networks
use Rattle.walk_networks.proofs.Functions as walk_networks
use Rattle.hcube.proofs.Functions as hcube
use Rattle.hcube.specs.contracts.hcube_hop_networks as hcube-hop-networks
use Rattle.hcube.proofs.hcube_hop_networks.Reads as hcube-hop-networks-reads
use Rattle.hcube.specs.contracts.hcube_walk_networks as hcube-walk-networks
use Rattle.hcube.proofs.hcube_walk_networks.Reads as hcube-walk-networks-reads
use Rattle.hop_networks.specs.contracts.hop_networks as hop_networks_hop_networks
use Rattle.hop_networks.proofs.hop_networks.Reads as hop_networks_hop_networks-reads
use Rattle.hop_networks.specs.contracts.is_board as hop_networks_is_board
use Rattle.hop_networks.proofs.is_board.Reads as hop_networks_is_board-reads
use Rattle.hop_networks.specs.contracts.board_refusal as hop_networks_board_refusal
use Rattle.hop_networks.proofs.board_refusal.Reads as hop_networks_board_refusal-reads
use Rattle.hop_networks.specs.contracts.list_refusal as hop_networks_list_refusal
use Rattle.hop_networks.proofs.list_refusal.Reads as hop_networks_list_refusal-reads
use Rattle.hop_networks.specs.contracts.after as hop_networks_after
use Rattle.hop_networks.proofs.after.Reads as hop_networks_after-reads
use Rattle.hop_networks.specs.contracts.pick_at as hop_networks_pick_at
use Rattle.hop_networks.proofs.pick_at.Reads as hop_networks_pick_at-reads
use Rattle.walk_networks.specs.contracts.walk_networks as walk_networks_walk_networks
use Rattle.walk_networks.proofs.walk_networks.Reads as walk_networks_walk_networks-reads

pub record NetworksTied : Type 2 where
  pub hcube-hop-networks :
      Tied hcube.hop-networks (λ w. hcube-hop-networks.clauses w.𝓛 w.𝓜.mem w.𝓡.returns)
      hcube-hop-networks-reads.Asked hcube-hop-networks-reads.Post
  pub hcube-walk-networks :
      Tied hcube.walk-networks (λ w. hcube-walk-networks.clauses w.𝓛 w.𝓜.mem w.𝓡.returns)
      hcube-walk-networks-reads.Asked hcube-walk-networks-reads.Post
  pub hop_networks_hop_networks :
      Tied hop_networks.hop-networks (λ w. hop_networks_hop_networks.clauses w.𝓛 w.𝓜.mem w.𝓡.returns)
      hop_networks_hop_networks-reads.Asked hop_networks_hop_networks-reads.Post
  pub hop_networks_is_board :
      Tied hop_networks.is-board (λ w. hop_networks_is_board.clauses w.𝓛 w.𝓜.mem w.𝓡.returns)
      hop_networks_is_board-reads.Asked hop_networks_is_board-reads.Post
  pub hop_networks_board_refusal :
      Tied hop_networks.board-refusal (λ w. hop_networks_board_refusal.clauses w.𝓛 w.𝓜.mem w.𝓡.returns)
      hop_networks_board_refusal-reads.Asked hop_networks_board_refusal-reads.Post
  pub hop_networks_list_refusal :
      Tied hop_networks.list-refusal (λ w. hop_networks_list_refusal.clauses w.𝓛 w.𝓜.mem w.𝓡.returns)
      hop_networks_list_refusal-reads.Asked hop_networks_list_refusal-reads.Post
  pub hop_networks_after :
      Tied hop_networks.after (λ w. hop_networks_after.clauses w.𝓛 w.𝓜.mem w.𝓡.returns)
      hop_networks_after-reads.Asked hop_networks_after-reads.Post
  pub hop_networks_pick_at :
      Tied hop_networks.pick-at (λ w. hop_networks_pick_at.clauses w.𝓛 w.𝓜.mem w.𝓡.returns)
      hop_networks_pick_at-reads.Asked hop_networks_pick_at-reads.Post
  pub walk_networks_walk_networks :
      Tied walk_networks.walk-networks (λ w. walk_networks_walk_networks.clauses w.𝓛 w.𝓜.mem w.𝓡.returns)
      walk_networks_walk_networks-reads.Asked walk_networks_walk_networks-reads.Post
