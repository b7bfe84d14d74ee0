-- The crate's public functions as they are seen from outside, each with the claims that the check makes of its clauses, and what its contract says: the
-- answer, and what is left of what was lent, for whatever is handed; and that an entry point asks nothing of its caller.
use mathlib.Core.Bool.{Bool}
use mathlib.Core.List.{List}
use mathlib.Core.Path.{refl}
use Prim.Native.Nat.{ℕ}
use lib.ListN.{length}
use Rattle.std.specs.Prelude.{Option, Result}
use Rattle.cube.specs.Allowed.{AsksNothing, Function, Nothing}
use Rattle.cube.specs.Cube.{flip}
use Rattle.cube.specs.Refused.{answered}
use Rattle.cube.specs.declared.refusals.Refusal.{Refusal}
use Rattle.cube.specs.Tables.{label_in}
use Rattle.cube.proofs.Contracts.{Says}
use Rattle.jobs.specs.Jobs.{label_for}
use Rattle.hop.specs.Helpers.{found}
use Rattle.hop.specs.declared.Decision.{Decision}
use Rattle.blocks.specs.Blocks as blocks
use Rattle.blocks.specs.Phase as phases
use Rattle.hop_networks.specs.Helpers.{board_refusal, list_refusal}
use Rattle.hop_networks.specs.Hopping.{hopped_in, is_board}
use Rattle.hop_networks.specs.contracts.after as after-claims
use Rattle.hop_networks.proofs.after.Reads as after-claims-reads
use Rattle.hop_networks.specs.contracts.board_refusal
use Rattle.hop_networks.proofs.board_refusal.Reads as board_refusal-reads
use Rattle.hop_networks.specs.contracts.hop_networks
use Rattle.hop_networks.proofs.hop_networks.Reads as hop_networks-reads
use Rattle.hop_networks.specs.contracts.is_board
use Rattle.hop_networks.proofs.is_board.Reads as is_board-reads
use Rattle.hop_networks.specs.contracts.list_refusal
use Rattle.hop_networks.proofs.list_refusal.Reads as list_refusal-reads
use Rattle.hop_networks.specs.contracts.pick_at
use Rattle.hop_networks.proofs.pick_at.Reads as pick_at-reads

-- handed the dimension, how many networks there are, the job, both nodes, the message's network and direction, and the labels
abbrev pub hop-networks : Function hop_networks.ended (ℕ × ℕ × ℕ × ℕ × ℕ × ℕ × ℕ × List ℕ) (Result Decision Refusal) Nothing
hop-networks =
    record {
      clauses = λ w. hop_networks.clauses w.𝓛 w.𝓜.mem w.𝓡.returns;
      asked = hop_networks-reads.Asked;
      post = hop_networks-reads.Post;
      handed = λ κs a.
          (a.0, a.1.0, a.1.1.0, a.1.1.1.0, a.1.1.1.1.0, a.1.1.1.1.1.0, a.1.1.1.1.1.1.0, a.1.1.1.1.1.1.1.0.now);
      answered = λ κs r. r;
      left = λ κs e. tt;
    }

pub hop_networks_asks : AsksNothing hop-networks
hop_networks_asks = record { asked = λ κs a. tt; empty = λ w κs a. (tt, refl) }

pub hop_networks_says :
    Says hop-networks (λ i. hopped_in i.0 i.1 i.2 i.3 i.4 i.5 i.6 (length i.7) (label_for i.0 i.2 i.7)) (λ i. tt)
hop_networks_says = record { says = λ κs a r e p. (p, refl) }

abbrev pub is-board : Function is_board.ended ℕ Bool Nothing
is-board =
    record {
      clauses = λ w. is_board.clauses w.𝓛 w.𝓜.mem w.𝓡.returns;
      asked = is_board-reads.Asked;
      post = is_board-reads.Post;
      handed = λ κs a. a.0;
      answered = λ κs r. r;
      left = λ κs e. tt;
    }

pub is_board_asks : AsksNothing is-board
is_board_asks = record { asked = λ κs a. tt; empty = λ w κs a. (tt, refl) }

pub is_board_says : Says is-board (λ i. is_board i) (λ i. tt)
is_board_says = record { says = λ κs a r e p. (p, refl) }

abbrev pub board-refusal : Function board_refusal.ended (ℕ × Bool) (Result Unit Refusal) Nothing
board-refusal =
    record {
      clauses = λ w. board_refusal.clauses w.𝓛 w.𝓜.mem w.𝓡.returns;
      asked = board_refusal-reads.Asked;
      post = board_refusal-reads.Post;
      handed = λ κs a. (a.0, a.1.0);
      answered = λ κs r. r;
      left = λ κs e. tt;
    }

pub board_refusal_asks : AsksNothing board-refusal
board_refusal_asks = record { asked = λ κs a. tt; empty = λ w κs a. (tt, refl) }

pub board_refusal_says : Says board-refusal (λ i. answered (board_refusal i.0 i.1) tt) (λ i. tt)
board_refusal_says = record { says = λ κs a r e p. (p, refl) }

-- handed the dimension, the job, both nodes, the label buffer's length and whether a hop list is too short
abbrev pub list-refusal : Function list_refusal.ended (ℕ × ℕ × ℕ × ℕ × ℕ × Bool) (Result Unit Refusal) Nothing
list-refusal =
    record {
      clauses = λ w. list_refusal.clauses w.𝓛 w.𝓜.mem w.𝓡.returns;
      asked = list_refusal-reads.Asked;
      post = list_refusal-reads.Post;
      handed = λ κs a. (a.0, a.1.0, a.1.1.0, a.1.1.1.0, a.1.1.1.1.0, a.1.1.1.1.1.0);
      answered = λ κs r. r;
      left = λ κs e. tt;
    }

pub list_refusal_says : Says list-refusal (λ i. answered (list_refusal i.0 i.1 i.2 i.3 i.4 i.5) tt) (λ i. tt)
list_refusal_says = record { says = λ κs a r e p. (p, refl) }

-- handed the phase, the node and the dimension
abbrev pub after : Function after-claims.ended (ℕ × ℕ × ℕ) ℕ Nothing
after =
    record {
      clauses = λ w. after-claims.clauses w.𝓛 w.𝓜.mem w.𝓡.returns;
      asked = after-claims-reads.Asked;
      post = after-claims-reads.Post;
      handed = λ κs a. (a.0, a.1.0, a.1.1.0);
      answered = λ κs r. r;
      left = λ κs e. tt;
    }

pub after_says : Says after (λ i. phases.after i.0 i.1 i.2) (λ i. tt)
after_says = record { says = λ κs a r e p. (p, refl) }

-- handed the dimension, the labels, both nodes and the phase
abbrev pub pick-at : Function pick_at.ended (ℕ × List ℕ × ℕ × ℕ × ℕ) (Option ℕ) Nothing
pick-at =
    record {
      clauses = λ w. pick_at.clauses w.𝓛 w.𝓜.mem w.𝓡.returns;
      asked = pick_at-reads.Asked;
      post = pick_at-reads.Post;
      handed = λ κs a. (a.0.n, a.0.bytes.now, a.1.0, a.1.1.0, a.1.1.1.0);
      answered = λ κs r. r;
      left = λ κs e. tt;
    }

pub pick_at_says : Says pick-at (λ i. found i.0 (blocks.pick i.0 i.2 i.3 i.4 (label_in i.1 i.2) (λ k. label_in i.1 (flip k i.2)))) (λ i. tt)
pick_at_says = record { says = λ κs a r e p. (p, refl) }
