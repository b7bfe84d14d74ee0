-- The crate's public functions as they are seen from outside, each with the claims that the check makes of its clauses, and what its contract says: the
-- answer, and what is left of what was lent, for whatever is handed; and that an entry point asks nothing of its caller.
use mathlib.Core.Bool.{Bool}
use mathlib.Core.List.{List}
use mathlib.Core.Path.{refl}
use Prim.Native.Nat.{ℕ, ◌^◌}
use Rattle.cube.specs.Allowed.{AsksNothing, Function, Nothing}
use Rattle.cube.proofs.Contracts.{Says}
use Rattle.cube.specs.Cube.{dist, flip}
use Rattle.cube.specs.Tables.{is_dimension, label_count, node_bit, table_len, unused_set}
use Rattle.cube.specs.contracts.distance as distance-claims
use Rattle.cube.proofs.distance.Reads as distance-claims-reads
use Rattle.cube.specs.contracts.is_dimension
use Rattle.cube.proofs.is_dimension.Reads as is_dimension-reads
use Rattle.cube.specs.contracts.nodes as nodes-claims
use Rattle.cube.proofs.nodes.Reads as nodes-claims-reads
use Rattle.cube.specs.contracts.neighbour as neighbour-claims
use Rattle.cube.proofs.neighbour.Reads as neighbour-claims-reads
use Rattle.cube.specs.contracts.table_len
use Rattle.cube.proofs.table_len.Reads as table_len-reads
use Rattle.cube.specs.contracts.node_bit
use Rattle.cube.proofs.node_bit.Reads as node_bit-reads
use Rattle.cube.specs.contracts.NodeTable.has as has-claims
use Rattle.cube.proofs.NodeTable.has.Reads as has-claims-reads
use Rattle.cube.specs.contracts.unused_set
use Rattle.cube.proofs.unused_set.Reads as unused_set-reads
use Rattle.cube.specs.Refused.{number}
use Rattle.cube.specs.declared.refusals.Refusal.{Refusal}
use Rattle.cube.specs.contracts.refusals.U32FromRefusal.from as from-claims
use Rattle.cube.proofs.refusals.U32FromRefusal.from.Reads as from-claims-reads
use Rattle.cube.specs.contracts.count_of
use Rattle.cube.proofs.count_of.Reads as count_of-reads

abbrev pub distance : Function distance-claims.ended (ℕ × ℕ) ℕ Nothing
distance =
    record {
      clauses = λ w. distance-claims.clauses w.𝓛 w.𝓜.mem w.𝓡.returns;
      asked = distance-claims-reads.Asked;
      post = distance-claims-reads.Post;
      handed = λ κs a. (a.0, a.1.0);
      answered = λ κs r. r;
      left = λ κs e. tt;
    }

pub distance_asks : AsksNothing distance
distance_asks = record { asked = λ κs a. tt; empty = λ w κs a. (tt, refl) }

pub distance_says : Says distance (λ i. dist i.0 i.1) (λ i. tt)
distance_says = record { says = λ κs a r e p. (p, refl) }

abbrev pub is-dimension : Function is_dimension.ended ℕ Bool Nothing
is-dimension =
    record {
      clauses = λ w. is_dimension.clauses w.𝓛 w.𝓜.mem w.𝓡.returns;
      asked = is_dimension-reads.Asked;
      post = is_dimension-reads.Post;
      handed = λ κs a. a.0;
      answered = λ κs r. r;
      left = λ κs e. tt;
    }

pub is_dimension_asks : AsksNothing is-dimension
is_dimension_asks = record { asked = λ κs a. tt; empty = λ w κs a. (tt, refl) }

pub is_dimension_says : Says is-dimension is_dimension (λ i. tt)
is_dimension_says = record { says = λ κs a r e p. (p, refl) }

abbrev pub nodes : Function nodes-claims.ended ℕ ℕ Nothing
nodes =
    record {
      clauses = λ w. nodes-claims.clauses w.𝓛 w.𝓜.mem w.𝓡.returns;
      asked = nodes-claims-reads.Asked;
      post = nodes-claims-reads.Post;
      handed = λ κs a. a.0;
      answered = λ κs r. r;
      left = λ κs e. tt;
    }

pub nodes_says : Says nodes (λ n. 2 ^ n) (λ i. tt)
nodes_says = record { says = λ κs a r e p. (p, refl) }

abbrev pub neighbour : Function neighbour-claims.ended (ℕ × ℕ) ℕ Nothing
neighbour =
    record {
      clauses = λ w. neighbour-claims.clauses w.𝓛 w.𝓜.mem w.𝓡.returns;
      asked = neighbour-claims-reads.Asked;
      post = neighbour-claims-reads.Post;
      handed = λ κs a. (a.0, a.1.0);
      answered = λ κs r. r;
      left = λ κs e. tt;
    }

pub neighbour_says : Says neighbour (λ i. flip i.1 i.0) (λ i. tt)
neighbour_says = record { says = λ κs a r e p. (p, refl) }

abbrev pub table-len : Function table_len.ended ℕ ℕ Nothing
table-len =
    record {
      clauses = λ w. table_len.clauses w.𝓛 w.𝓜.mem w.𝓡.returns;
      asked = table_len-reads.Asked;
      post = table_len-reads.Post;
      handed = λ κs a. a.0;
      answered = λ κs r. r;
      left = λ κs e. tt;
    }

pub table_len_says : Says table-len table_len (λ i. tt)
table_len_says = record { says = λ κs a r e p. (p, refl) }

abbrev pub node-bit : Function node_bit.ended (List ℕ × ℕ) Bool Nothing
node-bit =
    record {
      clauses = λ w. node_bit.clauses w.𝓛 w.𝓜.mem w.𝓡.returns;
      asked = node_bit-reads.Asked;
      post = node_bit-reads.Post;
      handed = λ κs a. (a.0.now, a.1.0);
      answered = λ κs r. r;
      left = λ κs e. tt;
    }

pub node_bit_says : Says node-bit (λ i. node_bit i.0 i.1) (λ i. tt)
node_bit_says = record { says = λ κs a r e p. (p, refl) }

-- the table's dimension and its bytes, and the node
abbrev pub has : Function has-claims.ended (ℕ × List ℕ × ℕ) Bool Nothing
has =
    record {
      clauses = λ w. has-claims.clauses w.𝓛 w.𝓜.mem w.𝓡.returns;
      asked = has-claims-reads.Asked;
      post = has-claims-reads.Post;
      handed = λ κs a. (a.0.n, a.0.bytes.now, a.1.0);
      answered = λ κs r. r;
      left = λ κs e. tt;
    }

pub has_says : Says has (λ i. node_bit i.1 i.2) (λ i. tt)
has_says = record { says = λ κs a r e p. (p, refl) }

abbrev pub unused-set : Function unused_set.ended (ℕ × List ℕ) Bool Nothing
unused-set =
    record {
      clauses = λ w. unused_set.clauses w.𝓛 w.𝓜.mem w.𝓡.returns;
      asked = unused_set-reads.Asked;
      post = unused_set-reads.Post;
      handed = λ κs a. (a.0, a.1.0.now);
      answered = λ κs r. r;
      left = λ κs e. tt;
    }

pub unused_set_says : Says unused-set (λ i. unused_set i.0 i.1) (λ i. tt)
unused_set_says = record { says = λ κs a r e p. (p, refl) }

abbrev pub count-of : Function count_of.ended (List ℕ × ℕ) ℕ Nothing
count-of =
    record {
      clauses = λ w. count_of.clauses w.𝓛 w.𝓜.mem w.𝓡.returns;
      asked = count_of-reads.Asked;
      post = count_of-reads.Post;
      handed = λ κs a. (a.0.now, a.1.0);
      answered = λ κs r. r;
      left = λ κs e. tt;
    }

pub count_of_asks : AsksNothing count-of
count_of_asks = record { asked = λ κs a. tt; empty = λ w κs a. (tt, refl) }

pub count_of_says : Says count-of (λ i. label_count i.0 i.1) (λ i. tt)
count_of_says = record { says = λ κs a r e p. (p, refl) }

-- handed a refusal, its number
abbrev pub refusal-number : Function from-claims.ended Refusal ℕ Nothing
refusal-number =
    record {
      clauses = λ w. from-claims.clauses w.𝓛 w.𝓜.mem w.𝓡.returns;
      asked = from-claims-reads.Asked;
      post = from-claims-reads.Post;
      handed = λ κs a. a.0;
      answered = λ κs r. r;
      left = λ κs e. tt;
    }

pub refusal_number_asks : AsksNothing refusal-number
refusal_number_asks = record { asked = λ κs a. tt; empty = λ w κs a. (tt, refl) }

pub refusal_number_says : Says refusal-number number (λ i. tt)
refusal_number_says = record { says = λ κs a r e p. (p, refl) }
