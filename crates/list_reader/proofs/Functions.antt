-- The crate's public function as it is seen from outside, with the claims that the check makes of its clauses, and what its contract says: the answer, and what
-- is left of the table, for whatever is handed; and that it asks nothing of its caller.
use mathlib.Core.List.{List}
use mathlib.Core.Path.{refl}
use Prim.Native.Nat.{ℕ}
use Rattle.std.specs.Prelude.{Result}
use Rattle.cube.specs.declared.refusals.Refusal.{Refusal}
use Rattle.cube.specs.Allowed.{AsksNothing, Function}
use Rattle.cube.specs.Refused.{answered}
use Rattle.cube.proofs.Contracts.{Says}
use Rattle.list_reader.specs.Reading.{list_refusal, list_table}
use Rattle.list_reader.specs.contracts.read as read-claims
use Rattle.list_reader.proofs.read.Reads as read-claims-reads

abbrev pub read : Function read-claims.ended (ℕ × List ℕ × List ℕ) (Result Unit Refusal) (List ℕ)
read =
    record {
      clauses = λ w. read-claims.clauses w.𝓛 w.𝓜.mem w.𝓡.returns;
      asked = read-claims-reads.Asked;
      post = read-claims-reads.Post;
      handed = λ κs a. (a.0, a.1.0.now, a.1.1.0.now);
      answered = λ κs r. r;
      left = λ κs e. e.1.1.0.now;
    }

pub read_asks : AsksNothing read
read_asks = record { asked = λ κs a. tt; empty = λ w κs a. (tt, refl) }

pub read_says : Says read (λ i. answered (list_refusal i.0 i.1 i.2) tt) (λ i. list_table i.0 i.1 i.2)
read_says = record { says = λ κs a r e p. (p.0, p.1) }
