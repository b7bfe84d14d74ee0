-- The crate's public functions as they are seen from outside, each with the claims that the check makes of its clauses, and what its contract says: the
-- answer, and what is left of what was lent, for whatever is handed; and that an entry point asks nothing of its caller.
use mathlib.Core.List.{List}
use mathlib.Core.Path.{refl}
use Prim.Native.Nat.{ℕ}
use lib.ListN.{length}
use Rattle.cube.specs.Allowed.{AsksNothing, Function, Nothing}
use Rattle.std.specs.Prelude.{Result}
use Rattle.cube.proofs.Contracts.{Says}
use Rattle.cube.specs.Refused.{answered}
use Rattle.cube.specs.declared.refusals.Refusal.{Refusal}
use Rattle.cube.specs.Tables.{label_in}
use Rattle.jobs.specs.Jobs.{label_for}
use Rattle.walk.specs.Helpers.{table_refusal}
use Rattle.walk.specs.Walk.{row_bytes, walked}
use Rattle.walk.specs.declared.Walked.{Walked}
use Rattle.walk.specs.contracts.walk as walk-claims
use Rattle.walk.proofs.walk.Reads as walk-claims-reads
use Rattle.walk.specs.contracts.table_refusal
use Rattle.walk.proofs.table_refusal.Reads as table_refusal-reads
use Rattle.walk.specs.contracts.walk_for
use Rattle.walk.proofs.walk_for.Reads as walk_for-reads

abbrev pub walk : Function walk-claims.ended (ℕ × ℕ × ℕ × ℕ × List ℕ) Walked Nothing
walk =
    record {
      clauses = λ w. walk-claims.clauses w.𝓛 w.𝓜.mem w.𝓡.returns;
      asked = walk-claims-reads.Asked;
      post = walk-claims-reads.Post;
      handed = λ κs a. (a.0, a.1.0, a.1.1.0, a.1.1.1.0, a.1.1.1.1.0.now);
      answered = λ κs r. r;
      left = λ κs e. tt;
    }

pub walk_asks : AsksNothing walk
walk_asks = record { asked = λ κs a. tt; empty = λ w κs a. (tt, refl) }

pub walk_says : Says walk (λ i. walked i.0 i.1 i.2 i.3 (length i.4) row_bytes (label_for i.0 i.1 i.4)) (λ i. tt)
walk_says = record { says = λ κs a r e p. (p, refl) }

abbrev pub walk-for : Function walk_for.ended (ℕ × ℕ × ℕ × ℕ × List ℕ × ℕ) Walked Nothing
walk-for =
    record {
      clauses = λ w. walk_for.clauses w.𝓛 w.𝓜.mem w.𝓡.returns;
      asked = walk_for-reads.Asked;
      post = walk_for-reads.Post;
      handed = λ κs a. (a.0, a.1.0, a.1.1.0, a.1.1.1.0, a.1.1.1.1.0.now, a.1.1.1.1.1.0);
      answered = λ κs r. r;
      left = λ κs e. tt;
    }

pub walk_for_asks : AsksNothing walk-for
walk_for_asks = record { asked = λ κs a. tt; empty = λ w κs a. (tt, refl) }

pub walk_for_says : Says walk-for (λ i. walked i.0 i.1 i.2 i.3 (length i.4) i.5 (label_for i.0 i.1 i.4)) (λ i. tt)
walk_for_says = record { says = λ κs a r e p. (p, refl) }

-- handed the dimension, the labels and both nodes
abbrev pub table-refusal : Function table_refusal.ended (ℕ × List ℕ × ℕ × ℕ) (Result Unit Refusal) Nothing
table-refusal =
    record {
      clauses = λ w. table_refusal.clauses w.𝓛 w.𝓜.mem w.𝓡.returns;
      asked = table_refusal-reads.Asked;
      post = table_refusal-reads.Post;
      handed = λ κs a. (a.0.n, a.0.bytes.now, a.1.0, a.1.1.0);
      answered = λ κs r. r;
      left = λ κs e. tt;
    }

pub table_refusal_says : Says table-refusal (λ i. answered (table_refusal i.0 i.2 i.3 (label_in i.1)) tt) (λ i. tt)
table_refusal_says = record { says = λ κs a r e p. (p, refl) }
