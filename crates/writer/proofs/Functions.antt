-- The crate's public functions as they are seen from outside, each with the claims that the check makes of its clauses, and what its contract says: the
-- answer, and what is left of the buffer, for whatever is handed; and that it asks nothing of its caller.
use mathlib.Core.List.{List}
use mathlib.Core.Path.{refl}
use Prim.Native.Nat.{ℕ}
use lib.ListN.{length}
use Rattle.cube.specs.Allowed.{AsksNothing, Function, Nothing}
use Rattle.std.specs.Prelude.{Result}
use Rattle.cube.specs.declared.refusals.Refusal.{Refusal}
use Rattle.cube.specs.Refusal.{first}
use Rattle.cube.specs.Refused.{answered}
use Rattle.cube.proofs.Contracts.{Says}
use Rattle.writer.specs.Writing.{Wrote, buffer_after, fault_tests, wrote}
use Rattle.writer.specs.contracts.table_refusal
use Rattle.writer.proofs.table_refusal.Reads as table_refusal-reads
use Rattle.writer.specs.contracts.write as write-claims
use Rattle.writer.proofs.write.Reads as write-claims-reads

abbrev pub write : Function write-claims.ended (ℕ × List ℕ × List ℕ) Wrote (List ℕ)
write =
    record {
      clauses = λ w. write-claims.clauses w.𝓛 w.𝓜.mem w.𝓡.returns;
      asked = write-claims-reads.Asked;
      post = write-claims-reads.Post;
      handed = λ κs a. (a.0, a.1.0.now, a.1.1.0.now);
      answered = λ κs r. r;
      left = λ κs e. e.1.1.0.now;
    }

pub write_asks : AsksNothing write
write_asks = record { asked = λ κs a. tt; empty = λ w κs a. (tt, refl) }

pub write_says : Says write (λ i. wrote i.0 i.1 (length i.2)) (λ i. buffer_after i.0 i.1 i.2)
write_says = record { says = λ κs a r e p. (p.0, p.1) }

abbrev pub table-refusal : Function table_refusal.ended (ℕ × List ℕ) (Result Unit Refusal) Nothing
table-refusal =
    record {
      clauses = λ w. table_refusal.clauses w.𝓛 w.𝓜.mem w.𝓡.returns;
      asked = table_refusal-reads.Asked;
      post = table_refusal-reads.Post;
      handed = λ κs a. (a.0, a.1.0.now);
      answered = λ κs r. r;
      left = λ κs e. tt;
    }

pub table_refusal_asks : AsksNothing table-refusal
table_refusal_asks = record { asked = λ κs a. tt; empty = λ w κs a. (tt, refl) }

pub table_refusal_says : Says table-refusal (λ i. answered (first (fault_tests i.0 i.1)) tt) (λ i. tt)
table_refusal_says = record { says = λ κs a r e p. (p, refl) }
