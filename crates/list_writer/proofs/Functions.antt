-- The crate's public function as it is seen from outside, with the claims that the check makes of its clauses, and what its contract says: the answer, and what
-- is left of the buffer, for whatever is handed; and that it asks nothing of its caller.
use mathlib.Core.List.{List}
use mathlib.Core.Path.{refl}
use Prim.Native.Nat.{ℕ}
use lib.ListN.{length}
use Rattle.cube.specs.Allowed.{AsksNothing, Function}
use Rattle.cube.proofs.Contracts.{Says}
use Rattle.writer.specs.Writing.{Wrote}
use Rattle.list_writer.specs.Lists.{list_after, wrote_list}
use Rattle.list_writer.specs.contracts.write as write-claims
use Rattle.list_writer.proofs.write.Reads as write-claims-reads

abbrev pub write : Function write-claims.ended (ℕ × List ℕ × List ℕ) Wrote (List ℕ)
write =
    record {
      clauses = λ w. write-claims.clauses w.𝓛 w.𝓜.mem w.𝓡.returns;
      asked = write-claims-reads.Asked;
      post = write-claims-reads.Post;
      handed = λ κs a. (a.0, a.1.0.now, a.1.1.0.now);
      answered = λ κs r. r;
      left = λ κs e. e.1.1.0.now;
    }

pub write_asks : AsksNothing write
write_asks = record { asked = λ κs a. tt; empty = λ w κs a. (tt, refl) }

pub write_says : Says write (λ i. wrote_list i.0 i.1 (length i.2)) (λ i. list_after i.0 i.1 i.2)
write_says = record { says = λ κs a r e p. (p.0, p.1) }
