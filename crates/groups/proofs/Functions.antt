-- The crate's public functions as they are seen from outside, each with the claims that the check makes of its clauses, and what its contract says: the
-- answer, and what is left of what was lent, for whatever is handed; and that an entry point asks nothing of its caller.
use mathlib.Core.List.{List}
use mathlib.Core.Path.{refl}
use Prim.Native.Nat.{ℕ}
use Rattle.cube.specs.Allowed.{AsksNothing, Function, Nothing}
use Rattle.cube.proofs.Contracts.{Says}
use Rattle.groups.specs.Number.{Number, number_at}
use Rattle.groups.specs.contracts.number_at
use Rattle.groups.proofs.number_at.Reads as number_at-reads

abbrev pub number-at : Function number_at.ended (List ℕ × ℕ) Number Nothing
number-at =
    record {
      clauses = λ w. number_at.clauses w.𝓛 w.𝓜.mem w.𝓡.returns;
      asked = number_at-reads.Asked;
      post = number_at-reads.Post;
      handed = λ κs a. (a.0.now, a.1.0);
      answered = λ κs r. r;
      left = λ κs e. tt;
    }

pub number_at_asks : AsksNothing number-at
number_at_asks = record { asked = λ κs a. tt; empty = λ w κs a. (tt, refl) }

pub number_at_says : Says number-at (λ i. number_at i.0 i.1) (λ i. tt)
number_at_says = record { says = λ κs a r e p. (p, refl) }
