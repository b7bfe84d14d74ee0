-- The crate's public function as it is seen from outside, with the claims that the check makes of its clauses, and what its contract says: the answer, and what
-- is left of the counters, for whatever is handed; and that it asks nothing of its caller.
use mathlib.Core.List.{List}
use mathlib.Core.Path.{refl}
use Prim.Native.Nat.{ℕ}
use lib.ListN.{length}
use Rattle.std.specs.Prelude.{Result}
use Rattle.cube.specs.Allowed.{AsksNothing, Function}
use Rattle.cube.specs.Refused.{answered}
use Rattle.cube.specs.declared.refusals.Refusal.{Refusal}
use Rattle.cube.proofs.Contracts.{Says}
use Rattle.counters.specs.Tally.{counters_after, tally_refusal}
use Rattle.counters.specs.contracts.tally as tally-claims
use Rattle.counters.proofs.tally.Reads as tally-claims-reads

-- handed: the dimension and the counters; left: the counters
abbrev pub tally : Function tally-claims.ended (ℕ × List ℕ) (Result (Unit {0}) Refusal) (List ℕ)
tally =
    record {
      clauses = λ w. tally-claims.clauses w.𝓛 w.𝓜.mem w.𝓡.returns;
      asked = tally-claims-reads.Asked;
      post = tally-claims-reads.Post;
      handed = λ κs a. (a.0, a.1.0.now);
      answered = λ κs r. r;
      left = λ κs e. e.1.0.now;
    }

pub tally_asks : AsksNothing tally
tally_asks = record { asked = λ κs a. tt; empty = λ w κs a. (tt, refl) }

pub tally_says : Says tally (λ i. answered (tally_refusal i.0 (length i.1)) tt) (λ i. counters_after i.0 i.1)
tally_says = record { says = λ κs a r e p. (p.0, p.1) }
