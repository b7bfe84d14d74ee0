-- The crate's public function as it is seen from outside, with the claims that the check makes of its clauses, and what its contract says: the answer, and what
-- is left of result and row, for whatever is handed; and that it asks nothing of its caller.
use mathlib.Core.List.{List}
use mathlib.Core.Path.{refl, ap₂}
use Prim.Native.Nat.{ℕ}
use lib.ListN.{length}
use Rattle.std.specs.Prelude.{Result}
use Rattle.cube.specs.Allowed.{AsksNothing, Function}
use Rattle.cube.specs.Refused.{answered}
use Rattle.cube.specs.declared.refusals.Refusal.{Refusal}
use Rattle.cube.proofs.Contracts.{Says}
use Rattle.repair.specs.Repairing.{namers_after, repair_refusal, result_after}
use Rattle.repair.specs.contracts.repair as repair-claims
use Rattle.repair.proofs.repair.Reads as repair-claims-reads

-- handed: the dimension, the old table, the masks, the result and the row; left: the result and the row
abbrev pub repair : Function repair-claims.ended (ℕ × List ℕ × List ℕ × List ℕ × List ℕ) (Result (Unit {0}) Refusal) (List ℕ × List ℕ)
repair =
    record {
      clauses = λ w. repair-claims.clauses w.𝓛 w.𝓜.mem w.𝓡.returns;
      asked = repair-claims-reads.Asked;
      post = repair-claims-reads.Post;
      handed = λ κs a. (a.0, a.1.0.now, a.1.1.0.now, a.1.1.1.0.now, a.1.1.1.1.0.now);
      answered = λ κs r. r;
      left = λ κs e. (e.1.1.1.0.now, e.1.1.1.1.0.now);
    }

pub repair_asks : AsksNothing repair
repair_asks = record { asked = λ κs a. tt; empty = λ w κs a. (tt, refl) }

pub repair_says :
    Says repair (λ i. answered (repair_refusal i.0 i.1 i.2 (length i.3) (length i.4)) tt)
    (λ i. (result_after i.0 i.1 i.2 i.3 i.4, namers_after i.0 i.1 i.2 i.3 i.4))
repair_says = record { says = λ κs a r e p. (p.0, ap₂ (λ (x y : List ℕ). (x, y)) p.1.0 p.1.1) }
