-- What of a line is written, as it is seen from outside: `as_bytes` is all that shows the bytes of one.
use mathlib.Core.List.{List}
use mathlib.Core.Path.{refl}
use Prim.Native.Nat.{ℕ}
use Rattle.cube.specs.Allowed.{Function, Nothing}
use Rattle.cube.proofs.Contracts.{Says}
use Rattle.lines.specs.contracts.Line.as_bytes as as_bytes-claims
use Rattle.lines.proofs.Line.as_bytes.Reads as as_bytes-reads

abbrev pub as-bytes : Function as_bytes-claims.ended (List ℕ) (List ℕ) Nothing
as-bytes =
    record {
      clauses = λ w. as_bytes-claims.clauses w.𝓛 w.𝓜.mem w.𝓡.returns;
      asked = as_bytes-reads.Asked;
      post = as_bytes-reads.Post;
      handed = λ κs a. a.0.now;
      answered = λ κs r. r.now;
      left = λ κs e. tt;
    }

-- they are its text
pub as_bytes_says : Says as-bytes (λ i. i) (λ i. tt)
as_bytes_says = record { says = λ κs a r e p. (p.0, refl) }
