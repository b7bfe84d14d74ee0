-- The crate's public functions as they are seen from outside, each with the claims that the check makes of its clauses: what its contract says of the line
-- that is left, whatever that held before, and what it asks of its caller.
use mathlib.Core.List.{List}
use mathlib.Core.Path.{◌≡◌}
use Prim.Native.Nat.{ℕ, ◌≤◌}
use Rattle.std.specs.Prelude.{Option}
use Rattle.cube.specs.Allowed.{AsksFor, Ensures, Function}
use Rattle.cube.proofs.Contracts.{ensures}
use Rattle.notice.specs.Notice.{dimension_of, notice_of, tail_at}
use Rattle.printed.specs.Printed.{Headed, labels_in, line_at, next_at}
use Rattle.printed.specs.declared.Labelled.{Labelled}
use Rattle.printed.specs.contracts.head_line as head-claims
use Rattle.printed.proofs.head_line.Reads as head-reads
use Rattle.printed.specs.contracts.line_at as line-claims
use Rattle.printed.proofs.line_at.Reads as line-reads

-- it leaves the labels and the line
abbrev pub head-line : Function head-claims.ended (List ℕ × List ℕ) (Option Labelled) (List ℕ × List ℕ)
head-line =
    record {
      clauses = λ w. head-claims.clauses w.𝓛 w.𝓜.mem w.𝓡.returns;
      asked = head-reads.Asked;
      post = head-reads.Post;
      handed = λ κs a. (a.0.now, a.1.0.now);
      answered = λ κs r. r;
      left = λ κs e. (e.1.0.now, e.1.1.0.now);
    }

abbrev pub line-at : Function line-claims.ended (ℕ × List ℕ × List ℕ × ℕ) ℕ (List ℕ)
line-at =
    record {
      clauses = λ w. line-claims.clauses w.𝓛 w.𝓜.mem w.𝓡.returns;
      asked = line-reads.Asked;
      post = line-reads.Post;
      handed = λ κs a. (a.0, a.1.0.now, a.1.1.0.now, a.1.1.1.0);
      answered = λ κs r. r;
      left = λ κs e. e.1.1.1.1.0.now;
    }

-- the line that is left is the notice's, and beside it are the dimension and the labels of its cube
pub head_line_says : Ensures head-line (λ i l o. Headed i.0 o.1 l o.0)
head_line_says = ensures head-line _ (λ κs a l e p. p)

-- the line of a pair is asked for with the dimension and the labels of the input that is handed, at a place behind its notice
pub line_at_asks : AsksFor line-at (λ i. (i.0 ≡ dimension_of (notice_of i.2)) × (i.1 ≡ labels_in i.2) × (tail_at i.2 ≤ i.3))
line_at_asks κs a p = (p.0.0, p.0.1, p.1)

-- it is left, and the next pair is where the input has it
pub line_at_says : Ensures line-at (λ i next o. (o ≡ line_at i.0 i.1 i.2 i.3) × (next ≡ next_at i.2 i.3))
line_at_says = ensures line-at _ (λ κs a next e p. p)
