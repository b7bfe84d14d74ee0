-- Each is proved where it belongs.
use mathlib.Core.Path.{refl}
use Rattle.cube.proofs.Contracts.{told}
use Rattle.lines.proofs.Functions as lines
use Rattle.printed.proofs.Functions as printed
use Rattle.printed.proofs.Laws.{listing_laws}
use Rattle.listed.specs.Listed.{Listed}

pub listed : Listed
listed =
    record {
      head_tied = record { clauses = λ w. refl; asked = refl; post = refl };
      line_tied = record { clauses = λ w. refl; asked = refl; post = refl };
      bytes_tied = record { clauses = λ w. refl; asked = refl; post = refl };
      head = λ m. let h = printed.head_line_says _ _ _ m in (h.line, h.given, h.dimension, h.labelled);
      line = λ m. printed.line_at_says _ _ _ m;
      line_asked = printed.line_at_asks;
      bytes = λ m. (told lines.as_bytes_says m).0;
      laws = listing_laws;
    }
