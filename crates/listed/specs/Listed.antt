-- All that is promised of the listing (RULES, The listing program), in one record: the contracts by which its lines are made are the code's own, what they say
-- of a line, that all bytes of it are handed to whoever writes it, and what the lines of an input are. (What is written to a file no contract can say; it is
-- tested.)
use Rattle.std.specs.Prelude.{List, ◌≡◌, ℕ, ◌≤◌, Option, is_ok, is_some, take}
use Rattle.cube.specs.Allowed.{AsksFor, May, Tied}
use Rattle.notice.specs.Notice.{dimension_of, notice_of, tail_at}
use Rattle.lines.proofs.Functions as lines
use Rattle.lines.specs.contracts.Line.as_bytes as as-bytes
use Rattle.lines.proofs.Line.as_bytes.Reads as bytes-reads
use Rattle.printed.specs.Laws.{ListingLaws}
use Rattle.printed.specs.Printed.{bytes_in, dimension_in, head_line, labels_in, line_at, next_at}
use Rattle.printed.specs.declared.Labelled.{Labelled}
use Rattle.printed.proofs.Functions as printed
use Rattle.printed.specs.contracts.head_line as head-line
use Rattle.printed.specs.contracts.line_at as line-at
use Rattle.printed.proofs.head_line.Reads as head-reads
use Rattle.printed.proofs.line_at.Reads as line-reads

pub record Listed : Type 2 where
  pub head_tied :
      Tied printed.head-line (λ w. head-line.clauses w.𝓛 w.𝓜.mem w.𝓡.returns) head-reads.Asked head-reads.Post
  pub line_tied : Tied printed.line-at (λ w. line-at.clauses w.𝓛 w.𝓜.mem w.𝓡.returns) line-reads.Asked line-reads.Post
  pub bytes_tied : Tied lines.as-bytes (λ w. as-bytes.clauses w.𝓛 w.𝓜.mem w.𝓡.returns) bytes-reads.Asked bytes-reads.Post
  -- for the notice: its line, and beside it, unless it is refused, the dimension and the labels of its cube
  pub head :
      {bytes labels labels' line' : List ℕ} {cube : Option Labelled} → May printed.head-line (bytes, labels) cube (labels', line')
      → (line' ≡ head_line bytes) × (is_some cube ≡ is_ok (notice_of bytes))
      × (dimension_in cube ≡ dimension_of (notice_of bytes)) × (take (bytes_in cube) labels' ≡ labels_in bytes)
  -- for a pair: its line, and where the input has the next one
  pub line :
      {n at next : ℕ} {labels bytes line' : List ℕ} → May printed.line-at (n, labels, bytes, at) next line'
      → (line' ≡ line_at n labels bytes at) × (next ≡ next_at bytes at)
  -- which is asked for with the dimension and the labels of the input that is handed, at a place of it behind its notice
  pub line_asked : AsksFor printed.line-at (λ i. (i.0 ≡ dimension_of (notice_of i.2)) × (i.1 ≡ labels_in i.2) × (tail_at i.2 ≤ i.3))
  -- and of each line all of its bytes are handed to whoever writes it
  pub bytes : {line written : List ℕ} → May lines.as-bytes line written tt → written ≡ line
  -- and what all of it is
  pub laws : ListingLaws
