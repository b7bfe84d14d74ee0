-- The lines of the listing program (RULES, The listing program) and of the tally (RULES, The tally).
use Rattle.std.specs.Prelude.{List, [], ◌++◌, ℕ, zero, suc, ◌+◌, get_or, take}
use Rattle.cube.specs.Refused.{number}
use Rattle.cube.specs.Tables.{label_count}
use Rattle.walk.specs.declared.Ending.{Ending}
use Rattle.walk.specs.declared.Ending.TheVariants as ending
use Rattle.walk.specs.declared.Walked.{Walked}
use Rattle.lines.specs.Text.{decimal, field, text}

-- the bytes that a line has room for: none is longer
abbrev pub room : ℕ
room = 1024

-- a line with a text put behind what it has: of a text that is longer than the room that is left, only the front
unfoldable pub put : (line x : List ℕ) → List ℕ
put line x = take room (line ++ x)

abbrev pub counts_text : (labels : List ℕ) → List ℕ
counts_text labels = field " safe " (label_count labels 0) ++ field " ordinary " (label_count labels 1) ++ field " strong " (label_count labels 2)

-- "First line: dimension, then counts of faulty, safe, ordinary, strong nodes, then rounds": after this word stands the number of exchanges
unfoldable pub cube_line : (n faulty : ℕ) (labels : List ℕ) (exchanges : ℕ) → List ℕ
cube_line n faulty labels exchanges = field "cube " n ++ field " faulty " faulty ++ counts_text labels ++ field " rounds " exchanges ++ text "\n"

-- "every node visited": the first k places of a row
unfoldable pub row_text : (row : List ℕ) (k : ℕ) → List ℕ
row_text row zero = []
row_text row (suc k) = row_text row k ++ field " " (get_or row k 0)

-- "ending, then hop count and every node visited, or the refusal number": after that many hops one node more is visited
abbrev pub end_text : Ending → (hops : ℕ) (row : List ℕ) → List ℕ
end_text ending.Delivered hops row = field " delivered " hops ++ row_text row (hops + 1)
end_text ending.Halted hops row = field " halted " hops ++ row_text row (hops + 1)
end_text (ending.Refused r) hops row = field " refused " (number r)

-- "Each pair: source, destination", and then how the walk between them ended
unfoldable pub pair_line : (s d : ℕ) → Walked → List ℕ
pair_line s d w = decimal s ++ field " " d ++ end_text w.ending w.hops w.row ++ text "\n"

-- the refusals, with the place of the number that each is about as the last field
abbrev pub notice_refused : (k at : ℕ) → List ℕ
notice_refused k at = field "notice refused " k ++ field " " at ++ text "\n"

abbrev pub input_refused : (k at : ℕ) → List ℕ
input_refused k at = field "input refused " k ++ field " " at ++ text "\n"

abbrev pub too_long : List ℕ
too_long = text "input too long\n"

-- the tally's: a cube, a number of faults with its six figures, and, for whoever waits at a terminal, the cube that is next
abbrev pub size_line : (n : ℕ) → List ℕ
size_line n = field "cube " n ++ text "\n"

unfoldable pub figures_line : (faults : ℕ) (figures : List ℕ) → List ℕ
figures_line faults figures = decimal faults ++ row_text figures 6 ++ text "\n"

abbrev pub progress_line : (n : ℕ) → List ℕ
progress_line n = field "tally: cube " n ++ text "\n"
