-- What the listing program prints for the bytes s of its input (RULES, The listing program): a line for the notice at their front, a line for each pair behind
-- it, and all of it.
use Rattle.std.specs.Prelude.{◌≡◌, cond, List, [], ◌++◌, ℕ, zero, suc, ◌^◌, ◌≤◌, ltb, length, replicate, take, Option, Some, None, Result, Ok, Err, is_some, is_ok}
use Rattle.cube.specs.Refused.{number}
use Rattle.cube.specs.declared.refusals.Refusal.{Refusal}
use Rattle.cube.specs.Tables.{empty_table, table_len}
use Rattle.jobs.specs.Jobs.{label_for}
use Rattle.groups.specs.Number.{number_at, on_number}
use Rattle.lines.specs.Lines.{cube_line, input_refused, notice_refused, pair_line, too_long}
use Rattle.notice.specs.Addresses.{with_bits}
use Rattle.notice.specs.Notice.{addresses_of, dimension_at, dimension_of, notice_of, on_noticed, tail_at}
use Rattle.rule.specs.Cabinet.{Cabinet, exchanges_of, labels_of, plain}
use Rattle.walk.specs.Walk.{row_bytes, walked}
use Rattle.walk.specs.declared.Walked.{Walked}
use Rattle.printed.specs.declared.Labelled.{Labelled}

-- ---- for the notice

-- the bytes of the fault table that it asks for: where it has no dimension, any length will do
unfoldable pub wanted_len : List ℕ → ℕ
wanted_len s = on_number (dimension_at s) (λ r at. 1) (λ n at. table_len n)

-- the cabinet of an accepted notice of dimension n: the listing labels by rule 3, no node drains, and none is closed
abbrev pub cabinet_of : (s : List ℕ) (n : ℕ) → Cabinet
cabinet_of s n = plain n 3 (with_bits (empty_table n) (addresses_of s))

-- the label buffer that the program keeps: its labels as those of job 0, for whom the listing asks, and zeros for the other; a refused notice has none
unfoldable pub labels_in : List ℕ → List ℕ
labels_in s = on_noticed (notice_of s) (λ r at. []) (λ n m taken. labels_of (cabinet_of s n) ++ replicate (2 ^ n) 0)

abbrev pub first_line : (faulty : ℕ) → Cabinet → List ℕ
first_line faulty K = cube_line K.n faulty (labels_of K) (exchanges_of K)

-- "A refused notice prints only `notice refused K P`"
unfoldable pub head_line : List ℕ → List ℕ
head_line s = on_noticed (notice_of s) (λ r at. notice_refused (number r) at) (λ n m taken. first_line m (cabinet_of s n))

-- what is answered for a cube: its dimension and the bytes of its label buffer, 0 where there is none
abbrev pub dimension_in : Option Labelled → ℕ
dimension_in None = 0
dimension_in (Some l) = l.n

abbrev pub bytes_in : Option Labelled → ℕ
bytes_in None = 0
bytes_in (Some l) = l.bytes

-- what is made for the notice: its line, and beside it a cube unless it is refused, whose label buffer stands at the front of `labels`
pub record Headed (s made : List ℕ) (cube : Option Labelled) (labels : List ℕ) : Type 0 where
  pub line : made ≡ head_line s
  pub given : is_some cube ≡ is_ok (notice_of s)
  pub dimension : dimension_in cube ≡ dimension_of (notice_of s)
  pub labelled : take (bytes_in cube) labels ≡ labels_in s
  pub few : bytes_in cube ≤ 8192

-- ---- for the pair at place `at` of the input, in a cube of dimension n with this label buffer

-- the walk of job 0
abbrev pub walked_in : (n : ℕ) (labels : List ℕ) (s d : ℕ) → Walked
walked_in n labels s d = walked n 0 s d (length labels) row_bytes (label_for n 0 labels)

-- its numbers, with the place behind them, or the first that is refused
unfoldable pub pair_at : List ℕ → ℕ → Result (ℕ × ℕ × ℕ) (Refusal × ℕ)
pair_at s at =
    on_number (number_at s at) (λ r place. Err (r, place))
    (λ a next. on_number (number_at s next) (λ r place. Err (r, place)) (λ b after. Ok (a, b, after)))

-- its source is a, and its destination begins at the place
unfoldable pub line_from : (n : ℕ) (labels : List ℕ) (a : ℕ) (s : List ℕ) (at : ℕ) → List ℕ
line_from n labels a s at = on_number (number_at s at) (λ r place. input_refused (number r) place) (λ b after. pair_line a b (walked_in n labels a b))

-- "A pair cut short or ill written prints `input refused 9 P` or `input refused 10 P` as the last line"
unfoldable pub line_at : (n : ℕ) (labels s : List ℕ) (at : ℕ) → List ℕ
line_at n labels s at = on_number (number_at s at) (λ r place. input_refused (number r) place) (λ a next. line_from n labels a s next)

-- where the next pair begins: after such a last line at the end of the bytes
unfoldable pub next_from : List ℕ → ℕ → ℕ
next_from s at = on_number (number_at s at) (λ r place. length s) (λ b after. after)

unfoldable pub next_at : List ℕ → ℕ → ℕ
next_at s at = on_number (number_at s at) (λ r place. length s) (λ a next. next_from s next)

-- ---- all of it

-- the lines of the pairs from place `at` on, `left` of them at most
unfoldable pub pair_lines : (left n : ℕ) (labels s : List ℕ) (at : ℕ) → List ℕ
pair_lines zero n labels s at = []
pair_lines (suc left) n labels s at = cond (ltb at (length s)) (line_at n labels s at ++ pair_lines left n labels s (next_at s at)) []

-- those of all pairs, from the end of the notice on: each takes a byte at least. Places are counted from the first byte of the whole input
abbrev pub pairs_of : (n : ℕ) (labels s : List ℕ) → List ℕ
pairs_of n labels s = pair_lines (length s) n labels s (tail_at s)

-- "It reads standard input: one notice, then pairs of numbers .. to the end"; "Input over 16,384 bytes prints only `input too long`"
unfoldable pub listing : List ℕ → List ℕ
listing s =
    cond (ltb 16384 (length s)) too_long
    (head_line s ++ pairs_of (dimension_of (notice_of s)) (labels_in s) s)
