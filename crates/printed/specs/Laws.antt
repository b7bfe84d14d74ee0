-- What RULES says of all that is printed (The listing program), as laws of `listing`, with samples. Proved in proofs/Laws.antt.
use Rattle.std.specs.Prelude.{◌≡◌, List, [], ◌∷◌, ◌++◌, ℕ, suc, ◌≤◌, ◌<◌, length, Ok, Err}
use Rattle.cube.specs.Refused.{number}
use Rattle.cube.specs.declared.refusals.Refusal.{Refusal}
use Rattle.cube.specs.Tables.{label_count}
use Rattle.groups.specs.Number.{number_at}
use Rattle.notice.specs.Notice.{a_notice, notice_of, tail_at}
use Rattle.rule.specs.Cabinet.{labels_of}
use Rattle.lines.specs.Lines.{input_refused, notice_refused, too_long}
use Rattle.printed.specs.Printed.{cabinet_of, listing, pair_lines, pairs_of}
use Rattle.lines.specs.Text.{text}

-- "For the input bytes (hex) `04 04 02 01 03 06 0D 00 06 00 02 00`"
abbrev pub sample_bytes : List ℕ
sample_bytes = 0x04 ∷ 0x04 ∷ 0x02 ∷ 0x01 ∷ 0x03 ∷ 0x06 ∷ 0x0D ∷ 0x00 ∷ 0x06 ∷ 0x00 ∷ 0x02 ∷ 0x00 ∷ []

abbrev pub sample_lines : List ℕ
sample_lines =
    text "cube 4 faulty 4 safe 7 ordinary 4 strong 1 rounds 3\n"
    ++ text "13 0 delivered 3 13 9 1 0\n"
    ++ text "6 0 delivered 4 6 7 5 1 0\n"
    ++ text "2 0 refused 6\n"

pub record ListingLaws : Type 0 where
  -- "Input over 16,384 bytes prints only `input too long`"
  pub too_long : (s : List ℕ) → 16384 < length s → listing s ≡ too_long
  -- "A refused notice prints only `notice refused K P`", with the place of the refusal
  pub refused : (s : List ℕ) (r : Refusal) (at : ℕ) → length s ≤ 16384 → notice_of s ≡ Err (r, at) → listing s ≡ notice_refused (number r) at
  -- where fewer nodes are faulty than the cube has dimensions, the number behind `safe` on the first line is not 0 (theorem 4 of Chiu and Wu 1994)
  pub no_alarm : (s : List ℕ) (n m taken : ℕ) → notice_of s ≡ a_notice n m taken → m < n → 0 < label_count (labels_of (cabinet_of s n)) 0
  -- "pairs of numbers .. to the end": with more steps no more is printed, so no pair is left out
  pub to_end : (n : ℕ) (labels s : List ℕ) (steps : ℕ) → length s ≤ steps → pair_lines steps n labels s (tail_at s) ≡ pairs_of n labels s
  -- "A pair cut short or ill written prints `input refused 9 P` or `input refused 10 P` as the last line", with the place where that number begins, "counted
  -- from the first byte of the whole input"
  pub source_refused : (left n : ℕ) (labels s : List ℕ) (at : ℕ) (r : Refusal) (place : ℕ) → at < length s → number_at s at ≡ Err (r, place)
      → pair_lines (suc left) n labels s at ≡ input_refused (number r) at
  pub destination_refused : (left n : ℕ) (labels s : List ℕ) (at a next : ℕ) (r : Refusal) (place : ℕ) → at < length s → number_at s at ≡ Ok (a, next)
      → number_at s next ≡ Err (r, place) → pair_lines (suc left) n labels s at ≡ input_refused (number r) next
  -- "it prints exactly:", with the number of exchanges on the first line
  pub sample : listing sample_bytes ≡ sample_lines
  -- a notice whose second address is ill written; and a destination that is cut short, behind a notice of two bytes
  pub sample_notice : listing (0x04 ∷ 0x02 ∷ 0x03 ∷ 0x81 ∷ 0x00 ∷ []) ≡ text "notice refused 10 3\n"
  pub sample_input : listing (0x01 ∷ 0x00 ∷ 0x00 ∷ 0x81 ∷ []) ≡ text "cube 1 faulty 0 safe 2 ordinary 0 strong 0 rounds 1\n" ++ text "input refused 9 3\n"
