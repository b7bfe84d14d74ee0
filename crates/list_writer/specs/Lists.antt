-- Writing a list text (RULES, List text): the answer, and what the buffer holds then, as for a notice, with the text in the notice's place; and what the code
-- goes by.
use Rattle.std.specs.Prelude.{Bool, true, false, cond, List, [], ◌∷◌, ℕ, zero, suc, ◌+◌, ◌/◌, ◌%◌, ltb}
use Rattle.ranges.specs.Grammar.{comma}
use Rattle.ranges.specs.Written.{list_text}
use Rattle.writer.specs.Writing.{Wrote, after_bytes, wrote_bytes}

-- "writing 1, 2, 3, then 13 exactly if the text is longer than the buffer"
abbrev pub wrote_list : (n : ℕ) (faults : List ℕ) (room : ℕ) → Wrote
wrote_list n faults room = wrote_bytes n faults (list_text n faults) room

-- "bytes behind a written text keep their content"
abbrev pub list_after : (n : ℕ) (faults out : List ℕ) → List ℕ
list_after n faults out = after_bytes n faults (list_text n faults) out

-- ---- what the code goes by

-- the comma between what stands there and the next entry, which may be the first
unfoldable pub gap : (first : Bool) → List ℕ
gap true = []
gap false = comma ∷ []

-- the place behind the run that begins at k, of so many numbers
unfoldable pub run_end : (left k : ℕ) (p : ℕ → Bool) → ℕ
run_end zero k p = k
run_end (suc left) k p = cond (p k) (run_end left (k + 1) p) k

-- the digit of v that stands for so many, if it has one
unfoldable pub digit_at : (unit v : ℕ) → List ℕ
digit_at unit v = cond (ltb v unit) [] ((48 + v / unit % 10) ∷ [])
