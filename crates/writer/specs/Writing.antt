-- Writing what stands for a fault table to the front of a lent buffer (RULES, Tables and the notice; List text): the refusals, the answer, and what the buffer
-- holds then, for whatever bytes w are to be written; and the notice, whose bytes are `notice_bytes`.
use Rattle.std.specs.Prelude.{not, List, [], ◌∷◌, ◌++◌, ℕ, eqb, ltb, length, Result, Ok, Err}
use Rattle.cube.specs.declared.refusals.Refusal.{Refusal}
use Rattle.cube.specs.Over.{over}
use Rattle.cube.specs.Refusal.{Test, first, ◌⇒◌}
use Rattle.cube.specs.Refused.{answered, number, refused}
use Rattle.cube.specs.Tables.{is_dimension, table_len, unused_set}
use Rattle.spelling.specs.Spelled.{notice_bytes}

-- "1, 2, 3 as in labelling",
abbrev pub fault_tests : (n : ℕ) (faults : List ℕ) → List Test
fault_tests n faults = not (is_dimension n) ⇒ 1 ∷ not (eqb (length faults) (table_len n)) ⇒ 2 ∷ unused_set n faults ⇒ 3 ∷ []

-- "then 13 exactly if" what is to be written "is longer than the buffer", which has room for so many bytes
unfoldable pub room_refusal : (n : ℕ) (faults w : List ℕ) (room : ℕ) → ℕ
room_refusal n faults w room = first (fault_tests n faults ++ ltb room (length w) ⇒ 13 ∷ [])

-- what is answered: the length of what was written, or the refusal
abbrev pub Wrote : Type 0
Wrote = Result ℕ Refusal

unfoldable pub wrote_bytes : (n : ℕ) (faults w : List ℕ) (room : ℕ) → Wrote
wrote_bytes n faults w room = answered (room_refusal n faults w room) (length w)

abbrev pub on_wrote : {A : Type 0} → Wrote → (refused good : ℕ → A) → A
on_wrote (Ok len) refused good = good len
on_wrote (Err r) refused good = refused (number r)

-- the buffer afterwards: refused, it keeps every byte; accepted, it is w, and "bytes of the buffer behind" it "keep their content"
unfoldable pub after_bytes : (n : ℕ) (faults w out : List ℕ) → List ℕ
after_bytes n faults w out = on_wrote (wrote_bytes n faults w (length out)) (λ k. out) (λ len. over w out)

-- the numbers for the answer (RULES, To C)
abbrev pub refusal_of : Wrote → ℕ
refusal_of x = refused x

abbrev pub length_of : Wrote → ℕ
length_of x = on_wrote x (λ k. 0) (λ len. len)

-- ---- of the notice

abbrev pub wrote : (n : ℕ) (faults : List ℕ) (room : ℕ) → Wrote
wrote n faults room = wrote_bytes n faults (notice_bytes n faults) room

abbrev pub buffer_after : (n : ℕ) (faults out : List ℕ) → List ℕ
buffer_after n faults out = after_bytes n faults (notice_bytes n faults) out
