-- What labelling answers and leaves (RULES, Labels, Refusal numbers), for any cabinet K that it is handed and any job j: m is the length of the lent label
-- buffer, `before` the buffer itself.
use Rattle.std.specs.Prelude.{cond, not, List, [], ◌∷◌, ℕ, ◌^◌, eqb, length, Result, Ok, Err}
use Rattle.cube.specs.declared.refusals.Refusal.{Refusal}
use Rattle.cube.specs.Refusal.{Test, first, ◌⇒◌}
use Rattle.cube.specs.Refused.{answered}
use Rattle.cube.specs.Tables.{is_dimension, table_len, unused_set}
use Rattle.jobs.specs.Jobs.{is_job, label_bytes, with_half}
use Rattle.rule.specs.Cabinet.{Cabinet, exchanges_of, is_rule, labels_of}

-- the refusals in order: the lengths of all tables before any unused bit, and of the tables that are read the fault table first and the closed one last
abbrev pub label_tests : (K : Cabinet) (j m : ℕ) → List Test
label_tests K j m =
    not (is_dimension K.n) ⇒ 1
    ∷ not (is_rule K.rule) ⇒ 18
    ∷ not (is_job j) ⇒ 19
    ∷ not (eqb (length K.faults) (table_len K.n)) ⇒ 2
    ∷ not (eqb (length K.draining) (table_len K.n)) ⇒ 2
    ∷ not (eqb (length K.closed) (table_len K.n)) ⇒ 2
    ∷ not (eqb m (label_bytes K.n)) ⇒ 2
    ∷ unused_set K.n K.faults ⇒ 3
    ∷ unused_set K.n K.draining ⇒ 3
    ∷ unused_set K.n K.closed ⇒ 3
    ∷ []

unfoldable pub label_refusal : (K : Cabinet) (j m : ℕ) → ℕ
label_refusal K j m = first (label_tests K j m)

-- the answer: the number of exchanges, or the refusal
unfoldable pub labelled : (K : Cabinet) (j m : ℕ) → Result ℕ Refusal
labelled K j m = answered (label_refusal K j m) (exchanges_of K)

-- the label buffer afterwards: every byte of the job's half written, or every byte kept; the other half is kept either way
unfoldable pub labels_after : (K : Cabinet) (j : ℕ) (before : List ℕ) → List ℕ
labels_after K j before = cond (eqb (label_refusal K j (length before)) 0) (with_half j (2 ^ K.n) (labels_of K) before) before

-- its number for the cases (RULES, To C), 0 where it is refused; the refusal number is `refused`, and the kind is 0
abbrev pub value_of : Result ℕ Refusal → ℕ
value_of (Ok e) = e
value_of (Err r) = 0
