-- Reading a list text (RULES, List text): the refusals, and what the table holds then. What a text must be, and which nodes it names, is said in the crate
-- ranges.
use Rattle.std.specs.Prelude.{cond, not, List, [], ◌∷◌, ℕ, ◌^◌, eqb, length}
use Rattle.cube.specs.Refusal.{Test, first, ◌⇒◌}
use Rattle.cube.specs.Tables.{is_dimension, table_len}
use Rattle.ranges.specs.Grammar.{is_list, named_table, reaches}

-- "14 for text that breaks these rules anywhere, then 12"
abbrev pub text_tests : (size : ℕ) (text : List ℕ) → List Test
text_tests size text = not (is_list text) ⇒ 14 ∷ reaches size text ⇒ 12 ∷ []

-- "reading 1, 2", then these
unfoldable pub list_refusal : (n : ℕ) (text faults : List ℕ) → ℕ
list_refusal n text faults = first (not (is_dimension n) ⇒ 1 ∷ not (eqb (length faults) (table_len n)) ⇒ 2 ∷ text_tests (2 ^ n) text)

-- the table afterwards: refused, it keeps every byte
unfoldable pub list_table : (n : ℕ) (text faults : List ℕ) → List ℕ
list_table n text faults = cond (eqb (list_refusal n text faults) 0) (named_table n text) faults
