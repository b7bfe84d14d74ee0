-- The refusals of a notice (RULES, Refusal numbers), as tables. "Notice: left to right; each number 9 or 10 first, then its value (1 after the dimension, then
-- 2 for the lent fault table, 11 after the count, 12 at each address)."
use Rattle.std.specs.Prelude.{cond, not, List, [], ◌∷◌, ℕ, ◌+◌, ◌^◌, eqb, leb, ltb, length, Ok, Err}
use Rattle.cube.specs.Refusal.{Test, first, ◌⇒◌}
use Rattle.cube.specs.Tables.{is_dimension, table_len}
use Rattle.cube.specs.Refused.{refusal}
use Rattle.groups.specs.Number.{Number, on_number}

-- a number that begins at place `at`, with the tests of its value: 9 or 10 stays, and then the first test that holds refuses it, at that place
unfoldable pub tested : (ℕ → List Test) → (at : ℕ) → Number → Number
tested tests at x =
    on_number x (λ r place. Err (r, place)) (λ v next. cond (eqb (first (tests v)) 0) (Ok (v, next)) (Err (refusal (first (tests v)), at)))

-- the dimension n; then, for the lent fault table t, its length
abbrev pub dimension_tests : (n : ℕ) → List Test
dimension_tests n = not (is_dimension n) ⇒ 1 ∷ []

abbrev pub length_tests : (t : List ℕ) (n : ℕ) → List Test
length_tests t n = not (eqb (length t) (table_len n)) ⇒ 2 ∷ []

-- the count m, in a cube of dimension n
abbrev pub count_tests : (n m : ℕ) → List Test
count_tests n m = ltb (2 ^ n) m ⇒ 11 ∷ []

-- an address, which is the number v counted from a base, in a cube of that many nodes
abbrev pub address_tests : (base size v : ℕ) → List Test
address_tests base size v = leb size (base + v) ⇒ 12 ∷ []
