-- What `tally` answers and leaves (RULES, The tally): "1 for a dimension outside 1 to 4, 2 for counters of another length"; where it is not refused, every
-- counter of the dimension. m is how many numbers the lent counters are, `before` the counters themselves.
use Rattle.std.specs.Prelude.{Bool, cond, not, ◌&&◌, List, [], ◌∷◌, ℕ, eqb, leb, length}
use Rattle.cube.specs.Refusal.{Test, first, ◌⇒◌}
use Rattle.figures.specs.Figures.{counters_of, tally_of}

unfoldable pub is_tallied : (n : ℕ) → Bool
is_tallied n = leb 1 n && leb n 4

abbrev pub tally_tests : (n m : ℕ) → List Test
tally_tests n m = not (is_tallied n) ⇒ 1 ∷ not (eqb m (counters_of n)) ⇒ 2 ∷ []

unfoldable pub tally_refusal : (n m : ℕ) → ℕ
tally_refusal n m = first (tally_tests n m)

unfoldable pub counters_after : (n : ℕ) (before : List ℕ) → List ℕ
counters_after n before = cond (eqb (tally_refusal n (length before)) 0) (tally_of n) before
