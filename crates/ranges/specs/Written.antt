-- The text of a fault table (RULES, List text): "writing gives rising, longest runs, a lone node as one number", joined by commas.
use Rattle.std.specs.Prelude.{cond, List, [], ◌∷◌, ◌++◌, ℕ, zero, suc, ◌+◌, ◌/◌, ◌%◌, eqb, ltb}
use Rattle.spelling.specs.Spelled.{faulty_nodes}
use Rattle.ranges.specs.Grammar.{comma, dash}

-- ---- runs, each with its first and its last node

-- node x in front of the runs behind it: it joins a run that begins at the next node
unfoldable pub join_run : ℕ → List (ℕ × ℕ) → List (ℕ × ℕ)
join_run x [] = (x, x) ∷ []
join_run x (r ∷ more) = cond (eqb r.0 (x + 1)) ((x, r.1) ∷ more) ((x, x) ∷ r ∷ more)

-- the runs of nodes in rising order
unfoldable pub grouped : List ℕ → List (ℕ × ℕ)
grouped [] = []
grouped (x ∷ more) = join_run x (grouped more)

-- ---- their text

-- the digits of v, the most significant first; `more` is at least their count
unfoldable pub digits_of : (more v : ℕ) → List ℕ
digits_of zero v = []
digits_of (suc more) v = cond (ltb v 10) ((48 + v) ∷ []) (digits_of more (v / 10) ++ (48 + v % 10) ∷ [])

unfoldable pub decimal : ℕ → List ℕ
decimal v = digits_of (suc v) v

unfoldable pub entry_text : (low high : ℕ) → List ℕ
entry_text low high = cond (eqb low high) (decimal low) (decimal low ++ dash ∷ decimal high)

unfoldable pub entry_texts : List (ℕ × ℕ) → List (List ℕ)
entry_texts [] = []
entry_texts (r ∷ more) = entry_text r.0 r.1 ∷ entry_texts more

-- parts, each behind a comma; and joined by commas
unfoldable pub behind : List (List ℕ) → List ℕ
behind [] = []
behind (p ∷ more) = comma ∷ p ++ behind more

unfoldable pub joined : List (List ℕ) → List ℕ
joined [] = []
joined (p ∷ more) = p ++ behind more

-- the text of these nodes, and of a fault table of an n-cube
abbrev pub text_of : List ℕ → List ℕ
text_of nodes = joined (entry_texts (grouped nodes))

unfoldable pub list_text : (n : ℕ) (faults : List ℕ) → List ℕ
list_text n faults = text_of (faulty_nodes n faults)
