-- List text (RULES, List text): "decimal numbers and low-high ranges joined by commas, as `0-3,8`". A text is a list of bytes; what it must be, and which
-- nodes it names, is said of the parts between its commas, and of the parts of these between dashes. How a text is read is not said here.
use Rattle.std.specs.Prelude.{Bool, true, false, cond, not, ◌&&◌, ◌||◌, List, [], ◌∷◌, ℕ, ◌+◌, ◌*◌, ◌-◌, ◌^◌, eqb, leb}
use Rattle.cube.specs.Tables.{empty_table}
use Rattle.notice.specs.Addresses.{with_bits}
use Rattle.spelling.specs.Spelled.{having}

abbrev pub comma : ℕ
comma = 44

abbrev pub dash : ℕ
dash = 45

-- ---- parts

-- byte x in front of the first part
unfoldable pub ahead : ℕ → List (List ℕ) → List (List ℕ)
ahead x [] = (x ∷ []) ∷ []
ahead x (p ∷ more) = (x ∷ p) ∷ more

-- the parts between the bytes b: one more than there are such bytes
unfoldable pub split : (b : ℕ) → List ℕ → List (List ℕ)
split b [] = [] ∷ []
split b (x ∷ s) = cond (eqb x b) ([] ∷ split b s) (ahead x (split b s))

-- every part has p, and some part has p
unfoldable pub every : (List ℕ → Bool) → List (List ℕ) → Bool
every p [] = true
every p (a ∷ more) = p a && every p more

unfoldable pub any : (List ℕ → Bool) → List (List ℕ) → Bool
any p [] = false
any p (a ∷ more) = p a || any p more

-- ---- "numbers have any count of digits and no leading zero (0 is written 0)"

unfoldable pub is_digit : ℕ → Bool
is_digit x = leb 48 x && leb x 57

unfoldable pub all_digits : List ℕ → Bool
all_digits [] = true
all_digits (x ∷ s) = is_digit x && all_digits s

-- there is a digit, and the first of several is not 0
unfoldable pub no_zero : List ℕ → Bool
no_zero [] = false
no_zero (x ∷ []) = true
no_zero (x ∷ y ∷ s) = not (eqb x 48)

unfoldable pub is_number : List ℕ → Bool
is_number s = all_digits s && no_zero s

-- the value of digits behind digits of value v, and of digits alone: a number has any value
unfoldable pub value_from : (v : ℕ) → List ℕ → ℕ
value_from v [] = v
value_from v (x ∷ s) = value_from (10 * v + (x - 48)) s

abbrev pub value : List ℕ → ℕ
value s = value_from 0 s

-- ---- an entry is a number, or two with a dash between: "ranges have low at most high"

unfoldable pub entry_of : List (List ℕ) → Bool
entry_of [] = false
entry_of (a ∷ []) = is_number a
entry_of (a ∷ b ∷ []) = is_number a && (is_number b && leb (value a) (value b))
entry_of (a ∷ b ∷ c ∷ more) = false

unfoldable pub is_entry : List ℕ → Bool
is_entry p = entry_of (split dash p)

-- its first and its last node
unfoldable pub first_of : List (List ℕ) → ℕ
first_of [] = 0
first_of (a ∷ more) = value a

unfoldable pub last_of : List (List ℕ) → ℕ
last_of [] = 0
last_of (a ∷ []) = value a
last_of (a ∷ b ∷ more) = last_of (b ∷ more)

unfoldable pub low : List ℕ → ℕ
low p = first_of (split dash p)

unfoldable pub high : List ℕ → ℕ
high p = last_of (split dash p)

-- ---- a text: its entries stand between its commas, and "the empty text is no faults"

unfoldable pub parts_of : List ℕ → List (List ℕ)
parts_of [] = []
parts_of (x ∷ s) = split comma (x ∷ s)

-- it keeps the rules
unfoldable pub is_list : List ℕ → Bool
is_list text = every is_entry (parts_of text)

-- some entry goes beyond a cube of that many nodes
unfoldable pub reaches : (size : ℕ) → List ℕ → Bool
reaches size text = any (λ p. leb size (high p)) (parts_of text)

-- it names node k: "entries in any order, overlaps allowed; the table is their union"
unfoldable pub covers : ℕ → List ℕ → Bool
covers k p = leb (low p) k && leb k (high p)

unfoldable pub named : List ℕ → ℕ → Bool
named text k = any (covers k) (parts_of text)

-- the table of the nodes that it names
unfoldable pub named_table : (n : ℕ) (text : List ℕ) → List ℕ
named_table n text = with_bits (empty_table n) (having (2 ^ n) 0 (named text))
