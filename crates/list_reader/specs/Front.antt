-- The entry at the front of a text, as the code takes it from there: what `first_entry` answers of any bytes. That this is the first part of the text, and an
-- entry exactly where the rules say so, is shown in proofs/Entries.antt.
use Rattle.std.specs.Prelude.{Bool, true, false, cond, not, ◌&&◌, List, [], ◌∷◌, ℕ, suc, ◌+◌, ◌-◌, eqb, ltb, length, get_or, take, drop, Option, Some, None}
use Rattle.notice.specs.Addresses.{with_bits}
use Rattle.spelling.specs.Spelled.{having}
use Rattle.ranges.specs.Grammar.{comma, dash, high, is_digit, low, no_zero, value}
use Rattle.list_reader.specs.declared.Run.{Run}

-- what is taken of the front of a text: a run of nodes with the bytes that it takes, where an entry stands there
abbrev pub Entry : Type 0
Entry = Option Run

abbrev pub a_run : (low high bytes : ℕ) → Entry
a_run low high bytes = Some (record { low = low; high = high; bytes = bytes })

-- 4,096 stands for every number from there on, as no cube has such a node
abbrev pub capped : ℕ → ℕ
capped v = cond (ltb v 4096) v 4096

-- how many digits stand at the front, and they themselves
unfoldable pub lead : List ℕ → ℕ
lead [] = 0
lead (x ∷ s) = cond (is_digit x) (suc (lead s)) 0

abbrev pub front : List ℕ → List ℕ
front s = take (lead s) s

-- digits of the same count: the first that differ decide; otherwise the longer ones are above, where neither begins with 0
unfoldable pub later : List ℕ → List ℕ → Bool
later [] b = false
later (x ∷ a) [] = false
later (x ∷ a) (y ∷ b) = cond (eqb x y) (later a b) (ltb y x)

unfoldable pub above : List ℕ → List ℕ → Bool
above a b = cond (eqb (length a) (length b)) (later a b) (ltb (length b) (length a))

-- what was read takes `end` bytes: it is an entry where nothing is left of the text, or a comma with something behind it
unfoldable pub closing : (end low high : ℕ) (left : List ℕ) → Entry
closing end low high [] = a_run low high end
closing end low high (x ∷ []) = None
closing end low high (x ∷ y ∷ left) = cond (eqb x comma) (a_run low high (end + 1)) None

-- the number a, a dash, and what is left behind it: the second number is not below the first
unfoldable pub range_on : (a left : List ℕ) → Entry
range_on a left =
    cond (no_zero (front left) && not (above a (front left)))
    (closing (length a + 1 + lead left) (capped (value a)) (capped (value (front left))) (drop (lead left) left)) None

-- the number a, and what is left behind it
unfoldable pub entry_on : (a left : List ℕ) → Entry
entry_on a [] = closing (length a) (capped (value a)) (capped (value a)) []
entry_on a (x ∷ left) = cond (eqb x dash) (range_on a left) (closing (length a) (capped (value a)) (capped (value a)) (x ∷ left))

unfoldable pub entry_at : List ℕ → Entry
entry_at s = cond (no_zero (front s)) (entry_on (front s) (drop (lead s) s)) None

-- ---- the second pass

-- a dash stands behind the digits at the front; the last node and the bytes of what stands there, where it is an entry
unfoldable pub dashed : List ℕ → Bool
dashed s = ltb (lead s) (length s) && eqb (get_or s (lead s) 0) dash

unfoldable pub high_at : List ℕ → ℕ
high_at s = capped (value (cond (dashed s) (front (drop (lead s + 1) s)) (front s)))

unfoldable pub bytes_at : List ℕ → ℕ
bytes_at s = cond (dashed s) (lead s + 1 + lead (drop (lead s + 1) s)) (lead s)

-- the nodes of a run
abbrev pub between : (low high : ℕ) → List ℕ
between low high = having (high + 1 - low) low (λ k. true)

-- a table with the bits of all parts set, one part after the other
unfoldable pub with_parts : List ℕ → List (List ℕ) → List ℕ
with_parts t [] = t
with_parts t (p ∷ more) = with_parts (with_bits t (between (low p) (high p))) more
