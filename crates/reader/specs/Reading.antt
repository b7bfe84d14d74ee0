-- Bytes read through a reader number by number, from the start: each answer is the number reader's at the place that the one before left.
use Rattle.std.specs.Prelude.{List, [], ◌∷◌, ℕ, zero, suc, ◌+◌}
use Rattle.groups.specs.Number.{Number, number_at, value_in}
use Rattle.reader.specs.Reader.{place_after}

-- the place after k answers
unfoldable pub places : List ℕ → (k : ℕ) → ℕ
places s zero = 0
places s (suc k) = place_after s (places s k)

-- the answer that follows k others
unfoldable pub answers : List ℕ → (k : ℕ) → Number
answers s k = number_at s (places s k)

-- the values of m answers, which follow k others
unfoldable pub values : (m : ℕ) → List ℕ → (k : ℕ) → List ℕ
values zero s k = []
values (suc m) s k = value_in (answers s k) ∷ values m s (suc k)

-- the addresses that values mean: the first is its value, each later one its value counted from one more than the address before
unfoldable pub addresses_from : (base : ℕ) → List ℕ → List ℕ
addresses_from base [] = []
addresses_from base (v ∷ l) = (base + v) ∷ addresses_from (base + v + 1) l
