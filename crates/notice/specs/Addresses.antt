-- The addresses of a notice (RULES, Tables and the notice), and the fault table that they make. The first address is its number; each later one is its distance
-- from the one before, less one. So each is its number counted from a base: 0 at first, and then one more than the address before.
use Rattle.std.specs.Prelude.{Bool, true, false, ◌&&◌, ◌||◌, List, [], ◌∷◌, ℕ, zero, suc, ◌+◌, ◌/◌, ◌%◌, ◌^◌, eqb, leb, ltb, get_or, set, Ok, Err}
use Rattle.std.specs.Int.Bits.{bit_or}
use Rattle.groups.specs.Number.{Number, number_at, on_number}
use Rattle.notice.specs.Tests.{tested, address_tests}

-- m addresses from place `at` on, in a cube of that many nodes: the base and the place behind the last, or the refusal with its place
unfoldable pub addresses_end : (m : ℕ) → List ℕ → (at base size : ℕ) → Number
addresses_end zero s at base size = Ok (base, at)
addresses_end (suc m) s at base size =
    on_number (tested (address_tests base size) at (number_at s at)) (λ r place. Err (r, place)) (λ v next. addresses_end m s next (base + v + 1) size)

-- the addresses themselves
unfoldable pub addresses_at : (m : ℕ) → List ℕ → (at base : ℕ) → List ℕ
addresses_at zero s at base = []
addresses_at (suc m) s at base = on_number (number_at s at) (λ r place. []) (λ v next. (base + v) ∷ addresses_at m s next (base + v + 1))

-- each is more than the one before, from base on, and below size
unfoldable pub rising : (base size : ℕ) → List ℕ → Bool
rising base size [] = true
rising base size (a ∷ l) = leb base a && (ltb a size && rising (a + 1) size l)

-- k is one of them
unfoldable pub among : List ℕ → ℕ → Bool
among [] k = false
among (a ∷ l) k = eqb k a || among l k

-- a fault table with node k's bit set
unfoldable pub with_bit : List ℕ → ℕ → List ℕ
with_bit t k = set t (k / 8) (bit_or (get_or t (k / 8) 0) (2 ^ (k % 8)))

-- a fault table with the bits of all of them set
unfoldable pub with_bits : List ℕ → List ℕ → List ℕ
with_bits t [] = t
with_bits t (a ∷ l) = with_bits (with_bit t a) l
