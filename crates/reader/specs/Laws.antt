-- What RULES says of the notice reader that keeps the lent bytes and its place (Tables and the notice), as laws of its definitions; and where a refused notice
-- is bad: who reads it number by number comes to the place that the refusal says. Proved in proofs/Laws.antt and proofs/Refused.antt.
use Rattle.std.specs.Prelude.{◌≡◌, List, [], ◌∷◌, true, false, ◌≢◌, ℕ, suc, ◌+◌, ◌^◌, ◌≤◌, ◌<◌, get_or, length, Ok, Err}
use Rattle.cube.specs.declared.refusals.Refusal.{Refusal}
use Rattle.cube.specs.declared.refusals.Refusal.TheVariants.{Address, Count, Dimension, Length}
use Rattle.cube.specs.Tables.{is_dimension, table_len}
use Rattle.groups.specs.Number.{number_at, value_in}
use Rattle.notice.specs.Laws.{listing_bytes}
use Rattle.notice.specs.Notice.{a_notice, noticed, addresses_of}
use Rattle.reader.specs.Reader.{place_after}
use Rattle.reader.specs.Reading.{places, answers, values, addresses_from}

-- the answer that follows k others is a number, and the reader is at its next place after it
abbrev pub Told : List ℕ → (k : ℕ) → Type 0
Told s k = answers s k ≡ Ok (value_in (answers s k), places s (suc k))

-- a notice of dimension n and m addresses that takes `taken` bytes, read number by number
pub record ReadThrough (s : List ℕ) (n m taken : ℕ) : Type 0 where
  -- no answer is a refusal
  pub told : (k : ℕ) → k < 2 + m → Told s k
  -- "the order is: dimension; number of faulty nodes; the first faulty node; then for each later one .. its distance from the one before, less one"
  pub dimension : value_in (answers s 0) ≡ n
  pub count : value_in (answers s 1) ≡ m
  pub addresses : addresses_from 0 (values m s 2) ≡ addresses_of s
  -- and the reader is then behind the notice
  pub end : places s (2 + m) ≡ taken

-- what the reader's answers say of a notice: its dimension, its count, and the address that follows i others
abbrev pub dimension_in : List ℕ → ℕ
dimension_in s = value_in (answers s 0)

abbrev pub count_in : List ℕ → ℕ
count_in s = value_in (answers s 1)

abbrev pub address_in : List ℕ → (i : ℕ) → ℕ
address_in s i = get_or (addresses_from 0 (values (suc i) s 2)) i 0

-- the refusal r is about the number that follows j others, where the notice is read over a fault table t
pub data Names (s t : List ℕ) : (j : ℕ) (r : Refusal) → Type 0 where
  -- 9 and 10: the number is not complete, or ill written
  ill : {j : ℕ} (r : Refusal) (place : ℕ) → answers s j ≡ Err (r, place) → Names s t j r
  -- the others are about the value of a number that is read. 1, and 2 for the lent fault table: the dimension
  dimension_1 : Told s 0 → is_dimension (dimension_in s) ≡ false → Names s t 0 Dimension
  dimension_2 : Told s 0 → is_dimension (dimension_in s) ≡ true → length t ≢ table_len (dimension_in s) → Names s t 0 Length
  -- 11: the count
  count_11 : Told s 1 → 2 ^ dimension_in s < count_in s → Names s t 1 Count
  -- 12: an address
  address_12 : (i : ℕ) → Told s (2 + i) → 2 ^ dimension_in s ≤ address_in s i → Names s t (2 + i) Address

-- a notice that is refused with r at a place, read number by number
pub record RefusedThrough (s t : List ℕ) (r : Refusal) (at : ℕ) : Type 0 where
  -- as many numbers are read, none of them refused, and no refusal is about any of them,
  pub before : ℕ
  pub told : (j : ℕ) → j < before → Told s j
  pub good : (j : ℕ) (q : Refusal) → j < before → ¬ (Names s t j q)
  -- and the reader is then at that place,
  pub comes : places s before ≡ at
  -- where a number of the notice begins: the dimension, the count, or one of as many addresses as the count says,
  pub due : before < 2 + count_in s
  -- which is the one that the refusal is about
  pub names : Names s t before r

pub record ReaderLaws : Type 0 where
  -- "one action: the next number"
  pub moves : (s : List ℕ) (at v next : ℕ) → number_at s at ≡ Ok (v, next) → place_after s at ≡ next
  -- "a refusal leaves its place as it stood"
  pub stays : (s : List ℕ) (at : ℕ) (r : Refusal) (place : ℕ) → number_at s at ≡ Err (r, place) → place_after s at ≡ at
  -- and so the place that it answers is the place that it keeps
  pub keeps : (s : List ℕ) (at : ℕ) (r : Refusal) (place : ℕ) → number_at s at ≡ Err (r, place) → place ≡ place_after s at
  -- what the notice reader accepts, on a fault table t, is read through a reader too
  pub whole : (s t : List ℕ) (n m taken : ℕ) → noticed s t ≡ a_notice n m taken → ReadThrough s n m taken
  -- and what it refuses is read up to the place that it answers
  pub refused : (s t : List ℕ) (r : Refusal) (at : ℕ) → noticed s t ≡ Err (r, at) → RefusedThrough s t r at
  -- the listing's notice, n = 4 with faulty 2, 4, 8, 15
  pub listing_values : values 6 listing_bytes 0 ≡ 4 ∷ 4 ∷ 2 ∷ 1 ∷ 3 ∷ 6 ∷ []
  pub listing_nodes : addresses_from 0 (values 4 listing_bytes 2) ≡ 2 ∷ 4 ∷ 8 ∷ 15 ∷ []
