-- A notice (RULES, Tables and the notice), left to right: its dimension, its count, its addresses. The reader and the tail question share it; only the reader
-- has a lent fault table, so it alone tests the table's length, right after the dimension.
use Rattle.std.specs.Prelude.{List, [], ◌≡◌, ℕ, ◌^◌, length, drop, replicate, Result, Ok, Err}
use Rattle.cube.specs.Refused.{number}
use Rattle.cube.specs.declared.refusals.Refusal.{Refusal}
use Rattle.groups.specs.Number.{Number, further, number_at, on_number, refusal_in}
use Rattle.notice.specs.Tests.{tested, dimension_tests, length_tests, count_tests}
use Rattle.notice.specs.Addresses.{addresses_end, addresses_at, with_bits}
use Rattle.notice.specs.declared.Found.{Found}
use Rattle.notice.specs.declared.Notice.{Notice}

-- what the reader answers: the notice, or the refusal with its place
abbrev pub Noticed : Type 0
Noticed = Result Notice (Refusal × ℕ)

-- a notice of dimension n with m faulty nodes, which took so many bytes
abbrev pub a_notice : (n m taken : ℕ) → Noticed
a_notice n m taken = Ok (record { n = n; count = m; taken = taken })

-- what follows a dimension: its addresses, or the refusal with its place
abbrev pub Rest : Type 0
Rest = Result Found (Refusal × ℕ)

-- m addresses, from one place to another
abbrev pub a_rest : (m start end : ℕ) → Rest
a_rest m start end = Ok (record { count = m; start = start; end = end })

-- the dimension
unfoldable pub dimension_at : List ℕ → Number
dimension_at s = tested dimension_tests 0 (number_at s 0)

-- behind a dimension n that ends at `at`: the count,
unfoldable pub count_at : (n : ℕ) → List ℕ → (at : ℕ) → Number
count_at n s at = tested (count_tests n) at (number_at s at)

-- and the addresses, from the bytes behind the count on. Their places are counted from there, so
-- those of the whole bytes are that much further
unfoldable pub rest_at : (n : ℕ) → List ℕ → (at : ℕ) → Rest
rest_at n s at =
    on_number (count_at n s at) (λ r place. Err (r, place))
    (λ m start. on_number (further start (addresses_end m (drop start s) 0 0 (2 ^ n))) (λ r place. Err (r, place)) (λ base end. a_rest m start end))

abbrev pub on_rest : {A : Type 0} → Rest → (Refusal → ℕ → A) → (ℕ → ℕ → ℕ → A) → A
on_rest (Ok x) refused good = good x.count x.start x.end
on_rest (Err x) refused good = refused x.0 x.1

-- the notice of bytes s, whose dimension was read as x
unfoldable pub notice_from : Number → List ℕ → Noticed
notice_from x s =
    on_number x (λ r at. Err (r, at)) (λ n at. on_rest (rest_at n s at) (λ r place. Err (r, place)) (λ m start end. a_notice n m end))

-- the notice at the front of bytes s, whatever table is lent
unfoldable pub notice_of : List ℕ → Noticed
notice_of s = notice_from (dimension_at s) s

-- its addresses, where it is accepted
unfoldable pub addresses_of : List ℕ → List ℕ
addresses_of s = on_number (dimension_at s) (λ r at. []) (λ n at. on_rest (rest_at n s at) (λ r place. []) (λ m start end. addresses_at m (drop start s) 0 0))

abbrev pub on_noticed : {A : Type 0} → Noticed → (Refusal → ℕ → A) → (ℕ → ℕ → ℕ → A) → A
on_noticed (Ok x) refused good = good x.n x.count x.taken
on_noticed (Err x) refused good = refused x.0 x.1

-- ---- the questions

-- the dimension by itself, whatever stands behind it, is `dimension_at`. What is told of it: the refusal, 0 for none, and the dimension, or the refusal's
-- place
abbrev pub dimension_value : Number → ℕ
dimension_value x = on_number x (λ r at. at) (λ n next. n)

pub record Told (x : Number) (k v : ℕ) : Type 0 where
  pub refusal : k ≡ refusal_in x
  pub value : v ≡ dimension_value x

-- what the reader answers on bytes s and a fault table t: the table has to be exactly its length, which is the dimension's matter
unfoldable pub noticed : (s t : List ℕ) → Noticed
noticed s t = notice_from (tested (length_tests t) 0 (dimension_at s)) s

-- the fault table after the reader: refused, it keeps every byte; accepted, it has the bits of the addresses and no other
unfoldable pub table_after : (s t : List ℕ) → List ℕ
table_after s t = on_noticed (noticed s t) (λ r at. t) (λ n m taken. with_bits (replicate (length t) 0) (addresses_of s))

-- where the bytes after the first notice begin: their end where it is refused
unfoldable pub tail_at : List ℕ → ℕ
tail_at s = on_noticed (notice_of s) (λ r at. length s) (λ n m taken. taken)

-- the numbers for the reader's answer (RULES, To C)
abbrev pub refusal_of : Noticed → ℕ
refusal_of x = on_noticed x (λ r at. number r) (λ n m taken. 0)

-- the place of a refusal; an accepted notice has none
abbrev pub place_of : Noticed → ℕ
place_of x = on_noticed x (λ r at. at) (λ n m taken. 0)

abbrev pub dimension_of : Noticed → ℕ
dimension_of x = on_noticed x (λ r at. 0) (λ n m taken. n)

abbrev pub count_of : Noticed → ℕ
count_of x = on_noticed x (λ r at. 0) (λ n m taken. m)

-- the bytes taken, or the place of the refusal
abbrev pub value_of : Noticed → ℕ
value_of x = on_noticed x (λ r at. at) (λ n m taken. taken)
