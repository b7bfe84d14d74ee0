-- A number (RULES, Tables and the notice): one or two groups of seven bits, lowest group first, a group's high bit set when another follows. `number_at` reads
-- the number that begins at a place, and a refusal says that place again; what stands below it takes such an answer apart.
use Rattle.std.specs.Prelude.{cond, ◌||◌, List, [], ◌∷◌, ℕ, ◌+◌, ◌*◌, ◌/◌, ◌%◌, eqb, ltb, leb, length, get_or, Result, Ok, Err}
use Rattle.cube.specs.Refused.{number}
use Rattle.cube.specs.declared.refusals.Refusal.{Refusal}
use Rattle.cube.specs.declared.refusals.Refusal.TheVariants.{Cut, Group}

-- its value with the next place, or the refusal with the place where it begins
abbrev pub Number : Type 0
Number = Result (ℕ × ℕ) (Refusal × ℕ)

-- a number of two groups that begins at place `at`, from their bytes: 10 where the second is zero or has its high bit set
unfoldable pub two_groups : (low high at : ℕ) → Number
two_groups low high at = cond (eqb high 0 || leb 128 high) (Err (Group, at)) (Ok (low % 128 + high * 128, at + 2))

-- the number that begins at place `at`, with the next place: 9 where the bytes end before it is complete
unfoldable pub number_at : List ℕ → ℕ → Number
number_at s at =
    cond (leb (length s) at) (Err (Cut, at))
    (cond (ltb (get_or s at 0) 128) (Ok (get_or s at 0, at + 1))
    (cond (leb (length s) (at + 1)) (Err (Cut, at)) (two_groups (get_or s at 0) (get_or s (at + 1) 0) at)))

-- the groups of a number below 16,384, as it is written: one where seven bits hold it
unfoldable pub groups_of : ℕ → List ℕ
groups_of v = cond (ltb v 128) (v ∷ []) ((128 + v % 128) ∷ v / 128 ∷ [])

-- ---- an answer taken apart

-- what follows of its value and the next place, or of its refusal and the place of the number
abbrev pub on_number : {A : Type 0} → Number → (Refusal → ℕ → A) → (ℕ → ℕ → A) → A
on_number (Ok x) refused good = good x.0 x.1
on_number (Err x) refused good = refused x.0 x.1

-- the numbers for the cases: the refusal and its place, 0 for none, and the value, 0 where it is refused
abbrev pub refusal_in : Number → ℕ
refusal_in x = on_number x (λ r at. number r) (λ v next. 0)

abbrev pub place_in : Number → ℕ
place_in x = on_number x (λ r at. at) (λ v next. 0)

abbrev pub value_in : Number → ℕ
value_in x = on_number x (λ r at. 0) (λ v next. v)

-- the answer as it is for bytes that begin k places earlier: its place is k further
unfoldable pub further : ℕ → Number → Number
further k x = on_number x (λ r at. Err (r, k + at)) (λ v next. Ok (v, k + next))
