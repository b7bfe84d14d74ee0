-- What RULES says of a number and its place (Tables and the notice), as laws of `number_at`: what a value can be, what a refusal can be, and the worked
-- numbers. Proved in proofs/Laws.antt.
use Rattle.std.specs.Prelude.{◌≡◌, ◌⊎◌, List, [], ◌∷◌, ◌++◌, ℕ, ◌+◌, ◌≤◌, ◌<◌, length, drop, Ok, Err}
use Rattle.cube.specs.declared.refusals.Refusal.{Refusal}
use Rattle.cube.specs.declared.refusals.Refusal.TheVariants.{Cut, Group}
use Rattle.groups.specs.Number.{further, groups_of, number_at}

-- the number at place `at` has the value v and the next place `next`
pub record ReadNumber (s : List ℕ) (at v next : ℕ) : Type 0 where
  -- "a number has one or two groups", all of them among the bytes
  pub beyond : at < next
  pub near : next ≤ at + 2
  pub within : next ≤ length s
  -- groups "of seven bits"
  pub small : v < 16384
  -- a second group is not zero: so a number has one form only, its shortest
  pub shortest : v < 128 → next ≡ at + 1

pub record NumberLaws : Type 0 where
  -- "every number is taken apart as a value with the next place, or else the notice is refused"
  pub value : (s : List ℕ) (at v next : ℕ) → number_at s at ≡ Ok (v, next) → ReadNumber s at v next
  pub refused : (s : List ℕ) (at : ℕ) (r : Refusal) (place : ℕ) → number_at s at ≡ Err (r, place) → (r ≡ Cut) ⊎ (r ≡ Group)
  -- "on refusal, the byte place where that number begins": the place at which it was asked for, also where the bytes have ended before it
  pub refused_place : (s : List ℕ) (at : ℕ) (r : Refusal) (place : ℕ) → number_at s at ≡ Err (r, place) → place ≡ at
  -- "in groups of seven bits, lowest group first, high bit set when another group follows": what is written so is read, whatever follows it
  pub back : (v : ℕ) (rest : List ℕ) → v < 16384 → number_at (groups_of v ++ rest) 0 ≡ Ok (v, length (groups_of v))
  -- bytes that "are handed on by themselves": the number at place `at` of the bytes from k on is the number at place k + at of them all
  pub handed_on : (s : List ℕ) (k at : ℕ) → number_at s (k + at) ≡ further k (number_at (drop k s) at)
  -- "200 is C8 01; 81 00 and 81 81 are refused with 10; 81 alone with 9"
  pub two-groups : number_at (0xC8 ∷ 0x01 ∷ []) 0 ≡ Ok (200, 2)
  pub zero_group : number_at (0x81 ∷ 0x00 ∷ []) 0 ≡ Err (Group, 0)
  pub high_bit : number_at (0x81 ∷ 0x81 ∷ []) 0 ≡ Err (Group, 0)
  pub cut_short : number_at (0x81 ∷ []) 0 ≡ Err (Cut, 0)
  -- behind another number, and where one is missing
  pub second_bad : number_at (0xC8 ∷ 0x01 ∷ 0x81 ∷ 0x00 ∷ []) 2 ≡ Err (Group, 2)
  pub missing : number_at (0xC8 ∷ 0x01 ∷ []) 2 ≡ Err (Cut, 2)
