-- The refusals by their numbers (RULES, Refusal numbers), and the answer to a question that may be refused.
use Rattle.std.specs.Prelude.{List, [], ◌∷◌, ℕ, zero, suc, get_or, Result, Ok, Err}
use Rattle.cube.specs.declared.refusals.Refusal.{Refusal}
use Rattle.cube.specs.declared.refusals.Refusal.TheVariants.{
  Dimension,
  Length,
  Unused,
  Label,
  Node,
  Source,
  Destination,
  Hops,
  Cut,
  Group,
  Count,
  Address,
  Room,
  Text,
  Board,
  Network,
  Mask,
  Rule,
  Job,
}

-- the table: 1 is the first
abbrev pub refusals : List Refusal
refusals =
    Dimension ∷ Length ∷ Unused ∷ Label ∷ Node ∷ Source ∷ Destination ∷ Hops ∷ Cut ∷ Group ∷ Count ∷ Address ∷ Room ∷ Text ∷ Board ∷ Network ∷ Mask ∷ Rule ∷ Job
    ∷ []

-- the refusal with this number, which is 1 to 19
abbrev pub refusal : ℕ → Refusal
refusal zero = Job
refusal (suc k) = get_or refusals k Job

-- its number
abbrev pub number : Refusal → ℕ
number Dimension = 1
number Length = 2
number Unused = 3
number Label = 4
number Node = 5
number Source = 6
number Destination = 7
number Hops = 8
number Cut = 9
number Group = 10
number Count = 11
number Address = 12
number Room = 13
number Text = 14
number Board = 15
number Network = 16
number Mask = 17
number Rule = 18
number Job = 19

-- the answer x to a question of this refusal number, 0 for none
abbrev pub answered : {A : Type 0} → ℕ → A → Result A Refusal
answered zero x = Ok x
answered (suc k) x = Err (refusal (suc k))

-- the refusal number of an answer
abbrev pub refused : {A : Type 0} → Result A Refusal → ℕ
refused (Ok x) = 0
refused (Err r) = number r
