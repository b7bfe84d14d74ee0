-- Refusals as a table (RULES, Refusal numbers): the tests in the order in which they are made, each with its number. The first test that holds gives the
-- number, and 0 means that none holds. Every question's refusals are such a table.
use Rattle.std.specs.Prelude.{Bool, cond, List, [], ◌∷◌, ℕ}

infix 68 ◌⇒◌
pub record Test : Type 0 where
  pub holds : Bool
  pub number : ℕ

abbrev pub ◌⇒◌ : Bool → ℕ → Test
b ⇒ k = record { holds = b; number = k }

unfoldable pub first : List Test → ℕ
first [] = 0
first (t ∷ ts) = cond t.holds t.number (first ts)
