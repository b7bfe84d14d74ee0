-- The place of a reader after an answer (RULES, Tables and the notice): the next one after a number, and the same after a refusal. The contracts of `next` and
-- `next_at` cite it.
use Rattle.std.specs.Prelude.{List, ℕ}
use Rattle.groups.specs.Number.{Number, number_at, on_number}

-- the place after an answer that was had at place `at`
abbrev pub next_place : Number → (at : ℕ) → ℕ
next_place x at = on_number x (λ r place. at) (λ v next. next)

-- the place after the number at place `at`
unfoldable pub place_after : List ℕ → (at : ℕ) → ℕ
place_after s at = next_place (number_at s at) at
