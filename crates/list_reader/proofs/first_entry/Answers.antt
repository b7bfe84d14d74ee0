-- `first_entry` takes the digits at the front, and goes by the byte behind them.
use mathlib.Core.Bool.{true}
use mathlib.Core.Logic.{inl, inr}
use mathlib.Core.Path.{◌≡◌, sym, ◌∙◌}
use native.Mathlib.Omega.{arith}
use lib.ListN.{take}
use Rattle.ranges.specs.Grammar.{no_zero}
use Rattle.list_reader.proofs.Fronts.{lead_within}
use Rattle.list_reader.proofs.Steps.{entry_close, entry_dash, entry_zero}
use Rattle.list_reader.proofs.first_entry.Goals as goal
use Rattle.list_reader.proofs.first_entry.Goals.{Else-not-is_number, else-at-s-via-else-at-s, else-at-s-via-then-at-s+else-s-at-eq45}

number : (c : Else-not-is_number) → no_zero (take c.leading-first.result.count c.args.s.now) ≡ true
number c = sym c.is_number.ensures ∙ c.if-not-is_number.false

pub is_number-requires : goal.is_number-requires
is_number-requires c = omega (arith, c.leading-first.ensures.count, lead_within c.args.s.now)

pub returns-then-not-is_number : goal.returns-then-not-is_number
returns-then-not-is_number c = entry_zero _ _ c.leading-first.ensures.count (sym c.is_number.ensures ∙ c.if-not-is_number.true)

pub returns-then-s-at-eq45 : goal.returns-then-s-at-eq45
returns-then-s-at-eq45 c =
    c.range.ensures ∙ entry_dash _ _ c.leading-first.ensures.count (number (goal.at.returns-then-s-at-eq45 c).Else-not-is_number) (omega arith) c.if-s-at-eq45.true

pub close-requires : goal.close-requires
close-requires c = omega (arith, c.leading-first.ensures.count, lead_within c.args.s.now)

pub returns : goal.returns
returns c =
    let f = c.leading-first.ensures in
    c.close.ensures
    ∙ entry_close _ _ f.count (number (goal.at.returns c).Else-not-is_number) (elim c.else-at-s.branch [
      | else-at-s-via-then-at-s+else-s-at-eq45 w ↦ inr (w.if-at-s.true, w.if-s-at-eq45.false)
      | else-at-s-via-else-at-s w ↦ inl w.if-at-s.false
    ]) f.value
