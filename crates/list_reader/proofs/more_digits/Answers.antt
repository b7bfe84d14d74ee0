use mathlib.Core.Bool.{true}
use mathlib.Core.Path.{◌≡◌, sym, ap, ◌∙◌}
use Prim.Native.Nat.{◌<◌}
use native.Mathlib.Omega.{arith}
use lib.ListN.{get_or, length}
use Rattle.list_reader.specs.Front.{capped}
use Rattle.ranges.specs.Grammar.{is_digit}
use Rattle.list_reader.proofs.Counted.{cap_off, cap_on, digit_within}
use Rattle.list_reader.proofs.more_digits.Goals as goal
use Rattle.list_reader.proofs.more_digits.Goals.{In-loop-value}

-- in the loop a digit stands at the place
digit : (c : In-loop-value)
    → is_digit (get_or c.args.s.now c.loop-value.count 0) ≡ true
digit c = sym c.digit_at.ensures ∙ c.loop-value-test.true

within : (c : In-loop-value) → c.loop-value.count < length c.args.s.now
within c = digit_within c.args.s.now c.loop-value.count (digit c)

pub bounds-s-count : goal.bounds-s-count
bounds-s-count c = within (goal.at.bounds-s-count c).In-loop-value

pub overflow_add-count : goal.overflow_add-count
overflow_add-count c = omega (arith, within (goal.at.overflow_add-count c).In-loop-value)

pub loop-value-smaller : goal.loop-value-smaller
loop-value-smaller c = omega (arith, within (goal.at.loop-value-smaller c).In-loop-value)

pub loop-value-preserved : goal.loop-value-preserved
loop-value-preserved c =
    cap_on c.loop-value.invariant (digit (goal.at.loop-value-preserved c).In-loop-value) (c.cap-value-in-loop-value.ensures ∙ ap capped c.and_digit.ensures)

pub returns : goal.returns
returns c =
    let r = cap_off c.loop-value.invariant (sym c.digit_at.ensures ∙ c.loop-value-test.false) in
    record { count = r.0; value = r.1 }
