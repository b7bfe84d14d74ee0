use mathlib.Core.Bool.{true}
use mathlib.Core.Path.{◌≡◌, sym, ◌∙◌}
use native.Mathlib.Omega.{arith}
use lib.ListN.{get_or}
use Rattle.ranges.specs.Grammar.{is_digit}
use Rattle.list_reader.proofs.Counted.{digit_within, few_off, few_on, few_small}
use Rattle.list_reader.proofs.leading.Goals as goal
use Rattle.list_reader.proofs.leading.Goals.{Else-not-digit_at}

-- past the test a digit stands at the place
digit : (c : Else-not-digit_at)
    → is_digit (get_or c.args.s.now c.loop-count.count 0) ≡ true
digit c = sym c.digit_at.ensures ∙ c.if-not-digit_at.false

pub returns-then-not-digit_at : goal.returns-then-not-digit_at
returns-then-not-digit_at c =
    let r = few_off c.loop-count.invariant (omega arith) (sym c.digit_at.ensures ∙ c.if-not-digit_at.true) in
    record { count = r.0; value = r.1 }

pub bounds-s-count : goal.bounds-s-count
bounds-s-count c =
    digit_within c.args.s.now c.loop-count.count (digit (goal.at.bounds-s-count c).Else-not-digit_at)

pub and_digit-value-requires : goal.and_digit-value-requires
and_digit-value-requires c =
    (omega (arith, few_small c.loop-count.invariant (omega arith)), digit (goal.at.and_digit-value-requires c).Else-not-digit_at)

pub loop-count-preserved : goal.loop-count-preserved
loop-count-preserved c = few_on c.loop-count.invariant (omega arith) (digit (goal.at.loop-count-preserved c).Else-not-digit_at) c.and_digit-value.ensures
