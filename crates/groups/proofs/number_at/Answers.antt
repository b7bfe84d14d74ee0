-- `number_at` makes the tests of `number_at` in its order: each return is what the tests that led there make of it. A group is a byte, so the value of two
-- groups does not wrap.
use mathlib.Core.Path.{◌∙◌}
use Rattle.groups.proofs.Groups.{cut_short, missing, one_group, second_refused, second_value}
use Rattle.groups.proofs.number_at.Goals as goal

pub returns-in_default : goal.returns-in_default
returns-in_default c = missing _ _ c.in_default.ensures.lookup.3

pub returns-then-low-lt128 : goal.returns-then-low-lt128
returns-then-low-lt128 c =
    let first = c.in-Some.ensures.lookup.3 in
    one_group _ _ first.0 (c.from-low.ensures ∙ first.1 0) c.if-low-lt128.true

pub returns-in_default-get : goal.returns-in_default-get
returns-in_default-get c =
    let first = c.in-Some.ensures.lookup.3 in
    cut_short _ _ first.0 (c.from-low.ensures ∙ first.1 0) c.if-low-lt128.false c.in_default-get.ensures.lookup.3

pub returns-then-high : goal.returns-then-high
returns-then-high c =
    let first = c.in-Some.ensures.lookup.3 in
    let next = c.in-Some-get.ensures.lookup.3 in
    second_refused _ _ first.0 (c.from-low.ensures ∙ first.1 0) c.if-low-lt128.false next.0 (c.from-high.ensures ∙ next.1 0) c.if-high.true

pub returns : goal.returns
returns c =
    let first = c.in-Some.ensures.lookup.3 in
    let next = c.in-Some-get.ensures.lookup.3 in
    second_value _ _ first.0 (c.from-low.ensures ∙ first.1 0) c.if-low-lt128.false next.0 (c.from-high.ensures ∙ next.1 0) c.if-high.false
