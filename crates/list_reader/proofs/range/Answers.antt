-- `range` takes the second number from the bytes behind the dash, and closes behind it.
use mathlib.Core.Bool.{true}
use mathlib.Core.List.{List}
use mathlib.Core.Path.{◌≡◌, sym, ap, ◌∙◌}
use Prim.Native.Nat.{ℕ, ◌+◌, ◌-◌, ◌≤◌}
use native.Mathlib.Omega.{arith}
use lib.ListN.{drop, length, length-drop, take}
use lib.Seq.{length-take-le}
use Rattle.notice.proofs.Outcomes.{part_drop}
use Rattle.ranges.specs.Grammar.{no_zero}
use Rattle.list_reader.specs.Front.{lead}
use Rattle.list_reader.proofs.Fronts.{lead_within}
use Rattle.list_reader.proofs.Steps.{range_below, range_good, range_zero}
use Rattle.list_reader.proofs.range.Goals as goal
use Rattle.list_reader.proofs.range.Goals.{After-leading-second, Else-not-is_number}

-- the bytes behind the dash
abbrev rest : After-leading-second → List ℕ
rest c = let a = c.args in take (length a.s.now - (a.at + 1)) (drop (a.at + 1) a.s.now)

rest-is : (c : After-leading-second) → let a = c.args in rest c ≡ drop (a.at + 1) a.s.now
rest-is c = let a = c.args in part_drop a.s.now (a.at + 1)

-- the digits are among them
few : (c : After-leading-second) → let a = c.args in c.leading-second.result.count ≤ length (drop (a.at + 1) a.s.now)
few c =
    let a = c.args in
    omega (arith, c.leading-second.ensures.count, ap lead (rest-is c), lead_within (drop (a.at + 1) a.s.now))

among : (c : After-leading-second) → let a = c.args in a.at + 1 + c.leading-second.result.count ≤ length a.s.now
among c = let a = c.args in omega (arith, few c, length-drop (a.at + 1) a.s.now, c.requires.0)

-- they are a number
number : (c : Else-not-is_number) → no_zero (take c.leading-second.result.count (let a = c.args in take (length a.s.now - (a.at + 1)) (drop (a.at + 1) a.s.now))) ≡ true
number c = sym c.is_number.ensures ∙ c.if-not-is_number.false

pub is_number-requires : goal.is_number-requires
is_number-requires c =
    let p = (goal.at.is_number-requires c).After-leading-second in
    omega (arith, few p, ap length (rest-is p))

pub returns-then-not-is_number : goal.returns-then-not-is_number
returns-then-not-is_number c =
    let p = goal.at.returns-then-not-is_number c in
    let a = c.args in
    range_zero a.s.now a.at c.leading-second.result.count (rest p.After-leading-second) (rest-is p.After-leading-second) c.leading-second.ensures.count
    (sym c.is_number.ensures ∙ c.if-not-is_number.true)

pub slice_bounds-is_above-end-2 : goal.slice_bounds-is_above-end-2
slice_bounds-is_above-end-2 c =
    let p = goal.at.slice_bounds-is_above-end-2 c in
    let a = c.args in
    sym (length-take-le c.leading-second.result.count (rest p.After-leading-second) (omega (arith, few p.After-leading-second, ap length (rest-is p.After-leading-second))))

pub returns-then-is_above : goal.returns-then-is_above
returns-then-is_above c =
    let p = goal.at.returns-then-is_above c in
    let a = c.args in
    range_below a.s.now a.at c.leading-second.result.count (rest p.After-leading-second) (rest-is p.After-leading-second) c.leading-second.ensures.count (number p.Else-not-is_number)
    (sym c.is_above.ensures ∙ c.if-is_above.true)

pub overflow_add-start-2 : goal.overflow_add-start-2
overflow_add-start-2 c = omega (arith, among (goal.at.overflow_add-start-2 c).After-leading-second)

pub close-requires : goal.close-requires
close-requires c = among (goal.at.close-requires c).After-leading-second

pub returns : goal.returns
returns c =
    let p = goal.at.returns c in
    c.close.ensures
    ∙ range_good c.args.s.now c.args.at c.leading-second.result.count (rest p.After-leading-second) (rest-is p.After-leading-second) c.leading-second.ensures.count (number p.Else-not-is_number) c.requires.0
    (sym c.is_above.ensures ∙ c.if-is_above.false) c.requires.1 c.leading-second.ensures.value
