-- `Line::number`: `io::decimal` gives the fewest digits, which are at most 20, and the line keeps so many of those that are copied.
use mathlib.Core.Path.{◌≡◌, ap, ◌∙◌}
use mathlib.Core.List.{List, ◌++◌}
use Prim.Native.Nat.{ℕ, ◌+◌, ◌-◌}
use native.Mathlib.Omega.{arith}
use lib.ListN.{length, length-append, length-take, take}
use Rattle.lines.specs.Lines.{put}
use Rattle.lines.specs.Text.{decimal}
use Rattle.lines.proofs.Decimal.{decimal_is, few_digits}
use Rattle.lines.proofs.Putting.{cut_back, few, put_whole}
use Rattle.lines.proofs.Line.number.Goals as goal

pub overflow_sub-self-then-left-ge20 : goal.overflow_sub-self-then-left-ge20
overflow_sub-self-then-left-ge20 g c =
    let now = simp (length-take, length-append) at (ap length (c.self-then-left-ge20.view_is ∙ c.append.ensures)) in
    omega (arith, c.decimal-k.array_long)

pub returns-then-left-ge20 : goal.returns-then-left-ge20
returns-then-left-ge20 g c =
    let small = few_digits _ _ c.value.type_inv c.decimal-k.ensures.len in
    let digits = c.decimal-k.ensures.digits ∙ decimal_is _ _ small c.decimal-k.ensures.len ∙ ap decimal c.value.ensures in
    let long = simp length-take at (ap length c.self.view_is) in
    let now = simp (length-take, length-append) at (ap length (c.self-then-left-ge20.view_is ∙ c.append.ensures)) in
    let e : c.self-then-left-ge20.inside.len - (20 - c.decimal-k.result) ≡ length c.args.self.now + c.decimal-k.result = omega arith in
    ap (λ (m : ℕ). take m c.self-then-left-ge20.inside.bytes) e
    ∙ cut_back _ _ _ _ _ (c.self-then-left-ge20.view_is ∙ c.append.ensures) (omega arith) (omega arith)
    ∙ ap (λ (d : List ℕ). c.args.self.now ++ d) digits
    ∙ put_whole _ _ (omega (arith, few (g.N.Numeral.value c.args.n)))

pub returns-else-left-ge20 : goal.returns-else-left-ge20
returns-else-left-ge20 g c =
    let small = few_digits _ _ c.value.type_inv c.decimal-k.ensures.len in
    let digits = c.decimal-k.ensures.digits ∙ decimal_is _ _ small c.decimal-k.ensures.len in
    c.text.ensures ∙ ap (put c.args.self.now) (digits ∙ ap decimal c.value.ensures)
