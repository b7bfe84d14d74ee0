-- `run_at` goes by the byte behind the digits at the front.
use mathlib.Core.Bool.{true, false}
use mathlib.Core.List.{List}
use mathlib.Core.Path.{◌≡◌, sym, ap, ◌∙◌}
use Prim.Native.Nat.{ℕ, ◌+◌, ◌-◌}
use native.Mathlib.Omega.{arith}
use lib.ListN.{drop, get_or, length, length-drop, take}
use Rattle.notice.proofs.Outcomes.{part_drop}
use Rattle.ranges.specs.Grammar.{value}
use Rattle.list_reader.specs.Front.{capped, dashed, front, lead}
use Rattle.list_reader.proofs.Again.{bytes_alone, bytes_dashed, dash_none, dash_other, dash_there, high_alone, high_dashed}
use Rattle.list_reader.proofs.Fronts.{lead_within}
use Rattle.list_reader.proofs.run_at.Goals as goal
use Rattle.list_reader.proofs.run_at.Goals.{Then-s-at-eq45, else-at-s-via-else-at-s, else-at-s-via-then-at-s+else-s-at-eq45}

-- a dash stands behind the digits: then the bytes behind it are those of the second number
there : (c : Then-s-at-eq45) → dashed c.args.s.now ≡ true
there c =
    let s = c.args.s.now in
    let e = c.leading-first.ensures.count in
    dash_there s (omega (arith, e)) (ap (λ (k : ℕ). get_or s k 0) (sym e) ∙ c.if-s-at-eq45.true)

rest-is : (c : Then-s-at-eq45)
    → let s = c.args.s.now in
    let at = c.leading-first.result.count in take (length s - (at + 1)) (drop (at + 1) s) ≡ drop (lead s + 1) s
rest-is c =
    let s = c.args.s.now in
    part_drop s (c.leading-first.result.count + 1) ∙ ap (λ (k : ℕ). drop (k + 1) s) c.leading-first.ensures.count

pub overflow_add-result : goal.overflow_add-result
overflow_add-result c =
    let s = c.args.s.now in
    omega (
      arith,
      c.leading-first.ensures.count,
      c.leading-second.ensures.count,
      ap lead (rest-is (goal.at.overflow_add-result c).Then-s-at-eq45),
      lead_within (drop (lead s + 1) s),
      length-drop (lead s + 1) s,
    )

pub returns-then-s-at-eq45 : goal.returns-then-s-at-eq45
returns-then-s-at-eq45 c =
    let p = goal.at.returns-then-s-at-eq45 c in
    let s = c.args.s.now in
    let f = c.leading-first.ensures in
    let g = c.leading-second.ensures in
    record {
      low = f.value;
      high =
          g.value ∙ ap (λ (r : List ℕ). capped (value (front r))) (rest-is p.Then-s-at-eq45) ∙ sym (high_dashed s (there p.Then-s-at-eq45));
      bytes =
          omega (arith, f.count, g.count, ap lead (rest-is p.Then-s-at-eq45), bytes_dashed s (there p.Then-s-at-eq45));
    }

pub returns : goal.returns
returns c =
    let s = c.args.s.now in
    let f = c.leading-first.ensures in
    let none : dashed s ≡ false = elim c.else-at-s.branch [
      | else-at-s-via-then-at-s+else-s-at-eq45 w ↦ dash_other s (λ q. w.if-s-at-eq45.false (ap (λ (k : ℕ). get_or s k 0) f.count ∙ q))
      | else-at-s-via-else-at-s w ↦ dash_none s (omega (arith, f.count, w.if-at-s.false))
    ] in
    record { low = f.value; high = f.value ∙ sym (high_alone s none); bytes = f.count ∙ sym (bytes_alone s none) }
