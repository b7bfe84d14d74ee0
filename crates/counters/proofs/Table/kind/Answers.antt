-- `kind`: the walk has just one kind, so a delivered one has 0, 2 or 4 extra hops, and none is refused.
use mathlib.Core.Path.{◌≡◌, sym, ap, ◌∙◌}
use Prim.Native.Nat.{ℕ, ◌-◌, ◌%◌, ◌≤◌}
use Rattle.walk.specs.declared.Ending.TheVariants as ending
use Rattle.walk.specs.declared.Walked.{Walked}
use Rattle.figures.specs.Laws.{OneKind}
use Rattle.counters.proofs.Kinded.{delivered_kind, extra_even, halted_kind, never_refused}
use Rattle.counters.proofs.Table.kind.Goals as goal

-- the walk that was asked for has one kind
one : (v w : Walked) (l : ℕ) → w ≡ v → OneKind v l → OneKind w l
one v w l e h = rw e h

even : (v w : Walked) (l m : ℕ) → w ≡ v → m ≡ l → OneKind v l → w.ending ≡ ending.Delivered
    → (m ≤ w.hops) × (w.hops - m ≤ 4) × ((w.hops - m) % 2 ≡ 0)
even v w l m e f h d = rw f (extra_even _ _ (one v w l e h) d)

pub overflow_sub-hops : goal.overflow_sub-hops
overflow_sub-hops c = (even _ _ _ _ c.walk-walked.ensures c.distance-least.ensures c.requires c.in-Delivered.is).0

pub extra_kind-requires : goal.extra_kind-requires
extra_kind-requires c =
    let e = even _ _ _ _ c.walk-walked.ensures c.distance-least.ensures c.requires c.in-Delivered.is in (e.1, e.2)

pub returns-in-Delivered : goal.returns-in-Delivered
returns-in-Delivered c =
    rw (← c.walk-walked.ensures)
    (delivered_kind _ _ (one _ _ _ c.walk-walked.ensures c.requires) _ c.in-Delivered.is
    (ap (λ (l : ℕ). c.walk-walked.result.hops - l) (sym c.distance-least.ensures) ∙ c.extra_kind.ensures))

pub returns-in-Halted : goal.returns-in-Halted
returns-in-Halted c = rw (← c.walk-walked.ensures) (halted_kind _ _ (one _ _ _ c.walk-walked.ensures c.requires) c.in-Halted.is)

pub unreachable-requires : goal.unreachable-requires
unreachable-requires c = never_refused _ _ (one _ _ _ c.walk-walked.ensures c.requires) _ c.in-Refused.is
