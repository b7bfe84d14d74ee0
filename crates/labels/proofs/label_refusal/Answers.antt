-- `label_refusal` tests in the order of `label_refusal`: where a test did not refuse, those that are left decide.
use mathlib.Core.Path.{◌≡◌, sym, ap, ◌∙◌}
use Prim.Native.Nat.{ℕ, ◌≤◌}
use native.Mathlib.Omega.{arith}
use lib.ListN.{drop}
use borrow.Author.Tests.{eq-eqb, ne_eqb}
use Rattle.cube.proofs.Tables.{dimension_is}
use Rattle.cube.specs.Refusal.{first}
use Rattle.cube.specs.Refused.{answered}
use Rattle.rule.specs.Cabinet.{cabinet}
use Rattle.labels.specs.Labelling.{label_refusal, label_tests}
use Rattle.labels.proofs.label_refusal.Goals as goal
use Rattle.labels.proofs.label_refusal.Goals.{Else-not-is_dimension, Else-not-is_job, Else-m-label_bytes, then-faults-len-via-then-faults-len, then-faults-len-via-else-faults-len+then-draining-len, then-faults-len-via-else-faults-len+else-draining-len+then-closed-len, then-faults-len-via-else-faults-len+else-draining-len+else-closed-len+then-m-label_bytes, then-unused_set-via-then-unused_set, then-unused_set-via-else-unused_set+then-unused_set-2, then-unused_set-via-else-unused_set+else-unused_set-2+then-unused_set-3}

small : (c : Else-not-is_dimension) → c.args.n ≤ 12
small c = (dimension_is _ (sym c.is_dimension.ensures ∙ c.if-not-is_dimension.false)).1

-- the answer of a number, where the tests give it
of_number : (k : ℕ) {r : ℕ} → r ≡ k → answered {A = Unit {0}} k tt ≡ answered r tt
of_number k e = ap (λ (z : ℕ). answered {A = Unit {0}} z tt) (sym e)

-- past the first three tests those after them decide; and past the lengths those after these
left-3 : (c : Else-not-is_job) → let a = c.args in
    let tests = label_tests (cabinet a.n a.rule a.faults.now a.draining.now a.closed.now) a.job a.m in
    first tests ≡ first (drop 3 tests)
unfolding first
left-3 c = rw (
  sym c.is_dimension.ensures ∙ c.if-not-is_dimension.false,
  sym c.is_rule.ensures ∙ c.if-not-is_rule.false,
  sym c.is_job.ensures ∙ c.if-not-is_job.false,
)

left-7 : (c : Else-m-label_bytes) → let a = c.args in
    let tests = label_tests (cabinet a.n a.rule a.faults.now a.draining.now a.closed.now) a.job a.m in
    first tests ≡ first (drop 7 tests)
unfolding first
left-7 c = rw (
  sym c.is_dimension.ensures ∙ c.if-not-is_dimension.false,
  sym c.is_rule.ensures ∙ c.if-not-is_rule.false,
  sym c.is_job.ensures ∙ c.if-not-is_job.false,
  eq-eqb _ _ (c.if-faults-len.false ∙ c.table_len-len.ensures),
  eq-eqb _ _ (c.if-draining-len.false ∙ c.table_len-len.ensures),
  eq-eqb _ _ (c.if-closed-len.false ∙ c.table_len-len.ensures),
  eq-eqb _ _ (c.if-m-label_bytes.false ∙ c.label_bytes.ensures),
)

pub returns-then-not-is_dimension : goal.returns-then-not-is_dimension
unfolding label_refusal first
returns-then-not-is_dimension c = rw (sym c.is_dimension.ensures ∙ c.if-not-is_dimension.true)

pub returns-then-not-is_rule : goal.returns-then-not-is_rule
unfolding label_refusal first
returns-then-not-is_rule c = rw (sym c.is_dimension.ensures ∙ c.if-not-is_dimension.false, sym c.is_rule.ensures ∙ c.if-not-is_rule.true)

pub returns-then-not-is_job : goal.returns-then-not-is_job
unfolding label_refusal first
returns-then-not-is_job c = rw (sym c.is_dimension.ensures ∙ c.if-not-is_dimension.false, sym c.is_rule.ensures ∙ c.if-not-is_rule.false, sym c.is_job.ensures ∙ c.if-not-is_job.true)

pub table_len-len-requires : goal.table_len-len-requires
table_len-len-requires c = omega (arith, small (goal.at.table_len-len-requires c).Else-not-is_dimension)

pub label_bytes-requires : goal.label_bytes-requires
label_bytes-requires c = omega (arith, small (goal.at.label_bytes-requires c).Else-not-is_dimension)

pub returns-then-faults-len : goal.returns-then-faults-len
unfolding label_refusal first
returns-then-faults-len c =
    let len = c.table_len-len.ensures in
    of_number 2 (left-3 (goal.at.returns-then-faults-len c).Else-not-is_job ∙ elim c.then-faults-len.branch [
      | then-faults-len-via-then-faults-len w ↦ rw (ne_eqb _ _ (λ q. w.if-faults-len.true (q ∙ sym len)))
      | then-faults-len-via-else-faults-len+then-draining-len w ↦
          rw (eq-eqb _ _ (w.if-faults-len.false ∙ len), ne_eqb _ _ (λ q. w.if-draining-len.true (q ∙ sym len)))
      | then-faults-len-via-else-faults-len+else-draining-len+then-closed-len w ↦
          rw (eq-eqb _ _ (w.if-faults-len.false ∙ len), eq-eqb _ _ (w.if-draining-len.false ∙ len), ne_eqb _ _ (λ q. w.if-closed-len.true (q ∙ sym len)))
      | then-faults-len-via-else-faults-len+else-draining-len+else-closed-len+then-m-label_bytes w ↦
          rw (
            eq-eqb _ _ (w.if-faults-len.false ∙ len),
            eq-eqb _ _ (w.if-draining-len.false ∙ len),
            eq-eqb _ _ (w.if-closed-len.false ∙ len),
            ne_eqb _ _ (λ q. w.if-m-label_bytes.true (q ∙ sym w.label_bytes.ensures)),
          )
    ])

pub returns-then-unused_set : goal.returns-then-unused_set
unfolding label_refusal first
returns-then-unused_set c =
    let faults = sym c.unused_set.ensures in
    of_number 3 (left-7 (goal.at.returns-then-unused_set c).Else-m-label_bytes ∙ elim c.then-unused_set.branch [
      | then-unused_set-via-then-unused_set w ↦ rw (faults ∙ w.if-unused_set.true)
      | then-unused_set-via-else-unused_set+then-unused_set-2 w ↦
          rw (faults ∙ w.if-unused_set.false, sym w.unused_set-else-unused_set.ensures ∙ w.if-unused_set-2.true)
      | then-unused_set-via-else-unused_set+else-unused_set-2+then-unused_set-3 w ↦
          rw (
            faults ∙ w.if-unused_set.false,
            sym w.unused_set-else-unused_set.ensures ∙ w.if-unused_set-2.false,
            sym w.unused_set-else-unused_set-2.ensures ∙ w.if-unused_set-3.true,
          )
    ])

pub returns : goal.returns
unfolding label_refusal first
returns c =
    of_number 0 (left-7 (goal.at.returns c).Else-m-label_bytes ∙ rw (
      sym c.unused_set.ensures ∙ c.if-unused_set.false,
      sym c.unused_set-else-unused_set.ensures ∙ c.if-unused_set-2.false,
      sym c.unused_set-else-unused_set-2.ensures ∙ c.if-unused_set-3.false,
    ))
