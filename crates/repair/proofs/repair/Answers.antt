-- `repair` makes the tests, and writes only where none holds: the old table into the result, zeros into the row, and then what the working nodes say.
use mathlib.Core.Path.{◌≡◌, sym, ap, ◌∙◌}
use Prim.Native.Nat.{ℕ}
use native.Mathlib.Omega.{arith}
use lib.ListN.{length, replicate}
use Rattle.cube.proofs.Refused.{accepted as answered_ok, refusing}
use Rattle.repair.specs.Repairing.{repair_refusal}
use Rattle.repair.proofs.Outcomes.{Accepted, accepted, result_kept, result_made, row_kept, row_made}
use Rattle.repair.proofs.repair.Goals as goal
use Rattle.repair.proofs.repair.Goals.{In_ok-refusal}

pub returns-in_err-refusal-clause-table : goal.returns-in_err-refusal-clause-table
returns-in_err-refusal-clause-table c = result_kept _ _ _ _ _ (refusing _ _ _ (sym c.refusal.ensures ∙ c.in_err-refusal.was))

pub returns-in_err-refusal-clause-row : goal.returns-in_err-refusal-clause-row
returns-in_err-refusal-clause-row c = row_kept _ _ _ _ _ (refusing _ _ _ (sym c.refusal.ensures ∙ c.in_err-refusal.was))

none : (c : In_ok-refusal) → let a = c.args in repair_refusal a.n a.faults.now a.masks.now (length a.res.now) (length a.row.now) ≡ 0
none c = (answered_ok _ _ _ (sym c.refusal.ensures ∙ c.in_ok-refusal.was)).0

right : (c : In_ok-refusal) → let a = c.args in Accepted a.n a.faults.now a.masks.now (length a.res.now) (length a.row.now)
right c = accepted _ _ _ _ _ (none c)

pub copy-requires : goal.copy-requires
copy-requires c = let r = right (goal.at.copy-requires c).In_ok-refusal in r.resulting ∙ sym r.table.sized

pub invariant_of-asked : goal.invariant_of-asked
invariant_of-asked c =
    let r = right (goal.at.invariant_of-asked c).In_ok-refusal in
    record {
      small = r.table.dimension.1;
      table = r.table.sized;
      bytes = λ i. omega (arith, c.type_inv.faults i);
      masked = r.masked;
    }

pub hear_all-requires-clause-row : goal.hear_all-requires-clause-row
hear_all-requires-clause-row c =
    c.fill.ensures.after (λ y e. cc) ∙ ap (λ (m : ℕ). replicate m 0) (right (goal.at.hear_all-requires-clause-row c).In_ok-refusal).rowed

pub returns-clause-table : goal.returns-clause-table
returns-clause-table c = c.hear_all.ensures.table ∙ result_made _ _ _ _ _ (none (goal.at.returns-clause-table c).In_ok-refusal)

pub returns-clause-row : goal.returns-clause-row
returns-clause-row c = c.hear_all.ensures.row ∙ row_made _ _ _ _ _ (none (goal.at.returns-clause-row c).In_ok-refusal)
