-- `tally` makes the tests, and writes only where none holds: zeros, and then what each table adds. The label buffer is the front of 32 bytes.
use mathlib.Core.Path.{◌≡◌, sym, ap, ◌∙◌}
use Prim.Native.Nat.{ℕ, ◌≤◌}
use native.Mathlib.Omega.{arith}
use lib.ListN.{length, replicate}
use lib.Seq.{length-take-le}
use Rattle.cube.proofs.Refused.{accepted, refusing}
use Rattle.jobs.specs.Jobs.{label_bytes}
use Rattle.counters.specs.Tally.{tally_refusal}
use Rattle.counters.proofs.Outcomes.{counters_kept, counters_made, taken}
use Rattle.counters.proofs.Tabled.{few_nodes}
use Rattle.counters.proofs.tally.Goals as goal
use Rattle.counters.proofs.tally.Goals.{In_ok-refusal}

pub returns-in_err-refusal-clause-counters : goal.returns-in_err-refusal-clause-counters
returns-in_err-refusal-clause-counters c = counters_kept _ _ (refusing _ _ _ (sym c.refusal.ensures ∙ c.in_err-refusal.was))

-- past the test nothing is refused
none : (c : In_ok-refusal) → tally_refusal c.args.n (length c.args.counters.now) ≡ 0
none c = (accepted _ _ _ (sym c.refusal.ensures ∙ c.in_ok-refusal.was)).0

pub label_bytes-bytes-requires : goal.label_bytes-bytes-requires
label_bytes-bytes-requires c = omega (arith, (taken _ _ (none (goal.at.label_bytes-bytes-requires c).In_ok-refusal)).0.1)

few : (n m b : ℕ) → tally_refusal n m ≡ 0 → b ≡ label_bytes n → b ≤ 32
unfolding label_bytes
few n m b z e = omega (arith, few_nodes n (taken n m z).0)

pub slice_bounds-labels-end : goal.slice_bounds-labels-end
slice_bounds-labels-end c = few _ _ _ (none (goal.at.slice_bounds-labels-end c).In_ok-refusal) c.label_bytes-bytes.ensures

pub slice_bounds-add_tables-end : goal.slice_bounds-add_tables-end
slice_bounds-add_tables-end c =
    sym (length-take-le _ (replicate 32 0) (few _ _ _ (none (goal.at.slice_bounds-add_tables-end c).In_ok-refusal) c.label_bytes-bytes.ensures))

pub add_tables-requires : goal.add_tables-requires
add_tables-requires c =
    let z = none (goal.at.add_tables-requires c).In_ok-refusal in
    let b = c.label_bytes-bytes.ensures in
    record {
      le_n = ((taken _ _ z).0, length-take-le _ (replicate 32 0) (few _ _ _ z b) ∙ b);
      counters_value = c.fill.ensures.after (λ y e. cc) ∙ ap (λ (m : ℕ). replicate m 0) (taken _ _ z).1;
    }

pub returns-clause-counters : goal.returns-clause-counters
returns-clause-counters c = c.add_tables.ensures ∙ counters_made _ _ (none (goal.at.returns-clause-counters c).In_ok-refusal)
