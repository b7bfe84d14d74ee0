-- The definitions are the same connectives, bit by bit.
use mathlib.Core.Bool.{Bool, true, false, not}
use mathlib.Core.Logic.{⊎_elim}
use mathlib.Core.Path.{◌≡◌}
use Prim.Native.Nat.{ℕ}
use borrow.Author.Tests.{not-true}
use Rattle.cube.specs.Tables.{node_bit}
use Rattle.cube.proofs.Bools.{and_both, and_true, or_false, or_left, or_right, or_true}
use Rattle.rule.specs.Cabinet.{Cabinet, faulty}
use Rattle.rule.specs.Nodes.{Nodes}

pub nodes : (K : Cabinet) → Nodes K
nodes K = record {
  is-faulty = λ x. (or_true (faults x) (closed x), ⊎_elim (λ (e : faults x ≡ true). or_left (closed x) e) (λ (e : closed x ≡ true). or_right (faults x) e));
  is_draining = λ x. (
    λ e. let r = and_true (not (faulty K x)) (draining x) e in
        let f = or_false (faults x) (closed x) (not-true (faulty K x) r.0) in (r.1, f.0, f.1),
    λ e. rw (e.0, e.1, e.2),
  );
  is_working = λ x. (
    λ e. let r = or_false (faulty K x) (draining x) e in
        let f = or_false (faults x) (closed x) r.0 in (f.0, f.1, r.1),
    λ e. rw (e.0, e.1, e.2),
  );
  three = λ x e. rw e;
  four = λ x e. let f = not-true (faulty K x) (and_true (not (faulty K x)) (draining x) e).0 in rw f;
}
  where
    faults : ℕ → Bool
    faults = node_bit K.faults

    closed : ℕ → Bool
    closed = node_bit K.closed

    draining : ℕ → Bool
    draining = node_bit K.draining
