-- The two tests of a node as they are seen from outside, each with the claims that the check makes of its clauses, and what its contract says: whether the test
-- holds, and how many neighbours it looked at.
use mathlib.Core.Bool.{Bool}
use mathlib.Core.List.{List}
use mathlib.Core.Path.{refl}
use Prim.Native.Nat.{ℕ}
use Rattle.cube.specs.Allowed.{Function, Nothing}
use Rattle.cube.specs.Count.{some}
use Rattle.cube.specs.Cube.{flip}
use Rattle.cube.proofs.Contracts.{Says}
use Rattle.rule.specs.Looks.{looks, looks_near}
use Rattle.rule.specs.Rule.{meets}
use Rattle.passes.specs.Passes.{mark_in, out_in, plain_in}
use Rattle.passes.specs.contracts.Node.meets_rule
use Rattle.passes.proofs.Node.meets_rule.Reads as meets_rule-reads
use Rattle.passes.specs.contracts.Node.plain_near
use Rattle.passes.proofs.Node.plain_near.Reads as plain_near-reads

-- handed the node, and so the dimension, the table and the node's number, and the rule's number
abbrev pub meets-rule : Function meets_rule.ended (ℕ × ℕ × List ℕ × ℕ) (Bool × ℕ) Nothing
meets-rule =
    record {
      clauses = λ w. meets_rule.clauses w.𝓛 w.𝓜.mem w.𝓡.returns;
      asked = meets_rule-reads.Asked;
      post = meets_rule-reads.Post;
      handed = λ κs a. (a.0.n, a.1.0.number, a.0.labels.now, a.0.x);
      answered = λ κs r. (r.holds, r.looked);
      left = λ κs e. tt;
    }

pub meets_rule_says : Says meets-rule
    (λ i. (meets i.0 i.1 (out_in i.2) (mark_in i.2) i.3, looks i.0 i.1 (out_in i.2) (mark_in i.2) i.3)) (λ i. tt)
meets_rule_says = record { says = λ κs a r e p. (rw (p.0, p.1), refl) }

-- handed the node
abbrev pub plain-near : Function plain_near.ended (ℕ × List ℕ × ℕ) (Bool × ℕ) Nothing
plain-near =
    record {
      clauses = λ w. plain_near.clauses w.𝓛 w.𝓜.mem w.𝓡.returns;
      asked = plain_near-reads.Asked;
      post = plain_near-reads.Post;
      handed = λ κs a. (a.0.n, a.0.labels.now, a.0.x);
      answered = λ κs r. (r.holds, r.looked);
      left = λ κs e. tt;
    }

pub plain_near_says : Says plain-near
    (λ i. (some i.0 (λ d. plain_in i.1 (flip d i.2)), looks_near i.0 (plain_in i.1) i.2)) (λ i. tt)
plain_near_says = record { says = λ κs a r e p. (rw (p.0, p.1), refl) }
