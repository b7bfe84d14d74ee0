-- The two tests that promises speak of are those of the code: the clauses and claims that Tests.antt gives them are those that the check made of these very
-- functions. It stands here and not beside the public functions' ties (crates/promises/specs/Tied.antt), since no other crate can name a private function.
use mathlib.Core.Path.{refl}
use Rattle.cube.specs.Allowed.{Tied}
use Rattle.passes.proofs.Tests.{meets-rule, plain-near}
use Rattle.passes.specs.contracts.Node.meets_rule
use Rattle.passes.proofs.Node.meets_rule.Reads as meets_rule-reads
use Rattle.passes.specs.contracts.Node.plain_near
use Rattle.passes.proofs.Node.plain_near.Reads as plain_near-reads

pub record TestsTied : Type 2 where
  pub rule :
      Tied meets-rule (λ w. meets_rule.clauses w.𝓛 w.𝓜.mem w.𝓡.returns) meets_rule-reads.Asked meets_rule-reads.Post
  pub near :
      Tied plain-near (λ w. plain_near.clauses w.𝓛 w.𝓜.mem w.𝓡.returns) plain_near-reads.Asked plain_near-reads.Post

pub tests_tied : TestsTied
tests_tied =
    record {
      rule = record { clauses = λ w. refl; asked = refl; post = refl };
      near = record { clauses = λ w. refl; asked = refl; post = refl };
    }
