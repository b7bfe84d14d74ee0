-- What the two tests of a node read of the label table (RULES, Labels), of whatever their contracts allow. They are the code's own and no question of a
-- user's, so this stands beside the demands and not among them. Proved in proofs/FewReads.antt.
use Rattle.std.specs.Prelude.{Bool, List, ◌≡◌, ℕ, ◌<◌}
use Rattle.cube.specs.Allowed.{May}
use Rattle.cube.specs.Cube.{flip}
use Rattle.cube.specs.Tables.{label_in}
use Rattle.rule.specs.Looks.{Looked, Near}
use Rattle.rule.specs.Rounds.{Unsafe}
use Rattle.passes.specs.Passes.{mark_in, out_in, plain_in}
use Rattle.passes.proofs.Tests.{meets-rule, plain-near}
use Rattle.passes.proofs.TestsTied.{TestsTied}

-- two tables have the same labels at the first j neighbours of x
abbrev pub Alike : (l l' : List ℕ) (x j : ℕ) → Type 0
Alike l l' x j = (i : ℕ) → i < j → label_in l (flip i x) ≡ label_in l' (flip i x)

-- a test of node x of an n-cube: `Answers l b r` says that on the table l it may answer b, with r neighbours looked at, and `Enough l j` that there the first
-- j neighbours settle it
pub record ReadsFew (n x : ℕ) (Answers : List ℕ → Bool → ℕ → Type 0) (Enough : List ℕ → ℕ → Type 0) : Type 0 where
  -- it looks at the least number of neighbours that settles it, and at n where no smaller one does
  pub looked : {l : List ℕ} {b : Bool} {r : ℕ} → Answers l b r → Looked n (Enough l) b r
  -- and what it has not looked at is no matter: two tables that agree on the neighbours looked at give the same answer, after as many looks
  pub unread : {l l' : List ℕ} {b b' : Bool} {r r' : ℕ} → Answers l b r → Answers l' b' r' → Alike l l' x r → (b ≡ b') × (r ≡ r')

-- what the contracts of the two tests allow
abbrev pub RuleTest : (n k x : ℕ) (l : List ℕ) (b : Bool) (r : ℕ) → Type 0
RuleTest n k x l b r = May meets-rule (n, k, l, x) (b, r) tt

abbrev pub NearTest : (n x : ℕ) (l : List ℕ) (b : Bool) (r : ℕ) → Type 0
NearTest n x l b r = May plain-near (n, l, x) (b, r) tt

pub record TestsRead : Type 2 where
  -- the contracts are the code's own
  pub tied : TestsTied
  -- the test of the rule "stops as soon as two that do not work or k that are not safe have been seen"
  pub rule : (n k x : ℕ) → ReadsFew n x (RuleTest n k x) (λ l j. Unsafe j k (out_in l) (mark_in l) x)
  -- the test that tells ordinarily from strongly unsafe "stops at the first safe neighbour"
  pub near : (n x : ℕ) → ReadsFew n x (NearTest n x) (λ l. Near (plain_in l) x)
