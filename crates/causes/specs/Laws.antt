-- What a round and a cause say (RULES, Why a node has its label), apart from how they are computed; and that causes can be followed down. Proved in
-- proofs/Nth.antt (the lowest dimensions), proofs/Causes.antt and proofs/Down.antt.
use Rattle.std.specs.Prelude.{Bool, true, false, ◌⊎◌, ◌≡◌, ℕ, suc, ◌+◌, ◌≤◌, ◌<◌}
use Rattle.cube.specs.Cube.{flip}
use Rattle.rule.specs.Rounds.{Unsafe}
use Rattle.rule.specs.Rule.{marked, rounds}
use Rattle.causes.specs.Cause.{cause_of, round_of}
use Rattle.causes.specs.declared.Cause.{Cause}
use Rattle.causes.specs.declared.Cause.TheVariants.{Faulty, Two, Three}

-- a and b are the two lowest dimensions that have P; and a, b and c the three lowest
pub record TwoLowest (n : ℕ) (P : ℕ → Type 0) (a b : ℕ) : Type 0 where
  pub first : P a
  pub second : P b
  pub rising : a < b
  pub inside : b < n
  pub no_other : (i : ℕ) → i < b → P i → i ≡ a

pub record ThreeLowest (n : ℕ) (P : ℕ → Type 0) (a b c : ℕ) : Type 0 where
  pub two : TwoLowest n P a b
  pub third : P c
  pub rising : b < c
  pub inside : c < n
  pub no_other : (i : ℕ) → i < c → P i → (i ≡ a) ⊎ (i ≡ b)

-- no two dimensions have P
abbrev pub NotTwo : (n : ℕ) (P : ℕ → Type 0) → Type 0
NotTwo n P = (a b : ℕ) → a < n → b < n → P a → P b → a ≡ b

-- a cause of x is true, where Out are the nodes that do not work and Earlier those that were marked in an earlier round than x
pub data TrueCause (n k : ℕ) (Out Earlier : ℕ → Type 0) (x : ℕ) : Cause → Type 0 where
  -- "two faulty neighbours (the two lowest dimensions)"
  faulty : {a b : ℕ} → TwoLowest n (λ i. Out (flip i x)) a b → TrueCause n k Out Earlier x (Faulty a b)
  -- it has not two, and "k neighbours faulty or marked in an earlier round (the k lowest)"
  two :
      {a b : ℕ} → k ≡ 2 → NotTwo n (λ i. Out (flip i x)) → TwoLowest n (λ i. Out (flip i x) ⊎ Earlier (flip i x)) a b
      → TrueCause n k Out Earlier x (Two a b)
  three :
      {a b c : ℕ} → k ≡ 3 → NotTwo n (λ i. Out (flip i x)) → ThreeLowest n (λ i. Out (flip i x) ⊎ Earlier (flip i x)) a b c
      → TrueCause n k Out Earlier x (Three a b c)

-- a cause names the neighbour across dimension i
abbrev pub Names : Cause → ℕ → Type 0
Names (Faulty a b) i = (i ≡ a) ⊎ (i ≡ b)
Names (Two a b) i = (i ≡ a) ⊎ (i ≡ b)
Names (Three a b c) i = (i ≡ a) ⊎ ((i ≡ b) ⊎ (i ≡ c))

-- a node that works and has a mark in the end: an unsafe one
abbrev pub Marked : (n k : ℕ) (F : ℕ → Bool) (x : ℕ) → Type 0
Marked n k F x = marked n k F (rounds n k F) x ≡ true

-- "the round that marked it": in round r x "met the rule", with the marks of the rounds before, "and in no earlier one"
pub record MarkedIn (n k : ℕ) (F : ℕ → Bool) (x r : ℕ) : Type 0 where
  pub one : 1 ≤ r
  pub works : F x ≡ false
  pub meets : (s : ℕ) → s + 1 ≡ r → Unsafe n k F (marked n k F s) x
  pub not_before : (s : ℕ) → s + 1 < r → ¬ (Unsafe n k F (marked n k F s) x)

-- y was marked in an earlier round than x: "such a neighbour's own round is smaller"
abbrev pub MarkedBefore : (n k : ℕ) (F : ℕ → Bool) (x y : ℕ) → Type 0
MarkedBefore n k F x y = Marked n k F y × (round_of n k F y < round_of n k F x)

-- y is a neighbour that the cause of x names
abbrev pub LeadsTo : (n k : ℕ) (F : ℕ → Bool) (x y : ℕ) → Type 0
LeadsTo n k F x y = (i : ℕ) × Names (cause_of n k F x) i × (y ≡ flip i x)

-- a way down: at 0, at 1, .., each after an unsafe one named by its cause
abbrev pub Down : (n k : ℕ) (F : ℕ → Bool) (at : ℕ → ℕ) → Type 0
Down n k F at = (t : ℕ) → Marked n k F (at t) → LeadsTo n k F (at t) (at (suc t))

-- it comes to a node that does not work in at most so many steps, over unsafe ones
abbrev pub ComesDown : (n k : ℕ) (F : ℕ → Bool) (at : ℕ → ℕ) (most : ℕ) → Type 0
ComesDown n k F at most = (t : ℕ) × (t ≤ most) × (F (at t) ≡ true) × ((s : ℕ) → s < t → Marked n k F (at s))

pub record Causes (n k : ℕ) (F : ℕ → Bool) : Type 0 where
  -- the round of an unsafe node is one of the rounds that marked something new, and marked it; no other round is so
  pub round : (x : ℕ) → Marked n k F x → MarkedIn n k F x (round_of n k F x)
  pub round_few : (x : ℕ) → Marked n k F x → round_of n k F x ≤ rounds n k F
  pub alone : (x r : ℕ) → Marked n k F x → MarkedIn n k F x r → r ≡ round_of n k F x
  -- its cause is true
  pub cause : (x : ℕ) → Marked n k F x → TrueCause n k (λ y. F y ≡ true) (MarkedBefore n k F x) x (cause_of n k F x)
  pub inside : (x : ℕ) → Marked n k F x → (i : ℕ) → Names (cause_of n k F x) i → i < n
  -- each neighbour that it names does not work or was marked in an earlier round, and it names some
  pub leads : (x y : ℕ) → Marked n k F x → LeadsTo n k F x y → (F y ≡ true) ⊎ MarkedBefore n k F x y
  pub goes_on : (x : ℕ) → Marked n k F x → (y : ℕ) × LeadsTo n k F x y
  -- whichever of them is taken at each node, "it leads to a node that does not work, in as many steps as the first node's round at most"
  pub down : (at : ℕ → ℕ) → Marked n k F (at 0) → Down n k F at → ComesDown n k F at (round_of n k F (at 0))

abbrev pub CauseLaws : Type 0
CauseLaws = (n k : ℕ) (F : ℕ → Bool) → 2 ≤ k → k ≤ 3 → Causes n k F
