-- The contracts give the verdict and the number of neighbours looked at, and `LooksLaws` says what these are. What settles a test is a matter of the neighbours
-- looked at alone, so two tables that agree on them part at none of them.
use mathlib.Core.Path.{◌≡◌, sym, ap, ◌∙◌}
use mathlib.Core.Bool.{Bool}
use mathlib.Core.List.{List}
use Prim.Native.Nat.{ℕ}
use native.Mathlib.Omega.{arith}
use lib.Dec.{eqb}
use Rattle.cube.proofs.Contracts.{told}
use Rattle.rule.specs.Looks.{Looked, Near}
use Rattle.rule.specs.Rounds.{Unsafe}
use Rattle.rule.specs.Rule.{meets}
use Rattle.rule.proofs.Looks.{Rises, looks_laws, near_rises, unread, unsafe_rises}
use Rattle.rule.proofs.Rounds.{meets_same, meets_says}
use Rattle.passes.specs.Passes.{mark_in, out_in, plain_in}
use Rattle.passes.proofs.Tests.{meets_rule_says, plain_near_says}
use Rattle.passes.proofs.TestsTied.{tests_tied}
use Rattle.theorems.specs.FewReads.{Alike, NearTest, ReadsFew, RuleTest, TestsRead}

module _
    (n x : ℕ) (Answers : List ℕ → Bool → ℕ → Type 0) (Enough : List ℕ → ℕ → Type 0)
    (looks : (l : List ℕ) (b : Bool) (r : ℕ) → Answers l b r → Looked n (Enough l) b r) (rises : (l : List ℕ) → Rises (Enough l))
    (same : (l l' : List ℕ) (j : ℕ) → Alike l l' x j → Enough l j → Enough l' j) where
  alone : {l l' : List ℕ} {b b' : Bool} {r r' : ℕ} → Answers l b r → Answers l' b' r' → Alike l l' x r → (b ≡ b') × (r ≡ r')
  alone {l} {l'} {b} {b'} {r} {r'} a a' f =
      unread n (Enough l) (Enough l') (rises l) (rises l') b b' r r' (looks l b r a) (looks l' b' r' a')
      (λ j h. (same l l' j (λ i m. f i (omega arith)), same l' l j (λ i m. sym (f i (omega arith)))))

  reads_few : ReadsFew n x Answers Enough
  reads_few = record { looked = λ {l} {b} {r}. looks l b r; unread = alone }

-- ---- what settles them, on two tables that agree

unsafe_same : (k x : ℕ) (l l' : List ℕ) (j : ℕ) → Alike l l' x j → Unsafe j k (out_in l) (mark_in l) x → Unsafe j k (out_in l') (mark_in l') x
unfolding out_in mark_in
unsafe_same k x l l' j f u = (meets_says j k (out_in l') (mark_in l') x).0 (sym same ∙ (meets_says j k (out_in l) (mark_in l) x).1 u)
  where
    same : meets j k (out_in l) (mark_in l) x ≡ meets j k (out_in l') (mark_in l') x
    same = meets_same j k (out_in l) (out_in l') (mark_in l) (mark_in l') x (λ i m. ap (λ b. eqb b 3) (f i m)) (λ i m. ap (λ b. eqb b 2) (f i m))

near_same : (x : ℕ) (l l' : List ℕ) (j : ℕ) → Alike l l' x j → Near (plain_in l) x j → Near (plain_in l') x j
unfolding plain_in
near_same x l l' j f w = (w.0, w.1, ap (λ b. eqb b 0) (sym (f w.0 w.1)) ∙ w.2)

-- ---- what their contracts say

rule_looks : (n k x : ℕ) (l : List ℕ) (b : Bool) (r : ℕ) → RuleTest n k x l b r → Looked n (λ j. Unsafe j k (out_in l) (mark_in l) x) b r
rule_looks n k x l b r m =
    let t = (told meets_rule_says m).0 in
    rw (ap (λ w. w.0) t, ap (λ w. w.1) t) (looks_laws.rule n k (out_in l) (mark_in l) x)

near_looks : (n x : ℕ) (l : List ℕ) (b : Bool) (r : ℕ) → NearTest n x l b r → Looked n (Near (plain_in l) x) b r
near_looks n x l b r m =
    let t = (told plain_near_says m).0 in
    rw (ap (λ w. w.0) t, ap (λ w. w.1) t) (looks_laws.near n (plain_in l) x)

pub tests_read : TestsRead
tests_read =
    record {
      tied = tests_tied;
      rule = λ n k x. reads_few n x (RuleTest n k x) (λ l j. Unsafe j k (out_in l) (mark_in l) x) (rule_looks n k x)
          (λ l. unsafe_rises k (out_in l) (mark_in l) x) (unsafe_same k x);
      near = λ n x. reads_few n x (NearTest n x) (λ l. Near (plain_in l) x) (near_looks n x) (λ l. near_rises (plain_in l) x) (near_same x);
    }
