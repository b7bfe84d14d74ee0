-- What settles a test of a node goes on settling it when more neighbours are seen. So the first number that does is where it stops, and what two tests have not
-- looked at cannot part them.
use mathlib.Core.Path.{◌≡◌, refl, sym, ◌∙◌}
use mathlib.Core.Logic.{◌⊎◌, inl, inr, ⊎_elim, ◌↔◌}
use mathlib.Core.Bool.{Bool, true, false, ◌||◌}
use Prim.Native.Nat.{ℕ, ◌+◌, ◌≤◌, ◌<◌}
use native.Mathlib.Nat.{eq-or-lt_of_le}
use native.Mathlib.Omega.{arith}
use Rattle.cube.specs.Count.{least, some}
use Rattle.cube.specs.Cube.{flip}
use Rattle.cube.proofs.Bools.{clash, either}
use Rattle.cube.proofs.Count.{count_up}
use Rattle.cube.proofs.Search.{some_found, some_hit, the_least}
use Rattle.rule.specs.Looks.{Looked, LooksLaws, Near, looks, looks_near}
use Rattle.rule.specs.Rounds.{Unsafe}
use Rattle.rule.specs.Rule.{meets}
use Rattle.rule.proofs.Rounds.{meets_says}

-- what is enough stays enough
abbrev pub Rises : (ℕ → Type 0) → Type 0
Rises Enough = (j i : ℕ) → j ≤ i → Enough j → Enough i

-- the test as a search
module _ (n : ℕ) (p : ℕ → Bool) (Enough : ℕ → Type 0) (says : (j : ℕ) → (p j ≡ true) ↔ Enough j) where
  found : Looked n Enough (p n) (least n p)
  found =
      record {
        verdict = says n;
        within = (the_least n p).within;
        early = λ h. (says (least n p)).0 ((the_least n p).hit h);
        soonest = λ j h e. clash ((says j).1 e) ((the_least n p).before j h);
      }

-- the test as a loop that goes up by one: it stops at the first number that is enough, or has passed them all
module _ (n : ℕ) (Enough : ℕ → Type 0) (up : Rises Enough) where
  pub stopped : (i : ℕ) → i < n → (Enough i → ⊥) → Enough (i + 1) → Looked n Enough true (i + 1)
  stopped i h not_yet enough =
      record {
        verdict = (λ _. up (i + 1) n (omega arith) enough, λ _. refl);
        within = omega arith;
        early = λ _. enough;
        soonest = λ j l e. not_yet (up j i (omega arith) e);
      }

  pub passed : (i : ℕ) → i ≡ n → (Enough i → ⊥) → Looked n Enough false i
  passed i q not_yet =
      record {
        verdict = (λ f. absurd (clash f refl), λ e. absurd (not_yet (up n i (omega arith) e)));
        within = omega arith;
        early = λ h. absurd (omega arith);
        soonest = λ j l e. not_yet (up j i (omega arith) e);
      }

-- two tests that agree on what the first has looked at: the second looks at as many, and they hold alike
module _
    (n : ℕ) (Enough Enough' : ℕ → Type 0) (up : Rises Enough) (up' : Rises Enough') (holds holds' : Bool) (looked looked' : ℕ)
    (a : Looked n Enough holds looked) (b : Looked n Enough' holds' looked') (same : (j : ℕ) → j ≤ looked → Enough j ↔ Enough' j) where
  as_many : looked ≡ looked'
  as_many = omega (arith, low, high)
    where
      low : ¬ (looked' < looked)
      low h = a.soonest looked' h ((same looked' (omega arith)).1 (b.early (omega (arith, a.within))))

      high : ¬ (looked < looked')
      high h = b.soonest looked h ((same looked (omega arith)).0 (a.early (omega (arith, b.within))))

  alike : (Enough n → Enough' n) × (Enough' n → Enough n)
  alike = ⊎_elim (λ (e : looked ≡ n). same n (omega arith)) (λ (h : looked < n). settled h) (eq-or-lt_of_le a.within)
    where
      settled : looked < n → (Enough n → Enough' n) × (Enough' n → Enough n)
      settled h =
          let e = a.early h in
          (λ _. up' looked n a.within ((same looked (omega arith)).0 e), λ _. up looked n a.within e)

  hold_alike : holds ≡ holds'
  hold_alike = go (either holds) (either holds')
    where
      go : (holds ≡ true) ⊎ (holds ≡ false) → (holds' ≡ true) ⊎ (holds' ≡ false) → holds ≡ holds'
      go (inl s) (inl t) = s ∙ sym t
      go (inr s) (inr t) = s ∙ sym t
      go (inl s) (inr t) = absurd (clash (b.verdict.1 (alike.0 (a.verdict.0 s))) t)
      go (inr s) (inl t) = absurd (clash (a.verdict.1 (alike.1 (b.verdict.0 t))) s)

  pub unread : (holds ≡ holds') × (looked ≡ looked')
  unread = (hold_alike, as_many)

-- ---- the two tests

pub unsafe_rises : (k : ℕ) (F m : ℕ → Bool) (x : ℕ) → Rises (λ j. Unsafe j k F m x)
unsafe_rises k F m x j i h (inl a) = inl (omega (arith, count_up j i (λ d. F (flip d x)) h))
unsafe_rises k F m x j i h (inr a) = inr (omega (arith, count_up j i (λ d. F (flip d x) || m (flip d x)) h))

pub near_rises : (S : ℕ → Bool) (x : ℕ) → Rises (Near S x)
near_rises S x j i h w = (w.0, omega arith, w.2)

pub looks_laws : LooksLaws
unfolding looks looks_near
looks_laws =
    record {
      rule = λ n k F m x. found n (λ j. meets j k F m x) (λ j. Unsafe j k F m x) (λ j. meets_says j k F m x);
      near = λ n S x. found n (λ j. some j (λ i. S (flip i x))) (Near S x)
          (λ j. (some_found j (λ i. S (flip i x)), λ w. some_hit j (λ i. S (flip i x)) w.0 w.1 w.2));
    }

-- whatever has looked so has the verdict and the number
pub rule_looked :
    (n k : ℕ) (F m : ℕ → Bool) (x : ℕ) {holds : Bool} {looked : ℕ} → Looked n (λ j. Unsafe j k F m x) holds looked
    → (holds ≡ meets n k F m x) × (looked ≡ looks n k F m x)
rule_looked n k F m x a = unread n _ _ (unsafe_rises k F m x) (unsafe_rises k F m x) _ _ _ _ a (looks_laws.rule n k F m x) (λ j _. (λ e. e, λ e. e))

module _ (n : ℕ) (S : ℕ → Bool) (x : ℕ) where
  near_looked : {holds : Bool} {looked : ℕ} → Looked n (Near S x) holds looked → (holds ≡ some n (λ i. S (flip i x))) × (looked ≡ looks_near n S x)
  near_looked a = unread n _ _ (near_rises S x) (near_rises S x) _ _ _ _ a (looks_laws.near n S x) (λ j _. (λ e. e, λ e. e))

  -- none of the first i neighbours is in S, and the next one is; or there is no next one
  module _ (i : ℕ) (none : (j : ℕ) → j < i → S (flip j x) ≡ false) where
    not_near : Near S x i → ⊥
    not_near w = clash w.2 (none w.0 w.1)

    pub near_here : i < n → S (flip i x) ≡ true → (true ≡ some n (λ j. S (flip j x))) × (i + 1 ≡ looks_near n S x)
    near_here h e = near_looked (stopped n (Near S x) (near_rises S x) i h not_near (i, omega arith, e))

    pub near_none : i ≡ n → (false ≡ some n (λ j. S (flip j x))) × (i ≡ looks_near n S x)
    near_none q = near_looked (passed n (Near S x) (near_rises S x) i q not_near)
