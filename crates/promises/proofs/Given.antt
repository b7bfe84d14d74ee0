-- The number that is given: no two are, and the first test that holds gives it, where each test says what its case says.
use mathlib.Core.Path.{◌≡◌, refl, sym, ap, ◌∙◌}
use mathlib.Core.Logic.{◌⊎◌, inl, inr, ⊎_elim, ◌↔◌, ◌≢◌}
use mathlib.Core.Bool.{Bool, true, false, cond, not, ◌&&◌, ◌||◌}
use mathlib.Core.List.{List, ◌∷◌}
use Prim.Native.Nat.{ℕ, zero, suc, ◌*◌, ◌/◌, ◌%◌, ◌^◌, ◌≤◌, ◌<◌}
use native.Mathlib.Omega.{arith}
use lib.Dec.{eqb, leb, ltb}
use lib.ListN.{get_or, length, get_or-eq_default}
use borrow.Author.Tests.{eq-eqb, eqb-true, le-leb, leb-false, leb-true, lt-ltb, ltb-false, ltb-true, not-true}
use Rattle.cube.specs.Count.{some}
use Rattle.cube.specs.Refused.{number, refusal}
use Rattle.cube.specs.Cube.{bit}
use Rattle.cube.specs.Tables.{is_dimension, node_bit, table_len, unused_set}
use Rattle.cube.proofs.Bools.{and_both, and_true, clash, either, is_false, or_left, or_right, or_true}
use Rattle.cube.proofs.Cube.{bit_none}
use Rattle.cube.proofs.Refused.{numbered}
use Rattle.cube.proofs.Search.{some_found, some_hit}
use Rattle.cube.proofs.Tables.{dimension_is, len_large, len_small}
use Rattle.jobs.specs.Jobs.{is_job, label_bytes}
use Rattle.jobs.proofs.Halves.{is-job, job_is, two_jobs}
use Rattle.rule.specs.Cabinet.{is_rule}
use Rattle.rule.proofs.Cabinet.{is-rule, rule_is}
use Rattle.promises.specs.Refusals.{BothHalves, Dimension, Given, Job, Outside, Rule, TableLength, Unused, here, later, none}

-- the refusal with a number of the table has that number
pub number_is : (k : ℕ) → k ≢ 0 → k ≤ 19 → number (refusal k) ≡ k
number_is zero z h = absurd (z refl)
number_is (suc k) z h = numbered k (omega arith)

module _ {When : ℕ → Type 0} where
  pub given_one : {order : List ℕ} {j k : ℕ} → Given When order j → Given When order k → j ≡ k
  given_one (here _) (here _) = refl
  given_one (here w) (later unless _) = absurd (unless w)
  given_one (later unless _) (here w) = absurd (unless w)
  given_one (later _ p) (later _ q) = given_one p q
  given_one none none = refl

  pub one_test : {k r : ℕ} {more : List ℕ} (b : Bool) → (b ≡ true → When k) → (When k → b ≡ true) → Given When more r
      → Given When (k ∷ more) (cond b k r)
  one_test true says said rest = here (says refl)
  one_test false says said rest = later (λ w. clash (said w) refl) rest

  -- a test before others that go by its not holding
  pub test_then : {k r : ℕ} {more : List ℕ} (b : Bool) → (b ≡ true → When k) → (When k → b ≡ true) → (b ≡ false → Given When more r)
      → Given When (k ∷ more) (cond b k r)
  test_then true says said rest = here (says refl)
  test_then false says said rest = later (λ w. clash (said w) refl) (rest refl)

  -- a test before others with the same number
  pub also_test : {k r : ℕ} {more : List ℕ} (b : Bool) → (b ≡ true → When k) → (b ≡ false → Given When (k ∷ more) r) → Given When (k ∷ more) (cond b k r)
  also_test true says others = here (says refl)
  also_test false says others = others refl

-- ---- what a test says

pub eqb_says : (a b : ℕ) → (eqb a b ≡ true) ↔ (a ≡ b)
eqb_says a b = (eqb-true a b, eq-eqb a b)

pub leb_says : (a b : ℕ) → (leb a b ≡ true) ↔ (a ≤ b)
leb_says a b = (leb-true a b, le-leb a b)

pub ltb_says : (a b : ℕ) → (ltb a b ≡ true) ↔ (a < b)
ltb_says a b = (ltb-true a b, lt-ltb a b)

not_is : (b : Bool) → (b ≡ true → ⊥) → not b ≡ true
not_is true f = absurd (f refl)
not_is false f = refl

pub not_says : {P : Type 0} (b : Bool) → (b ≡ true) ↔ P → (not b ≡ true) ↔ (¬ P)
not_says b s = (λ e p. clash (s.1 p) (not-true b e), λ f. not_is b (λ e. f (s.0 e)))

pub or_says : {P Q : Type 0} (a b : Bool) → (a ≡ true) ↔ P → (b ≡ true) ↔ Q → ((a || b) ≡ true) ↔ (P ⊎ Q)
or_says a b s t = (
  λ e. ⊎_elim (λ (x : a ≡ true). inl (s.0 x)) (λ (x : b ≡ true). inr (t.0 x)) (or_true a b e),
  ⊎_elim (λ p. or_left b (s.1 p)) (λ q. or_right a (t.1 q)),
)

pub and_says : {P Q : Type 0} (a b : Bool) → (a ≡ true) ↔ P → (b ≡ true) ↔ Q → ((a && b) ≡ true) ↔ (P × Q)
and_says a b s t = (λ e. let r = and_true a b e in (s.0 r.0, t.0 r.1), λ p. and_both (s.1 p.0) (t.1 p.1))

pub some_says : (n : ℕ) (p : ℕ → Bool) (P : ℕ → Type 0) → ((i : ℕ) → (p i ≡ true) ↔ P i) → (some n p ≡ true) ↔ ((i : ℕ) × (i < n) × P i)
some_says n p P s = (λ e. let r = some_found n p e in (r.0, r.1, (s r.0).0 r.2), λ r. some_hit n p r.0 r.1 ((s r.0).1 r.2))

-- ---- the words that the cases share

dimension_says : (n : ℕ) → (is_dimension n ≡ true) ↔ Dimension n
unfolding is_dimension
dimension_says n = (dimension_is n, λ d. and_both (le-leb 1 n d.0) (le-leb n 12 d.1))

pub rule_bounds : {k : ℕ} → Rule k → (2 ≤ k) × (k ≤ 3)
rule_bounds r = ⊎_elim (λ e. (omega arith, omega arith)) (λ e. (omega arith, omega arith)) r

rule_says : (k : ℕ) → (is_rule k ≡ true) ↔ Rule k
rule_says k = (λ e. two_or_three (rule_is k e) (either (leb 3 k)), λ r. is-rule k (rule_bounds r))
  where
    two_or_three : (2 ≤ k) × (k ≤ 3) → (leb 3 k ≡ true) ⊎ (leb 3 k ≡ false) → Rule k
    two_or_three b (inl a) = inr (omega (arith, leb-true 3 k a))
    two_or_three b (inr a) = inl (omega (arith, leb-false 3 k a))

pub job_below : {j : ℕ} → Job j → j < 2
job_below r = ⊎_elim (λ e. omega arith) (λ e. omega arith) r

job_says : (j : ℕ) → (is_job j ≡ true) ↔ Job j
job_says j = (λ e. two_jobs j (job_is j e), λ r. is-job j (job_below r))

pub table_length : (n bytes : ℕ) → TableLength n bytes → bytes ≡ table_len n
table_length n bytes (inl t) = t.1 ∙ sym (len_small n t.0)
table_length n bytes (inr t) = t.1 ∙ sym (len_large n t.0)

length_says : (n bytes : ℕ) → (eqb bytes (table_len n) ≡ true) ↔ TableLength n bytes
length_says n bytes = (λ e. said (eqb-true bytes (table_len n) e) (either (leb n 3)), λ t. eq-eqb bytes (table_len n) (table_length n bytes t))
  where
    said : bytes ≡ table_len n → (leb n 3 ≡ true) ⊎ (leb n 3 ≡ false) → TableLength n bytes
    said e (inl a) = let h = leb-true n 3 a in inl (h, e ∙ len_small n h)
    said e (inr a) = let h = leb-false n 3 a in inr (h, e ∙ len_large n h)

-- a bit that is set stands in the table
bit_inside : (t : List ℕ) (x : ℕ) → node_bit t x ≡ true → x < 8 * length t
unfolding node_bit
bit_inside t x e =
    ⊎_elim (λ (a : ltb x (8 * length t) ≡ true). ltb-true x (8 * length t) a)
    (λ (a : ltb x (8 * length t) ≡ false).
    let beyond : get_or t (x / 8) 0 ≡ 0 = get_or-eq_default t 0 {n = x / 8} (omega (arith, ltb-false x (8 * length t) a)) in
    absurd (clash e (ap (bit (x % 8)) beyond ∙ bit_none (x % 8))))
    (either (ltb x (8 * length t)))

pub unused_says : (n : ℕ) (t : List ℕ) → (unused_set n t ≡ true) ↔ Unused n t
unfolding unused_set
unused_says n t = (said, given)
  where
    said : unused_set n t ≡ true → Unused n t
    said e =
        let r = some_found (8 * length t) (λ x. leb (2 ^ n) x && node_bit t x) e in
        let q = and_true (leb (2 ^ n) r.0) (node_bit t r.0) r.2 in
        (r.0, leb-true (2 ^ n) r.0 q.0, q.1)

    given : Unused n t → unused_set n t ≡ true
    given r =
        some_hit (8 * length t) (λ x. leb (2 ^ n) x && node_bit t x) r.0 (bit_inside t r.0 r.2)
        (and_both (le-leb (2 ^ n) r.0 r.1) r.2)

-- a table without an unused bit set
pub all_used : (n : ℕ) (t : List ℕ) → TableLength n (length t) × (¬ (Unused n t)) → unused_set n t ≡ false
all_used n t h = is_false (λ u. h.1 ((unused_says n t).0 u))

pub wrong_dimension : (n : ℕ) → (not (is_dimension n) ≡ true) ↔ (¬ (Dimension n))
wrong_dimension n = not_says (is_dimension n) (dimension_says n)

pub wrong_rule : (k : ℕ) → (not (is_rule k) ≡ true) ↔ (¬ (Rule k))
wrong_rule k = not_says (is_rule k) (rule_says k)

pub wrong_job : (j : ℕ) → (not (is_job j) ≡ true) ↔ (¬ (Job j))
wrong_job j = not_says (is_job j) (job_says j)

pub wrong_table : (n bytes : ℕ) → (not (eqb bytes (table_len n)) ≡ true) ↔ (¬ (TableLength n bytes))
wrong_table n bytes = not_says (eqb bytes (table_len n)) (length_says n bytes)

pub wrong_halves : (n m : ℕ) → (not (eqb m (label_bytes n)) ≡ true) ↔ (¬ (BothHalves n m))
unfolding label_bytes
wrong_halves n m = not_says (eqb m (2 * 2 ^ n)) (eqb_says m (2 * 2 ^ n))

pub outside : (n a b : ℕ) → ((leb (2 ^ n) a || leb (2 ^ n) b) ≡ true) ↔ Outside n a b
outside n a b = or_says _ _ (leb_says (2 ^ n) a) (leb_says (2 ^ n) b)
