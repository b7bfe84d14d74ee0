-- What a number can be: each is one of the outcomes of `number_at`, so what holds of those holds of every number. A value of two groups is below
-- 128 * 128, since each group has seven bits, and at least 128, since the second is not zero.
use mathlib.Core.Path.{◌≡◌, refl, sym, ap, ◌∙◌}
use mathlib.Core.Logic.{◌⊎◌, inl, inr}
use mathlib.Core.Bool.{true, false, cond, ◌||◌}
use mathlib.Core.List.{List}
use Prim.Native.Nat.{ℕ, zero, suc, ◌+◌, ◌*◌, ◌%◌, ◌≤◌, ◌<◌}
use native.Mathlib.Omega.{arith}
use lib.Dec.{eqb, ltb, leb}
use lib.ListN.{length, get_or}
use borrow.Author.Tests.{leb-false, ltb-true, le-leb, lt-leb, lt-ltb, le-ltb, ne_eqb}
use Rattle.std.specs.Prelude.{Ok, Err}
use Rattle.cube.specs.declared.refusals.Refusal.{Refusal}
use Rattle.cube.specs.declared.refusals.Refusal.TheVariants.{Cut, Group}
use Rattle.cube.proofs.Bools.{by_cases}
use Rattle.groups.specs.Number.{Number, number_at, on_number, two_groups}
use Rattle.groups.specs.Laws.{ReadNumber}

-- two answers that are one have the same parts, and a refusal is no value
pub same_value : {v next w after : ℕ} → ◌≡◌ {A = Number} (Ok (v, next)) (Ok (w, after)) → (v ≡ w) × (next ≡ after)
same_value e = let p : ◌≡◌ {A = ℕ × ℕ} _ _ = ap (λ x. on_number x (λ r at. (0, 0)) (λ v next. (v, next))) e in (ap (λ x. x.0) p, ap (λ x. x.1) p)

pub same_refusal : {r q : Refusal} {at place : ℕ} → ◌≡◌ {A = Number} (Err (r, at)) (Err (q, place)) → (r ≡ q) × (at ≡ place)
same_refusal e = let p : ◌≡◌ {A = Refusal × ℕ} _ _ = ap (λ x. on_number x (λ r at. (r, at)) (λ v next. (Cut, 0))) e in (ap (λ x. x.0) p, ap (λ x. x.1) p)

pub no_value : {r : Refusal} {at v next : ℕ} → ◌≡◌ {A = Number} (Err (r, at)) (Ok (v, next)) → ⊥
no_value e = cc

-- a second group that is neither zero nor has its high bit set
seven_bits : (b : ℕ) → (eqb b 0 || leb 128 b) ≡ false → (1 ≤ b) × (b < 128)
seven_bits zero e = let z : ◌≡◌ {A = ℕ} 0 1 = cc in absurd (omega arith)
seven_bits (suc b) e = (omega arith, leb-false 128 (suc b) (rw (ne_eqb (suc b) 0 (omega arith)) at e))

-- a number is 9 or 10 with its own place, or a value with the next place
pub cases : (s : List ℕ) (at : ℕ) (P : Number → Type 0) → P (Err (Cut, at)) → P (Err (Group, at))
    → ((v next : ℕ) → ReadNumber s at v next → P (Ok (v, next))) → P (number_at s at)
unfolding number_at two_groups
cases s at P nine ten value =
    by_cases P (leb (length s) at) (λ _. nine)
    (λ here. by_cases P (ltb (get_or s at 0) 128) (λ one. value _ _ (single (leb-false _ _ here) (ltb-true _ _ one)))
    (λ _. by_cases P (leb (length s) (at + 1)) (λ _. nine)
    (λ there. by_cases P (eqb high 0 || leb 128 high) (λ _. ten) (λ good. value _ _ (double (leb-false _ _ there) (seven_bits high good))))))
  where
    high : ℕ
    high = get_or s (at + 1) 0

    single : at < length s → get_or s at 0 < 128 → ReadNumber s at (get_or s at 0) (at + 1)
    single h l = record { beyond = omega arith; near = omega arith; within = omega arith; small = omega arith; shortest = λ _. refl }

    double : at + 1 < length s → (1 ≤ high) × (high < 128) → ReadNumber s at (get_or s at 0 % 128 + high * 128) (at + 2)
    double h l = record {
      beyond = omega arith;
      near = omega arith;
      within = omega arith;
      small = omega (arith, l.1);
      shortest = λ few. absurd (omega (arith, l.0));
    }

pub read_number : (s : List ℕ) (at v next : ℕ) → number_at s at ≡ Ok (v, next) → ReadNumber s at v next
read_number s at v next =
    cases s at (λ x. x ≡ Ok (v, next) → ReadNumber s at v next) (λ e. absurd (no_value e)) (λ e. absurd (no_value e))
    (λ w after r e. let p = same_value e in rw (← p.0, ← p.1) r)

pub refused_number : (s : List ℕ) (at : ℕ) (r : Refusal) (place : ℕ) → number_at s at ≡ Err (r, place) → (r ≡ Cut) ⊎ (r ≡ Group)
refused_number s at r place =
    cases s at (λ x. x ≡ Err (r, place) → (r ≡ Cut) ⊎ (r ≡ Group)) (λ e. inl (sym (same_refusal e).0)) (λ e. inr (sym (same_refusal e).0))
    (λ v next _ e. absurd (no_value (sym e)))

pub refused_place : (s : List ℕ) (at : ℕ) (r : Refusal) (place : ℕ) → number_at s at ≡ Err (r, place) → place ≡ at
refused_place s at r place =
    cases s at (λ x. x ≡ Err (r, place) → place ≡ at) (λ e. sym (same_refusal e).1) (λ e. sym (same_refusal e).1) (λ v next _ e. absurd (no_value (sym e)))

-- ---- the outcomes as the code comes to them: it holds the first group, and then the second

module _ (s : List ℕ) (at : ℕ) where
  pub missing : length s ≤ at → Err (Cut, at) ≡ number_at s at
  unfolding number_at
  missing h = rw (le-leb (length s) at h)

  module _ {low : ℕ} (here : at < length s) (is : low ≡ get_or s at 0) where
    pub one_group : low < 128 → Ok (low, at + 1) ≡ number_at s at
    unfolding number_at
    one_group h = rw (lt-leb (length s) at here, lt-ltb (get_or s at 0) 128 (omega arith), is)

    module _ (more : 128 ≤ low) where
      second : number_at s at ≡ cond (leb (length s) (at + 1)) (Err (Cut, at)) (two_groups (get_or s at 0) (get_or s (at + 1) 0) at)
      unfolding number_at
      second = rw (lt-leb (length s) at here, le-ltb (get_or s at 0) 128 (omega arith))

      pub cut_short : length s ≤ at + 1 → Err (Cut, at) ≡ number_at s at
      cut_short h = sym (second ∙ rw (le-leb (length s) (at + 1) h))

      module _ {high : ℕ} (there : at + 1 < length s) (is_high : high ≡ get_or s (at + 1) 0) where
        both : number_at s at ≡ two_groups low high at
        both = second ∙ rw (lt-leb (length s) (at + 1) there, is, is_high)

        pub second_refused : (eqb high 0 || leb 128 high) ≡ true → Err (Group, at) ≡ number_at s at
        unfolding two_groups
        second_refused e = sym (both ∙ rw e)

        pub second_value : (eqb high 0 || leb 128 high) ≡ false → Ok (low % 128 + high * 128, at + 2) ≡ number_at s at
        unfolding two_groups
        second_value e = sym (both ∙ rw e)
