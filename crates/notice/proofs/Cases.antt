-- An answer taken apart: what holds of each outcome holds of the answer. A number with the tests of its value has three: its own refusal stays, the
-- first test that holds refuses it, or no test holds and it is the number itself.
use mathlib.Core.Path.{◌≡◌, refl, sym, ap, ◌∙◌}
use mathlib.Core.Bool.{false}
use mathlib.Core.List.{List}
use Prim.Native.Nat.{ℕ, ◌+◌}
use lib.Dec.{eqb}
use borrow.Author.Tests.{eqb-true}
use Rattle.std.specs.Prelude.{Result, Ok, Err}
use Rattle.std.specs.Result.{IsErrAnd}
use Rattle.cube.specs.Refusal.{Test, first}
use Rattle.cube.specs.Refused.{refusal}
use Rattle.cube.specs.declared.refusals.Refusal.{Refusal}
use Rattle.cube.proofs.Bools.{by_cases}
use Rattle.groups.specs.Number.{Number, further, on_number}
use Rattle.groups.proofs.Groups.{no_value, same_value}
use Rattle.notice.specs.Tests.{tested}
use Rattle.notice.specs.Notice.{Noticed, Rest, a_notice, a_rest, on_rest}

-- a refusal is no answer
pub no_addresses : {r : Refusal} {at m start end : ℕ} → ◌≡◌ {A = Rest} (Err (r, at)) (a_rest m start end) → ⊥
no_addresses e = cc

pub no_notice : {r : Refusal} {at n m taken : ℕ} → ◌≡◌ {A = Noticed} (Err (r, at)) (a_notice n m taken) → ⊥
no_notice e = cc

-- what a `?` hands on is the refusal that it found
pub handed_up : {T E : Type 0} (x : Result T E) {e : E} → IsErrAnd x (λ y. y ≡ e) → x ≡ Err e
handed_up (Ok y) h = absurd h
handed_up (Err y) h = ap Err h

-- and two that are one have the same parts
pub same_error : {A : Type 0} {r q : Refusal} {at place : ℕ} → ◌≡◌ {A = Result A (Refusal × ℕ)} (Err (r, at)) (Err (q, place)) → (r ≡ q) × (at ≡ place)
same_error {A} {r} {q} {at} {place} e =
    let p : ◌≡◌ {A = Refusal × ℕ} (r, at) (q, place) = cc in
    (ap (λ (x : Refusal × ℕ). x.0) p, ap (λ (x : Refusal × ℕ). x.1) p)

module _ {A : Type 0} (P : A → Type 0) where
  pub on-number : (x : Number) {refused : Refusal → ℕ → A} {good : ℕ → ℕ → A} → ((r : Refusal) (at : ℕ) → x ≡ Err (r, at) → P (refused r at))
      → ((v next : ℕ) → x ≡ Ok (v, next) → P (good v next)) → P (on_number x refused good)
  on-number (Ok x) f g = g x.0 x.1 refl
  on-number (Err x) f g = f x.0 x.1 refl

  pub on-rest : (x : Rest) {refused : Refusal → ℕ → A} {good : ℕ → ℕ → ℕ → A} → ((r : Refusal) (at : ℕ) → x ≡ Err (r, at) → P (refused r at))
      → ((m start end : ℕ) → x ≡ a_rest m start end → P (good m start end)) → P (on_rest x refused good)
  on-rest (Ok x) f g = g x.count x.start x.end refl
  on-rest (Err x) f g = f x.0 x.1 refl

-- the answer as it is for bytes that begin `start` places earlier
pub on_further : (P : Number → Type 0) (start : ℕ) (x : Number) → ((r : Refusal) (at : ℕ) → x ≡ Err (r, at) → P (Err (r, start + at)))
    → ((v next : ℕ) → x ≡ Ok (v, next) → P (Ok (v, start + next))) → P (further start x)
unfolding further
on_further P start (Ok x) f g = g x.0 x.1 refl
on_further P start (Err x) f g = f x.0 x.1 refl

module _ (tests : ℕ → List Test) (at : ℕ) where
  pub on_tested : (P : Number → Type 0) (x : Number) → ((r : Refusal) (place : ℕ) → x ≡ Err (r, place) → P (Err (r, place)))
      → ((v next : ℕ) → x ≡ Ok (v, next) → eqb (first (tests v)) 0 ≡ false → P (Err (refusal (first (tests v)), at)))
      → ((v next : ℕ) → x ≡ Ok (v, next) → first (tests v) ≡ 0 → P (Ok (v, next))) → P (tested tests at x)
  unfolding tested
  on_tested P x refused fails passes =
      on-number P x refused (λ v next e. by_cases P (eqb (first (tests v)) 0) (λ z. passes v next e (eqb-true _ _ z)) (fails v next e))

  -- taken apart again: a value is the number's own, and passed the tests
  pub tested_value : (x : Number) {v next : ℕ} → tested tests at x ≡ Ok (v, next) → (x ≡ Ok (v, next)) × (first (tests v) ≡ 0)
  tested_value x {v} {next} =
      on_tested (λ y. y ≡ Ok (v, next) → (x ≡ Ok (v, next)) × (first (tests v) ≡ 0)) x (λ _ _ _ e. absurd (no_value e))
      (λ _ _ _ _ e. absurd (no_value e)) (λ w after e z f. (e ∙ f, rw (same_value f).0 at z))

  -- the three outcomes, of the number y
  module _ {y : Number} where
    pub tested_refused : {r : Refusal} {place : ℕ} → Err (r, place) ≡ y → Err (r, place) ≡ tested tests at y
    unfolding tested
    tested_refused e = rw (sym e)

    pub tested_fails : {v next : ℕ} (k : ℕ) → Ok (v, next) ≡ y → first (tests v) ≡ k → eqb k 0 ≡ false → Err (refusal k, at) ≡ tested tests at y
    unfolding tested
    tested_fails k e h z = rw (sym e) (rw (h, z))

    pub tested_passes : {v next : ℕ} → Ok (v, next) ≡ y → first (tests v) ≡ 0 → Ok (v, next) ≡ tested tests at y
    unfolding tested
    tested_passes e h = rw (sym e) (rw h)
