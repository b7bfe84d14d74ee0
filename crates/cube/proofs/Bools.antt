-- Tests: either way of one, tests joined by `&&`, `||`, `not` and `xor`, and a choice by a test: what holds of both outcomes holds of the choice.
use mathlib.Core.Path.{◌≡◌, refl, sym}
use mathlib.Core.Logic.{◌⊎◌, inl, inr, ⊎_elim}
use mathlib.Core.Bool.{Bool, true, false, beq, cond, not, xor, ◌&&◌, ◌||◌}
use Prim.Native.Nat.{ℕ}
use native.Mathlib.Omega.{arith}

-- a test either way, with its equation
pub either : (b : Bool) → (b ≡ true) ⊎ (b ≡ false)
either true = inl refl
either false = inr refl

pub clash : {b : Bool} → b ≡ true → b ≡ false → ⊥
clash p q = let z : ◌≡◌ {A = ℕ} 0 1 = cc in omega arith

pub is_false : {b : Bool} → (b ≡ true → ⊥) → b ≡ false
is_false {b} f = ⊎_elim (λ t. absurd (f t)) (λ t. t) (either b)

pub and_true : (a b : Bool) → (a && b) ≡ true → (a ≡ true) × (b ≡ true)
and_true true b e = (refl, e)
and_true false true e = (e, refl)
and_true false false e = (e, e)

pub and_both : {a b : Bool} → a ≡ true → b ≡ true → (a && b) ≡ true
and_both p q = rw (p, q)

pub or_true : (a b : Bool) → (a || b) ≡ true → (a ≡ true) ⊎ (b ≡ true)
or_true true b e = inl refl
or_true false b e = inr e

pub or_false : (a b : Bool) → (a || b) ≡ false → (a ≡ false) × (b ≡ false)
or_false true true e = (e, e)
or_false true false e = (e, refl)
or_false false b e = (refl, e)

pub or_left : {a : Bool} (b : Bool) → a ≡ true → (a || b) ≡ true
or_left b p = rw p

pub or_right : (a : Bool) {b : Bool} → b ≡ true → (a || b) ≡ true
or_right true q = refl
or_right false q = q

pub or_none : (a : Bool) {b : Bool} → b ≡ false → (a || b) ≡ a
or_none true q = refl
or_none false q = q

pub not_itself : (b : Bool) → not b ≡ b → ⊥
not_itself true e = clash refl (sym e)
not_itself false e = clash refl e

pub xor_not : (b : Bool) → xor b true ≡ not b
unfolding xor
xor_not true = refl
xor_not false = refl

pub xor_turned : (a b : Bool) → xor a (not b) ≡ not (xor a b)
unfolding xor
xor_turned true true = refl
xor_turned true false = refl
xor_turned false true = refl
xor_turned false false = refl

pub xor_differ : (a b : Bool) → xor a b ≡ true → a ≡ not b
unfolding xor
xor_differ true true e = sym e
xor_differ true false e = refl
xor_differ false true e = refl
xor_differ false false e = e

-- two tests that come out alike
pub beq_true : (a b : Bool) → beq a b ≡ true → a ≡ b
beq_true true true e = refl
beq_true true false e = sym e
beq_true false true e = e
beq_true false false e = refl

pub beq_same : (b : Bool) → beq b b ≡ true
beq_same true = refl
beq_same false = refl

pub beq_yes : (b : Bool) → beq b true ≡ b
beq_yes true = refl
beq_yes false = refl

pub beq_no : (b : Bool) → beq b false ≡ not b
beq_no true = refl
beq_no false = refl

pub beq_not : (b : Bool) → beq b (not b) ≡ false
beq_not true = refl
beq_not false = refl

pub beq_turned : (a b : Bool) → beq (not a) b ≡ beq a (not b)
beq_turned true true = refl
beq_turned true false = refl
beq_turned false true = refl
beq_turned false false = refl

pub by_cases : {A : Type 0} (P : A → Type 0) (b : Bool) {x y : A} → (b ≡ true → P x) → (b ≡ false → P y) → P (cond b x y)
by_cases P true f g = f refl
by_cases P false f g = g refl
