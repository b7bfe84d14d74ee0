-- The laws of a question's answer: its refusal number is the one that it was made of, it is accepted exactly where that is 0, and a refusal is passed on as it
-- is, whatever would have been answered.
use mathlib.Core.Path.{◌≡◌, refl, sym, ap, ◌∙◌}
use mathlib.Core.Bool.{not}
use Prim.Native.Nat.{ℕ, zero, suc, ◌≤◌, ◌<◌}
use native.Mathlib.Omega.{arith}
use lib.Dec.{eqb}
use borrow.Author.Tests.{eqb-true, not-false}
use Rattle.std.specs.Prelude.{Result, Ok, Err}
use Rattle.std.specs.Result.{IsErr, IsErrAnd}
use Rattle.std.proofs.lemmas.Result.{err_from_is_err_and}
use Rattle.cube.specs.declared.refusals.Refusal.{Refusal}
use Rattle.cube.specs.declared.refusals.Refusal.TheVariants.{
  Dimension,
  Length,
  Unused,
  Label,
  Node,
  Source,
  Destination,
  Hops,
  Cut,
  Group,
  Count,
  Address,
  Room,
  Text,
  Board,
  Network,
  Mask,
  Rule,
  Job,
}
use Rattle.cube.specs.Count.{least, some}
use Rattle.cube.specs.Refused.{answered, number, refusal, refused}
use Rattle.cube.proofs.Search.{none_some}

-- every number from 1 to 19 is that of its refusal, and none is above
pub numbered : (k : ℕ) → k < 19 → number (refusal (suc k)) ≡ suc k
unfolding some least
numbered k h = eqb-true _ _ (not-false _ (none_some 19 (λ i. not (eqb (number (refusal (suc i))) (suc i))) refl k h))

pub number_range : (r : Refusal) → (1 ≤ number r) × (number r ≤ 19)
number_range Dimension = (omega arith, omega arith)
number_range Length = (omega arith, omega arith)
number_range Unused = (omega arith, omega arith)
number_range Label = (omega arith, omega arith)
number_range Node = (omega arith, omega arith)
number_range Source = (omega arith, omega arith)
number_range Destination = (omega arith, omega arith)
number_range Hops = (omega arith, omega arith)
number_range Cut = (omega arith, omega arith)
number_range Group = (omega arith, omega arith)
number_range Count = (omega arith, omega arith)
number_range Address = (omega arith, omega arith)
number_range Room = (omega arith, omega arith)
number_range Text = (omega arith, omega arith)
number_range Board = (omega arith, omega arith)
number_range Network = (omega arith, omega arith)
number_range Mask = (omega arith, omega arith)
number_range Rule = (omega arith, omega arith)
number_range Job = (omega arith, omega arith)

-- every refusal is that with its number
pub refusal_back : (r : Refusal) → refusal (number r) ≡ r
refusal_back Dimension = refl
refusal_back Length = refl
refusal_back Unused = refl
refusal_back Label = refl
refusal_back Node = refl
refusal_back Source = refl
refusal_back Destination = refl
refusal_back Hops = refl
refusal_back Cut = refl
refusal_back Group = refl
refusal_back Count = refl
refusal_back Address = refl
refusal_back Room = refl
refusal_back Text = refl
refusal_back Board = refl
refusal_back Network = refl
refusal_back Mask = refl
refusal_back Rule = refl
refusal_back Job = refl

pub refused_is : {A : Type 0} (k : ℕ) (x : A) → k ≤ 19 → refused (answered k x) ≡ k
refused_is zero x h = refl
refused_is (suc k) x h = numbered k (omega arith)

-- accepted
pub accepts : {A : Type 0} (k : ℕ) (x : A) → k ≡ 0 → answered k x ≡ Ok x
accepts k x e = rw e refl

pub accepted : {A : Type 0} (k : ℕ) (x y : A) → answered k x ≡ Ok y → (k ≡ 0) × (x ≡ y)
accepted zero x y e = (refl, cc)
accepted (suc k) x y e = let z : number (refusal (suc k)) ≡ 0 = ap refused e in absurd (omega (arith, (number_range (refusal (suc k))).0))

-- refused
pub passed_on : {A B : Type 0} (k : ℕ) (x : A) (y : B) (r : Refusal) → answered k x ≡ Err r → answered k y ≡ Err r
passed_on zero x y r e = let z : 0 ≡ number r = ap refused e in absurd (omega (arith, (number_range r).0))
passed_on (suc k) x y r e = let q : refusal (suc k) ≡ r = cc in ap Err q

pub refuses : {A : Type 0} (k : ℕ) (x : A) (r : Refusal) → k ≤ 19 → answered k x ≡ Err r → k ≡ number r
refuses k x r h e = sym (refused_is k x h) ∙ ap refused e

pub refusing : {A : Type 0} (k : ℕ) (x : A) (r : Refusal) → answered k x ≡ Err r → k ≡ 0 → ⊥
refusing zero x r e h = let z : 0 ≡ number r = ap refused e in absurd (omega (arith, (number_range r).0))
refusing (suc k) x r e h = absurd (omega arith)

-- what `?` passes on
pub passes : {T E : Type 0} {e : E} (r : Result T E) → IsErr r × IsErrAnd r (λ y. y ≡ e) → r ≡ Err e
passes r h = let p = err_from_is_err_and r h.1 in p.1 ∙ ap Err p.2
