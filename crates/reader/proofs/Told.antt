-- One answer of the reader: after a number it is at the next place, after a refusal it stays, at the place that the refusal says.
use mathlib.Core.Path.{◌≡◌, sym, ap, ◌∙◌}
use mathlib.Core.List.{List}
use Prim.Native.Nat.{ℕ, suc}
use Rattle.std.specs.Prelude.{Ok, Err}
use Rattle.cube.specs.declared.refusals.Refusal.{Refusal}
use Rattle.groups.specs.Number.{number_at, value_in}
use Rattle.groups.proofs.Laws.{number_laws}
use Rattle.reader.specs.Reader.{place_after}
use Rattle.reader.specs.Reading.{places, answers}
use Rattle.reader.specs.Laws.{Told}

pub moves : (s : List ℕ) (at v next : ℕ) → number_at s at ≡ Ok (v, next) → place_after s at ≡ next
unfolding place_after
moves s at v next e = rw e

pub stays : (s : List ℕ) (at : ℕ) (r : Refusal) (place : ℕ) → number_at s at ≡ Err (r, place) → place_after s at ≡ at
unfolding place_after
stays s at r place e = rw e

pub keeps : (s : List ℕ) (at : ℕ) (r : Refusal) (place : ℕ) → number_at s at ≡ Err (r, place) → place ≡ place_after s at
keeps s at r place e = number_laws.refused_place s at r place e ∙ sym (stays s at r place e)

-- ---- one answer, where the reader is at a place that has a number

module _ (s : List ℕ) (k : ℕ) {at v next : ℕ} (here : places s k ≡ at) (e : number_at s at ≡ Ok (v, next)) where
  pub answer : answers s k ≡ Ok (v, next)
  unfolding answers
  answer = ap (number_at s) here ∙ e

  pub value : value_in (answers s k) ≡ v
  value = ap value_in answer

  pub after : places s (suc k) ≡ next
  unfolding places
  after = ap (place_after s) here ∙ moves s at v next e

  pub told : Told s k
  told = answer ∙ sym (ap (λ (x : ℕ). Ok (x, places s (suc k))) value ∙ ap (λ (x : ℕ). Ok (v, x)) after)

-- ---- and at one that is refused

module _ (s : List ℕ) (k : ℕ) {at : ℕ} {r : Refusal} {place : ℕ} (here : places s k ≡ at) (e : number_at s at ≡ Err (r, place)) where
  pub refusal : answers s k ≡ Err (r, place)
  unfolding answers
  refusal = ap (number_at s) here ∙ e

  pub stands : places s k ≡ place
  stands = here ∙ sym (number_laws.refused_place s at r place e)
