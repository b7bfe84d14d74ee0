-- The laws of a table of refusals. `numbered m ts`: every number of it is one of 1 to m; of a table with its numbers written out this is `refl`.
use mathlib.Core.Path.{◌≡◌, refl}
use mathlib.Core.Bool.{Bool, true, false, cond, ◌&&◌}
use mathlib.Core.List.{List, [], ◌∷◌, ◌++◌}
use Prim.Native.Nat.{ℕ, ◌≤◌}
use native.Mathlib.Omega.{arith}
use lib.Dec.{eqb, leb}
use borrow.Author.Tests.{leb-true}
use Rattle.cube.specs.Refusal.{Test, first, ◌⇒◌}
use Rattle.cube.proofs.Bools.{and_true, by_cases, clash}

abbrev pub numbered : ℕ → List Test → Bool
numbered m [] = true
numbered m (t ∷ ts) = (leb 1 t.number && leb t.number m) && numbered m ts

-- no test holds
abbrev pub None : List Test → Type 0
None [] = Unit {0}
None (t ∷ ts) = (t.holds ≡ false) × None ts

pub first_le : (m : ℕ) (ts : List Test) → numbered m ts ≡ true → first ts ≤ m
unfolding first
first_le m [] e = omega arith
first_le m (t ∷ ts) e =
    let a = and_true (leb 1 t.number && leb t.number m) (numbered m ts) e in
    by_cases (λ k. k ≤ m) t.holds (λ _. leb-true t.number m (and_true (leb 1 t.number) (leb t.number m) a.0).1)
    (λ _. first_le m ts a.1)

choice_zero : (b : Bool) (k r : ℕ) → 1 ≤ k → cond b k r ≡ 0 → (b ≡ false) × (r ≡ 0)
choice_zero true k r h e = absurd (omega arith)
choice_zero false k r h e = (refl, e)

pub first_none : (m : ℕ) (ts : List Test) → numbered m ts ≡ true → first ts ≡ 0 → None ts
unfolding first
first_none m [] n e = tt
first_none m (t ∷ ts) n e =
    let a = and_true (leb 1 t.number && leb t.number m) (numbered m ts) n in
    let z = choice_zero t.holds t.number (first ts) (leb-true 1 t.number (and_true (leb 1 t.number) (leb t.number m) a.0).0) e in
    (z.0, first_none m ts a.1 z.1)

-- a table of one test that refuses: the test holds, and the number is its own
pub first_only : (b : Bool) (k : ℕ) → eqb (first (b ⇒ k ∷ [])) 0 ≡ false → (b ≡ true) × (first (b ⇒ k ∷ []) ≡ k)
unfolding first
first_only true k z = (refl, refl)
first_only false k z = absurd (clash refl z)

-- a table that goes on after another: the first one's refusal is the whole's; where it has none, the second decides
stops : (b : Bool) (k r s : ℕ) → (cond b k r ≡ 0 → ⊥) → ((r ≡ 0 → ⊥) → s ≡ r) → cond b k s ≡ cond b k r
stops true k r s h f = refl
stops false k r s h f = f h

pub first_stops : (ts us : List Test) → (first ts ≡ 0 → ⊥) → first (ts ++ us) ≡ first ts
unfolding first
first_stops [] us h = absurd (h refl)
first_stops (t ∷ ts) us h = stops t.holds t.number (first ts) (first (ts ++ us)) h (first_stops ts us)

pub first_passes : (ts us : List Test) → None ts → first (ts ++ us) ≡ first us
unfolding first
first_passes [] us n = refl
first_passes (t ∷ ts) us n = rw n.0 (first_passes ts us n.1)
