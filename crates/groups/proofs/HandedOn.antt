-- A number read in the bytes from place k on is the number of the whole bytes k places further: both ask the same tests of the same bytes, and the
-- place answered differs by k.
use mathlib.Core.Path.{◌≡◌, refl}
use mathlib.Core.Bool.{Bool, true, false, cond}
use mathlib.Core.List.{List}
use Prim.Native.Nat.{ℕ, ◌+◌}
use native.Mathlib.Omega.{arith}
use native.Mathlib.Nat.{add_assoc}
use lib.Dec.{leb}
use lib.ListN.{length, drop, length-drop}
use lib.Seq.{get_or-drop}
use borrow.Author.Tests.{leb-true, leb-false, le-leb, lt-leb}
use Rattle.std.specs.Prelude.{Ok, Err}
use Rattle.cube.specs.declared.refusals.Refusal.{Refusal}
use Rattle.groups.specs.Number.{Number, number_at, two_groups, further}

module _ (k : ℕ) where
  further_cond : (b : Bool) (x y : Number) → further k (cond b x y) ≡ cond b (further k x) (further k y)
  further_cond true x y = refl
  further_cond false x y = refl

  further_value : (v next : ℕ) → further k (Ok (v, next)) ≡ Ok (v, k + next)
  unfolding further
  further_value v next = refl

  further_refused : (r : Refusal) (at : ℕ) → further k (Err (r, at)) ≡ Err (r, k + at)
  unfolding further
  further_refused r at = refl

module _ (s : List ℕ) (k at : ℕ) where
  ends : leb (length (drop k s)) at ≡ leb (length s) (k + at)
  ends = go (leb (length s) (k + at)) refl
    where
      go : (b : Bool) → leb (length s) (k + at) ≡ b → leb (length (drop k s)) at ≡ b
      go true e = le-leb (length (drop k s)) at (omega (arith, length-drop k s, leb-true (length s) (k + at) e))
      go false e = lt-leb (length (drop k s)) at (omega (arith, length-drop k s, leb-false (length s) (k + at) e))

pub handed_on : (s : List ℕ) (k at : ℕ) → number_at s (k + at) ≡ further k (number_at (drop k s) at)
unfolding number_at two_groups
handed_on s k at = simp (ends, get_or-drop, further_cond, further_value, further_refused, add_assoc)
