-- Where a loop stands that goes once through a table, from the front: the table was s and is l, the places before x hold f, and the rest is
-- as it was. Its four laws (start, write, keep, end) are all that such a loop has to show.
use mathlib.Core.Path.{◌≡◌, refl, sym, ap, ◌∙◌}
use mathlib.Core.List.{List}
use Prim.Native.Nat.{ℕ, ◌+◌, ◌≤◌, ◌<◌}
use native.Mathlib.Omega.{arith}
use lib.ListN.{length, get_or, set, length-set}
use lib.Seq.{set-get_or}
use Rattle.cube.specs.Tables.{tab, label_in}
use Rattle.cube.proofs.Front.{front, front_zero, front_all, front_after, front_write}

pub record Filled (f : ℕ → ℕ) (s l : List ℕ) (x : ℕ) : Type 0 where
  pub upto : x ≤ length s
  pub sized : length l ≡ length s
  pub table : l ≡ front f x s

pub fill_start : (f : ℕ → ℕ) (s : List ℕ) → Filled f s s 0
fill_start f s = record { upto = omega arith; sized = refl; table = front_zero f s }

module _ (f : ℕ → ℕ) (s l : List ℕ) (x : ℕ) (L : Filled f s l x) where
  pub fill_here : label_in l x ≡ label_in s x
  unfolding label_in
  fill_here = ap (λ (m : List ℕ). get_or m x 0) L.table ∙ front_after f x s x (omega arith)

  pub fill_write : (b : ℕ) → x < length s → b ≡ f x → Filled f s (set l x b) (x + 1)
  fill_write b h e = record { upto = omega arith; sized = length-set l x b ∙ L.sized; table = front_write f x s l b h L.table e }

  pub fill_keep : x < length s → label_in s x ≡ f x → Filled f s l (x + 1)
  unfolding label_in
  fill_keep h e =
      record { upto = omega arith; sized = L.sized; table = sym (set-get_or l x 0) ∙ front_write f x s l (get_or l x 0) h L.table (fill_here ∙ e) }

  pub fill_end : (m : ℕ) → length s ≡ m → length s ≤ x → l ≡ tab m f
  fill_end m e h = L.table ∙ ap (λ (k : ℕ). front f k s) (omega (arith, L.upto)) ∙ front_all f m s e
