-- What is written into a buffer piece by piece is written as a whole: a second piece behind a first makes one longer piece.
use mathlib.Core.Path.{◌≡◌, sym, ap, ap₂, ◌∙◌}
use mathlib.Core.List.{List, [], ◌∷◌, ◌++◌, append_assoc, append-nil}
use Prim.Native.Nat.{ℕ, ◌+◌, ◌≤◌}
use native.Mathlib.Omega.{arith}
use native.Mathlib.Nat.{zero-add}
use native.Mathlib.Numerals.{add-one}
use lib.ListN.{length, length-append, length-drop, set, take, drop, take-append-drop}
use lib.Seq.{drop-append-add, drop-drop, length-take-le, sets-eq, take_at}
use Rattle.cube.specs.Over.{over, over_at}

-- at the front
pub over_front : (w s : List ℕ) → over_at 0 w s ≡ over w s
unfolding over over_at
over_front w s = ap (λ (k : ℕ). w ++ drop k s) (zero-add (length w))

-- nothing yet
pub over_none : (at : ℕ) (s : List ℕ) → s ≡ over_at at [] s
unfolding over_at
over_none at s =
    let e : at + 0 ≡ at = omega arith in
    sym (ap (λ (k : ℕ). take at s ++ [] ++ drop k s) e ∙ ap (λ (l : List ℕ). l ++ drop at s) (append-nil (take at s)) ∙ take-append-drop at s)

module _ (at : ℕ) (w s : List ℕ) (room : at + length w ≤ length s) where
  head_length : length (take at s ++ w) ≡ at + length w
  head_length = length-append (take at s) w ∙ ap (λ (k : ℕ). k + length w) (length-take-le at s (omega arith))

  pub length_over : length (over_at at w s) ≡ length s
  unfolding over_at
  length_over =
      let e = length-append (take at s ++ w) (drop (at + length w) s) in
      e ∙ omega (arith, head_length, length-drop (at + length w) s)

  -- one more behind it
  pub over_then : (v : List ℕ) → over_at (at + length w) v (over_at at w s) ≡ over_at at (w ++ v) s
  unfolding over_at
  over_then v =
      let H : List ℕ = take at s ++ w in
      let n : ℕ = at + length w in
      let behind : drop (n + length v) (H ++ drop n s) ≡ drop (n + length v) s =
      ap (λ (k : ℕ). drop (k + length v) (H ++ drop n s)) (sym head_length) ∙ drop-append-add H (drop n s) (length v) ∙ drop-drop (length v) n s in
      let end : n + length v ≡ at + length (w ++ v) = omega (arith, length-append w v) in
      ap₂ (λ (l r : List ℕ). l ++ v ++ r) (take_at H (drop n s) n head_length) (behind ∙ ap (λ (k : ℕ). drop k s) end)
      ∙ ap (λ (l : List ℕ). l ++ drop (at + length (w ++ v)) s) (append_assoc (take at s) w v)

-- one byte, or two, stored at their places
pub over_one : (at x : ℕ) (s : List ℕ) → at + 1 ≤ length s → set s at x ≡ over_at at (x ∷ []) s
unfolding over_at
over_one at x s h = sets-eq (x ∷ []) s at h

pub over_two : (at x y : ℕ) (s : List ℕ) → at + 2 ≤ length s → set (set s at x) (at + 1) y ≡ over_at at (x ∷ y ∷ []) s
unfolding over_at
over_two at x y s h = ap (λ (k : ℕ). set (set s at x) k y) (add-one at) ∙ sets-eq (x ∷ y ∷ []) s at h
