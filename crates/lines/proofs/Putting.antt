-- Texts put behind what a line has: one behind the other they are one text, and a text that a new line has room for is all there.
use mathlib.Core.Path.{◌≡◌, refl, sym, ap, ◌∙◌}
use mathlib.Core.List.{List, [], ◌∷◌, ◌++◌, append_assoc, append-nil, map}
use mathlib.Core.Logic.{⊎_elim}
use mathlib.Core.Bool.{true, false}
use Prim.Native.Nat.{ℕ, zero, suc, ◌+◌, ◌*◌, ◌/◌, ◌^◌, ◌≤◌}
use native.Mathlib.Numerals.{add-one}
use native.Mathlib.Omega.{arith}
use lib.Dec.{leb, ltb}
use lib.ListN.{get_or, length, length-append, length-take, take}
use borrow.Author.Tests.{leb-true, leb-false}
use Rattle.std.proofs.lemmas.List.{get_or-map, get_or-take, length-take-le, map-id, take-append-le, take-take, take_all}
use Rattle.std.proofs.Math.Seq.{take-append-add}
use Rattle.cube.proofs.Bools.{either}
use Rattle.cube.proofs.Search.{the_least}
use Rattle.io.specs.Digits.{last_digits}
use Rattle.lines.specs.Lines.{put, room, row_text}
use Rattle.lines.specs.Text.{decimal, width}

pub put_none : (line : List ℕ) → length line ≤ room → line ≡ put line []
unfolding put
put_none line h = sym (ap (take room) (append-nil line) ∙ take_all room line h)

front_then : (a y : List ℕ) → take room (take room a ++ y) ≡ take room (a ++ y)
front_then a y =
    ⊎_elim (λ (t : leb (length a) room ≡ true). ap (λ (l : List ℕ). take room (l ++ y)) (take_all room a (leb-true (length a) room t)))
    (λ (t : leb (length a) room ≡ false).
    let over = leb-false (length a) room t in
    take-append-le room (take room a) y (simp length-take (omega arith))
    ∙ take_all room (take room a) (simp length-take (omega arith))
    ∙ sym (take-append-le room a y (omega arith))) (either (leb (length a) room))

pub put_put : (line x y : List ℕ) → put (put line x) y ≡ put line (x ++ y)
unfolding put
put_put line x y = front_then (line ++ x) y ∙ ap (take room) (append_assoc line x y)

pub whole : (x : List ℕ) → length x ≤ room → put [] x ≡ x
unfolding put
whole x h = take_all room x h

-- a word that there is room for is all there, and of one that is longer, as much as there is room for
pub put_whole : (line word : List ℕ) → length line + length word ≤ room → line ++ word ≡ put line word
unfolding put
put_whole line word h = sym (take_all room (line ++ word) (simp length-append (omega arith)))

pub put_front : (line word : List ℕ) (left : ℕ) → length line + left ≡ room → line ++ take left word ≡ put line word
unfolding put
put_front line word left e = sym (ap (λ (m : ℕ). take m (line ++ word)) (sym e) ∙ take-append-add line word left)

-- a line that the digits were put behind, with the length set back to so many of them
pub cut_back : (line digits bytes : List ℕ) (len k : ℕ) → take len bytes ≡ line ++ digits → len ≡ length line + length digits → k ≤ length digits
    → take (length line + k) bytes ≡ line ++ take k digits
cut_back line digits bytes len k e whole h = sym (take-take (length line + k) len bytes (omega arith)) ∙ ap (take (length line + k)) e ∙ take-append-add line digits k

-- ---- rows

pub row_more : (row : List ℕ) (k n : ℕ) → get_or row k 0 ≡ n → row_text row (k + 1) ≡ row_text row k ++ 32 ∷ decimal n
unfolding row_text
row_more row k n e = rw (add-one, e)

row_front : (row : List ℕ) (k n : ℕ) → k ≤ n → row_text (take n row) k ≡ row_text row k
unfolding row_text
row_front row zero n h = refl
row_front row (suc k) n h = rw (row_front row k n (omega arith), get_or-take n row k 0 h)

-- the front of a row, as `Line::row` is lent it
pub row_upto : (row : List ℕ) (k : ℕ) → k ≤ length row → row_text (map (λ (n : ℕ). n) (take k row)) (length (take k row)) ≡ row_text row k
row_upto row k h = rw (map-id, length-take-le k row h) (row_front row k k (omega arith))

-- ---- none is too long

digits_length : (b k n : ℕ) → length (last_digits b k n) ≡ k
digits_length b zero n = refl
digits_length b (suc k) n = simp length-append (omega (arith, digits_length b k (n / b)))

pub few : (n : ℕ) → length (decimal n) ≤ 20
unfolding decimal width
few n = omega (arith, digits_length 10 (width n) n, (the_least 19 (λ k. ltb n (10 ^ suc k))).within)

pub row_few : (row : List ℕ) (k : ℕ) → length (row_text row k) ≤ 21 * k
unfolding row_text
row_few row zero = omega arith
row_few row (suc k) = simp length-append (omega (arith, row_few row k, few (get_or row k 0)))

pub ruleset putting = (put_put, whole, few, row_few, append_assoc, append-nil, length-append, map-id, row_upto, row_more, get_or-map)
