-- What a buffer holds after something was written into it: bytes before and behind it keep their content.
use Rattle.std.specs.Prelude.{List, ◌++◌, ℕ, ◌+◌, length, take, drop}

-- w written over the front of s
unfoldable pub over : (w s : List ℕ) → List ℕ
over w s = w ++ drop (length w) s

-- w written over s from a place on
unfoldable pub over_at : (at : ℕ) (w s : List ℕ) → List ℕ
over_at at w s = take at s ++ w ++ drop (at + length w) s
