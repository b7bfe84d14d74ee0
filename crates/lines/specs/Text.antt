-- Text as bytes: words, and numbers in decimal digits.
use Rattle.std.specs.Prelude.{List, [], ◌∷◌, ◌++◌, ℕ, zero, suc, ◌+◌, ◌^◌, ltb}
use Prim.Native.Char.{code}
use Prim.Native.String.{String, char_at, len}
use Rattle.cube.specs.Count.{least}
use Rattle.io.specs.Digits.{last_digits}

-- the k bytes of a word from byte i on, and all of them
abbrev pub codes : (k i : ℕ) → String → List ℕ
codes zero i word = []
codes (suc k) i word = code (char_at word i) ∷ codes k (i + 1) word

abbrev pub text : String → List ℕ
text word = codes (len word) 0 word

-- how many decimal digits a number has: 0 has one, and none that the programs hold has more than 20
unfoldable pub width : ℕ → ℕ
width n = suc (least 19 (λ k. ltb n (10 ^ suc k)))

-- its digits, the most significant first
unfoldable pub decimal : ℕ → List ℕ
decimal n = last_digits 10 (width n) n

-- a word and a number
abbrev pub field : String → ℕ → List ℕ
field word n = text word ++ decimal n
