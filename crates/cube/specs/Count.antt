-- Counting and searching below a bound. Everything that is counted or looked for in this library is counted or looked for by these.
use Rattle.std.specs.Prelude.{Bool, cond, ℕ, zero, suc, ◌+◌, ltb}

-- how many i below n have p
unfoldable pub count : ℕ → (ℕ → Bool) → ℕ
count zero p = zero
count (suc n) p = cond (p n) 1 0 + count n p

-- the least i below n that has p, and n where none has
unfoldable pub least : ℕ → (ℕ → Bool) → ℕ
least zero p = zero
least (suc n) p = let m : ℕ = least n p in cond (ltb m n) m (cond (p n) n (suc n))

-- the larger of two numbers, and the largest of f 0, f 1, .., n in all: 0 where there is none
abbrev pub larger : ℕ → ℕ → ℕ
larger a b = cond (ltb a b) b a

unfoldable pub largest : ℕ → (ℕ → ℕ) → ℕ
largest zero f = zero
largest (suc n) f = larger (largest n f) (f n)

-- some i below n has p
unfoldable pub some : ℕ → (ℕ → Bool) → Bool
some n p = ltb (least n p) n
