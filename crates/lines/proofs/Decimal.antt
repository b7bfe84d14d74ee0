-- The fewest digits that hold a number are as many as its width, so what `io::decimal` writes is `decimal`.
use mathlib.Core.Path.{◌≡◌, sym, ap}
use mathlib.Core.Logic.{⊎_elim}
use mathlib.Core.Bool.{true, false}
use Prim.Native.Nat.{ℕ, zero, suc, ◌-◌, ◌^◌, ◌≤◌, ◌<◌}
use native.Mathlib.Nat.{pow-le-pow_right, zero-lt-suc}
use native.Mathlib.Omega.{arith}
use lib.Dec.{leb, ltb}
use borrow.Author.Tests.{leb-true, leb-false, lt-ltb, le-ltb}
use Rattle.cube.proofs.Bools.{either}
use Rattle.cube.proofs.Search.{least_is}
use Rattle.io.specs.Digits.{IsDigitCount, last_digits}
use Rattle.lines.specs.Text.{decimal, width}

tens : {i j : ℕ} → i ≤ j → 10 ^ i ≤ 10 ^ j
tens h = pow-le-pow_right (zero-lt-suc 9) h

width_is : (n k : ℕ) → k ≤ 20 → IsDigitCount 10 1 n k → k ≡ width n
unfolding width
width_is n zero h f = absurd (omega arith)
width_is n (suc j) h f = ap suc (sym (least_is 19 (λ t. ltb n (10 ^ suc t)) j (omega arith) before (λ l. lt-ltb n (10 ^ suc j) f.1)))
  where
    before : (t : ℕ) → t < j → ltb n (10 ^ suc t) ≡ false
    before t l =
        let e : suc j - 1 ≡ j = omega arith in
        le-ltb n (10 ^ suc t) (omega (arith, f.2 (omega arith), ap (λ (k : ℕ). 10 ^ k) e, tens {i = suc t} {j = j} (omega arith)))

-- a number of 64 bits has no more than 20
pub few_digits : (n k : ℕ) → n < 18446744073709551616 → IsDigitCount 10 1 n k → k ≤ 20
few_digits n k h f =
    ⊎_elim (λ (t : leb k 20 ≡ true). leb-true k 20 t)
    (λ (t : leb k 20 ≡ false). let l = leb-false k 20 t in absurd (omega (arith, f.2 (omega arith), tens {i = 20} {j = k - 1} (omega arith))))
    (either (leb k 20))

pub decimal_is : (n k : ℕ) → k ≤ 20 → IsDigitCount 10 1 n k → last_digits 10 k n ≡ decimal n
unfolding decimal
decimal_is n k h f = ap (λ (m : ℕ). last_digits 10 m n) (width_is n k h f)
