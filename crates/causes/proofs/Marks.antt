-- The marks that stood when the round of x began: those that its cause goes by.
use mathlib.Core.Bool.{Bool}
use Prim.Native.Nat.{ℕ}
use Rattle.rule.specs.Rule.{marked}
use Rattle.causes.specs.Cause.{earlier}

abbrev pub marks_before : (n k : ℕ) (F : ℕ → Bool) (x y : ℕ) → Bool
marks_before n k F x = marked n k F (earlier n k F x)
