-- Bytes that are lent: they stand somewhere in memory, for a lifetime.
use mathlib.Core.List.{List, []}
use Prim.Native.Nat.{ℕ}
use contract.Lifetimes.{Lfts}
use Rattle.std.specs.Borrow.{Bor, MutBor}

abbrev pub lend : List ℕ → Bor (List ℕ)
lend l = record { ref_ptr = (0, 0); now = l }

-- lent to be written
abbrev pub lend_mut : List ℕ → MutBor (List ℕ)
lend_mut l = record { ref_ptr = (0, 0); ghost_name = 0; now = l }

-- one lifetime, two, or four
abbrev pub one : Lfts 1
one = ([], tt)

abbrev pub two : Lfts 2
two = ([], one)

abbrev pub four : Lfts 4
four = ([], ([], two))
