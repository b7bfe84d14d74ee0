-- Addresses as they stand among other bytes: those of a rising list are read as that list, and the bytes of addresses that were read are those that they took.
-- Each is a number with its place, counted from a base, so both go by the numbers, one address after the other.
use mathlib.Core.Path.{◌≡◌, refl, sym, ap, ◌∙◌}
use mathlib.Core.Bool.{true}
use mathlib.Core.List.{List, [], ◌∷◌, ◌++◌, append_assoc}
use Prim.Native.Nat.{ℕ, zero, suc, ◌+◌, ◌-◌, ◌≤◌, ◌<◌}
use native.Mathlib.Omega.{arith}
use lib.ListN.{length, drop, length-append}
use borrow.Author.Tests.{lt-leb}
use Rattle.cube.specs.Refusal.{first}
use Rattle.groups.specs.Number.{groups_of, number_at}
use Rattle.std.specs.Prelude.{Ok}
use Rattle.groups.proofs.Groups.{same_value}
use Rattle.notice.specs.Tests.{address_tests}
use Rattle.notice.specs.Addresses.{addresses_end, addresses_at, rising}
use Rattle.notice.proofs.Addresses.{first_address}
use Rattle.notice.proofs.Cases.{tested_passes}
use Rattle.notice.proofs.Rising.{rises}
use Rattle.spelling.specs.Spelled.{address_bytes}
use Rattle.spelling.specs.Laws.{Bytes}
use Rattle.spelling.proofs.Numbers.{number_here, behind_here, number_spelled}

-- one address, and those behind it
module _ (m : ℕ) (s : List ℕ) (at base v next : ℕ) (number : number_at s at ≡ Ok (v, next)) where
  then_at : addresses_at (suc m) s at base ≡ (base + v) ∷ addresses_at m s next (base + v + 1)
  unfolding addresses_at
  then_at = rw number

  then_end : (size : ℕ) → base + v < size → addresses_end (suc m) s at base size ≡ addresses_end m s next (base + v + 1) size
  unfolding addresses_end first
  then_end size h = rw (← tested_passes (address_tests base size) at (sym number) (rw (lt-leb size (base + v) h)))

-- the addresses l are read at a place
pub record ReadHere (l s : List ℕ) (at base size : ℕ) : Type 0 where
  pub last : ℕ
  pub ends : addresses_end (length l) s at base size ≡ Ok (last, at + length (address_bytes base l))
  pub are : addresses_at (length l) s at base ≡ l

pub read_here : (l s rest : List ℕ) (at base size : ℕ) → size ≤ 4096 → rising base size l ≡ true → drop at s ≡ address_bytes base l ++ rest
    → ReadHere l s at base size
unfolding addresses_end addresses_at address_bytes
read_here [] s rest at base size few up here = let z : at ≡ at + 0 = omega arith in record { last = base; ends = ap (λ (k : ℕ). Ok (base, k)) z; are = refl }
read_here (a ∷ l) s rest at base size few up here =
    let r = rises base size a l up in
    let low = r.0 in
    let below = r.1 in
    let z : base + (a - base) ≡ a = omega arith in
    let next = at + length (groups_of (a - base)) in
    let front : drop at s ≡ groups_of (a - base) ++ (address_bytes (a + 1) l ++ rest) = here ∙ append_assoc (groups_of (a - base)) (address_bytes (a + 1) l) rest in
    let number = number_here s at (a - base) _ front (omega arith) in
    let more = read_here l s rest next (a + 1) size few r.2 (behind_here s at (a - base) _ front) in
    let w : next + length (address_bytes (a + 1) l) ≡ at + length (groups_of (a - base) ++ address_bytes (a + 1) l) = simp length-append (omega arith) in
    record {
      last = more.last;
      ends = then_end (length l) s at base (a - base) next number size (omega arith) ∙ rw z (more.ends ∙ ap (λ (k : ℕ). Ok (more.last, k)) w);
      are = then_at (length l) s at base (a - base) next number ∙ rw (z, more.are);
    }

-- addresses that were read
pub addresses_spelled : (m : ℕ) (s : List ℕ) (at base size last end : ℕ) → Bytes s → addresses_end m s at base size ≡ Ok (last, end)
    → drop at s ≡ address_bytes base (addresses_at m s at base) ++ drop end s
unfolding addresses_end addresses_at address_bytes
addresses_spelled zero s at base size last end bytes e = let z : at ≡ end = (same_value e).1 in ap (λ (k : ℕ). drop k s) z
addresses_spelled (suc m) s at base size last end bytes e =
    let f = first_address m s at base size last end e in
    let z : base + f.v - base ≡ f.v = omega arith in
    let more = addresses_spelled m s f.next (base + f.v + 1) size last end bytes f.others in
    rw (f.number, z) (number_spelled s at f.v f.next bytes f.number ∙ rw more (simp append_assoc))
