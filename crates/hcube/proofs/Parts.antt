-- The parts of a packed number: where they are small they come out as they were put in, and what stands above the low 32 bits is in none of the three that
-- every answer has.
use mathlib.Core.Bool.{true}
use mathlib.Core.Logic.{◌≢◌}
use mathlib.Core.Path.{◌≡◌, sym, ap, ◌∙◌}
use Prim.Native.Nat.{ℕ, zero, suc, ◌+◌, ◌*◌, ◌/◌, ◌%◌, ◌≤◌, ◌<◌}
use native.Mathlib.Omega.{arith}
use lib.Dec.{leb}
use borrow.Author.Tests.{le-leb, leb-true}
use Rattle.std.specs.Prelude.{Result, Ok, Err}
use Rattle.cube.specs.Refused.{answered, number, refusal, refused}
use Rattle.cube.specs.declared.refusals.Refusal.{Refusal}
use Rattle.cube.proofs.Bools.{by_cases}
use Rattle.cube.proofs.Refused as cube
use Rattle.cube.proofs.Refused.{number_range, refusal_back}
use Rattle.hcube.specs.Answers.{packed, packed_notice, packed_reason}
use Rattle.hcube.specs.Decoded.{
  Shows,
  cause_part,
  count_part,
  dimension_part,
  first_part,
  kind_part,
  last_refusal,
  refusal_part,
  said,
  second_part,
  third_part,
  value_part,
}

pub refusal_is : (k kind v : ℕ) → k < 256 → kind < 256 → v < 65536 → refusal_part (packed k kind v) ≡ k
refusal_is k kind v c a b = omega arith

pub kind_is : (k kind v : ℕ) → kind < 256 → v < 65536 → kind_part (packed k kind v) ≡ kind
kind_is k kind v a b = omega arith

pub value_is : (k kind v : ℕ) → v < 65536 → value_part (packed k kind v) ≡ v
value_is k kind v b = omega arith

-- a refusal's number is small, and it is that of its answer
pub few : (r : Refusal) → number r < 256
few r = omega (arith, (number_range r).1)

pub some : (r : Refusal) → number r ≢ 0
some r z = omega (arith, (number_range r).0)

-- the answer by a packed number: accepted, and refused
pub accepted : {A : Type 0} (k : ℕ) {x y : A} → k ≡ 0 → x ≡ y → answered k x ≡ Ok y
accepted k e f = rw (e, f)

pub refuses : {A : Type 0} (k : ℕ) (x : A) (r : Refusal) → k ≡ number r → answered k x ≡ Err r
refuses zero x r e = absurd (some r (sym e))
refuses (suc k) x r e = ap (λ (j : ℕ). Err (refusal j)) e ∙ ap Err (refusal_back r)

-- the same as it is read from the number
pub reads_ok : {A : Type 0} (k : ℕ) {x y : A} (other : A) → k ≡ 0 → x ≡ y → said k x other ≡ Ok y
reads_ok k other e f = rw (e, f)

pub named : (k : ℕ) (r : Refusal) → k ≡ number r → leb k last_refusal ≡ true
named k r e = le-leb k last_refusal (omega (arith, (number_range r).1))

pub reads_err : {A : Type 0} (k : ℕ) (x other : A) (r : Refusal) → k ≡ number r → said k x other ≡ Err r
reads_err k x other r e = rw (named k r e) (refuses k x r e)

-- and no other number is read as a refusal
pub read_back : {A : Type 0} (k : ℕ) (x other : A) (q : Refusal) → said k x other ≡ Err q → k ≡ number q
read_back k x other q =
    by_cases (λ (a : Result _ Refusal). a ≡ Err q → k ≡ number q) (leb k last_refusal) (λ t e. cube.refuses k x q (omega (arith, leb-true k last_refusal t)) e)
    (λ _ e. let z : 0 ≡ number q = ap refused e in absurd (some q (sym z)))

-- what stands above the low 32 bits is in none of the three
pub shows : (high low : ℕ) → Shows (high * 4294967296 + low) low
shows high low =
    let q : (high * 4294967296 + low) / 16777216 ≡ high * 256 + low / 16777216 = omega arith in
    let p : (high * 4294967296 + low) / 65536 ≡ high * 65536 + low / 65536 = omega arith in
    record { refusal = omega arith; kind = omega arith; value = omega arith }

pub cut : (r : ℕ) → Shows r (r % 4294967296)
cut r = let e : r / 4294967296 * 4294967296 + r % 4294967296 ≡ r = omega arith in rw e at (shows (r / 4294967296) (r % 4294967296))

pub above : (n m low : ℕ) → Shows (packed_notice n m low) low
above n m low =
    let e : (n * 65536 + m) * 4294967296 + low ≡ packed_notice n m low = omega arith in
    rw e at (shows (n * 65536 + m) low)

-- the two parts above, where they are small
pub dimension_is : (n m taken : ℕ) → n ≤ 12 → m ≤ 4096 → taken ≤ 4099 → dimension_part (packed_notice n m (packed 0 0 taken)) ≡ n
dimension_is n m taken a b c =
    let q : packed_notice n m (packed 0 0 taken) / 281474976710656 ≡ n = omega arith in
    omega arith

pub count_is : (n m taken : ℕ) → m ≤ 4096 → taken ≤ 4099 → count_part (packed_notice n m (packed 0 0 taken)) ≡ m
count_is n m taken b c =
    let q : packed_notice n m (packed 0 0 taken) / 4294967296 ≡ n * 65536 + m = omega arith in
    omega arith

-- a node's reason: its four parts above
module _ (cause third second first low : ℕ) (hc : cause < 256) (ht : third < 256) (hs : second < 256) (hf : first < 256) (hl : low < 4294967296) where
  abbrev r : ℕ
  r = packed_reason cause third second first low

  pub reason_shows : Shows r low
  reason_shows =
      let e : (cause * 16777216 + third * 65536 + second * 256 + first) * 4294967296 + low ≡ r = omega arith in
      rw e at (shows (cause * 16777216 + third * 65536 + second * 256 + first) low)

  pub first_is : first_part r ≡ first
  first_is = let q : r / 4294967296 ≡ cause * 16777216 + third * 65536 + second * 256 + first = omega arith in omega arith

  pub second_is : second_part r ≡ second
  second_is = let q : r / 1099511627776 ≡ cause * 65536 + third * 256 + second = omega arith in omega arith

  pub third_is : third_part r ≡ third
  third_is = let q : r / 281474976710656 ≡ cause * 256 + third = omega arith in omega arith

  pub cause_is : cause_part r ≡ cause
  cause_is = let q : r / 72057594037927936 ≡ cause = omega arith in omega arith
