-- The refusal of a notice is one of 1 to 12, and its place lies among the bytes or where they end. Every number before that place was read: the dimension
-- has one byte, the count two at most, and each address no more bytes than the base moves. So the place is no further in than 4,099.
use mathlib.Core.Path.{◌≡◌, sym, ap, ◌∙◌}
use mathlib.Core.Logic.{⊎_elim}
use mathlib.Core.List.{List}
use Prim.Native.Nat.{ℕ, zero, suc, ◌+◌, ◌^◌, ◌≤◌}
use native.Mathlib.Omega.{arith}
use lib.Dec.{leb}
use lib.ListN.{drop, length, length-drop}
use Rattle.std.specs.Prelude.{Ok, Err}
use Rattle.cube.specs.Refused.{number}
use Rattle.cube.specs.declared.refusals.Refusal.{Refusal}
use Rattle.cube.specs.declared.refusals.Refusal.TheVariants.{Cut, Group}
use Rattle.cube.specs.Tables.{table_len}
use Rattle.cube.proofs.Bools.{clash}
use Rattle.cube.proofs.Tables.{nodes_few}
use Rattle.groups.specs.Number.{number_at}
use Rattle.groups.proofs.Groups.{no_value, read_number, refused_number, refused_place, same_value}
use Rattle.notice.specs.Laws.{RefusedNotice}
use Rattle.notice.specs.Tests.{address_tests, tested}
use Rattle.notice.specs.Addresses.{addresses_end}
use Rattle.notice.specs.Notice.{dimension_at, noticed}
use Rattle.notice.proofs.Addresses.{few_bytes, read_address}
use Rattle.notice.proofs.Bad.{Bad, bad, bad_address, bad_count, bad_dimension, many, no_dimension, tested_bad, wrong_table}
use Rattle.notice.proofs.Cases.{on-number, same_error}
use Rattle.notice.proofs.Opened.{opened_dimension}

-- a refusal behind the dimension's value, or of the dimension's own groups, with its place, in bytes of a length; `most` is how far in the place may be
record Near (len most : ℕ) (r : Refusal) (at : ℕ) : Type 0 where
  number : (9 ≤ number r) × (number r ≤ 12)
  within : at ≤ len
  near : at ≤ most

-- of a number
number_near : (s : List ℕ) (at len most : ℕ) (r : Refusal) (place : ℕ) → at ≤ len → at ≤ most → number_at s at ≡ Err (r, place) → Near len most r place
number_near s at len most r place inside near e =
    let p = refused_place s at r place e in
    record {
      number = ⊎_elim (λ (h : r ≡ Cut). rw h (omega arith, omega arith)) (λ (h : r ≡ Group). rw h (omega arith, omega arith)) (refused_number s at r place e);
      within = omega arith;
      near = omega arith;
    }

-- of addresses
address_near : (m : ℕ) (s : List ℕ) (at base size most : ℕ) (q : Refusal) (place : ℕ) → at ≤ length s → base ≤ size → at + size ≤ most + base
    → addresses_end m s at base size ≡ Err (q, place) → Near (length s) most q place
unfolding addresses_end
address_near zero s at base size most q place inside low near = λ e. absurd (no_value (sym e))
address_near (suc m) s at base size most q place inside low near =
    on-number (λ y. y ≡ Err (q, place) → Near (length s) most q place) (tested (address_tests base size) at (number_at s at))
    (λ r p e f.
    let a = same_error f in
    tested_bad (λ v. leb size (base + v)) 12 at (number_at s at) (Near (length s) most q place) (rw (a.0, a.1) at e)
    (number_near s at (length s) most q place inside (omega arith))
    (λ v next here over c d. record { number = rw (← c) (omega arith, omega arith); within = omega arith; near = omega arith }))
    (λ v next e.
    let a = read_address s at base size e in
    address_near m s next (base + v + 1) size most q place (read_number s at v next a.0).within (omega (arith, a.1))
    (omega (arith, few_bytes s at v next a.0)))

-- and as the address reader is handed them, behind the count
module _ (n : ℕ) (s : List ℕ) (at m start : ℕ) (count : number_at s at ≡ Ok (m, start)) (q : Refusal) (place : ℕ)
    (e : addresses_end m (drop start s) 0 0 (2 ^ n) ≡ Err (q, place)) where
  behind : Near (length (drop start s)) (2 ^ n) q place
  behind = address_near m (drop start s) 0 0 (2 ^ n) (2 ^ n) q place (omega arith) (omega arith) (omega arith) e

  pub rest_within : start + place ≤ length s
  rest_within = omega (arith, behind.within, length-drop start s, (read_number s at m start count).within)

-- ---- the whole notice

-- where its dimension is read, the count begins one byte in
count_place : (s : List ℕ) (n at : ℕ) → dimension_at s ≡ Ok (n, at) → (at ≡ 1) × (at ≤ length s) × (2 ^ n ≤ 4096)
count_place s n at dimension =
    let d = opened_dimension s n at dimension in
    let r = read_number s 0 n at d.number in
    (r.shortest (omega (arith, d.good.1)), r.within, nodes_few n d.good.1)

-- where the dimension is good and the table has its length, neither 1 nor 2 is left
sized_near : (s t : List ℕ) (n next : ℕ) (q : Refusal) (at : ℕ) → dimension_at s ≡ Ok (n, next) → length t ≡ table_len n → Bad s t q at → Near (length s) 4099 q at
sized_near s t n next q at d l (bad_dimension e) = number_near s 0 (length s) 4099 q at (omega arith) (omega arith) e
sized_near s t n next q at d l (no_dimension {n = v} {next = w} e none) =
    let o = opened_dimension s n next d in
    let p = (same_value (sym e ∙ o.number)).0 in
    absurd (clash o.is (rw p at none))
sized_near s t n next q at d l (wrong_table {n = v} {next = w} e other) =
    let p = (same_value (sym e ∙ d)).0 in
    absurd (other (l ∙ ap table_len (sym p)))
sized_near s t n next q at d l (bad_count {n = v} {at = c} dimension _ e) =
    let p = count_place s v c dimension in
    number_near s c (length s) 4099 q at p.1 (omega (arith, p.0)) e
sized_near s t n next q at d l (many {n = v} {at = c} dimension _ _ _) =
    let p = count_place s v c dimension in
    record { number = (omega arith, omega arith); within = p.1; near = omega (arith, p.0) }
sized_near s t n next q at d l (bad_address {n = v} {at = c} {m} {start} {place} dimension _ count _ e) =
    let p = count_place s v c dimension in
    let b = behind v s c m start count q place e in
    record {
      number = b.number;
      within = rest_within v s c m start count q place e;
      near = omega (arith, b.near, p.0, p.2, (read_number s c m start count).near);
    }

pub sized_refused : (s t : List ℕ) (n next : ℕ) (r : Refusal) (at : ℕ) → dimension_at s ≡ Ok (n, next) → length t ≡ table_len n → noticed s t ≡ Err (r, at)
    → 9 ≤ number r
sized_refused s t n next q at d l e = (sized_near s t n next q at d l (bad s t e)).number.0

wide : {s : List ℕ} {q : Refusal} {at : ℕ} → Near (length s) 4099 q at → RefusedNotice s q at
wide n = record { number = (omega (arith, n.number.0), n.number.1); within = n.within; near = n.near }

bad-near : (s t : List ℕ) (q : Refusal) (at : ℕ) → Bad s t q at → RefusedNotice s q at
bad-near s t q at (bad_dimension e) = wide (number_near s 0 (length s) 4099 q at (omega arith) (omega arith) e)
bad-near s t q at (no_dimension _ _) = record { number = (omega arith, omega arith); within = omega arith; near = omega arith }
bad-near s t q at (wrong_table _ _) = record { number = (omega arith, omega arith); within = omega arith; near = omega arith }
bad-near s t q at (bad_count d l e) = wide (sized_near s t _ _ q at d l (bad_count d l e))
bad-near s t q at (many d l c over) = wide (sized_near s t _ _ q at d l (many d l c over))
bad-near s t q at (bad_address d l c few e) = wide (sized_near s t _ _ q at d l (bad_address d l c few e))

pub refused_notice : (s t : List ℕ) (r : Refusal) (at : ℕ) → noticed s t ≡ Err (r, at) → RefusedNotice s r at
refused_notice s t q at e = bad-near s t q at (bad s t e)
