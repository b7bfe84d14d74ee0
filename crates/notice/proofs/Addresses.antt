-- Addresses that are not refused: there are as many as were asked for, they rise from the base and stay below the size. Each takes at most as many
-- bytes as the base moves, for a number of two bytes is not 0; so they take at most as many bytes as there are nodes.
use mathlib.Core.Path.{◌≡◌, refl, ap, ◌∙◌}
use mathlib.Core.Bool.{true}
use mathlib.Core.List.{List, ◌∷◌}
use mathlib.Core.Logic.{⊎_elim}
use Prim.Native.Nat.{ℕ, zero, suc, ◌+◌, ◌≤◌, ◌<◌}
use native.Mathlib.Nat.{eq-zero-or-pos}
use native.Mathlib.Omega.{arith}
use lib.ListN.{length}
use borrow.Author.Tests.{leb-false, le-leb, lt-ltb}
use Rattle.std.specs.Prelude.{Ok}
use Rattle.cube.proofs.Bools.{and_both}
use Rattle.cube.proofs.Refusal.{first_none}
use Rattle.groups.specs.Number.{number_at}
use Rattle.groups.proofs.Groups.{read_number, no_value, same_value}
use Rattle.notice.specs.Tests.{tested, address_tests}
use Rattle.notice.specs.Addresses.{addresses_end, addresses_at, rising}
use Rattle.notice.proofs.Cases.{on-number, tested_value}

-- an address that is not refused
pub read_address : (s : List ℕ) (at base size : ℕ) {v next : ℕ} → tested (address_tests base size) at (number_at s at) ≡ Ok (v, next)
    → (number_at s at ≡ Ok (v, next)) × (base + v < size)
read_address s at base size {v} e =
    let passed = tested_value (address_tests base size) at (number_at s at) e in
    (passed.0, leb-false size (base + v) (first_none 12 (address_tests base size v) refl passed.1).0)

-- its bytes are no more than its number and one
pub few_bytes : (s : List ℕ) (at v next : ℕ) → number_at s at ≡ Ok (v, next) → next ≤ at + v + 1
few_bytes s at v next here =
    let r = read_number s at v next here in
    ⊎_elim (λ (h : v ≡ 0). omega (arith, r.shortest (omega arith))) (λ (h : 0 < v). omega (arith, r.near)) (eq-zero-or-pos v)

-- the first of suc m addresses that are not refused, and the others behind it
pub record FirstAddress (m : ℕ) (s : List ℕ) (at base size last end : ℕ) : Type 0 where
  pub v : ℕ
  pub next : ℕ
  pub number : number_at s at ≡ Ok (v, next)
  pub below : base + v < size
  pub others : addresses_end m s next (base + v + 1) size ≡ Ok (last, end)

pub first_address : (m : ℕ) (s : List ℕ) (at base size last end : ℕ) → addresses_end (suc m) s at base size ≡ Ok (last, end)
    → FirstAddress m s at base size last end
unfolding addresses_end
first_address m s at base size last end =
    on-number (λ y. y ≡ Ok (last, end) → FirstAddress m s at base size last end) (tested (address_tests base size) at (number_at s at))
    (λ _ _ _ e. absurd (no_value e))
    (λ v next here e.
    let read = read_address s at base size here in
    record { v = v; next = next; number = read.0; below = read.1; others = e })

pub record ReadAddresses (m : ℕ) (s : List ℕ) (at base size last end : ℕ) : Type 0 where
  pub counted : length (addresses_at m s at base) ≡ m
  pub rises : rising base size (addresses_at m s at base) ≡ true
  pub low : base ≤ size → last ≤ size
  pub short : end + base ≤ at + last
  pub within : at ≤ length s → end ≤ length s

none : (s : List ℕ) (at base size : ℕ) → ReadAddresses zero s at base size base at
unfolding addresses_at rising
none s at base size = record { counted = refl; rises = refl; low = λ h. h; short = omega arith; within = λ h. h }

module _ (m : ℕ) (s : List ℕ) (at base size v next last end : ℕ) (here : number_at s at ≡ Ok (v, next)) (below : base + v < size) where
  one_more : addresses_at (suc m) s at base ≡ (base + v) ∷ addresses_at m s next (base + v + 1)
  unfolding addresses_at
  one_more = rw here

  more : ReadAddresses m s next (base + v + 1) size last end → ReadAddresses (suc m) s at base size last end
  unfolding rising
  more g =
      let r = read_number s at v next here in
      record {
        counted = ap length one_more ∙ ap suc g.counted;
        rises = rw one_more (and_both (le-leb base (base + v) (omega arith)) (and_both (lt-ltb (base + v) size below) g.rises));
        low = λ _. g.low (omega arith);
        short = omega (arith, few_bytes s at v next here, g.short);
        within = λ h. g.within r.within;
      }

pub read_addresses : (m : ℕ) (s : List ℕ) (at base size last end : ℕ) → addresses_end m s at base size ≡ Ok (last, end)
    → ReadAddresses m s at base size last end
unfolding addresses_end
read_addresses zero s at base size last end e = let p = same_value e in rw (← p.0, ← p.1) (none s at base size)
read_addresses (suc m) s at base size last end e =
    let f = first_address m s at base size last end e in
    more m s at base size f.v f.next last end f.number f.below
    (read_addresses m s f.next (base + f.v + 1) size last end f.others)
