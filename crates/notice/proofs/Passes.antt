-- The address reader's two passes, turn by turn. Both keep one fact: what all the addresses give is what those left give from the place and the base
-- reached. With an address left, the number at the place decides the turn; with none left, the fact is the pass's result.
use mathlib.Core.Path.{◌≡◌, refl, sym, ap, ◌∙◌}
use mathlib.Core.Bool.{true}
use mathlib.Core.List.{List, [], ◌∷◌}
use Prim.Native.Nat.{ℕ, suc, ◌+◌, ◌-◌, ◌*◌, ◌≤◌, ◌<◌}
use native.Mathlib.Omega.{arith}
use lib.ListN.{length, length-set}
use borrow.Author.Tests.{le-leb, lt-leb}
use Rattle.std.specs.Prelude.{Ok, Err}
use Rattle.cube.specs.Refusal.{first}
use Rattle.cube.specs.declared.refusals.Refusal.{Refusal}
use Rattle.cube.specs.declared.refusals.Refusal.TheVariants.{Address}
use Rattle.groups.specs.Number.{number_at}
use Rattle.notice.specs.Tests.{tested, address_tests}
use Rattle.notice.specs.Addresses.{addresses_end, addresses_at, rising, with_bit, with_bits}
use Rattle.notice.proofs.Cases.{tested_refused, tested_fails, tested_passes}
use Rattle.notice.proofs.Rising.{rises}

-- ---- one turn of the definitions

pub length_with : (t : List ℕ) (k : ℕ) → length (with_bit t k) ≡ length t
unfolding with_bit
length_with t k = simp length-set

module _ (left : ℕ) (s : List ℕ) (at base : ℕ) (more : 0 < left) where
  next_left : left ≡ suc (left - 1)
  next_left = omega arith

  end_refused : (size : ℕ) {r : Refusal} {p : ℕ} → Err (r, p) ≡ tested (address_tests base size) at (number_at s at)
      → addresses_end left s at base size ≡ Err (r, p)
  unfolding addresses_end
  end_refused size e = ap (λ (j : ℕ). addresses_end j s at base size) next_left ∙ rw (sym e)

  end_value : (size : ℕ) {v next : ℕ} → Ok (v, next) ≡ tested (address_tests base size) at (number_at s at)
      → addresses_end left s at base size ≡ addresses_end (left - 1) s next (base + v + 1) size
  unfolding addresses_end
  end_value size e = ap (λ (j : ℕ). addresses_end j s at base size) next_left ∙ rw (sym e)

  at_refused : {r : Refusal} {p : ℕ} → Err (r, p) ≡ number_at s at → addresses_at left s at base ≡ []
  unfolding addresses_at
  at_refused e = ap (λ (j : ℕ). addresses_at j s at base) next_left ∙ rw (sym e)

  at_value : {v next : ℕ} → Ok (v, next) ≡ number_at s at → addresses_at left s at base ≡ (base + v) ∷ addresses_at (left - 1) s next (base + v + 1)
  unfolding addresses_at
  at_value e = ap (λ (j : ℕ). addresses_at j s at base) next_left ∙ rw (sym e)

-- ---- the checking pass

pub record Checking (m : ℕ) (s : List ℕ) (size left at base : ℕ) : Type 0 where
  pub low : base ≤ size
  pub same : addresses_end m s 0 0 size ≡ addresses_end left s at base size

module _ {m : ℕ} {s : List ℕ} {size left at base : ℕ} (I : Checking m s size left at base) where
  pub checked : left ≤ 0 → Ok (base, at) ≡ addresses_end m s 0 0 size
  unfolding addresses_end
  checked h = let z : 0 ≡ left = omega arith in ap (λ (j : ℕ). addresses_end j s at base size) z ∙ sym I.same

  module _ (more : 0 < left) where
    pub check_refused : {r : Refusal} {p : ℕ} → Err (r, p) ≡ number_at s at → Err (r, p) ≡ addresses_end m s 0 0 size
    check_refused e = sym (I.same ∙ end_refused left s at base more size (tested_refused (address_tests base size) at e))

    module _ {v next : ℕ} (e : Ok (v, next) ≡ number_at s at) where
      pub check_over : size ≤ base + v → Err (Address, at) ≡ addresses_end m s 0 0 size
      unfolding first
      check_over h =
          sym (I.same ∙ end_refused left s at base more size (tested_fails (address_tests base size) at 12 e (rw (le-leb size (base + v) h)) refl))

      pub check_on : base + v < size → {after : ℕ} → after ≡ left - 1 → Checking m s size after next (base + v + 1)
      unfolding first
      check_on h f = rw f record {
        low = omega arith;
        same = I.same ∙ end_value left s at base more size (tested_passes (address_tests base size) at e (rw (lt-leb size (base + v) h)));
      }

-- ---- the writing pass, over addresses that rise and have their bits in the table

pub record Writing (m : ℕ) (s old now : List ℕ) (left at base : ℕ) : Type 0 where
  pub sized : length now ≡ length old
  pub room : rising base (8 * length old) (addresses_at left s at base) ≡ true
  pub same : with_bits old (addresses_at m s 0 0) ≡ with_bits now (addresses_at left s at base)

module _ {m : ℕ} {s old now : List ℕ} {left at base : ℕ} (I : Writing m s old now left at base) where
  pub written : left ≤ 0 → now ≡ with_bits old (addresses_at m s 0 0)
  unfolding addresses_at with_bits
  written h = let z : 0 ≡ left = omega arith in ap (λ (j : ℕ). with_bits now (addresses_at j s at base)) z ∙ sym I.same

  module _ (more : 0 < left) where
    pub write_refused : {r : Refusal} {p : ℕ} → Err (r, p) ≡ number_at s at → now ≡ with_bits old (addresses_at m s 0 0)
    unfolding with_bits
    write_refused e = sym (I.same ∙ ap (with_bits now) (at_refused left s at base more e))

    module _ {v next : ℕ} (e : Ok (v, next) ≡ number_at s at) where
      this : addresses_at left s at base ≡ (base + v) ∷ addresses_at (left - 1) s next (base + v + 1)
      this = at_value left s at base more e

      pub write_below : base + v < 8 * length now
      write_below = omega (arith, I.sized, (rises base (8 * length old) (base + v) _ (rw this at I.room)).1)

      pub write_on : {after : List ℕ} {others : ℕ} → after ≡ with_bit now (base + v) → others ≡ left - 1 → Writing m s old after others next (base + v + 1)
      unfolding with_bits
      write_on f g = rw g record {
        sized = ap length f ∙ length_with now (base + v) ∙ I.sized;
        room = (rises base (8 * length old) (base + v) _ (rw this at I.room)).2;
        same = I.same ∙ ap (with_bits now) this ∙ ap (λ (t : List ℕ). with_bits t (addresses_at (left - 1) s next (base + v + 1))) (sym f);
      }
