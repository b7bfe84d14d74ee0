-- A run of nodes whose bits are set one by one, or by whole bytes: what is left of it is the run from the node in hand on.
use mathlib.Core.List.{List, [], ◌∷◌, ◌++◌}
use mathlib.Core.Path.{◌≡◌, refl, sym, ap, subst, ◌∙◌}
use Prim.Native.Nat.{ℕ, suc, ◌+◌, ◌-◌, ◌/◌, ◌%◌, ◌≤◌, ◌<◌}
use native.Mathlib.Omega.{arith}
use lib.ListN.{length, set}
use Rattle.cube.specs.Refusal.{first}
use Rattle.notice.specs.Addresses.{with_bit, with_bits}
use Rattle.notice.proofs.Bits.{length_bits}
use Rattle.list_reader.specs.Front.{between}
use Rattle.spelling.specs.Laws.{Bytes}
use Rattle.spelling.specs.Spelled.{having}
use Rattle.spelling.proofs.Tables.{bytes_bits}
use Rattle.list_reader.proofs.Filled.{between_parts, bits_then, filled}

pub record Running (old : List ℕ) (lo hi : ℕ) (now : List ℕ) (k : ℕ) : Type 0 where
  pub sized : length now ≡ length old
  pub bytes : Bytes now
  pub whole : with_bits now (between k hi) ≡ with_bits old (between lo hi)

pub run_start : (old : List ℕ) (lo hi : ℕ) → Bytes old → Running old lo hi old lo
run_start old lo hi b = record { sized = refl; bytes = b; whole = refl }

between_on : (k hi : ℕ) → k ≤ hi → between k hi ≡ k ∷ between (k + 1) hi
unfolding having
between_on k hi h = let e : hi + 1 - k ≡ suc (hi + 1 - (k + 1)) = omega arith in rw e

between_none : (k hi : ℕ) → hi < k → between k hi ≡ []
unfolding having
between_none k hi h = let e : hi + 1 - k ≡ 0 = omega arith in rw e

bits_one : (t : List ℕ) (k : ℕ) → with_bits t (k ∷ []) ≡ with_bit t k
unfolding with_bits
bits_one t k = refl

bits_none : (t : List ℕ) → with_bits t [] ≡ t
unfolding with_bits
bits_none t = refl

module _ {old : List ℕ} {lo hi : ℕ} {now : List ℕ} {k : ℕ} (P : Running old lo hi now k) where
  -- the nodes l are set, and those behind them are left
  run_set : (l : List ℕ) (next : ℕ) → between k hi ≡ l ++ between next hi → {after : List ℕ} → after ≡ with_bits now l → Running old lo hi after next
  run_set l next parts {after} e =
      record {
        sized = ap length e ∙ length_bits now l ∙ P.sized;
        bytes = subst Bytes (sym e) (bytes_bits now l P.bytes);
        whole =
            ap (λ (t : List ℕ). with_bits t (between next hi)) e ∙ sym (bits_then now l (between next hi))
            ∙ ap (with_bits now) (sym parts) ∙ P.whole;
      }

  -- one node, or the eight of a byte
  pub run_on : k ≤ hi → {after : List ℕ} → after ≡ with_bit now k → Running old lo hi after (k + 1)
  run_on h {after} e = run_set (k ∷ []) (k + 1) (between_on k hi h) (e ∙ sym (bits_one now k))

  pub run_byte : k + 7 ≤ hi → k % 8 ≡ 0 → k / 8 < length now → {after : List ℕ} → after ≡ set now (k / 8) 255 → Running old lo hi after (k + 8)
  run_byte h first l {after} e = run_set (between k (k + 7)) (k + 8) (between_parts k hi h) (e ∙ filled now k first l P.bytes)

  pub run_end : hi < k → now ≡ with_bits old (between lo hi)
  run_end h = sym (bits_none now) ∙ ap (with_bits now) (sym (between_none k hi h)) ∙ P.whole
