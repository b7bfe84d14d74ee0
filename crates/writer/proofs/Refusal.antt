-- What writing goes by: the refusals of the table come first, and then whether the bytes to be written have room. Answer and buffer follow from the number.
use mathlib.Core.Bool.{cond}
use mathlib.Core.List.{List, [], ◌∷◌}
use mathlib.Core.Logic.{◌≢◌}
use mathlib.Core.Path.{◌≡◌, refl, sym, ◌∙◌}
use Prim.Native.Nat.{ℕ, zero, suc, ◌≤◌, ◌<◌}
use lib.Dec.{ltb}
use lib.ListN.{length}
use borrow.Author.Tests.{eqb-true, eq-eqb, le-leb, le-ltb, lt-ltb, not-false}
use Rattle.cube.specs.Over.{over}
use Rattle.cube.specs.declared.refusals.Refusal.{Refusal}
use Rattle.cube.specs.Refusal.{first, ◌⇒◌}
use Rattle.cube.specs.Refused.{answered, refusal}
use Rattle.cube.specs.Tables.{is_dimension, table_len}
use Rattle.cube.proofs.Refusal.{None, first_none, first_passes, first_stops}
use Rattle.cube.proofs.Refused.{accepted, accepts, passed_on, refusing}
use Rattle.cube.proofs.Tables.{dimension_is}
use Rattle.spelling.specs.Laws.{IsTable}
use Rattle.writer.specs.Writing.{after_bytes, fault_tests, room_refusal, wrote_bytes}
use Rattle.std.specs.Prelude.{Ok, Err}

-- ---- a table that is not refused

module _ (n : ℕ) (faults : List ℕ) where
  pub table_is : None (fault_tests n faults) → IsTable n faults
  table_is t =
      record { dimension = dimension_is n (not-false _ t.0); sized = eqb-true _ _ (not-false _ t.1.0); unused = t.1.1.0 }

  pub table_taken : first (fault_tests n faults) ≡ 0 → IsTable n faults
  table_taken e = table_is (first_none 3 (fault_tests n faults) refl e)

  -- whatever would be answered
  pub table_accepted : {A : Type 0} (x y : A) → answered (first (fault_tests n faults)) x ≡ Ok y → IsTable n faults
  table_accepted x y e = table_taken (accepted _ x y e).0

  pub is_taken : IsTable n faults → first (fault_tests n faults) ≡ 0
  unfolding first is_dimension
  is_taken t =
      rw (le-leb 1 n t.dimension.0, le-leb n 12 t.dimension.1, eq-eqb (length faults) (table_len n) t.sized, t.unused)

-- ---- the bytes w are to be written

module _ (n : ℕ) (faults w : List ℕ) (room : ℕ) where
  -- the refusals of the table come first,
  pub table_first : first (fault_tests n faults) ≢ 0 → room_refusal n faults w room ≡ first (fault_tests n faults)
  unfolding room_refusal
  table_first h = first_stops (fault_tests n faults) (ltb room (length w) ⇒ 13 ∷ []) h

  -- and then the room decides
  room_then : IsTable n faults → room_refusal n faults w room ≡ cond (ltb room (length w)) 13 0
  unfolding room_refusal first
  room_then t = first_passes (fault_tests n faults) (ltb room (length w) ⇒ 13 ∷ []) (first_none 3 (fault_tests n faults) refl (is_taken n faults t))

  pub no_room : IsTable n faults → room < length w → room_refusal n faults w room ≡ 13
  no_room t h = room_then t ∙ rw (lt-ltb room (length w) h)

  pub has_room : IsTable n faults → length w ≤ room → room_refusal n faults w room ≡ 0
  has_room t h = room_then t ∙ rw (le-ltb room (length w) h)

  -- the answer, by the number
  pub wrote_refused : {k : ℕ} → room_refusal n faults w room ≡ k → k ≢ 0 → Err (refusal k) ≡ wrote_bytes n faults w room
  unfolding wrote_bytes
  wrote_refused {k = zero} e h = absurd (h refl)
  wrote_refused {k = suc k} e h = rw e

  pub wrote_length : room_refusal n faults w room ≡ 0 → Ok (length w) ≡ wrote_bytes n faults w room
  unfolding wrote_bytes
  wrote_length e = sym (accepts _ (length w) e)

  -- a table that is refused
  pub wrote_passed : {r : Refusal} → answered {A = Unit} (first (fault_tests n faults)) tt ≡ Err r → Err r ≡ wrote_bytes n faults w room
  unfolding wrote_bytes
  wrote_passed {r} e = rw (table_first (refusing _ _ _ e)) (sym (passed_on _ _ (length w) r e))

-- and the buffer
module _ (n : ℕ) (faults w out : List ℕ) where
  pub buffer_kept : {k : ℕ} → room_refusal n faults w (length out) ≡ k → k ≢ 0 → out ≡ after_bytes n faults w out
  unfolding after_bytes
  buffer_kept e h = rw (sym (wrote_refused n faults w (length out) e h))

  pub buffer_written : room_refusal n faults w (length out) ≡ 0 → over w out ≡ after_bytes n faults w out
  unfolding after_bytes
  buffer_written e = rw (sym (wrote_length n faults w (length out) e))

  pub buffer_passed : {r : Refusal} → answered {A = Unit} (first (fault_tests n faults)) tt ≡ Err r → out ≡ after_bytes n faults w out
  unfolding after_bytes
  buffer_passed e = rw (sym (wrote_passed n faults w (length out) e))
