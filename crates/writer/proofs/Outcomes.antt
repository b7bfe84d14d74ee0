-- An answer of writing, taken apart: a length is that of the bytes w of a table that is taken, and there was room for them; a refusal is the number given.
use mathlib.Core.List.{List, [], ◌∷◌, ◌++◌}
use mathlib.Core.Bool.{true, false}
use mathlib.Core.Logic.{⊎_elim, ◌≢◌}
use mathlib.Core.Path.{◌≡◌, refl, sym, ap, ◌∙◌}
use Prim.Native.Nat.{ℕ, ◌≤◌}
use native.Mathlib.Omega.{arith}
use lib.Dec.{eqb, ltb}
use lib.ListN.{length}
use borrow.Author.Tests.{eqb-false, eqb-true, ltb-false}
use Rattle.std.specs.Prelude.{Ok, Err}
use Rattle.cube.specs.declared.refusals.Refusal.{Refusal}
use Rattle.cube.specs.Refusal.{first, ◌⇒◌}
use Rattle.cube.specs.Refused.{number}
use Rattle.cube.proofs.Bools.{either}
use Rattle.cube.proofs.Refusal.{first_le, first_none}
use Rattle.cube.proofs.Refused.{number_range, refused_is}
use Rattle.cube.proofs.Tables.{nodes_few}
use Rattle.spelling.specs.Laws.{IsTable}
use Rattle.spelling.specs.Spelled.{notice_bytes}
use Rattle.spelling.proofs.Laws.{spelling_laws}
use Rattle.writer.specs.Writing.{length_of, refusal_of, fault_tests, room_refusal, wrote_bytes}
use Rattle.writer.proofs.Refusal.{has_room, table_first, table_is, table_taken, wrote_length}

module _ (n : ℕ) (faults w : List ℕ) (room : ℕ) where
  refusal_few : room_refusal n faults w room ≤ 13
  unfolding room_refusal
  refusal_few = first_le 13 (fault_tests n faults ++ ltb room (length w) ⇒ 13 ∷ []) refl

  pub refusal_is : refusal_of (wrote_bytes n faults w room) ≡ room_refusal n faults w room
  unfolding wrote_bytes
  refusal_is = refused_is _ (length w) (omega (arith, refusal_few))

  -- nothing is refused
  pub taken : room_refusal n faults w room ≡ 0 → IsTable n faults × (length w ≤ room)
  unfolding room_refusal
  taken e =
      let t = first_none 13 (fault_tests n faults ++ ltb room (length w) ⇒ 13 ∷ []) refl e in
      (table_is n faults (t.0, (t.1.0, (t.1.1.0, tt))), ltb-false room (length w) t.1.1.1.0)

  -- where w has room, the buffer is not too short
  pub room_enough : (IsTable n faults → length w ≤ room) → room_refusal n faults w room ≢ 13
  room_enough h e =
      ⊎_elim
      (λ (z : eqb (first (fault_tests n faults)) 0 ≡ true).
      let t = table_taken n faults (eqb-true _ 0 z) in
      omega (arith, e, has_room n faults w room t (h t)))
      (λ (z : eqb (first (fault_tests n faults)) 0 ≡ false).
      omega (arith, e, table_first n faults w room (eqb-false _ 0 z), first_le 3 (fault_tests n faults) refl))
      (either (eqb (first (fault_tests n faults)) 0))

  module _ {len : ℕ} (e : wrote_bytes n faults w room ≡ Ok len) where
    pub none_given : room_refusal n faults w room ≡ 0
    none_given = sym refusal_is ∙ ap refusal_of e

    pub length_is : len ≡ length w
    length_is = ap length_of (sym e ∙ sym (wrote_length n faults w room none_given))

    pub length_few : {top : ℕ} → (IsTable n faults → length w ≤ top) → len ≤ top
    length_few h = omega (arith, length_is, h (taken none_given).0)

  module _ {r : Refusal} (e : wrote_bytes n faults w room ≡ Err r) where
    pub given_is : room_refusal n faults w room ≡ number r
    given_is = sym refusal_is ∙ ap refusal_of e

    pub given_few : number r ≤ 13
    given_few = omega (arith, given_is, refusal_few)

    pub given_some : number r ≢ 0
    given_some z = omega (arith, (number_range r).0)

-- a notice has at most 4,099 bytes
pub notice_few : (n : ℕ) (faults : List ℕ) → IsTable n faults → length (notice_bytes n faults) ≤ 4099
notice_few n faults t = omega (arith, spelling_laws.short n faults t, nodes_few n t.dimension.1)
