-- What writing the bytes w for a table leaves of a buffer, whatever w is: accepted, they are the front of it and the rest is as it was; refused, all is.
use Rattle.std.specs.Prelude.{Ok, Err}
use mathlib.Core.List.{List}
use mathlib.Core.Path.{◌≡◌, sym, ap, ◌∙◌}
use Prim.Native.Nat.{ℕ, ◌≤◌}
use native.Mathlib.Omega.{arith}
use lib.ListN.{drop, length, take}
use lib.Seq.{drop_at, take_at}
use Rattle.cube.specs.Over.{over}
use Rattle.cube.proofs.Over.{length_over, over_front}
use Rattle.spelling.specs.Laws.{IsTable}
use Rattle.writer.specs.Writing as T
use Rattle.writer.specs.Writing.{Wrote}
use Rattle.writer.proofs.Outcomes.{given_is, given_some, length_is, none_given, taken}
use Rattle.writer.proofs.Refusal.{buffer_kept, buffer_written}
use Rattle.cube.specs.declared.refusals.Refusal.{Refusal}
use Rattle.cube.specs.Refused.{number}

-- what a function that is faithful to the definitions answers and leaves
abbrev pub Does : (n : ℕ) (faults w before : List ℕ) (x : Wrote) (after : List ℕ) → Type 0
Does n faults w before x after = (x ≡ T.wrote_bytes n faults w (length before)) × (after ≡ T.after_bytes n faults w before)

pub record Put (n : ℕ) (faults w before after : List ℕ) (len : ℕ) : Type 0 where
  pub table : IsTable n faults
  pub long : length w ≡ len
  pub room : len ≤ length before
  pub bytes : after ≡ over w before

module _ {n : ℕ} {faults w before after : List ℕ} where
  pub put : {len : ℕ} → Does n faults w before (Ok len) after → Put n faults w before after len
  put f =
      let e = sym f.0 in
      let z = none_given n faults w (length before) e in
      let t = taken n faults w (length before) z in
      let l = length_is n faults w (length before) e in
      record { table = t.0; long = sym l; room = omega (arith, l, t.1); bytes = f.1 ∙ sym (buffer_written n faults w before z) }

  module _ {len : ℕ} (p : Put n faults w before after len) where
    pub front : take len after ≡ w
    unfolding over
    front = ap (take len) p.bytes ∙ take_at w (drop (length w) before) len p.long

    pub behind : drop len after ≡ drop len before
    unfolding over
    behind = ap (drop len) p.bytes ∙ drop_at w (drop (length w) before) len p.long ∙ ap (λ (k : ℕ). drop k before) p.long

    pub sized : length after ≡ length before
    sized = ap length (p.bytes ∙ sym (over_front w before)) ∙ length_over 0 w before (omega (arith, p.long, p.room))

module _ (n : ℕ) (faults w before : List ℕ) {after : List ℕ} {r : Refusal} (f : Does n faults w before (Err r) after) where
  pub number_is : T.room_refusal n faults w (length before) ≡ number r
  number_is = given_is n faults w (length before) (sym f.0)

  pub kept : after ≡ before
  kept = f.1 ∙ sym (buffer_kept n faults w before number_is (given_some n faults w (length before) (sym f.0)))
