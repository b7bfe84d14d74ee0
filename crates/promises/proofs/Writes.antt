-- Writing a notice, of any library that is faithful to the definitions: what was written is the notice of the table over the front of the buffer, so it reads
-- back; and what an accepted notice gave is spelled as the bytes that it took.
use Rattle.std.specs.Prelude.{Ok}
use mathlib.Core.List.{List, ◌++◌}
use mathlib.Core.Path.{◌≡◌, sym, ap, subst, ◌∙◌}
use Prim.Native.Nat.{ℕ}
use native.Mathlib.Omega.{arith}
use lib.ListN.{drop, length, take, take-append-drop}
use lib.Seq.{length-take-le}
use Rattle.notice.proofs.Laws.{notice_laws}
use Rattle.spelling.specs.Laws.{Bytes, IsTable, ReadsBack}
use Rattle.spelling.specs.Spelled.{notice_bytes}
use Rattle.spelling.proofs.Laws.{spelling_laws}
use Rattle.writer.proofs.Outcomes.{notice_few, room_enough}
use Rattle.writer.proofs.Refusal.{has_room, no_room, wrote_length, wrote_refused}
use Rattle.promises.specs.Library.{Library, rattle, c}
use Rattle.promises.specs.Refusals.{TableLength, WriteGiven}
use Rattle.promises.specs.Writes.{Writes}
use Rattle.promises.proofs.Given.{table_length}
use Rattle.promises.proofs.Library.{Faithful, rattle_faithful, c_faithful}
use Rattle.promises.proofs.Refusals.{refusals}
use Rattle.promises.proofs.Written.{Put, behind, front, kept, number_is, put, sized}
use Rattle.cube.specs.Refused.{number, refused}
use Rattle.notice.specs.Notice.{a_notice}

module _ (lib : Library) (F : Faithful lib) where
  -- ---- what was written

  module _ {n len : ℕ} {faults before after : List ℕ} (m : lib.writes n faults before (Ok len) after) where
    notice : Put n faults (notice_bytes n faults) before after len
    notice = put (F.writes m)

    -- bytes that begin as those that were written read back
    back : (bytes : List ℕ) → take len bytes ≡ take len after → ReadsBack n faults bytes len
    back bytes same =
        let whole : notice_bytes n faults ++ drop len bytes ≡ bytes =
        ap (λ (w : List ℕ). w ++ drop len bytes) (sym (same ∙ front notice)) ∙ take-append-drop len bytes in
        subst (λ (s : List ℕ). ReadsBack n faults s len) whole
        (subst (ReadsBack n faults (notice_bytes n faults ++ drop len bytes)) notice.long
        (spelling_laws.reads_back n faults (drop len bytes) notice.table))

    as_long : (old : List ℕ) → TableLength n (length old) → length old ≡ length faults
    as_long old t = table_length n (length old) t ∙ sym notice.table.sized

  -- ---- what was read, written again

  module _
      {n m taken : ℕ} {bytes old faults : List ℕ} (b : Bytes bytes) (r : lib.reads bytes old (a_notice n m taken) faults) where
    again : notice_bytes n faults ≡ take taken bytes
    again =
        let f = F.reads r in
        ap (notice_bytes n) f.1 ∙ spelling_laws.spelled bytes old n m taken b (sym f.0)

    again_long : length (notice_bytes n faults) ≡ taken
    again_long =
        let f = F.reads r in
        ap length again ∙ length-take-le taken bytes (notice_laws.accepted bytes old n m taken (sym f.0)).within

    again_table : IsTable n faults
    again_table =
        let f = F.reads r in
        subst (IsTable n) (sym f.1) (spelling_laws.is_table bytes old n m taken (sym f.0))

  -- ---- all of it

  pub writes : Writes lib
  writes =
      record {
        refusal = λ {n} {faults} {before} {after} {x} m.
            subst (λ y. WriteGiven n faults (length before) (refused y)) (sym (F.writes m).0) (refusals.writing n faults (length before));
        kept = λ {n} {r} {faults} {before} m. kept n faults (notice_bytes n faults) before (F.writes m);
        behind = λ m. behind (notice m);
        within = λ m. ((notice m).room, sized (notice m));
        reads_back = λ {n} {len} {faults} {before} {after} {bytes} {old} m same t r. (F.reads r).0 ∙ (back m bytes same).answer old (as_long m old t);
        table_back = λ {n} {len} {faults} {before} {after} {bytes} {old} m same t r b. (F.reads r).1 ∙ (back m bytes same).table old (as_long m old t) b;
        writes_back = λ {n} {m} {taken} {bytes} {old} {faults} {before} {after} b r w h.
            let z = has_room n faults (notice_bytes n faults) (length before) (again_table b r) (omega (arith, again_long b r)) in
            let x = (F.writes w).0 ∙ sym (wrote_length n faults (notice_bytes n faults) (length before) z) ∙ ap Ok (again_long b r) in
            (x, front (notice (subst (λ y. lib.writes n faults before y after) x w)) ∙ again b r);
        no_room = λ {n} {m} {taken} {bytes} {old} {faults} {before} b r w h.
            let z = no_room n faults (notice_bytes n faults) (length before) (again_table b r) (omega (arith, again_long b r)) in
            (F.writes w).0 ∙ sym (wrote_refused n faults (notice_bytes n faults) (length before) z (λ e. omega arith));
        one_notice = λ {n} {m} {m'} {taken} {taken'} {bytes} {bytes'} {old} {old'} {faults} b b' r r'. sym (again b r) ∙ again b' r';
        short = λ {n} {len} {faults} m. let p = notice m in omega (arith, p.long, spelling_laws.short n faults p.table);
        enough = λ {n} {r} {faults} {before} m h e.
            room_enough n faults (notice_bytes n faults) (length before) (λ t. omega (arith, spelling_laws.short n faults t, h))
            (number_is n faults (notice_bytes n faults) before (F.writes m) ∙ ap number e);
        enough_for_all = λ {n} {r} {faults} {before} m h e.
            room_enough n faults (notice_bytes n faults) (length before) (λ t. omega (arith, notice_few n faults t, h))
            (number_is n faults (notice_bytes n faults) before (F.writes m) ∙ ap number e);
      }

pub rattle_writes : Writes rattle
rattle_writes = writes rattle rattle_faithful

pub c_writes : Writes c
c_writes = writes c c_faithful
