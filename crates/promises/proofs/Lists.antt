-- List text, of any library that is faithful to the definitions: a text that is taken makes the table of the nodes that it names, what was written is the text
-- of the table over the front of the buffer, and so reads back.
use Rattle.std.specs.Prelude.{Ok}
use mathlib.Core.List.{List}
use mathlib.Core.Logic.{⊎_elim}
use mathlib.Core.Bool.{true, false}
use mathlib.Core.Path.{◌≡◌, sym, ap, subst, ◌∙◌}
use Prim.Native.Nat.{ℕ, ◌^◌, ◌≤◌, ◌<◌}
use native.Mathlib.Omega.{arith}
use lib.Dec.{ltb}
use lib.ListN.{length, take}
use borrow.Author.Tests.{ltb-false, ltb-true}
use Rattle.cube.specs.Tables.{node_bit}
use Rattle.cube.proofs.Bools.{clash, either}
use Rattle.ranges.specs.Grammar.{named, named_table}
use Rattle.ranges.specs.Written.{list_text}
use Rattle.ranges.proofs.Laws.{ranges_laws}
use Rattle.spelling.specs.Laws.{Bytes, IsTable}
use Rattle.writer.proofs.Outcomes.{room_enough}
use Rattle.writer.proofs.Refusal.{has_room, wrote_length}
use Rattle.list_reader.specs.Reading.{list_refusal, list_table}
use Rattle.list_reader.proofs.Outcomes.{Accepted, accepted, nothing_wrong, table_kept, table_read}
use Rattle.promises.specs.Library.{Library, rattle, c}
use Rattle.promises.specs.Lists.{Lists}
use Rattle.promises.specs.Refusals.{ReadListGiven, TableLength, WriteListGiven}
use Rattle.promises.proofs.Given.{table_length}
use Rattle.promises.proofs.Library.{Faithful, rattle_faithful, c_faithful}
use Rattle.promises.proofs.Refusals.{refusals}
use Rattle.promises.proofs.Written.{Put, behind, front, kept, number_is, put, sized}
use Rattle.cube.specs.Refused.{number, refused}

module _ (lib : Library) (F : Faithful lib) where
  -- ---- what was read

  module _ {n : ℕ} {text before after : List ℕ} (m : lib.reads_list n text before 0 after) where
    good : Accepted n text before
    good = accepted n text before (sym (F.reads_list m).0)

    table_is : after ≡ named_table n text
    table_is = (F.reads_list m).1 ∙ sym (table_read n text before (sym (F.reads_list m).0))

    is_table : IsTable n after
    is_table = subst (IsTable n) (sym table_is) (ranges_laws.is_table n text good.dimension.0 good.dimension.1)

    is_bytes : Bytes after
    is_bytes = subst Bytes (sym table_is) (ranges_laws.table_bytes n text)

    none_beyond : (k : ℕ) → named text k ≡ true → k < 2 ^ n
    none_beyond k e =
        ⊎_elim (λ (l : ltb k (2 ^ n) ≡ true). ltb-true k (2 ^ n) l)
        (λ (l : ltb k (2 ^ n) ≡ false).
        absurd (clash ((ranges_laws.beyond (2 ^ n) text good.rules).1 (k, ltb-false k (2 ^ n) l, e)) good.near))
        (either (ltb k (2 ^ n)))

    -- its own text is not longer
    no_longer : length (list_text n after) ≤ length text
    no_longer = omega (arith, ap (λ (t : List ℕ). length (list_text n t)) table_is, ranges_laws.shortest n text good.rules good.near)

  -- ---- what was written

  module _ {n len : ℕ} {faults before after : List ℕ} (m : lib.writes_list n faults before (Ok len) after) where
    text : Put n faults (list_text n faults) before after len
    text = put (F.writes_list m)

    back : {k : ℕ} {old table : List ℕ} → TableLength n (length old) → lib.reads_list n (take len after) old k table → Bytes faults
        → (k ≡ 0) × (table ≡ faults)
    back {k} {old} {table} t r b =
        let s : List ℕ = list_text n faults in
        let f = F.reads_list r in
        let e : take len after ≡ s = front text in
        let d = text.table.dimension in
        let z = nothing_wrong n s old d (table_length n (length old) t) (ranges_laws.keeps_rules n faults) (ranges_laws.within n faults) in (
          f.0 ∙ ap (λ (u : List ℕ). list_refusal n u old) e ∙ z,
          f.1 ∙ ap (λ (u : List ℕ). list_table n u old) e ∙ sym (table_read n s old z) ∙ ranges_laws.reads_back n faults text.table b,
        )

  -- ---- all of it

  pub lists : Lists lib
  lists =
      record {
        read_refusal = λ {n} {k} {text} {before} m.
            subst (ReadListGiven n text (length before)) (sym (F.reads_list m).0) (refusals.list_reading n text before);
        read_kept = λ {n} {k} {text} {before} m d.
            (F.reads_list m).1 ∙ sym (table_kept n text before (sym (F.reads_list m).0) d);
        union = λ {n} {k} {text} m h. ap (λ (t : List ℕ). node_bit t k) (table_is m) ∙ ranges_laws.table_named n text k h;
        table = λ m. (is_table m, is_bytes m);
        overwritten = λ m m'. table_is m ∙ sym (table_is m');
        accepted = λ {n} {k} {text} m. ((ranges_laws.grammar text).0 (good m).rules, none_beyond m k);
        write_refusal = λ {n} {faults} {before} {after} {x} m.
            subst (λ y. WriteListGiven n faults (length before) (refused y)) (sym (F.writes_list m).0) (refusals.list_writing n faults (length before));
        write_kept = λ {n} {r} {faults} {before} m. kept n faults (list_text n faults) before (F.writes_list m);
        text = λ m. front (text m);
        behind = λ m. behind (text m);
        within = λ m. ((text m).room, sized (text m));
        reads_back = λ m t r b. back m t r b;
        writes_back = λ {n} {text} {old} {faults} {before} {after} {x} r w h.
            let s : List ℕ = list_text n faults in
            let z = has_room n faults s (length before) (is_table r) (omega (arith, h, no_longer r)) in
            (length s, (F.writes_list w).0 ∙ sym (wrote_length n faults s (length before) z), no_longer r);
        short = λ {n} {len} {faults} m. let p = text m in omega (arith, p.long, ranges_laws.short n faults p.table.dimension.1);
        enough = λ {n} {r} {faults} {before} m h e.
            room_enough n faults (list_text n faults) (length before) (λ t. omega (arith, ranges_laws.short n faults t.dimension.1, h))
            (number_is n faults (list_text n faults) before (F.writes_list m) ∙ ap number e);
      }

pub rattle_lists : Lists rattle
rattle_lists = lists rattle rattle_faithful

pub c_lists : Lists c
c_lists = lists c c_faithful
