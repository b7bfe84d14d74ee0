-- `write` knows the length before it writes: the table is one that is taken, and the text has room.
use mathlib.Core.Path.{◌≡◌, sym, ap, ◌∙◌}
use Prim.Native.Nat.{◌≤◌}
use native.Mathlib.Omega.{arith}
use lib.ListN.{length}
use Rattle.cube.proofs.Refused.{passes}
use Rattle.ranges.specs.Written.{list_text}
use Rattle.spelling.specs.Laws.{IsTable}
use Rattle.std.specs.Prelude.{Ok}
use Rattle.std.proofs.Common.{rules}
use Rattle.cube.proofs.Over.{over_front}
use Rattle.ranges.proofs.Laws.{ranges_laws}
use Rattle.writer.specs.Writing.{after_bytes}
use Rattle.writer.proofs.Refusal.{buffer_kept, buffer_passed, buffer_written, has_room, no_room, table_accepted, wrote_length, wrote_passed, wrote_refused}
use Rattle.list_writer.proofs.write.Goals as goal
use Rattle.list_writer.proofs.write.Goals.{Else-out-length, In_ok-table_refusal}

table : (c : In_ok-table_refusal) → IsTable c.args.n c.args.faults.now
table c = table_accepted _ _ _ _ (sym c.table_refusal.ensures ∙ c.in_ok-table_refusal.was)

-- it has room
room : (c : Else-out-length) → length (list_text c.args.n c.args.faults.now) ≤ length c.args.out.now
room c = omega (arith, c.put_list.ensures.counted, c.if-out-length.false)

pub returns-in_err-table_refusal : goal.returns-in_err-table_refusal
returns-in_err-table_refusal c =
    let a = c.args in
    let w = list_text a.n a.faults.now in
    let e = sym c.table_refusal.ensures ∙ c.in_err-table_refusal.was in
    record {
      answer = passes _ c.from_residual.ensures ∙ wrote_passed a.n a.faults.now w (length a.out.now) e;
      buffer = buffer_passed a.n a.faults.now w a.out.now e;
    }

pub nodes-requires : goal.nodes-requires
nodes-requires c = omega (arith, (table (goal.at.nodes-requires c).In_ok-table_refusal).dimension.1)

pub invariant_of-faulty-clause-small : goal.invariant_of-faulty-clause-small
invariant_of-faulty-clause-small c = (table (goal.at.invariant_of-faulty-clause-small c).In_ok-table_refusal).dimension.1

pub invariant_of-faulty-clause-sized : goal.invariant_of-faulty-clause-sized
invariant_of-faulty-clause-sized c = (table (goal.at.invariant_of-faulty-clause-sized c).In_ok-table_refusal).sized

pub put_list-requires : goal.put_list-requires
put_list-requires c =
    omega (arith, ranges_laws.short c.args.n c.args.faults.now (table (goal.at.put_list-requires c).In_ok-table_refusal).dimension.1)

pub returns-then-out-length : goal.returns-then-out-length
returns-then-out-length c =
    let p = goal.at.returns-then-out-length c in
    let a = c.args in
    let w = list_text a.n a.faults.now in
    let t = table p.In_ok-table_refusal in
    let k = no_room a.n a.faults.now w (length a.out.now) t (omega (arith, c.put_list.ensures.counted, c.if-out-length.true)) in
    record {
      answer = wrote_refused a.n a.faults.now w (length a.out.now) k (λ z. omega arith);
      buffer = buffer_kept a.n a.faults.now w a.out.now k (λ z. omega arith);
    }

pub put_list-requires-2 : goal.put_list-requires-2
put_list-requires-2 c = omega (arith, room (goal.at.put_list-requires-2 c).Else-out-length)

pub returns : goal.returns
returns c =
    let a = c.args in
    let w = list_text a.n a.faults.now in
    let p = goal.at.returns c in
    let k = has_room a.n a.faults.now w (length a.out.now) (table p.In_ok-table_refusal) (room p.Else-out-length) in
    let whole : c.put_list-2.new.sink.out.now ≡ after_bytes a.n a.faults.now w a.out.now =
    c.put_list-2.ensures.0.bytes
    ∙ over_front _ a.out.now
    ∙ buffer_written a.n a.faults.now w a.out.now k in
    let same = sym c.put_list-2.ensures.1 in
    record {
      answer = ap Ok (omega (arith, c.put_list.ensures.counted)) ∙ wrote_length a.n a.faults.now w (length a.out.now) k;
      buffer = search rules;
    }
