-- `write` knows the length before it writes: the table is one that is taken, and the notice has room.
use mathlib.Core.Path.{◌≡◌, sym, ap, ◌∙◌}
use Prim.Native.Nat.{ℕ, ◌≤◌}
use native.Mathlib.Omega.{arith}
use lib.ListN.{length}
use Rattle.std.proofs.Common.{rules}
use Rattle.cube.specs.Over.{over}
use Rattle.cube.proofs.Refused.{passes}
use Rattle.writer.specs.Writing.{after_bytes}
use Rattle.spelling.specs.Laws.{IsTable}
use Rattle.spelling.specs.Spelled.{notice_bytes}
use Rattle.std.specs.Prelude.{Ok}
use Rattle.writer.proofs.Passes.{few_groups}
use Rattle.writer.proofs.Parts.{Sized, addresses_few, addresses_fit, all_written, count_few, counted, first_room, second_room, third_room}
use Rattle.writer.proofs.Refusal.{buffer_kept, buffer_passed, buffer_written, has_room, no_room, table_accepted, wrote_length, wrote_passed, wrote_refused}
use Rattle.writer.proofs.write.Goals as goal
use Rattle.writer.proofs.write.Goals.{After-put_addresses-count, After-put_number-2, Else-out-length, In_ok-table_refusal}

table : (c : In_ok-table_refusal) → IsTable c.args.n c.args.faults.now
table c = table_accepted _ _ _ _ (sym c.table_refusal.ensures ∙ c.in_ok-table_refusal.was)

sized : (c : After-put_addresses-count) → Sized c.args.n c.args.faults.now c.put_addresses-count.result
sized c =
    record { small = (table_accepted _ _ _ _ (sym c.table_refusal.ensures ∙ c.in_ok-table_refusal.was)).dimension.1; counted = c.put_addresses-count.ensures.count }

pub returns-in_err-table_refusal : goal.returns-in_err-table_refusal
returns-in_err-table_refusal c =
    let a = c.args in
    let w = notice_bytes a.n a.faults.now in
    let e = sym c.table_refusal.ensures ∙ c.in_err-table_refusal.was in
    record {
      answer = passes _ c.from_residual.ensures ∙ wrote_passed a.n a.faults.now w (length a.out.now) e;
      buffer = buffer_passed a.n a.faults.now w a.out.now e;
    }

pub nodes-requires : goal.nodes-requires
nodes-requires c = omega (arith, (table (goal.at.nodes-requires c).In_ok-table_refusal).dimension.1)

pub invariant_of-faulty-clause-small : goal.invariant_of-faulty-clause-small
invariant_of-faulty-clause-small c = (table (goal.at.invariant_of-faulty-clause-small c).In_ok-table_refusal).dimension.1

pub invariant_of-faulty-clause-sized : goal.invariant_of-faulty-clause-sized
invariant_of-faulty-clause-sized c = (table (goal.at.invariant_of-faulty-clause-sized c).In_ok-table_refusal).sized

pub put_addresses-count-requires : goal.put_addresses-count-requires
put_addresses-count-requires c =
    omega (arith, addresses_fit c.args.faults.now (table (goal.at.put_addresses-count-requires c).In_ok-table_refusal).dimension.1)

pub put_number-requires : goal.put_number-requires
put_number-requires c =
    let s = sized (goal.at.put_number-requires c).After-put_addresses-count in
    (omega (arith, s.small), omega (arith, few_groups c.args.n, addresses_few s, c.put_addresses-count.ensures.bytes.counted))

pub put_number-requires-2 : goal.put_number-requires-2
put_number-requires-2 c =
    let s = sized (goal.at.put_number-requires-2 c).After-put_addresses-count in (
      omega (arith, count_few s),
      omega (
        arith,
        few_groups c.args.n,
        few_groups c.put_addresses-count.result,
        addresses_few s,
        c.put_addresses-count.ensures.bytes.counted,
        c.put_number.ensures.counted,
      ),
    )

-- what was counted is the notice's length
long : (c : After-put_number-2) → c.put_number-2.new.sink.bytes ≡ length (notice_bytes c.args.n c.args.faults.now)
long c =
    let t = table_accepted _ _ _ _ (sym c.table_refusal.ensures ∙ c.in_ok-table_refusal.was) in
    counted (record { small = t.dimension.1; counted = c.put_addresses-count.ensures.count }) c.put_addresses-count.ensures.bytes c.put_number.ensures c.put_number-2.ensures

pub returns-then-out-length : goal.returns-then-out-length
returns-then-out-length c =
    let p = goal.at.returns-then-out-length c in
    let a = c.args in
    let w = notice_bytes a.n a.faults.now in
    let k = no_room a.n a.faults.now w (length a.out.now) (table p.In_ok-table_refusal) (omega (arith, long p.After-put_number-2, c.if-out-length.true)) in
    record {
      answer = wrote_refused a.n a.faults.now w (length a.out.now) k (λ z. omega arith);
      buffer = buffer_kept a.n a.faults.now w a.out.now k (λ z. omega arith);
    }

-- so the notice has room
room : (c : Else-out-length) {k : ℕ} → c.put_number-2.new.sink.bytes ≡ k → k ≤ length c.args.out.now
room c l = omega (arith, l, c.if-out-length.false)

pub put_number-requires-3 : goal.put_number-requires-3
put_number-requires-3 c =
    let p = goal.at.put_number-requires-3 c in
    let s = sized p.After-put_addresses-count in
    (omega (arith, s.small), first_room s c.args.out.now (room p.Else-out-length (long p.After-put_number-2)))

pub put_number-requires-4 : goal.put_number-requires-4
put_number-requires-4 c =
    let p = goal.at.put_number-requires-4 c in
    let s = sized p.After-put_addresses-count in
    (omega (arith, count_few s), second_room s c.args.out.now (room p.Else-out-length (long p.After-put_number-2)) c.put_number-3.ensures.0)

pub put_addresses-requires : goal.put_addresses-requires
put_addresses-requires c =
    let p = goal.at.put_addresses-requires c in
    third_room (sized p.After-put_addresses-count) c.args.out.now (room p.Else-out-length (long p.After-put_number-2)) c.put_number-3.ensures.0 c.put_number-4.ensures.0

pub returns : goal.returns
returns c =
    let a = c.args in
    let w = notice_bytes a.n a.faults.now in
    let p = goal.at.returns c in
    let k = has_room a.n a.faults.now w (length a.out.now) (table p.In_ok-table_refusal) (room p.Else-out-length (long p.After-put_number-2)) in
    let all : c.put_addresses.new.sink.out.now ≡ over w a.out.now =
    all_written (sized p.After-put_addresses-count) a.out.now (room p.Else-out-length (long p.After-put_number-2)) c.put_number-3.ensures.0 c.put_number-4.ensures.0 c.put_addresses.ensures.bytes.0 in
    let whole : c.put_addresses.new.sink.out.now ≡ after_bytes a.n a.faults.now w a.out.now = all ∙ buffer_written a.n a.faults.now w a.out.now k in
    let same = sym (c.put_addresses.ensures.bytes.1 ∙ c.put_number-4.ensures.1 ∙ c.put_number-3.ensures.1) in
    record {
      answer = ap Ok (long p.After-put_number-2) ∙ wrote_length a.n a.faults.now w (length a.out.now) k;
      buffer = search rules;
    }
