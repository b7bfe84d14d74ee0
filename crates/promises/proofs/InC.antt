-- Each number is that of the library's own answer; and where C takes no refusal out of it, the row was written.
use Rattle.std.specs.Prelude.{Result, Ok, Err}
use mathlib.Core.Bool.{true}
use mathlib.Core.List.{List}
use mathlib.Core.Logic.{◌≢◌, inl}
use mathlib.Core.Path.{◌≡◌, refl, sym, ap, ◌∙◌}
use Prim.Native.Nat.{ℕ, ◌+◌, ◌*◌, ◌/◌, ◌%◌, ◌<◌}
use native.Mathlib.Omega.{arith}
use lib.Dec.{eqb}
use lib.ListN.{get_or, length}
use Rattle.cube.specs.Allowed.{May}
use Rattle.cube.specs.Tables.{tab}
use Rattle.jobs.specs.Jobs.{label_for}
use Rattle.cube.proofs.Bools.{by_cases}
use Rattle.cube.proofs.Contracts.{told}
use Rattle.cube.proofs.Front.{get_d_tab, length_tab}
use Rattle.notice.proofs.Functions as notice
use Rattle.notice.proofs.Laws.{notice_laws}
use Rattle.labels.proofs.Functions as labels
use Rattle.hop.proofs.Functions as hop
use Rattle.groups.specs.Number.{Number}
use Rattle.notice.specs.Notice.{dimension_at}
use Rattle.notice.specs.Notice.{Noticed}
use Rattle.walk.specs.declared.Ending.TheVariants as ending
use Rattle.walk.specs.Walk as W
use Rattle.walk.specs.declared.Ending.{Ending}
use Rattle.walk.specs.declared.Walked.{Walked}
use Rattle.walk.proofs.Functions as walk
use Rattle.walk.proofs.Refusals.{hops_few}
use Rattle.hop_networks.proofs.Functions as hop_networks
use Rattle.walk_networks.proofs.Functions as walk_networks
use Rattle.theorems.specs.Words.{place}
use Rattle.causes.specs.declared.Cause.TheVariants as cause
use Rattle.why.specs.declared.HopReason.{HopReason}
use Rattle.why.specs.declared.NodeReason.{NodeReason}
use Rattle.why.specs.declared.NodeReason.TheVariants as because
use Rattle.why.proofs.Functions as why
use Rattle.writer.specs.Writing.{Wrote}
use Rattle.writer.proofs.Functions as writer
use Rattle.list_reader.proofs.Functions as list_reader
use Rattle.list_reader.proofs.Outcomes as reading
use Rattle.list_writer.proofs.Functions as list_writer
use Rattle.repair.proofs.Functions as repair
use Rattle.repair.proofs.Outcomes as repairing
use Rattle.hcube.specs.Answers.{
  crossed_number,
  dimension_number,
  has_row,
  hop_number,
  hop_reason_number,
  label_number,
  done_number,
  node_reason_number,
  notice_number,
  row_after,
  row_byte,
  walk_number,
  walked_by,
  written_number,
}
use Rattle.hcube.specs.Decoded.{ending_from, kind_part, node_at, refusal_part, value_part, walked_from}
use Rattle.hcube.proofs.Decoded.{high_byte, low_byte}
use Rattle.hcube.proofs.Functions as hcube
use Rattle.hcube.proofs.Small.{row_fits, written}
use Rattle.promises.specs.InC.{InC, node_number}
use Rattle.promises.proofs.Demands.{c_demands, rattle_demands}
use Rattle.promises.proofs.Library.{c_faithful, done_is}
use Rattle.promises.proofs.RowPlaces.{places, within_hops}
use Rattle.promises.proofs.Numbers.{crossed-in-number, hop-in-number}
use Rattle.cube.specs.declared.refusals.Refusal.{Refusal}
use Rattle.cube.specs.Refused.{refused, number}
use Rattle.hop.specs.declared.Decision.{Decision}

-- ---- the number of the library's own answer

label_same : {n rule j r : ℕ} {x : Result ℕ Refusal} {faults draining closed before after after' : List ℕ}
    → May hcube.label (n, rule, j, faults, draining, closed, before) r after
    → May labels.label (n, rule, j, faults, draining, closed, before) x after' → r ≡ label_number x
label_same m v = (told hcube.label_says m).0 ∙ ap label_number (sym (told labels.label_says v).0)

hop_same : {n j c d r : ℕ} {x : Result Decision Refusal} {buffer : List ℕ} → May hcube.hop (n, j, c, d, buffer) r tt → May hop.hop (n, j, c, d, buffer) x tt → r ≡ hop_number x
hop_same m v = (told hcube.hop_says m).0 ∙ ap hop_number (sym (told hop.hop_says v).0)

why_hop_same : {n j c d r : ℕ} {x : Result HopReason Refusal} {buffer : List ℕ} → May hcube.why-hop (n, j, c, d, buffer) r tt → May why.why-hop (n, j, c, d, buffer) x tt
    → r ≡ hop_reason_number x
why_hop_same m v = (told hcube.why_hop_says m).0 ∙ ap hop_reason_number (sym (told why.why_hop_says v).0)

node-number : (a : Result NodeReason Refusal) → node_reason_number a ≡ node_number a
node-number (Ok (because.Safe a b)) = omega arith
node-number (Ok (because.Unsafe l q (cause.Faulty a b))) = omega arith
node-number (Ok (because.Unsafe l q (cause.Two a b))) = omega arith
node-number (Ok (because.Unsafe l q (cause.Three a b c))) = omega arith
node-number (Ok (because.Out l)) = omega arith
node-number (Err k) = omega arith

walk_same : {n j s d r : ℕ} {buffer before after : List ℕ} {w : Walked} → May hcube.walk (n, j, s, d, buffer, before) r after
    → May walk.walk-for (n, j, s, d, buffer, length before) w tt → (r ≡ walk_number w) × (after ≡ row_after w before)
walk_same {before = before} m v =
    let t = told hcube.walk_says m in
    let e = sym (told walk.walk_for_says v).0 in
    (t.0 ∙ ap walk_number e, t.1 ∙ ap (λ (u : Walked). row_after u before) e)

notice_same : {r : ℕ} {x : Noticed} {bytes before after after' : List ℕ} → May hcube.read_notice (bytes, before) r after
    → May notice.read (bytes, before) x after' → r ≡ notice_number x
notice_same m v = (told hcube.read_notice_says m).0 ∙ ap notice_number (sym (told notice.read_says v).0)

dimension_same : {r : ℕ} {x : Number} {bytes : List ℕ} → May hcube.notice_dimension bytes r tt → May notice.dimension bytes x tt
    → (r ≡ dimension_number x) × (dimension_at bytes ≡ x)
dimension_same m v = let e = sym (told notice.dimension_says v).0 in ((told hcube.notice_dimension_says m).0 ∙ ap dimension_number e, e)

written_same : {n r : ℕ} {x : Wrote} {faults before after after' : List ℕ} → May hcube.write_notice (n, faults, before) r after
    → May writer.write (n, faults, before) x after' → r ≡ written_number x
written_same m v = (told hcube.write_notice_says m).0 ∙ ap written_number (sym (told writer.write_says v).0)

list_read_same : {n r : ℕ} {x : Result (Unit {0}) Refusal} {text before after after' : List ℕ} → May hcube.read_list (n, text, before) r after
    → May list_reader.read (n, text, before) x after' → r ≡ done_number (refused x)
list_read_same {n} {text = text} {before = before} m v =
    (told hcube.read_list_says m).0
    ∙ ap done_number (sym (done_is (omega (arith, reading.refusal_few n text before)) (told list_reader.read_says v).0 refl))

repaired_same : {n r : ℕ} {x : Result (Unit {0}) Refusal} {faults masks result row : List ℕ} {o o' : List ℕ × List ℕ} → May hcube.repair (n, faults, masks, result, row) r o
    → May repair.repair (n, faults, masks, result, row) x o' → r ≡ done_number (refused x)
repaired_same {n} {faults = faults} {masks = masks} {result = result} {row = row} m v =
    (told hcube.repair_says m).0
    ∙ ap done_number
    (sym (done_is (omega (arith, repairing.refusal_few n faults masks (length result) (length row))) (told repair.repair_says v).0 refl))

list_written_same : {n r : ℕ} {x : Wrote} {faults before after after' : List ℕ} → May hcube.write_list (n, faults, before) r after
    → May list_writer.write (n, faults, before) x after' → r ≡ written_number x
list_written_same m v = (told hcube.write_list_says m).0 ∙ ap written_number (sym (told list_writer.write_says v).0)

-- a refused walk has hop count 0
walk_refuses : {n j s d r : ℕ} {k : Refusal} {buffer before after : List ℕ} {w : Walked} → May hcube.walk (n, j, s, d, buffer, before) r after
    → May walk.walk-for (n, j, s, d, buffer, length before) w tt → w.ending ≡ ending.Refused k → (r ≡ number k * 16777216) × (after ≡ before)
unfolding row_after
walk_refuses {w = w} m v e =
    let t = walk_same m v in
    let b = rattle_demands.walk_blank (inl v) e in
    let refusal = ap W.refusal_of e in
    let kind = ap W.kind_of e in
    (omega (arith, t.0, b.0), t.1 ∙ rw e)

-- ---- the row

walk_none : (r : ℕ) (row : List ℕ) → refusal_part r ≡ 0
    → walked_from r row ≡ record { row = tab 17 (node_at row); hops = value_part r; ending = ending_from (kind_part r) }
unfolding walked_from
walk_none r row h = rw h

has-row : (kind : ℕ) → has_row (ending_from kind) ≡ true
has-row kind = by_cases (λ (e : Ending). has_row e ≡ true) (eqb kind 0) (λ _. refl) (λ _. refl)

none_refused : (kind : ℕ) → W.refusal_of (ending_from kind) ≡ 0
none_refused kind = by_cases (λ (e : Ending). W.refusal_of e ≡ 0) (eqb kind 0) (λ _. refl) (λ _. refl)

module _ {n j s d r : ℕ} {buffer before after : List ℕ} (m : May hcube.walk (n, j, s, d, buffer, before) r after) where
  abbrev w : Walked
  w = walked_by n j s d buffer before

  said : (r ≡ walk_number w) × (after ≡ row_after w before)
  said = told hcube.walk_says m

  taken : w ≡ walked_from r after
  taken = sym (c_faithful.walks (r, before, after, m, refl, refl))

  module _ (h : refusal_part r ≡ 0) where
    ended : w ≡ record { row = tab 17 (node_at after); hops = value_part r; ending = ending_from (kind_part r) }
    ended = taken ∙ walk_none r after h

    rowed : has_row w.ending ≡ true
    rowed = ap (λ (u : Walked). has_row u.ending) ended ∙ has-row (kind_part r)

    -- the row is written, and was lent with its length
    bytes : after ≡ tab W.row_bytes (row_byte w.row)
    bytes = said.1 ∙ sym (written w before rowed)

    room : length before ≡ W.row_bytes
    room = row_fits n j s d (length buffer) (length before) (label_for n j buffer) rowed

    whole : length after ≡ W.row_bytes
    whole = ap length bytes ∙ length_tab W.row_bytes (row_byte w.row)

    -- so it is the walk of a caller who takes the row from the answer
    same : w ≡ W.walked n j s d (length buffer) W.row_bytes (label_for n j buffer)
    same = ap (λ (k : ℕ). W.walked n j s d (length buffer) k (label_for n j buffer)) room

    node : (k : ℕ) → k < 17 → node_at after k ≡ place w k
    node k l = sym (get_d_tab 17 (node_at after) k l) ∙ ap (λ (u : Walked). place u k) (sym ended)

    row_once : (k i : ℕ) → k < i → i < places r → node_at after k ≢ node_at after i
    row_once k i l within e =
        let count = ap (λ (u : Walked). u.hops) ended in
        let few = hops_few n j s d (length buffer) (length before) (label_for n j buffer) in
        c_demands.walk_once (r, before, after, m, refl, sym taken) (ap (λ (u : Walked). W.refusal_of u.ending) ended ∙ none_refused (kind_part r)) k i l
        (within_hops r w.hops i count within) (sym (node k (omega arith)) ∙ e ∙ node i (omega arith))

    row_nodes : {v : Walked} → May walk.walk (n, j, s, d, buffer) v tt → (k : ℕ) → k < 17 → node_at after k ≡ place v k
    row_nodes v k l = node k l ∙ ap (λ (u : Walked). place u k) (same ∙ sym (told walk.walk_says v).0)

    byte : (i : ℕ) → i < 34 → get_or after i 0 ≡ row_byte w.row i
    byte i l = ap (λ (t : List ℕ). get_or t i 0) bytes ∙ get_d_tab W.row_bytes (row_byte w.row) i l

    row-bytes : (k : ℕ) → k < 17 → (get_or after (2 * k) 0 ≡ node_at after k % 256) × (get_or after (2 * k + 1) 0 ≡ node_at after k / 256)
    row-bytes k l =
        let low = byte (2 * k) (omega arith) ∙ low_byte w.row k in
        let high = byte (2 * k + 1) (omega arith) ∙ high_byte w.row k in
        let e = node k l in
        (omega arith, omega arith)

pub in_c : InC
in_c =
    record {
      label_exchanges = λ {n} {rule} {j} {r} m v. let e = label_same m v in omega arith;
      label_refuses = λ {n} {rule} {j} {r} m v. let e = label_same m v in omega arith;
      hop_delivers = λ m v. hop_same m v;
      hop_hops = λ m v. hop_same m v;
      hop_halts = λ m v. hop_same m v;
      hop_refuses = λ {n} {j} {c} {d} {r} m v. let e = hop_same m v in omega arith;
      why_hop_delivers = λ m v. why_hop_same m v;
      why_hop_hops = λ m v. omega (arith, why_hop_same m v);
      why_hop_halts = λ m v. why_hop_same m v;
      why_hop_refuses = λ m v. omega (arith, why_hop_same m v);
      why_node_number = λ {a = a} m v. (told hcube.why_node_says m).0 ∙ ap node_reason_number (sym (told why.why_node_says v).0) ∙ node-number a;
      walk_delivers = λ {n} {j} {s} {d} {r} m v e. let f = (walk_same m v).0 in let g = ap W.refusal_of e in let h = ap W.kind_of e in omega arith;
      walk_halts = λ {n} {j} {s} {d} {r} m v e. let f = (walk_same m v).0 in let g = ap W.refusal_of e in let h = ap W.kind_of e in omega arith;
      walk_refuses = walk_refuses;
      dimension_reads = λ {r} m v. let e = (dimension_same m v).0 in omega arith;
      dimension_refuses = λ {r} {at} {k} {bytes} m v. let e = dimension_same m v in
          let z = notice_laws.dimension_place bytes k at e.1 in (omega (arith, e.0), z);
      notice_reads = λ {r} m v. let e = notice_same m v in omega arith;
      notice_refuses = λ {r} {at} {k} {bytes} {before} m v. let e = notice_same m v in
          let p = notice_laws.refused bytes before k at (sym (told notice.read_says v).0) in (omega arith, omega (arith, p.near));
      writes_length = λ {n} {r} m v. let e = written_same m v in omega arith;
      writes_refuses = λ {n} {r} m v. let e = written_same m v in omega arith;
      reads_list = λ {n} {r} m v. let e = list_read_same m v in omega arith;
      writes_list_length = λ {n} {r} m v. let e = list_written_same m v in omega arith;
      writes_list_refuses = λ {n} {r} m v. let e = list_written_same m v in omega arith;
      repairs = λ {n} {r} m v. let e = repaired_same m v in omega arith;
      hop_networks_number = λ {x = x} m v.
          (told hcube.hop_networks_says m).0 ∙ ap hop_number (sym (told hop_networks.hop_networks_says v).0) ∙ hop-in-number x;
      walk_networks_number = λ {x = x} m v.
          let s = told hcube.walk_networks_says m in
          let t = told walk_networks.walk_networks_says v in
          (s.0 ∙ ap crossed_number (sym t.0) ∙ crossed-in-number x, s.1 ∙ sym t.1);
      row_nodes = λ m h v. row_nodes m h v;
      row-bytes = row-bytes;
      row_once = row_once;
      row_whole = λ m m' h h'. (
        whole m h,
        bytes m h
            ∙ ap (λ (u : Walked). tab W.row_bytes (row_byte u.row)) (same m h ∙ sym (same m' h')) ∙ sym (bytes m' h'),
      );
    }
