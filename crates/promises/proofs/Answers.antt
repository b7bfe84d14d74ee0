-- The answer that a contract gives is one that it allows: lent bytes stand somewhere in memory, and the equations hold of it.
use Rattle.std.specs.Prelude.{Result}
use mathlib.Core.List.{List}
use mathlib.Core.Logic.{inl}
use mathlib.Core.Path.{refl}
use Prim.Native.Nat.{ℕ}
use native.Mathlib.Omega.{arith}
use lib.ListN.{length, length-replicate, replicate}
use Rattle.cube.specs.Allowed.{May}
use Rattle.cube.specs.Refused.{answered}
use Rattle.cube.proofs.Contracts.{may}
use Rattle.cube.proofs.Refused.{refused_is}
use Rattle.jobs.specs.Jobs.{label_for}
use Rattle.rule.specs.Cabinet.{Cabinet}
use Rattle.notice.specs.Notice.{dimension_at, noticed, table_after}
use Rattle.notice.specs.Notice.{Noticed}
use Rattle.notice.proofs.Functions as notice
use Rattle.labels.specs.Labelling.{labelled, labels_after}
use Rattle.labels.proofs.Functions as labels-crate
use Rattle.hop.specs.Hop.{hopped}
use Rattle.hop.proofs.Functions as hop
use Rattle.walk.specs.Walk.{walked}
use Rattle.walk.specs.declared.Walked.{Walked}
use Rattle.walk.proofs.Functions as walk
use Rattle.why.specs.HopReasons.{hop_reason}
use Rattle.why.specs.NodeReasons.{labels_left, node_reason}
use Rattle.why.specs.declared.HopReason.{HopReason}
use Rattle.why.specs.declared.NodeReason.{NodeReason}
use Rattle.why.proofs.Functions as why
use Rattle.writer.specs.Writing.{buffer_after, wrote}
use Rattle.writer.proofs.Functions as writer
use Rattle.list_reader.specs.Reading.{list_refusal, list_table}
use Rattle.list_reader.proofs.Functions as list_reader
use Rattle.list_reader.proofs.Outcomes as reading
use Rattle.list_writer.specs.Lists.{list_after, wrote_list}
use Rattle.list_writer.proofs.Functions as list_writer
use Rattle.repair.specs.Repairing.{namers_after, repair_refusal, result_after}
use Rattle.repair.proofs.Functions as repair
use Rattle.repair.proofs.Outcomes as repaired
use Rattle.hcube.specs.Answers.{
  dimension_number,
  hop_number,
  hop_reason_number,
  label_number,
  done_number,
  node_reason_number,
  notice_number,
  row_after,
  walk_number,
  walked_by,
  written_number,
}
use Rattle.hcube.proofs.Functions as hcube
use Rattle.promises.specs.Answers.{Answers}
use Rattle.promises.specs.Library.{rattle, c}
use Rattle.promises.proofs.Lent.{four, lend, lend_mut, one, two}
use Rattle.promises.proofs.NetworkAnswers as networks
use Rattle.cube.specs.declared.refusals.Refusal.{Refusal}
use Rattle.hop.specs.declared.Decision.{Decision}

module _ (bytes : List ℕ) where
  sizes : May notice.dimension bytes (dimension_at bytes) tt
  sizes = may notice.dimension one (lend bytes, tt) (dimension_at bytes) (lend bytes, tt) refl

  c_sizes : May hcube.notice_dimension bytes (dimension_number (dimension_at bytes)) tt
  c_sizes = may hcube.notice_dimension one (lend bytes, tt) (dimension_number (dimension_at bytes)) (lend bytes, tt) refl

module _ (bytes before : List ℕ) where
  abbrev x : Noticed
  x = noticed bytes before

  abbrev table : List ℕ
  table = table_after bytes before

  reads : May notice.read (bytes, before) x table
  reads = may notice.read two (lend bytes, (lend_mut before, tt)) x (lend bytes, (lend_mut table, tt)) (refl, refl)

  c_reads : May hcube.read_notice (bytes, before) (notice_number x) table
  c_reads = may hcube.read_notice two (lend bytes, (lend_mut before, tt)) (notice_number x) (lend bytes, (lend_mut table, tt)) (refl, refl)

module _ (n : ℕ) (faults before : List ℕ) where
  abbrev written : List ℕ
  written = buffer_after n faults before

  writes : May writer.write (n, faults, before) (wrote n faults (length before)) written
  writes = may writer.write two (n, (lend faults, (lend_mut before, tt))) (wrote n faults (length before)) (n, (lend faults, (lend_mut written, tt))) (refl, refl)

  c_writes : May hcube.write_notice (n, faults, before) (written_number (wrote n faults (length before))) written
  c_writes =
      may hcube.write_notice two (n, (lend faults, (lend_mut before, tt))) (written_number (wrote n faults (length before)))
      (n, (lend faults, (lend_mut written, tt))) (refl, refl)

  abbrev listed : List ℕ
  listed = list_after n faults before

  writes_list : May list_writer.write (n, faults, before) (wrote_list n faults (length before)) listed
  writes_list =
      may list_writer.write two (n, (lend faults, (lend_mut before, tt))) (wrote_list n faults (length before)) (n, (lend faults, (lend_mut listed, tt)))
      (refl, refl)

  c_writes_list : May hcube.write_list (n, faults, before) (written_number (wrote_list n faults (length before))) listed
  c_writes_list =
      may hcube.write_list two (n, (lend faults, (lend_mut before, tt))) (written_number (wrote_list n faults (length before)))
      (n, (lend faults, (lend_mut listed, tt))) (refl, refl)

module _ (n : ℕ) (text before : List ℕ) where
  abbrev read_table : List ℕ
  read_table = list_table n text before

  abbrev outcome : Result (Unit {0}) Refusal
  outcome = answered (list_refusal n text before) tt

  reads_list : May list_reader.read (n, text, before) outcome read_table
  reads_list =
      may list_reader.read two (n, (lend text, (lend_mut before, tt))) outcome (n, (lend text, (lend_mut read_table, tt))) (refl, refl)

  c_reads_list : May hcube.read_list (n, text, before) (done_number (list_refusal n text before)) read_table
  c_reads_list =
      may hcube.read_list two (n, (lend text, (lend_mut before, tt))) (done_number (list_refusal n text before))
      (n, (lend text, (lend_mut read_table, tt))) (refl, refl)

module _ (n : ℕ) (faults masks result row : List ℕ) where
  abbrev done : ℕ
  done = repair_refusal n faults masks (length result) (length row)

  abbrev t : List ℕ
  t = result_after n faults masks result row

  abbrev r : List ℕ
  r = namers_after n faults masks result row

  abbrev repairing : Result (Unit {0}) Refusal
  repairing = answered done tt

  repairs : May repair.repair (n, faults, masks, result, row) repairing (t, r)
  repairs =
      may repair.repair four (n, (lend faults, (lend masks, (lend_mut result, (lend_mut row, tt))))) repairing (n, (lend faults, (lend masks, (lend_mut t, (lend_mut r, tt)))))
      (refl, (refl, refl))

  c_repairs : May hcube.repair (n, faults, masks, result, row) (done_number done) (t, r)
  c_repairs =
      may hcube.repair four (n, (lend faults, (lend masks, (lend_mut result, (lend_mut row, tt))))) (done_number done)
      (n, (lend faults, (lend masks, (lend_mut t, (lend_mut r, tt))))) (refl, (refl, refl))

module _ (K : Cabinet) (j : ℕ) (before : List ℕ) where
  abbrev answer : Result ℕ Refusal
  answer = labelled K j (length before)

  abbrev after : List ℕ
  after = labels_after K j before

  labels : May labels-crate.label (K.n, K.rule, j, K.faults, K.draining, K.closed, before) answer after
  labels =
      may labels-crate.label four (K.n, (K.rule, (j, (lend K.faults, (lend K.draining, (lend K.closed, (lend_mut before, tt))))))) answer
      (K.n, (K.rule, (j, (lend K.faults, (lend K.draining, (lend K.closed, (lend_mut after, tt))))))) (refl, refl)

  c_labels : May hcube.label (K.n, K.rule, j, K.faults, K.draining, K.closed, before) (label_number answer) after
  c_labels =
      may hcube.label four (K.n, (K.rule, (j, (lend K.faults, (lend K.draining, (lend K.closed, (lend_mut before, tt))))))) (label_number answer)
      (K.n, (K.rule, (j, (lend K.faults, (lend K.draining, (lend K.closed, (lend_mut after, tt))))))) (refl, refl)

  module _ (x : ℕ) where
    abbrev because : Result NodeReason Refusal
    because = node_reason K j (length before) x

    abbrev left : List ℕ
    left = labels_left K j x before

    why_nodes : May why.why-node (K.n, K.rule, j, x, K.faults, K.draining, K.closed, before) because left
    why_nodes =
        may why.why-node four (K.n, (K.rule, (j, (x, (lend K.faults, (lend K.draining, (lend K.closed, (lend_mut before, tt)))))))) because
        (K.n, (K.rule, (j, (x, (lend K.faults, (lend K.draining, (lend K.closed, (lend_mut left, tt)))))))) (refl, refl)

    c_why_nodes : May hcube.why-node (K.n, K.rule, j, x, K.faults, K.draining, K.closed, before) (node_reason_number because) left
    c_why_nodes =
        may hcube.why-node four (K.n, (K.rule, (j, (x, (lend K.faults, (lend K.draining, (lend K.closed, (lend_mut before, tt))))))))
        (node_reason_number because)
        (K.n, (K.rule, (j, (x, (lend K.faults, (lend K.draining, (lend K.closed, (lend_mut left, tt)))))))) (refl, refl)

module _ (n j a b : ℕ) (l : List ℕ) where
  abbrev taken : Result HopReason Refusal
  taken = hop_reason n j a b (length l) (label_for n j l)

  why_hops : May why.why-hop (n, j, a, b, l) taken tt
  why_hops = may why.why-hop one (n, (j, (a, (b, (lend l, tt))))) taken (n, (j, (a, (b, (lend l, tt))))) refl

  c_why_hops : May hcube.why-hop (n, j, a, b, l) (hop_reason_number taken) tt
  c_why_hops = may hcube.why-hop one (n, (j, (a, (b, (lend l, tt))))) (hop_reason_number taken) (n, (j, (a, (b, (lend l, tt))))) refl

  abbrev decided : Result Decision Refusal
  decided = hopped n j a b (length l) (label_for n j l)

  hops : May hop.hop (n, j, a, b, l) decided tt
  hops = may hop.hop one (n, (j, (a, (b, (lend l, tt))))) decided (n, (j, (a, (b, (lend l, tt))))) refl

  c_hops : May hcube.hop (n, j, a, b, l) (hop_number decided) tt
  c_hops = may hcube.hop one (n, (j, (a, (b, (lend l, tt))))) (hop_number decided) (n, (j, (a, (b, (lend l, tt))))) refl

  abbrev went : (room : ℕ) → Walked
  went room = walked n j a b (length l) room (label_for n j l)

  walks : (room : ℕ) → May walk.walk-for (n, j, a, b, l, room) (went room) tt
  walks room =
      may walk.walk-for one (n, (j, (a, (b, (lend l, (room, tt)))))) (went room) (n, (j, (a, (b, (lend l, (room, tt)))))) refl

  c_walks : (row : List ℕ) → May hcube.walk (n, j, a, b, l, row) (walk_number (walked_by n j a b l row)) (row_after (walked_by n j a b l row) row)
  c_walks row =
      may hcube.walk two (n, (j, (a, (b, (lend l, (lend_mut row, tt)))))) (walk_number (walked_by n j a b l row))
      (n, (j, (a, (b, (lend l, (lend_mut (row_after (walked_by n j a b l row) row), tt)))))) (refl, refl)

pub rattle_answers : Answers rattle
rattle_answers =
    record {
      reads = λ bytes before. (_, _, reads bytes before);
      sizes = λ bytes. (_, _, (dimension_at bytes, sizes bytes, record { refusal = refl; value = refl }));
      writes = λ n faults before. (_, _, writes n faults before);
      reads_list = λ n text before.
          (list_refusal n text before, _, (outcome n text before, reads_list n text before, refused_is _ tt (omega (arith, reading.refusal_few n text before))));
      writes_list = λ n faults before. (_, _, writes_list n faults before);
      repairs = λ n faults masks result row.
          (done n faults masks result row, _, _, (repairing n faults masks result row, repairs n faults masks result row, refused_is _ tt (omega (arith, repaired.refusal_few n faults masks (length result) (length row)))));
      labels = λ K j before. (_, _, labels K j before);
      hops = λ n j a b l. (_, hops n j a b l);
      why_nodes = λ K j x before. (_, _, why_nodes K j before x);
      why_hops = λ n j a b l. (_, why_hops n j a b l);
      walks = λ n j a b l room. (_, inl (walks n j a b l room));
      hops_networks = λ n N j a b w g l. (_, networks.hops n N j a b w g l);
      walks_networks = λ n N j a b l before. (_, _, networks.walks n N j a b l before);
    }

pub c_answers : Answers c
c_answers =
    record {
      reads = λ bytes before. (_, _, (_, c_reads bytes before, refl));
      sizes = λ bytes. (_, _, (_, c_sizes bytes, refl, refl));
      writes = λ n faults before. (_, _, (_, c_writes n faults before, refl));
      reads_list = λ n text before. (_, _, (_, c_reads_list n text before, refl));
      writes_list = λ n faults before. (_, _, (_, c_writes_list n faults before, refl));
      repairs = λ n faults masks result row. (_, _, _, (_, c_repairs n faults masks result row, refl));
      labels = λ K j before. (_, _, (_, c_labels K j before, refl));
      hops = λ n j a b l. (_, (_, c_hops n j a b l, refl));
      why_nodes = λ K j x before. (_, _, (_, c_why_nodes K j before x, refl));
      why_hops = λ n j a b l. (_, (_, c_why_hops n j a b l, refl));
      walks = λ n j a b l room. (_, (_, replicate room 0, _, c_walks n j a b l (replicate room 0), length-replicate room 0, refl));
      hops_networks = λ n N j a b w g l. (_, (_, networks.c_hops n N j a b w g l, refl));
      walks_networks = λ n N j a b l before. (_, _, (_, networks.c_walks n N j a b l before, refl));
    }
