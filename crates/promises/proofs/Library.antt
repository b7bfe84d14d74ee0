-- Whatever a contract allows is what the definitions give: of Rattle's functions by what each contract says, of C's by that
-- and by what C takes out of an answer.
use Rattle.std.specs.Prelude.{Result}
use mathlib.Core.List.{List}
use mathlib.Core.Logic.{⊎_elim}
use mathlib.Core.Path.{◌≡◌, sym, ap, ap₂, subst, ◌∙◌}
use Prim.Native.Nat.{ℕ, ◌≤◌}
use native.Mathlib.Omega.{arith}
use lib.ListN.{length}
use Rattle.cube.specs.Allowed.{May}
use Rattle.cube.specs.Refused.{answered, refused}
use Rattle.cube.proofs.Contracts.{told}
use Rattle.cube.proofs.Refused.{refused_is}
use Rattle.jobs.specs.Jobs.{label_for}
use Rattle.rule.specs.Cabinet.{Cabinet}
use Rattle.groups.specs.Number.{Number}
use Rattle.notice.specs.Notice.{Told, dimension_at, noticed, table_after}
use Rattle.notice.specs.Notice.{Noticed}
use Rattle.notice.proofs.Functions as notice
use Rattle.labels.specs.Labelling.{labelled, labels_after}
use Rattle.labels.proofs.Functions as labels
use Rattle.hop.specs.Hop.{hopped}
use Rattle.hop.proofs.Functions as hop
use Rattle.walk.specs.Walk.{row_bytes, walked}
use Rattle.walk.specs.declared.Walked.{Walked}
use Rattle.walk.proofs.Functions as walk
use Rattle.hop_networks.specs.Hopping.{hopped_in}
use Rattle.hop_networks.proofs.Functions as hop_networks
use Rattle.walk_networks.specs.Crossing.{crossing, hops_after}
use Rattle.walk_networks.specs.declared.Crossed.{Crossed}
use Rattle.walk_networks.proofs.Functions as walk_networks
use Rattle.why.specs.HopReasons.{hop_reason}
use Rattle.why.specs.NodeReasons.{labels_left, node_reason}
use Rattle.why.specs.declared.HopReason.{HopReason}
use Rattle.why.specs.declared.NodeReason.{NodeReason}
use Rattle.why.proofs.Functions as why
use Rattle.writer.specs.Writing.{buffer_after, wrote}
use Rattle.writer.specs.Writing.{Wrote}
use Rattle.writer.proofs.Functions as writer
use Rattle.list_reader.specs.Reading.{list_refusal, list_table}
use Rattle.list_reader.proofs.Functions as list_reader
use Rattle.list_reader.proofs.Outcomes as reading
use Rattle.list_writer.specs.Lists.{list_after, wrote_list}
use Rattle.list_writer.proofs.Functions as list_writer
use Rattle.hcube.specs.Decoded.{crossed_from, hop_reason_from, hopped_from, labelled_from, node_reason_from, noticed_from, refusal_part, value_part, walked_from, wrote_from}
use Rattle.repair.specs.Repairing.{namers_after, repair_refusal, result_after}
use Rattle.repair.proofs.Functions as repair
use Rattle.repair.proofs.Outcomes as repairing
use Rattle.hcube.proofs.Decoded.{decodes}
use Rattle.hcube.proofs.Functions as hcube
use Rattle.promises.specs.Library.{Library, rattle, c}
use Rattle.cube.specs.declared.refusals.Refusal.{Refusal}
use Rattle.hop.specs.declared.Decision.{Decision}

pub record Faithful (lib : Library) : Type 0 where
  pub reads : {bytes before after : List ℕ} {x : Noticed} → lib.reads bytes before x after → (x ≡ noticed bytes before) × (after ≡ table_after bytes before)
  pub sizes : {bytes : List ℕ} {k v : ℕ} → lib.sizes bytes k v → Told (dimension_at bytes) k v
  pub writes :
      {n : ℕ} {faults before after : List ℕ} {x : Wrote} → lib.writes n faults before x after
      → (x ≡ wrote n faults (length before)) × (after ≡ buffer_after n faults before)
  pub reads_list :
      {n k : ℕ} {text before after : List ℕ} → lib.reads_list n text before k after
      → (k ≡ list_refusal n text before) × (after ≡ list_table n text before)
  pub writes_list :
      {n : ℕ} {faults before after : List ℕ} {x : Wrote} → lib.writes_list n faults before x after
      → (x ≡ wrote_list n faults (length before)) × (after ≡ list_after n faults before)
  pub repairs :
      {n k : ℕ} {faults masks result row t r : List ℕ} → lib.repairs n faults masks result row k t r
      → (k ≡ repair_refusal n faults masks (length result) (length row)) × (t ≡ result_after n faults masks result row)
      × (r ≡ namers_after n faults masks result row)
  pub labels :
      {K : Cabinet} {j : ℕ} {before after : List ℕ} {x : Result ℕ Refusal} → lib.labels K j before x after
      → (x ≡ labelled K j (length before)) × (after ≡ labels_after K j before)
  pub hops : {n j c d : ℕ} {buffer : List ℕ} {x : Result Decision Refusal} → lib.hops n j c d buffer x → x ≡ hopped n j c d (length buffer) (label_for n j buffer)
  pub why_nodes :
      {K : Cabinet} {j x : ℕ} {before after : List ℕ} {a : Result NodeReason Refusal} → lib.why_nodes K j x before a after
      → (a ≡ node_reason K j (length before) x) × (after ≡ labels_left K j x before)
  pub why_hops :
      {n j c d : ℕ} {buffer : List ℕ} {a : Result HopReason Refusal} → lib.why_hops n j c d buffer a → a ≡ hop_reason n j c d (length buffer) (label_for n j buffer)
  pub walks :
      {n j s d room : ℕ} {buffer : List ℕ} {w : Walked} → lib.walks n j s d buffer room w → w ≡ walked n j s d (length buffer) room (label_for n j buffer)
  pub hops_networks :
      {n N j c d w g : ℕ} {buffer : List ℕ} {x : Result Decision Refusal} → lib.hops_networks n N j c d w g buffer x
      → x ≡ hopped_in n N j c d w g (length buffer) (label_for n j buffer)
  pub walks_networks :
      {n N j s d : ℕ} {buffer before after : List ℕ} {x : Result Crossed Refusal} → lib.walks_networks n N j s d buffer before x after
      → (x ≡ crossing n N j s d (length buffer) (length before) (label_for n j buffer))
      × (after ≡ hops_after n N j s d (length buffer) (label_for n j buffer) before)

-- an answer that is nothing but its refusal
pub done_is : {j k : ℕ} {x : Result (Unit {0}) Refusal} → k ≤ 19 → x ≡ answered k tt → refused x ≡ j → j ≡ k
done_is {j} {k} h e f = sym f ∙ ap refused e ∙ refused_is k tt h

-- of two that are left
first : {s t s' t' : List ℕ} → ◌≡◌ {A = List ℕ × List ℕ} (s, t) (s', t') → s ≡ s'
first e = ap (λ (p : List ℕ × List ℕ). p.0) e

second : {s t s' t' : List ℕ} → ◌≡◌ {A = List ℕ × List ℕ} (s, t) (s', t') → t ≡ t'
second e = ap (λ (p : List ℕ × List ℕ). p.1) e

pub rattle_faithful : Faithful rattle
rattle_faithful =
    record {
      reads = told notice.read_says;
      sizes = λ {bytes} {k} {v} m. subst (λ (x : Number). Told x k v) (told notice.dimension_says m.1).0 m.2;
      writes = told writer.write_says;
      reads_list = λ {n} {k} {text} {before} m. let t = told list_reader.read_says m.1 in
          (done_is (omega (arith, reading.refusal_few n text before)) t.0 m.2, t.1);
      writes_list = told list_writer.write_says;
      repairs = λ {n} {k} {faults} {masks} {result} {row} m. let t = told repair.repair_says m.1 in
          (done_is (omega (arith, repairing.refusal_few n faults masks (length result) (length row))) t.0 m.2, first t.1, second t.1);
      labels = told labels.label_says;
      hops = λ m. (told hop.hop_says m).0;
      why_nodes = told why.why_node_says;
      why_hops = λ m. (told why.why_hop_says m).0;
      walks = λ {n} {j} {s} {d} {room} {buffer} {w}.
          ⊎_elim (λ (m : May walk.walk-for (n, j, s, d, buffer, room) w tt). (told walk.walk_for_says m).0)
          (λ (m : May walk.walk (n, j, s, d, buffer) w tt × (room ≡ row_bytes)). (told walk.walk_says m.0).0
          ∙ ap (λ (k : ℕ). walked n j s d (length buffer) k (label_for n j buffer)) (sym m.1));
      hops_networks = λ m. (told hop_networks.hop_networks_says m).0;
      walks_networks = told walk_networks.walk_networks_says;
    }

pub c_faithful : Faithful c
c_faithful =
    record {
      reads = λ {bytes} {before} m. let t = told hcube.read_notice_says m.1 in
          (sym m.2 ∙ ap noticed_from t.0 ∙ decodes.notice bytes before, t.1);
      sizes = λ {bytes} m.
          let t = (told hcube.notice_dimension_says m.1).0 in
          let d = decodes.dimension bytes in
          record { refusal = sym m.2 ∙ ap refusal_part t ∙ d.refusal; value = sym m.3 ∙ ap value_part t ∙ d.value };
      writes = λ {n} {faults} {before} m. let t = told hcube.write_notice_says m.1 in
          (sym m.2 ∙ ap wrote_from t.0 ∙ decodes.written n faults (length before), t.1);
      reads_list = λ {n} {k} {text} {before} m. let t = told hcube.read_list_says m.1 in
          (sym m.2 ∙ ap refusal_part t.0 ∙ decodes.list_read n text before, t.1);
      writes_list = λ {n} {faults} {before} m. let t = told hcube.write_list_says m.1 in
          (sym m.2 ∙ ap wrote_from t.0 ∙ decodes.list_written n faults (length before), t.1);
      repairs = λ {n} {k} {faults} {masks} {result} {row} m. let t = told hcube.repair_says m.1 in
          (sym m.2 ∙ ap refusal_part t.0 ∙ decodes.repaired n faults masks (length result) (length row), first t.1, second t.1);
      labels = λ {K} {j} {before} m. let t = told hcube.label_says m.1 in
          (sym m.2 ∙ ap labelled_from t.0 ∙ decodes.label K j (length before), t.1);
      hops = λ {n} {j} {c} {d} {buffer} m. let t = told hcube.hop_says m.1 in
          sym m.2 ∙ ap hopped_from t.0 ∙ decodes.hop n j c d (length buffer) (label_for n j buffer);
      why_nodes = λ {K} {j} {x} {before} m. let t = told hcube.why_node_says m.1 in
          (sym m.2 ∙ ap (node_reason_from K.rule) t.0 ∙ decodes.why-node K j (length before) x, t.1);
      why_hops = λ {n} {j} {c} {d} {buffer} m. let t = told hcube.why_hop_says m.1 in
          sym m.2 ∙ ap hop_reason_from t.0 ∙ decodes.why-hop n j c d (length buffer) (label_for n j buffer);
      walks = λ {n} {j} {s} {d} {room} {buffer} m. let t = told hcube.walk_says m.3 in
          sym m.5 ∙ ap₂ walked_from t.0 t.1 ∙ decodes.walk n j s d buffer m.1
          ∙ ap (λ (k : ℕ). walked n j s d (length buffer) k (label_for n j buffer)) m.4;
      hops_networks = λ {n} {N} {j} {c} {d} {w} {g} {buffer} m. let t = told hcube.hop_networks_says m.1 in
          sym m.2 ∙ ap hopped_from t.0 ∙ decodes.hop-networks n N j c d w g (length buffer) (label_for n j buffer);
      walks_networks = λ {n} {N} {j} {s} {d} {buffer} {before} m. let t = told hcube.walk_networks_says m.1 in
          (sym m.2 ∙ ap crossed_from t.0 ∙ decodes.walk-networks n N j s d (length buffer) (length before) (label_for n j buffer), t.1);
    }
