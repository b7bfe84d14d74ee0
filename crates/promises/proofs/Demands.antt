-- The demands, of any library that is faithful to the definitions: what they say of the definitions they say of whatever the contracts allow.
use Rattle.std.specs.Prelude.{Result, Ok}
use mathlib.Core.List.{List}
use mathlib.Core.Logic.{◌≢◌}
use mathlib.Core.Path.{◌≡◌, sym, ap, ap₂, subst, ◌∙◌}
use Prim.Native.Nat.{ℕ, ◌+◌, ◌*◌, ◌^◌, ◌≤◌}
use native.Mathlib.Omega.{arith}
use lib.ListN.{length}
use Rattle.cube.specs.Cube.{dist}
use Rattle.cube.specs.Tables.{label_in, node_bit}
use Rattle.cube.proofs.Count.{count_same}
use Rattle.jobs.specs.Jobs.{half, label_bytes, label_for}
use Rattle.rule.specs.Cabinet.{Cabinet, by_rule, cabinet, exchanges_of, labels_of, out, plain}
use Rattle.rule.proofs.Cabinet.{plain_out}
use Rattle.enough.specs.Enough.{FewOut, out_of_work}
use Rattle.enough.proofs.Enough.{few_out_safe}
use Rattle.spelling.specs.Laws.{IsTable}
use Rattle.notice.specs.Laws.{TableOf}
use Rattle.notice.specs.Notice as N
use Rattle.notice.proofs.Laws.{notice_laws}
use Rattle.labels.specs.Labelling as L
use Rattle.labels.proofs.Refusal.{fits, fitting, labels_written, length_kept, of_exchanges}
use Rattle.hop.specs.Hop as H
use Rattle.hop.proofs.Local.{hop_local}
use Rattle.walk.specs.Walk as W
use Rattle.walk.specs.declared.Ending.TheVariants as ending
use Rattle.walk.specs.declared.Walked.{Walked}
use Rattle.theorems.specs.Before.{labelled_then, labels_after_then}
use Rattle.theorems.specs.Demand2.{Demand2}
use Rattle.theorems.specs.Demand3.{Walks}
use Rattle.theorems.specs.HowLong.{HowLong}
use Rattle.theorems.specs.Picked.{Picked}
use Rattle.theorems.specs.TwoRules.{NoneStrong, OnlyBetter, more}
use Rattle.theorems.specs.Words.{Accepted, SomeSafe, Takes, Works, label_at, walk_of}
use Rattle.theorems.proofs.Before.{as_before}
use Rattle.theorems.proofs.Decision.{picked}
use Rattle.theorems.proofs.Delivers.{delivers}
use Rattle.theorems.proofs.Demand2.{demand2}
use Rattle.theorems.proofs.Demand3.{demand3}
use Rattle.theorems.proofs.HowLong.{how_long}
use Rattle.theorems.proofs.TwoRules.{two_rules}
use Rattle.promises.specs.Demands.{Demands, LabelsTable}
use Rattle.promises.specs.Library.{Library, rattle, c}
use Rattle.promises.specs.Refusals.{HopGiven, Job, LabelGiven, NoticeGiven, WalkGiven}
use Rattle.promises.proofs.Given.{all_used, job_below, rule_bounds, table_length}
use Rattle.promises.proofs.Library.{Faithful, rattle_faithful, c_faithful}
use Rattle.promises.proofs.Outcomes.{answered, labels_kept}
use Rattle.promises.proofs.Refusals.{refusals}
use Rattle.promises.proofs.Sizes as sizes
use Rattle.promises.proofs.Walks.{again, blank, decided, ends, frame_once, steps}
use Rattle.cube.specs.declared.refusals.Refusal.{Refusal}
use Rattle.cube.specs.Refused.{refused}
use Rattle.notice.specs.Notice.{a_notice}

module _ (lib : Library) (F : Faithful lib) where
  -- ---- what labelling left

  pub record Left (K : Cabinet) (j exchanges : ℕ) (buffer : List ℕ) : Type 0 where
    pub accepted : Accepted K j
    pub count : exchanges_of K ≡ exchanges
    pub long : length buffer ≡ label_bytes K.n
    pub bytes : labels_of K ≡ half j (2 ^ K.n) buffer

  pub left : {K : Cabinet} {j exchanges : ℕ} {before buffer : List ℕ} → lib.labels K j before (Ok exchanges) buffer → Left K j exchanges buffer
  left {K} {j} {exchanges} {before} {buffer} m =
      let f = F.labels m in
      let o = of_exchanges K j (length before) exchanges (sym f.0) in
      let sized = (fitting K j (length before) o.0).halved.sized in
      record {
        accepted = subst (λ (k : ℕ). L.label_refusal K j k ≡ 0) sized o.0;
        count = o.1;
        long = ap length f.1 ∙ length_kept K j before ∙ sized;
        bytes = sym (ap (half j (2 ^ K.n)) f.1 ∙ labels_written K j before o.0);
      }

  -- so what holds of the labels and of the count by the definitions holds of those that labelling left
  of_left : {K : Cabinet} {j exchanges : ℕ} {before buffer : List ℕ} (P : (ℕ → ℕ) → ℕ → Type 0)
      → lib.labels K j before (Ok exchanges) buffer → P (label_at K) (exchanges_of K) → P (label_for K.n j buffer) exchanges
  of_left {K} {j} {exchanges} {before} {buffer} P m p =
      let l = left m in
      subst (P (label_for K.n j buffer)) l.count (subst (λ (t : List ℕ). P (label_in t) (exchanges_of K)) l.bytes p)

  -- what an accepted notice left
  table : {bytes old faults : List ℕ} {n m taken : ℕ} → lib.reads bytes old (a_notice n m taken) faults → TableOf n m (N.addresses_of bytes) faults
  table {bytes} {old} {faults} {n} {m} {taken} r =
      let f = F.reads r in
      subst (TableOf n m (N.addresses_of bytes)) (sym f.1) (notice_laws.written bytes old n m taken (sym f.0))

  -- labelling accepts what is a table
  pub table_labels : {n : ℕ} {faults : List ℕ} → IsTable n faults → LabelsTable lib n faults
  unfolding label_bytes
  table_labels {n} {faults} t rule j draining closed before after x k job drains shut long l =
      let K = cabinet n rule faults draining closed in (
        exchanges_of K,
        (F.labels l).0
            ∙ answered K j (length before)
            (fits K j (length before) t.dimension (rule_bounds k) (job_below job) t.sized (table_length n (length draining) drains.0)
            (table_length n (length closed) shut.0) t.unused (all_used n draining drains) (all_used n closed shut) long),
      )

  -- a walk with the labels that labelling left is the cabinet's
  pub is_walk : {K : Cabinet} {j exchanges s d : ℕ} {before buffer : List ℕ} {w : Walked} → lib.labels K j before (Ok exchanges) buffer
      → lib.walks K.n j s d buffer W.row_bytes w → w ≡ walk_of K j s d
  is_walk {K} {j} {exchanges} {s} {d} m v =
      F.walks v
      ∙ ap₂ (λ (k : ℕ) (t : List ℕ). W.walked K.n j s d k W.row_bytes (label_in t)) (left m).long (sym (left m).bytes)

  walks :
      {K : Cabinet} {j exchanges s d : ℕ} {before buffer : List ℕ} {w : Walked} → lib.labels K j before (Ok exchanges) buffer
      → Works K s → Takes K d → lib.walks K.n j s d buffer W.row_bytes w → Walks K (label_for K.n j buffer) s d w
  walks {K} {j} {exchanges} {s} {d} {before} {buffer} {w} m hs hd v =
      subst (Walks K (label_for K.n j buffer) s d) (sym (is_walk m v))
      (subst (λ (t : List ℕ). Walks K (label_in t) s d (walk_of K j s d)) (left m).bytes (demand3 K j (left m).accepted s d hs hd))

  -- ---- the two rules

  moved : (K : Cabinet) {j e e' : ℕ} {before before' old new : List ℕ} → lib.labels (by_rule 2 K) j before (Ok e) old
      → lib.labels (by_rule 3 K) j before' (Ok e') new → OnlyBetter K.n (label_for K.n j old) (label_for K.n j new)
  moved K {j} {e} {e'} {before} {before'} {old} {new} a b =
      subst (λ (t : List ℕ). OnlyBetter K.n (label_in t) (label_for K.n j new)) (left a).bytes
      (subst (λ (t : List ℕ). OnlyBetter K.n (label_at (by_rule 2 K)) (label_in t)) (left b).bytes (two_rules.better K))

  moved_walks : (K : Cabinet) {j e e' s d : ℕ} {before before' old new : List ℕ} {w : Walked} → lib.labels (by_rule 2 K) j before (Ok e) old
      → lib.labels (by_rule 3 K) j before' (Ok e') new → SomeSafe K.n (label_for K.n j old) → Works K s
      → Takes K d → lib.walks K.n j s d new W.row_bytes w
      → (w.ending ≡ ending.Delivered) × (w.hops ≤ dist s d + more (label_for K.n j old) s d)
  moved_walks K {j} {e} {e'} {s} {d} {before} {before'} {old} {new} {w} a b some hs hd v =
      let m = moved K a b in
      let W = walks b hs hd v in
      let still : SomeSafe K.n (label_for K.n j new) = (some.0, some.1, m.safe_stays some.0 some.1 some.2) in (
        (W.arrives still).ending,
        omega (arith, two_rules.bound (by_rule 3 K) (label_for K.n j new) s d w W still, m.bound_falls s d hs.0 hd.0),
      )

  still_arrives : (K : Cabinet) {j e e' s d : ℕ} {before before' old new : List ℕ} {v w : Walked} → lib.labels (by_rule 2 K) j before (Ok e) old
      → lib.labels (by_rule 3 K) j before' (Ok e') new → Works K s → Takes K d
      → lib.walks K.n j s d old W.row_bytes v → lib.walks K.n j s d new W.row_bytes w → v.ending ≡ ending.Delivered → w.ending ≡ ending.Delivered
  still_arrives K {j} {e} {e'} {s} {d} {before} {before'} {old} {new} {v} {w} a b hs hd p q f =
      let was = is_walk a p in
      let is = is_walk b q in
      ap (λ (u : Walked). u.ending) is
      ∙ two_rules.still_delivered K j (left b).accepted s d hs hd (ap (λ (u : Walked). u.ending) (sym was) ∙ f)

  none_strong : (K : Cabinet) {j e : ℕ} {before buffer : List ℕ} → lib.labels (by_rule 2 K) j before (Ok e) buffer
      → NoneStrong (by_rule 2 K) (label_for K.n j buffer)
  none_strong K a =
      of_left (λ (lab : ℕ → ℕ) _. NoneStrong (by_rule 2 K) lab) a (two_rules.none_strong K)

  two_more : (K : Cabinet) {j e s d : ℕ} {before buffer : List ℕ} {w : Walked} → lib.labels (by_rule 2 K) j before (Ok e) buffer
      → SomeSafe K.n (label_for K.n j buffer) → Works K s → Takes K d → lib.walks K.n j s d buffer W.row_bytes w
      → w.hops ≤ dist s d + 2
  two_more K {j} {e} {s} {d} a some hs hd v =
      let W = walks a hs hd v in
      let k = W.even (W.arrives some).ending in
      omega (arith, none_strong K a some s hs, k.1, k.2)

  -- ---- enough nodes work

  pub some_safe : {K : Cabinet} {j exchanges : ℕ} {before buffer : List ℕ} → lib.labels K j before (Ok exchanges) buffer
      → FewOut K → SomeSafe K.n (label_for K.n j buffer)
  some_safe {K} m few = of_left (λ (lab : ℕ → ℕ) _. SomeSafe K.n lab) m (few_out_safe K few)

  notice_counts : {bytes old faults : List ℕ} {n m taken : ℕ} → lib.reads bytes old (a_notice n m taken) faults
      → (rule : ℕ) → out_of_work (plain n rule faults) ≡ m
  notice_counts {bytes} {old} {faults} {n} r rule =
      count_same (2 ^ n) (out (plain n rule faults)) (node_bit faults) (λ x _. plain_out n rule faults x) ∙ (table r).total

  -- ---- as before

  label_before :
      {n rule j : ℕ} {faults before after : List ℕ} {x : Result ℕ Refusal} → Job j → (m : ℕ) → length before ≡ 2 * m
      → lib.labels (plain n rule faults) j before x after
      → (x ≡ labelled_then n rule faults m) × (half j m after ≡ labels_after_then n rule faults (half j m before))
  label_before {n} {rule} {j} {faults} {before} job m long l =
      let f = F.labels l in
      let b = as_before j (job_below job) in (
        f.0 ∙ ap (L.labelled (plain n rule faults) j) long ∙ b.label n rule m faults,
        ap (half j m) f.1 ∙ b.labels n rule m faults before long,
      )

  demands : Demands lib
  demands =
      record {
        label-refusal = λ {K} {j} {before} m. subst (λ x. LabelGiven K j (length before) (refused x)) (sym (F.labels m).0)
            (refusals.labelling K j (length before));
        hop-refusal = λ {n} {j} {c} {d} {buffer} m. subst (λ x. HopGiven n j c d (length buffer) (label_for n j buffer) (refused x)) (sym (F.hops m))
            (refusals.hop n j c d (length buffer) (label_for n j buffer));
        walk-refusal = λ {n} {j} {s} {d} {room} {buffer} v.
            subst (λ (w : Walked). WalkGiven n j s d (length buffer) room (label_for n j buffer) (W.refusal_of w.ending)) (sym (F.walks v))
            (refusals.walk n j s d (length buffer) room (label_for n j buffer));
        notice_refusal = λ {bytes} {before} m.
            subst (λ x. NoticeGiven bytes before (N.refusal_of x) (N.place_of x)) (sym (F.reads m).0) (refusals.notice bytes before);
        dimension_refusal = λ {bytes} m. let t = F.sizes m in rw (t.refusal, t.value) (refusals.dimension bytes);
        labels_kept = λ {K} {j} {before} m. let f = F.labels m in f.1 ∙ labels_kept K j before _ (sym f.0);
        table_kept = λ {bytes} {before} m. let f = F.reads m in f.1 ∙ notice_laws.kept bytes before _ _ (sym f.0);
        walk_blank = λ v e. blank lib F v e;
        notice_read = λ {bytes} {before} m. notice_laws.accepted bytes before _ _ _ (sym (F.reads m).0);
        table_written = table;
        dimension_sized = λ m. sizes.dimension_sized lib F m;
        dimension_read = λ m r. sizes.dimension_read lib F m r;
        sized_table = λ m l r. sizes.sized_table lib F m l r;
        dimension_refused = λ m other r. sizes.dimension_refused lib F m other r;
        labels_written = λ m. sym (left m).bytes;
        labels = λ {K} m. of_left (Demand2 K) m (demand2 K);
        how_long = λ {K} {j} m. of_left (HowLong K) m (how_long K j (left m).accepted);
        hop = λ {n} {j} {c} {d} {buffer} {x} m.
            subst (Picked n (label_for n j buffer) c d) (decided lib F m)
            (picked n (label_for n j buffer) c d);
        hop_local = λ {n} {j} {c} {d} {buffer} {buffer'} m m' long own near. F.hops m
            ∙ ap (λ (k : ℕ). H.hopped n j c d k (label_for n j buffer)) long
            ∙ hop_local n j c d (length buffer') (label_for n j buffer) (label_for n j buffer') own near ∙ sym (F.hops m');
        notice_labels = λ {bytes} {faults} {old} {n} {m} {taken} r.
            let d = (notice_laws.accepted bytes old n m taken (sym (F.reads r).0)).dimension in
            table_labels (record { dimension = d; sized = (table r).sized; unused = (table r).unused });
        walks = λ m hs hd v. walks m hs hd v;
        walk_starts = λ v e. (again lib F v e).starts;
        walk_steps = λ v e. steps lib F v e;
        walk_ends = λ v e. ends lib F v e;
        walk_few = λ v e. (again lib F v e).few;
        walk_unused = λ {n} {j} {s} {d} {room} {k} v e h. (again lib F v e).unused k h;
        walk_enters = λ {n} {j} {s} {d} {room} {k} v e h. (again lib F v e).enters k h;
        walk_ends_in = λ v e. (again lib F v e).ends_in;
        walk_once = λ v e. (again lib F v e).once;
        frame_once = frame_once lib F;
        moved = moved;
        moved_walks = moved_walks;
        still_arrives = still_arrives;
        none_strong = none_strong;
        two_more = two_more;
        some_safe = some_safe;
        delivers = λ {K} {j} {exchanges} {s} {d} {before} {buffer} {w} m few hs hd v.
            delivers K (label_for K.n j buffer) s d w (walks m hs hd v) (some_safe m few);
        notice_counts = notice_counts;
        label_before = label_before;
        no_four = λ {n} {rule} {j} {e} {faults} {closed} m x.
            of_left (λ (lab : ℕ → ℕ) _. lab x ≢ 4) m ((as_before 0 (omega arith)).no_four n rule faults closed x);
        hop_before = λ {n} {j} {c} {d} {buffer} v job m long none.
            F.hops v ∙ ap (λ (k : ℕ). H.hopped n j c d k (label_for n j buffer)) long
            ∙ (as_before j (job_below job)).hop n c d m (label_for n j buffer) none;
        walk_before = λ {n} {j} {s} {d} {room} {buffer} v job m long none.
            F.walks v ∙ ap (λ (k : ℕ). W.walked n j s d k room (label_for n j buffer)) long
            ∙ (as_before j (job_below job)).walk n s d m room (label_for n j buffer) none;
      }

pub rattle_demands : Demands rattle
rattle_demands = demands rattle rattle_faithful

pub c_demands : Demands c
c_demands = demands c c_faithful
