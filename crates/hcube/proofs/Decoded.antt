-- A number that was packed of small parts has these parts again, so each answer comes out as it was put in. Of a row: a node is below 65,536, so its two
-- bytes make it.
use mathlib.Core.Bool.{true, cond}
use mathlib.Core.List.{List}
use mathlib.Core.Path.{◌≡◌, refl, sym, ap, ◌∙◌}
use Prim.Native.Nat.{ℕ, ◌+◌, ◌*◌, ◌/◌, ◌%◌, ◌<◌}
use native.Mathlib.Omega.{arith}
use lib.Dec.{eqb, leb}
use lib.ListN.{get_or, length}
use borrow.Author.Tests.{eqb-true, ne_eqb}
use Rattle.std.specs.Prelude.{Result, Ok, Err}
use Rattle.cube.specs.Refused.{number, refusal}
use Rattle.cube.specs.declared.refusals.Refusal.{Refusal}
use Rattle.cube.specs.Tables.{tab}
use Rattle.cube.proofs.Bools.{by_cases}
use Rattle.cube.proofs.Front.{get_d_tab, tab_cong}
use Rattle.cube.proofs.Tables.{nodes_few}
use Rattle.jobs.specs.Jobs.{label_for}
use Rattle.rule.specs.Cabinet.{Cabinet}
use Rattle.labels.specs.Labelling as L
use Rattle.walk.specs.Walk as W
use Rattle.walk.specs.declared.Ending.{Ending}
use Rattle.walk.specs.declared.Ending.TheVariants as ending
use Rattle.walk.specs.declared.Walked.{Walked}
use Rattle.walk.proofs.Local.{spot_lt}
use Rattle.walk.proofs.Refusals.{walk_good}
use Rattle.hcube.specs.Answers.{
  has_row,
  label_number,
  packed,
  row_after,
  row_byte,
  walk_number,
  walked_by,
}
use Rattle.hcube.specs.Fits.{WalkFits}
use Rattle.hcube.specs.Decoded.{
  Decodes,
  ending_from,
  kind_part,
  labelled_from,
  node_at,
  refusal_part,
  value_part,
  walked_from,
}
use Rattle.hcube.proofs.DecodedNotices.{dimension_decoded, list_decoded, list_refused, notice_decoded, repair_refused, written_decoded}
use Rattle.hcube.proofs.DecodedHops.{channels_decoded, hop_decoded, hop_networks_decoded, walk_networks_decoded}
use Rattle.hcube.proofs.DecodedReasons.{hop_reason_decoded, node_reason_decoded}
use Rattle.cube.proofs.Refused.{refusal_back}
use Rattle.hcube.proofs.Parts.{cut, few, kind_is, named, reads_err, reads_ok, refusal_is, some, value_is}
use Rattle.hcube.proofs.ReadBack.{crossed_read, hop_read, hop_reason_read, label_read, node_read, notice_read, walk_read, written_read}
use Rattle.hcube.proofs.Small.{LabelFits, has-row, label_small, walk_small, written}

-- ---- labelling

labelled_back : (a : Result ℕ Refusal) → LabelFits a → labelled_from (label_number a) ≡ a
unfolding labelled_from
labelled_back (Ok v) f = reads_ok _ _ (refusal_is 0 0 v (omega arith) (omega arith) f) (value_is 0 0 v f)
labelled_back (Err r) f = reads_err _ _ _ r (refusal_is (number r) 0 0 (few r) (omega arith) (omega arith))

label_decoded : (K : Cabinet) (j m : ℕ) → labelled_from (label_number (L.labelled K j m)) ≡ L.labelled K j m
label_decoded K j m = labelled_back (L.labelled K j m) (label_small K j m)

-- ---- the walk

pub low_byte : (row : List ℕ) (k : ℕ) → row_byte row (2 * k) ≡ get_or row k 0 % 256
unfolding row_byte
low_byte row k =
    let e : 2 * k % 2 ≡ 0 = omega arith in
    let h : 2 * k / 2 ≡ k = omega arith in
    rw (e, h)

pub high_byte : (row : List ℕ) (k : ℕ) → row_byte row (2 * k + 1) ≡ get_or row k 0 / 256 % 256
unfolding row_byte
high_byte row k =
    let e : (2 * k + 1) % 2 ≡ 1 = omega arith in
    let h : (2 * k + 1) / 2 ≡ k = omega arith in
    rw (e, h)

-- the two bytes of a place make its node
node_decoded : (row : List ℕ) (k : ℕ) → k < 17 → get_or row k 0 < 65536 → node_at (tab W.row_bytes (row_byte row)) k ≡ get_or row k 0
node_decoded row k h b =
    omega (
      arith,
      get_d_tab W.row_bytes (row_byte row) (2 * k) (omega arith) ∙ low_byte row k,
      get_d_tab W.row_bytes (row_byte row) (2 * k + 1) (omega arith) ∙ high_byte row k,
    )

-- so a row of small nodes comes back
row_decoded : (f : ℕ → ℕ) → ((k : ℕ) → k < 17 → f k < 65536) → tab 17 (node_at (tab W.row_bytes (row_byte (tab 17 f)))) ≡ tab 17 f
row_decoded f small =
    tab_cong 17 (node_at (tab W.row_bytes (row_byte (tab 17 f)))) f
    (λ k h. let e = get_d_tab 17 f k h in node_decoded (tab 17 f) k h (omega (arith, small k h)) ∙ e)

-- the kind, the count and the row of a walk that has a row
module _ (w : Walked) (few_hops : w.hops < 65536) where
  abbrev walk-number : ℕ
  walk-number = walk_number w

  none : (kind : ℕ) → kind < 256 → refusal_part (packed 0 kind w.hops) ≡ 0
  none kind h = refusal_is 0 kind w.hops (omega arith) h few_hops

  ended : (e : Ending) → has_row e ≡ true → w.ending ≡ e
      → (refusal_part walk-number ≡ 0) × (value_part walk-number ≡ w.hops) × (ending_from (kind_part walk-number) ≡ e)
  ended ending.Delivered h e = rw e (none 0 (omega arith), value_is 0 0 w.hops few_hops, rw (kind_is 0 0 w.hops (omega arith) few_hops))
  ended ending.Halted h e = rw e (none 1 (omega arith), value_is 0 1 w.hops few_hops, rw (kind_is 0 1 w.hops (omega arith) few_hops))
  ended (ending.Refused k) h e = let z : ◌≡◌ {A = ℕ} 0 1 = cc in absurd (omega arith)

  ended_decoded : (before : List ℕ) → has_row w.ending ≡ true → tab 17 (node_at (tab W.row_bytes (row_byte w.row))) ≡ w.row
      → walked_from walk-number (row_after w before) ≡ w
  unfolding walked_from
  ended_decoded before h r =
      let t = ended w.ending h refl in
      ap (walked_from walk-number) (sym (written w before h))
      ∙ rw (t.0, r, t.1, t.2)

refused_decoded : (before : List ℕ) (k : ℕ) → walked_from (walk_number (W.refused k)) (row_after (W.refused k) before) ≡ W.refused k
unfolding walked_from W.refused
refused_decoded before k =
    let r : Refusal = refusal k in
    rw (refusal_is (number r) 0 0 (few r) (omega arith) (omega arith), ne_eqb (number r) 0 (some r), named (number r) r refl, refusal_back r)

module _ (n j s d : ℕ) (labels before : List ℕ) where
  abbrev lab : ℕ → ℕ
  lab = label_for n j labels

  abbrev walk_k : ℕ
  walk_k = W.walk_refusal n j s d (length labels) (length before) lab

  -- every node of it is in the cube
  row_back : walk_k ≡ 0 → tab 17 (node_at (tab W.row_bytes (row_byte (W.row n (W.route n lab d) s)))) ≡ W.row n (W.route n lab d) s
  unfolding W.row
  row_back e =
      let p = (walk_good n j s d (length labels) (length before) lab e).placed in
      row_decoded (λ k. cond (leb k (W.hops n (W.route n lab d) s)) (W.spot (W.route n lab d) s k) 0)
      (λ k _. by_cases (λ x. x < 65536) (leb k (W.hops n (W.route n lab d) s))
      (λ _. omega (arith, spot_lt n lab d s p.first k, nodes_few n p.halved.small)) (λ _. omega arith))

  walk_decoded : walked_from (walk_number (walked_by n j s d labels before)) (row_after (walked_by n j s d labels before) before) ≡ walked_by n j s d labels before
  unfolding W.walked W.walk_from
  walk_decoded =
      by_cases (λ w. WalkFits w → walked_from (walk_number w) (row_after w before) ≡ w) (eqb walk_k 0)
      (λ e f. ended_decoded (W.walk_from n (W.route n lab d) s) f before
      (has-row n j s d (length labels) (length before) lab (eqb-true walk_k 0 e)) (row_back (eqb-true walk_k 0 e)))
      (λ _ f. refused_decoded before walk_k)
      (walk_small n j s d (length labels) (length before) lab)

pub decodes : Decodes
decodes =
    record {
      label = label_decoded;
      hop = hop_decoded;
      walk = walk_decoded;
      hop-networks = hop_networks_decoded;
      walk-networks = walk_networks_decoded;
      channels = channels_decoded;
      why-node = node_reason_decoded;
      why-hop = hop_reason_decoded;
      dimension = dimension_decoded;
      notice = notice_decoded;
      written = written_decoded;
      list_read = list_refused;
      repaired = repair_refused;
      list_written = list_decoded;
      label-refusal = label_read;
      hop-refusal = hop_read;
      walk-refusal = walk_read;
      walk-networks-refusal = crossed_read;
      why-node-refusal = node_read;
      why-hop-refusal = hop_reason_read;
      notice-refusal = notice_read;
      written-refusal = written_read;
      cut = cut;
    }
