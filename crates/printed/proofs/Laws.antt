-- The laws of `listing` that specs/Laws.antt states: behind a line that is the last one no bytes are left for another. The sample is computed: its labels
-- once, and the lines from the computed labels.
use mathlib.Core.Path.{◌≡◌, refl, sym, ap, ap₂, ◌∙◌}
use mathlib.Core.Logic.{⊎_elim}
use mathlib.Core.Bool.{true, false}
use mathlib.Core.List.{List, [], ◌∷◌, ◌++◌, append-nil}
use Prim.Native.Nat.{ℕ, zero, suc, ◌+◌, ◌≤◌, ◌<◌}
use lib.Count.{ones}
use lib.Dec.{ltb}
use lib.ListN.{length, replicate}
use borrow.Author.Tests.{le-ltb, lt-ltb, ltb-true}
use native.Mathlib.Omega.{arith}
use Rattle.cube.specs.Count.{count, least, some}
use Rattle.cube.specs.Cube.{apart, bit, dist, flip}
use Rattle.std.specs.Prelude.{Ok, Err}
use Rattle.cube.specs.Refusal.{first}
use Rattle.cube.specs.Refused.{number}
use Rattle.cube.specs.declared.refusals.Refusal.{Refusal}
use Rattle.cube.specs.declared.refusals.Refusal.TheVariants.{Group}
use Rattle.cube.proofs.Bools.{either}
use Rattle.cube.specs.Tables.{is_dimension, label_in, node_bit, tab, table_len}
use Rattle.groups.specs.Number.{further, number_at, two_groups}
use Rattle.groups.proofs.Laws.{number_laws}
use Rattle.hop.specs.Hop.{answer, decide, hop}
use Rattle.notice.specs.Addresses.{addresses_at, addresses_end, with_bit, with_bits}
use Rattle.notice.specs.Notice.{a_notice, addresses_of, count_at, dimension_at, notice_from, notice_of, rest_at, tail_at}
use Rattle.notice.specs.Tests.{tested}
use Rattle.notice.proofs.Outcomes.{tail_refused}
use Rattle.jobs.specs.Jobs.{half, is_job, label_bytes}
use Rattle.rule.specs.Cabinet.{Cabinet, cabinet, exchanges_of, labels_of}
use Rattle.rule.specs.Rule.{exchanges, label, label_of, marked, meets, newly, quiet, rounds, safe, working}
use Rattle.scans.specs.Scans.{first_scan, lowest, suits, takes}
use Rattle.walk.specs.Walk.{hops, last, onto, refused, row, spot, stops, turn, walk_from, walk_refusal, walked}
use Rattle.lines.specs.Lines.{cube_line, input_refused, notice_refused, pair_line, row_text, too_long}
use Rattle.printed.specs.Printed.{cabinet_of, first_line, head_line, labels_in, line_at, line_from, listing, next_at, next_from, pair_lines, pairs_of}
use Rattle.lines.specs.Text.{decimal, text, width}
use Rattle.printed.proofs.Alarm.{no_alarm}
use Rattle.printed.proofs.Pairs.{first_read, first_refused, next_beyond, second_refused}
use Rattle.printed.specs.Laws.{ListingLaws, sample_bytes, sample_lines}

-- ---- the sample

abbrev k4 : List ℕ
k4 = 1 ∷ 0 ∷ 3 ∷ 0 ∷ 3 ∷ 0 ∷ 1 ∷ 0 ∷ 3 ∷ 0 ∷ 1 ∷ 0 ∷ 1 ∷ 0 ∷ 2 ∷ 3 ∷ []

is_notice : notice_of sample_bytes ≡ a_notice 4 4 6
unfolding notice_of notice_from dimension_at count_at rest_at tested first is_dimension number_at addresses_end further
is_notice = refl

abbrev K : Cabinet
K = cabinet 4 3 (0x14 ∷ 0x81 ∷ []) (0 ∷ 0 ∷ []) (0 ∷ 0 ∷ [])

table : cabinet_of sample_bytes 4 ≡ K
unfolding addresses_of dimension_at count_at rest_at tested first is_dimension number_at addresses_end further addresses_at with_bits with_bit table_len
table = refl

labels_are : labels_of K ≡ k4
unfolding labels_of label label_of safe rounds working quiet newly meets marked count least some flip tab node_bit bit
labels_are = refl

exchanges_are : exchanges_of K ≡ 3
unfolding exchanges_of exchanges rounds working quiet newly meets marked count least some flip tab node_bit bit
exchanges_are = refl

line_is : cube_line 4 4 k4 3 ≡ text "cube 4 faulty 4 safe 7 ordinary 4 strong 1 rounds 3\n"
unfolding cube_line count label_in decimal width least
line_is = refl

head : head_line sample_bytes ≡ text "cube 4 faulty 4 safe 7 ordinary 4 strong 1 rounds 3\n"
unfolding head_line
head = rw is_notice (rw table (ap₂ (cube_line 4 4) labels_are exchanges_are ∙ line_is))

labels : labels_in sample_bytes ≡ k4 ++ replicate 16 0
unfolding labels_in
labels = rw is_notice (rw table (ap (λ (l : List ℕ). l ++ replicate 16 0) labels_are))

tail : tail_at sample_bytes ≡ 6
unfolding tail_at
tail = rw is_notice

pairs : pair_lines 12 4 (k4 ++ replicate 16 0) sample_bytes 6
    ≡ text "13 0 delivered 3 13 9 1 0\n6 0 delivered 4 6 7 5 1 0\n2 0 refused 6\n"
unfolding pair_lines line_at line_from next_at next_from number_at pair_line row_text decimal width least walked walk_refusal walk_from refused first row last hops
    turn spot stops onto hop decide answer first_scan lowest takes suits apart dist ones label_in tab is_dimension is_job label_bytes half some count bit flip
pairs = refl

sample : listing sample_bytes ≡ sample_lines
unfolding listing
sample = ap₂ (λ (x y : List ℕ). x ++ y) head (rw (is_notice, labels, tail) pairs)

-- ---- the last line

long_input : (s : List ℕ) → 16384 < length s → listing s ≡ too_long
unfolding listing
long_input s h = rw (lt-ltb 16384 (length s) h)

module _ (n : ℕ) (labels s : List ℕ) where
  none_left : (left at : ℕ) → length s ≤ at → pair_lines left n labels s at ≡ []
  unfolding pair_lines
  none_left zero at h = refl
  none_left (suc left) at h = rw (le-ltb at (length s) h)

  -- from place `at` on there are no more pairs than bytes, so any number of steps that is not less will do
  enough : (left more at : ℕ) → length s ≤ at + left → length s ≤ at + more → pair_lines more n labels s at ≡ pair_lines left n labels s at
  unfolding pair_lines
  enough zero more at h k = none_left more at (omega arith)
  enough (suc left) zero at h k = sym (none_left (suc left) at (omega arith))
  enough (suc left) (suc more) at h k =
      ⊎_elim
      (λ (t : ltb at (length s) ≡ true).
      let further = next_beyond s at (ltb-true at (length s) t) in
      rw t (ap (λ (l : List ℕ). line_at n labels s at ++ l) (enough left more (next_at s at) (omega arith) (omega arith))))
      (λ (t : ltb at (length s) ≡ false). rw t) (either (ltb at (length s)))

  to_end : (steps : ℕ) → length s ≤ steps → pair_lines steps n labels s (tail_at s) ≡ pairs_of n labels s
  to_end steps h = enough (length s) steps (tail_at s) (omega arith) (omega arith)

-- behind a refused notice no bytes are left
refused_only : (s : List ℕ) (r : Refusal) (at : ℕ) → length s ≤ 16384 → notice_of s ≡ Err (r, at) → listing s ≡ notice_refused (number r) at
unfolding listing head_line
refused_only s r at h e =
    let none = none_left 0 (labels_in s) s (length s) (tail_at s) (omega (arith, tail_refused s (sym e))) in
    rw (le-ltb 16384 (length s) h, e) (ap (λ (l : List ℕ). notice_refused (number r) at ++ l) none ∙ append-nil (notice_refused (number r) at))

module _ (left n : ℕ) (labels s : List ℕ) where
  last_line : (at k place : ℕ) → at < length s → (input_refused k place ≡ line_at n labels s at) × (length s ≡ next_at s at)
      → pair_lines (suc left) n labels s at ≡ input_refused k place
  unfolding pair_lines
  last_line at k place h p =
      rw (lt-ltb at (length s) h)
      (ap₂ (λ (x y : List ℕ). x ++ y) (sym p.0) (none_left n labels s left (next_at s at) (omega (arith, p.1))) ∙ append-nil (input_refused k place))

  source_refused : (at : ℕ) (r : Refusal) (place : ℕ) → at < length s → number_at s at ≡ Err (r, place)
      → pair_lines (suc left) n labels s at ≡ input_refused (number r) at
  source_refused at r place h e =
      last_line at (number r) place h (first_refused n labels s at e) ∙ ap (input_refused (number r)) (number_laws.refused_place s at r place e)

  destination_refused : (at a next : ℕ) (r : Refusal) (place : ℕ) → at < length s → number_at s at ≡ Ok (a, next) → number_at s next ≡ Err (r, place)
      → pair_lines (suc left) n labels s at ≡ input_refused (number r) next
  destination_refused at a next r place h e f =
      let p = first_read n labels s at e in
      let q = second_refused n labels s next a f in
      last_line at (number r) place h (q.0 ∙ p.0, q.1 ∙ p.1) ∙ ap (input_refused (number r)) (number_laws.refused_place s next r place f)

-- ---- the samples that are refused

notice_bad : notice_of (0x04 ∷ 0x02 ∷ 0x03 ∷ 0x81 ∷ 0x00 ∷ []) ≡ Err (Group, 3)
unfolding notice_of notice_from dimension_at count_at rest_at tested first is_dimension number_at two_groups addresses_end further
notice_bad = refl

sample_notice : listing (0x04 ∷ 0x02 ∷ 0x03 ∷ 0x81 ∷ 0x00 ∷ []) ≡ text "notice refused 10 3\n"
unfolding decimal width least
sample_notice = refused_only _ Group 3 (omega arith) notice_bad

none_faulty : notice_of (0x01 ∷ 0x00 ∷ 0x00 ∷ 0x81 ∷ []) ≡ a_notice 1 0 2
unfolding notice_of notice_from dimension_at count_at rest_at tested first is_dimension number_at two_groups addresses_end further
none_faulty = refl

none_table : cabinet_of (0x01 ∷ 0x00 ∷ 0x00 ∷ 0x81 ∷ []) 1 ≡ cabinet 1 3 (0 ∷ []) (0 ∷ []) (0 ∷ [])
unfolding addresses_of dimension_at count_at rest_at tested first is_dimension number_at addresses_end further addresses_at with_bits with_bit table_len
none_table = refl

none_line : first_line 0 (cabinet 1 3 (0 ∷ []) (0 ∷ []) (0 ∷ [])) ≡ text "cube 1 faulty 0 safe 2 ordinary 0 strong 0 rounds 1\n"
unfolding cube_line decimal width labels_of exchanges_of label label_of safe exchanges rounds working quiet newly meets marked label_in count least some flip
    tab node_bit bit
none_line = refl

none_pair : (labels : List ℕ) → pair_lines 4 1 labels (0x01 ∷ 0x00 ∷ 0x00 ∷ 0x81 ∷ []) 2 ≡ text "input refused 9 3\n"
unfolding pair_lines line_at line_from next_at next_from number_at decimal width least
none_pair _ = refl

sample_input : listing (0x01 ∷ 0x00 ∷ 0x00 ∷ 0x81 ∷ [])
    ≡ text "cube 1 faulty 0 safe 2 ordinary 0 strong 0 rounds 1\n" ++ text "input refused 9 3\n"
unfolding listing head_line tail_at
sample_input = rw none_faulty (rw none_table (ap₂ (λ (x y : List ℕ). x ++ y) none_line (none_pair _)))

pub listing_laws : ListingLaws
listing_laws = record {
  too_long = long_input;
  refused = refused_only;
  no_alarm = no_alarm;
  to_end = to_end;
  source_refused = source_refused;
  destination_refused = destination_refused;
  sample = sample;
  sample_notice = sample_notice;
  sample_input = sample_input;
}
