-- What is printed for the notice, as the code comes to it. The fault table t has the length that the notice asks for, so the reader's answer is the
-- notice itself; an accepted notice leaves a good fault table, so labelling does not refuse it.
use mathlib.Core.Path.{◌≡◌, refl, sym, ap, ◌∙◌}
use mathlib.Core.List.{List, ◌++◌}
use mathlib.Core.Logic.{inl}
use Prim.Native.Nat.{ℕ, ◌^◌, ◌≤◌, ◌<◌}
use native.Mathlib.Omega.{arith}
use lib.Dec.{eqb}
use lib.ListN.{drop, length, length-replicate, replicate}
use lib.Seq.{take_at}
use borrow.Author.Tests.{eq-eqb}
use Rattle.std.specs.Prelude.{Ok, Err, Some, None}
use Rattle.cube.specs.Refusal.{first}
use Rattle.cube.specs.Refused.{number}
use Rattle.cube.specs.declared.refusals.Refusal.{Refusal}
use Rattle.cube.specs.Tables.{label_count, label_in, node_bit, table_len}
use Rattle.cube.proofs.Count.{count_pos, count_same}
use Rattle.cube.proofs.Tables.{nodes_few, table_few, zeros_behind, zeros_unused}
use Rattle.groups.specs.Number.{Number, on_number}
use Rattle.jobs.specs.Jobs.{label_bytes}
use Rattle.jobs.proofs.Halves.{with_first}
use Rattle.labels.specs.Labelling.{label_refusal, labels_after}
use Rattle.labels.proofs.Refusal.{fits, length_kept}
use Rattle.notice.specs.Addresses.{with_bits}
use Rattle.notice.specs.Laws.{ReadNotice, TableOf}
use Rattle.notice.specs.Notice.{a_notice, addresses_of, dimension_at, notice_from, notice_of, noticed, table_after}
use Rattle.notice.specs.Tests.{length_tests, tested}
use Rattle.notice.proofs.Cases.{on-number, tested_passes, tested_refused}
use Rattle.notice.proofs.Laws.{notice_laws}
use Rattle.notice.proofs.Opened.{opened_dimension, opened_notice}
use Rattle.rule.specs.Cabinet.{Cabinet, labels_of, out, plain}
use Rattle.rule.proofs.Cabinet.{labels_length, plain_out}
use Rattle.enough.specs.Enough.{out_of_work}
use Rattle.enough.proofs.Enough.{few_out_safe}
use Rattle.lines.specs.Lines.{notice_refused}
use Rattle.printed.specs.Printed.{Headed, cabinet_of, first_line, head_line, labels_in, wanted_len}

-- a number that is no dimension, or one of the table's length, passes the test of the length
passes : (t : List ℕ) (x : Number) → length t ≡ on_number x (λ r at. 1) (λ n at. table_len n) → tested (length_tests t) 0 x ≡ x
unfolding first
passes t (Ok x) e = sym (tested_passes (length_tests t) 0 refl (rw (eq-eqb (length t) (table_len x.0) e)))
passes t (Err x) e = sym (tested_refused (length_tests t) 0 refl)

module _ (s : List ℕ) where
  pub table_wanted : {n at : ℕ} → Ok (n, at) ≡ dimension_at s → table_len n ≡ wanted_len s
  unfolding wanted_len
  table_wanted e = rw (sym e)

  -- never more than the 512 bytes of the largest table
  pub wanted_few : wanted_len s ≤ 512
  unfolding wanted_len
  wanted_few = on-number (λ (k : ℕ). k ≤ 512) (dimension_at s) (λ _ _ _. omega arith) (λ n at e. table_few n (opened_dimension s n at e).good.1)

-- a cube's dimension and its nodes, as the tables have room for them
abbrev pub Few : ℕ → Type 0
Few n = (n ≤ 12) × (2 ^ n ≤ 4096)

module _ (s t : List ℕ) (sized : length t ≡ wanted_len s) where
  pub same : noticed s t ≡ notice_of s
  unfolding noticed notice_of wanted_len
  same = ap (λ (x : Number). notice_from x s) (passes t (dimension_at s) sized)

  pub refused_head : {r : Refusal} {at : ℕ} {line : List ℕ} (labels : List ℕ) → noticed s t ≡ Err (r, at) → line ≡ notice_refused (number r) at
      → Headed s line None labels
  unfolding head_line labels_in
  refused_head {r} {at} labels e made =
      let q : notice_of s ≡ Err (r, at) = sym same ∙ e in
      record { line = rw q made; given = rw q; dimension = rw q; labelled = rw q; few = omega arith }

  module _ {n m taken : ℕ} (e : noticed s t ≡ a_notice n m taken) where
    is_notice : notice_of s ≡ a_notice n m taken
    is_notice = sym same ∙ e

    read : ReadNotice s n m taken
    read = notice_laws.accepted s t n m taken e

    table : TableOf n m (addresses_of s) (table_after s t)
    table = notice_laws.written s t n m taken e

    pub few_nodes : Few n
    few_nodes = (read.dimension.1, nodes_few n read.dimension.1)

    same_length : length t ≡ table_len n
    unfolding wanted_len notice_of
    same_length = let d = (opened_notice (dimension_at s) s n m taken is_notice).dimension in rw d at sized

    module _ {faults : List ℕ} (after : faults ≡ table_after s t) where
      abbrev K : Cabinet
      K = plain n 3 faults

      pub same_cabinet : K ≡ cabinet_of s n
      unfolding table_after
      same_cabinet =
          ap (plain n 3) after ∙ rw e (ap (λ (k : ℕ). plain n 3 (with_bits (replicate k 0) (addresses_of s))) same_length)

      pub labels_fit : {bytes : ℕ} → bytes ≡ label_bytes n → label_refusal K 0 bytes ≡ 0
      labels_fit full =
          rw after
          (fits (plain n 3 (table_after s t)) 0 _ read.dimension (omega arith, omega arith) (omega arith) table.sized
          (length-replicate (table_len n) 0) (length-replicate (table_len n) 0) table.unused (zeros_unused n (table_len n)) (zeros_unused n (table_len n)) full)

      -- the labels as those of job 0, and the zeros that stood there
      made_labels : (before : List ℕ) → before ≡ replicate (label_bytes n) 0 → labels_after K 0 before ≡ labels_of K ++ replicate (2 ^ n) 0
      unfolding labels_after label_bytes
      made_labels before zeros =
          rw (labels_fit (ap length zeros ∙ length-replicate (label_bytes n) 0))
          (with_first (2 ^ n) before (labels_of K)
          ∙ ap (λ (l : List ℕ). labels_of K ++ drop (2 ^ n) l) zeros
          ∙ ap (λ (l : List ℕ). labels_of K ++ l) (zeros_behind (2 ^ n) (label_bytes n) (2 ^ n) (omega arith)))

      -- as many nodes are out of work as the notice names, and fewer than dimensions leave a safe one
      pub out_count : out_of_work K ≡ m
      out_count = count_same (2 ^ n) (out K) (node_bit (table_after s t)) (λ x _. plain_out n 3 faults x ∙ ap (λ l. node_bit l x) after) ∙ table.total

      pub safe_left : out_of_work K < n → 0 < label_count (labels_of K) 0
      safe_left few =
          let (x, hx, z) = few_out_safe K (inl (refl, few)) in
          count_pos (length (labels_of K)) (λ y. eqb (label_in (labels_of K) y) 0) x (omega (arith, labels_length K)) (eq-eqb (label_in (labels_of K) x) 0 z)

      pub cube_head : {bytes : ℕ} {line : List ℕ} (before labels rest : List ℕ) → bytes ≡ label_bytes n → before ≡ replicate (label_bytes n) 0
          → line ≡ first_line m K → labels ≡ labels_after K 0 before
          → Headed s line (Some (record { n = n; bytes = bytes })) (labels ++ rest)
      unfolding head_line labels_in label_bytes
      cube_head {bytes} before labels rest full zeros made after =
          let kept = after ∙ made_labels before zeros in
          let long = ap length after ∙ length_kept K 0 before ∙ ap length zeros ∙ length-replicate (label_bytes n) 0 in
          record {
            line = rw is_notice (made ∙ ap (first_line m) same_cabinet);
            given = rw is_notice;
            dimension = rw is_notice;
            labelled = take_at labels rest bytes (long ∙ sym full) ∙ kept ∙ rw (is_notice, same_cabinet);
            few = omega (arith, full, few_nodes.1);
          }
