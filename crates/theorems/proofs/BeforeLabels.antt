-- Where no node drains and the job closes none, labelling answers and leaves what it did. An empty table names no node, so the nodes that do not work are the
-- faulty ones, each with byte 3, and its tests pass. Two tables of m bytes are a label buffer exactly where m is the number of nodes.
use mathlib.Core.Bool.{Bool, true, false}
use mathlib.Core.List.{List}
use mathlib.Core.Logic.{◌⊎◌, inl, inr, ⊎_elim, ◌≢◌}
use mathlib.Core.Path.{◌≡◌, sym, ap, fun_ext, ◌∙◌}
use Prim.Native.Nat.{ℕ, ◌*◌, ◌^◌, ◌<◌}
use native.Mathlib.Decide.{ℕ_discrete}
use native.Mathlib.Omega.{arith}
use lib.Dec.{eqb, ltb}
use lib.ListN.{length, length-replicate, get_or-eq_default}
use borrow.Author.Tests.{eq-eqb, eqb-true, eqb-false, ne_eqb, ltb-true, ltb-false}
use Rattle.cube.specs.Refusal.{first}
use Rattle.cube.specs.Tables.{empty_table, label_in, node_bit, tab, table_len}
use Rattle.cube.proofs.Bools.{either, or_none}
use Rattle.cube.proofs.Front.{tab_cong}
use Rattle.cube.proofs.Tables.{zeros_none, zeros_unused}
use Rattle.jobs.specs.Jobs.{half, label_bytes}
use Rattle.jobs.proofs.Halves.{is-job}
use Rattle.jobs.proofs.Laws.{half_long}
use Rattle.rule.specs.Cabinet.{Cabinet, cabinet, exchanges_of, faulty, labels_of, out, out_byte, plain}
use Rattle.rule.specs.Rule.{exchanges, label, label_of}
use Rattle.rule.proofs.Cabinet.{labels_length, plain_faulty, plain_out}
use Rattle.labels.specs.Labelling.{label_refusal, labelled, labels_after}
use Rattle.labels.proofs.Refusal as labelling
use Rattle.labels.proofs.Refusal.{buffer_sized, labels_written}
use Rattle.theorems.specs.Before.{label_tests_then, labelled_then, labels_after_then}
use Rattle.theorems.specs.Words.{label_at}
use Rattle.theorems.proofs.Demand2.{is-faulty, works}

-- ---- the label buffer

pub twice_same : (n m : ℕ) → eqb (2 * m) (label_bytes n) ≡ eqb m (2 ^ n)
unfolding label_bytes
twice_same n m =
    ⊎_elim (λ (t : eqb m (2 ^ n) ≡ true). eq-eqb (2 * m) (2 * 2 ^ n) (ap (λ (k : ℕ). 2 * k) (eqb-true m (2 ^ n) t)) ∙ sym t)
    (λ (t : eqb m (2 ^ n) ≡ false). ne_eqb (2 * m) (2 * 2 ^ n) (λ e. eqb-false m (2 ^ n) t (omega (arith, e))) ∙ sym t) (either (eqb m (2 ^ n)))

-- ---- labelling, lent two empty tables

module _ (n rule : ℕ) (faults : List ℕ) where
  abbrev K : Cabinet
  K = plain n rule faults

  out_same : out K ≡ node_bit faults
  out_same = fun_ext (plain_out n rule faults)

  exchanges_same : exchanges_of K ≡ exchanges n rule (node_bit faults)
  unfolding exchanges_of
  exchanges_same = ap (exchanges n rule) out_same

  -- the byte of a node that does not work is asked for at no other node
  byte_same : (x : ℕ) → label n rule (node_bit faults) (out_byte K) x ≡ label n rule (node_bit faults) (λ _. 3) x
  unfolding label label_of
  byte_same x =
      let f = plain_faulty n rule faults x in
      ⊎_elim (λ (t : node_bit faults x ≡ true). rw (f, t)) (λ (t : node_bit faults x ≡ false). rw (f, t)) (either (node_bit faults x))

  abbrev then : ℕ → ℕ
  then = label n rule (node_bit faults) (λ _. 3)

  labels_same : labels_of K ≡ tab (2 ^ n) then
  unfolding labels_of
  labels_same =
      tab_cong (2 ^ n) (label n rule (out K) (out_byte K)) then (λ x _. ap (λ (F : ℕ → Bool). label n rule F (out_byte K) x) out_same ∙ byte_same x)

  module _ (j : ℕ) (job : j < 2) where
    refusal_same : (m : ℕ) → label_refusal K j (2 * m) ≡ first (label_tests_then n rule faults m)
    unfolding label_refusal first
    refusal_same m =
        rw (
          is-job j job,
          eq-eqb (length (empty_table n)) (table_len n) (length-replicate {A = ℕ} (table_len n) 0),
          zeros_unused n (table_len n),
          twice_same n m,
        )

    pub label_then : (m : ℕ) → labelled K j (2 * m) ≡ labelled_then n rule faults m
    unfolding labelled
    label_then m = rw (refusal_same m, exchanges_same)

    -- refused, the half is as it was; accepted, it has a byte for each node, and these are the labels
    pub labels_then : (m : ℕ) (before : List ℕ) → length before ≡ 2 * m → half j m (labels_after K j before) ≡ labels_after_then n rule faults (half j m before)
    labels_then m before e =
        elim (ℕ_discrete (label_refusal K j (length before)) 0) [
          | yes z ↦ written z
          | no z ↦ ap (half j m) (kept z) ∙ sym (rw (sized ∙ refusal_is, ne_eqb (label_refusal K j (length before)) 0 z))
        ]
      where
        sized : first (label_tests_then n rule faults (length (half j m before))) ≡ first (label_tests_then n rule faults m)
        sized = ap (λ (k : ℕ). first (label_tests_then n rule faults k)) (half_long m before e j job)

        refusal_is : first (label_tests_then n rule faults m) ≡ label_refusal K j (length before)
        refusal_is = sym (ap (label_refusal K j) e ∙ refusal_same m)

        kept : label_refusal K j (length before) ≢ 0 → labels_after K j before ≡ before
        kept z = sym (labelling.kept K j before z)

        nodes_are : label_refusal K j (length before) ≡ 0 → m ≡ 2 ^ n
        nodes_are z = omega (arith, sym e ∙ buffer_sized K j before z)

        written : label_refusal K j (length before) ≡ 0 → half j m (labels_after K j before) ≡ labels_after_then n rule faults (half j m before)
        written z =
            ap (λ (k : ℕ). half j k (labels_after K j before)) (nodes_are z) ∙ labels_written K j before z ∙ labels_same
            ∙ sym (rw (sized ∙ refusal_is, z))

-- ---- where no node drains, no label is 4, whatever the job closes

pub no_four : (n rule : ℕ) (faults closed : List ℕ) (x : ℕ) → label_at (cabinet n rule faults (empty_table n) closed) x ≢ 4
unfolding label_in
no_four n rule faults closed x e = go (either (ltb x (2 ^ n))) (either (faulty K x))
  where
    K : Cabinet
    K = cabinet n rule faults (empty_table n) closed

    go : (ltb x (2 ^ n) ≡ true) ⊎ (ltb x (2 ^ n) ≡ false) → (faulty K x ≡ true) ⊎ (faulty K x ≡ false) → ⊥
    go (inl a) (inl f) = omega (arith, e, is-faulty K x (ltb-true x (2 ^ n) a) f)
    go (inl a) (inr f) = omega (arith, e, works K x (ltb-true x (2 ^ n) a) (or_none (faulty K x) (zeros_none (table_len n) x) ∙ f))
    go (inr a) _ = omega (arith, e, get_or-eq_default (labels_of K) 0 {n = x} (omega (arith, labels_length K, ltb-false x (2 ^ n) a)))
