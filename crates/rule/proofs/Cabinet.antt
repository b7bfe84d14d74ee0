-- The label bytes of a cabinet: there is one for each node, 0 stands exactly at the safe ones, the byte of a node that does not work is 3 or more, no byte is
-- above the highest label, and with a rule of at most 3 the table is good.
use mathlib.Core.Bool.{Bool, true}
use mathlib.Core.List.{List}
use mathlib.Core.Path.{◌≡◌, sym, ◌∙◌}
use Prim.Native.Nat.{ℕ, ◌^◌, ◌≤◌, ◌<◌}
use native.Mathlib.Omega.{arith}
use lib.Dec.{leb}
use lib.ListN.{length}
use borrow.Author.Tests.{le-leb, leb-true}
use Rattle.cube.specs.Tables.{highest, label_in, node_bit, table_len}
use Rattle.cube.proofs.Bools.{and_both, and_true, by_cases, or_none}
use Rattle.cube.proofs.Front.{length_tab, get_d_tab}
use Rattle.cube.proofs.Tables.{zeros_none}
use Rattle.rule.specs.Cabinet.{Cabinet, exchanges_of, faulty, is_rule, labels_of, out, out_byte, plain}
use Rattle.rule.specs.Good.{Good}
use Rattle.rule.specs.Rule.{label, safe}
use Rattle.rule.proofs.Bytes.{bytes_le, safe_zero, zero_safe}
use Rattle.rule.proofs.Exchanges.{exchanged}
use Rattle.rule.proofs.Good.{good_same, labels_good}
use Rattle.rule.proofs.Largest.{safe_closed}
use Rattle.rule.proofs.Rounds.{working_few}

-- the numbers that are a rule's
pub rule_is : (k : ℕ) → is_rule k ≡ true → (2 ≤ k) × (k ≤ 3)
unfolding is_rule
rule_is k e = let r = and_true (leb 2 k) (leb k 3) e in (leb-true 2 k r.0, leb-true k 3 r.1)

pub is-rule : (k : ℕ) → (2 ≤ k) × (k ≤ 3) → is_rule k ≡ true
unfolding is_rule
is-rule k r = and_both (le-leb 2 k r.0) (le-leb k 3 r.1)

-- where no node drains and the job closes none, those out of work are the faulty ones
pub plain_faulty : (n rule : ℕ) (faults : List ℕ) (x : ℕ) → faulty (plain n rule faults) x ≡ node_bit faults x
plain_faulty n rule faults x = or_none (node_bit faults x) (zeros_none (table_len n) x)

pub plain_out : (n rule : ℕ) (faults : List ℕ) (x : ℕ) → out (plain n rule faults) x ≡ node_bit faults x
plain_out n rule faults x = or_none (faulty (plain n rule faults) x) (zeros_none (table_len n) x) ∙ plain_faulty n rule faults x

module _ (K : Cabinet) where
  abbrev labelled : ℕ → ℕ
  labelled = label K.n K.rule (out K) (out_byte K)

  -- what labelling and routing ask of the byte of a node that does not work
  out_within : (x : ℕ) → (3 ≤ out_byte K x) × (out_byte K x ≤ highest)
  out_within x = by_cases (λ b. (3 ≤ b) × (b ≤ highest)) (faulty K x) (λ _. (omega arith, omega arith)) (λ _. (omega arith, omega arith))

  pub out_high : (x : ℕ) → out K x ≡ true → 3 ≤ out_byte K x
  out_high x e = (out_within x).0

  pub labels_length : length (labels_of K) ≡ 2 ^ K.n
  unfolding labels_of
  labels_length = length_tab (2 ^ K.n) labelled

  pub label-in : (x : ℕ) → x < 2 ^ K.n → label_in (labels_of K) x ≡ labelled x
  unfolding label_in labels_of
  label-in x h = get_d_tab (2 ^ K.n) labelled x h

  -- byte 0 stands exactly at the safe nodes
  abbrev S : ℕ → Bool
  S = safe K.n K.rule (out K)

  pub zero_is : (x : ℕ) → x < 2 ^ K.n → label_in (labels_of K) x ≡ 0 → S x ≡ true
  unfolding label
  zero_is x h e = zero_safe K.n (out K) (out_byte K) S (safe_closed K.n K.rule (out K)).works out_high x (sym (label-in x h) ∙ e)

  pub is_zero : (x : ℕ) → x < 2 ^ K.n → S x ≡ true → label_in (labels_of K) x ≡ 0
  unfolding label
  is_zero x h e = label-in x h ∙ safe_zero K.n (out K) (out_byte K) S (safe_closed K.n K.rule (out K)).works out_high x h e

  pub label-bytes : (x : ℕ) → x < 2 ^ K.n → label_in (labels_of K) x ≤ highest
  unfolding label
  label-bytes x h =
      omega (arith, label-in x h, bytes_le K.n (out K) (out_byte K) S highest (omega arith) x (out_within x).1)

  pub table_good : K.rule ≤ 3 → Good K.n (label_in (labels_of K))
  table_good small =
      good_same K.n labelled (label_in (labels_of K)) (λ x h. sym (label-in x h))
      (labels_good K.n K.rule (out K) (out_byte K) out_high small)

  -- at most as many exchanges as a cube of 12 dimensions has nodes, and one more
  pub exchanges_few : K.n ≤ 12 → exchanges_of K ≤ 4097
  unfolding exchanges_of
  exchanges_few h = omega (arith, (exchanged K.n K.rule (out K)).ceiling, working_few K.n (out K) h)
