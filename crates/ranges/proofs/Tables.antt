-- The table of a text: it has the bits of the nodes that are named, as setting bits in an empty table makes it. The runs of a table have its faulty nodes; so
-- the text names these, and its table is the one that was written.
use mathlib.Core.Path.{◌≡◌, sym, ◌∙◌}
use mathlib.Core.Logic.{◌⊎◌, inl, inr}
use mathlib.Core.Bool.{true, false, ◌&&◌}
use mathlib.Core.List.{List}
use Prim.Native.Nat.{ℕ, ◌*◌, ◌^◌, ◌≤◌, ◌<◌}
use native.Mathlib.Omega.{arith}
use lib.Dec.{leb}
use lib.ListN.{length, length-replicate}
use borrow.Author.Tests.{leb-true}
use Rattle.cube.specs.Tables.{empty_table, node_bit, table_len, unused_set}
use Rattle.cube.proofs.Bools.{either}
use Rattle.cube.proofs.Search.{some_none}
use Rattle.cube.proofs.Tables.{table_room}
use Rattle.notice.specs.Addresses.{rising, among}
use Rattle.notice.proofs.Bits.{length_bits, bits_among}
use Rattle.notice.proofs.Rising.{not_among, rising_wider}
use Rattle.spelling.specs.Laws.{Bytes, IsTable}
use Rattle.spelling.specs.Spelled.{having, faulty_nodes}
use Rattle.spelling.proofs.Having.{having_among, having_is, having_rises}
use Rattle.spelling.proofs.Tables.{bytes_bits, bytes_zeros, table_again}
use Rattle.ranges.specs.Grammar.{is_list, named, named_table, reaches}
use Rattle.ranges.specs.Laws.{runs_rise, in_runs}
use Rattle.ranges.specs.Written.{grouped, list_text}
use Rattle.ranges.proofs.Runs.{grouped_has, grouped_rises, runs_same}
use Rattle.ranges.proofs.Text as text

-- ---- the table of a text

module _ (n : ℕ) (s : List ℕ) where
  nodes_rise : rising 0 (2 ^ n) (having (2 ^ n) 0 (named s)) ≡ true
  nodes_rise = having_rises (2 ^ n) (named s) (2 ^ n) 0 (omega arith)

  table_among : (k : ℕ) → node_bit (named_table n s) k ≡ among (having (2 ^ n) 0 (named s)) k
  unfolding named_table
  table_among k =
      bits_among (table_len n) 0 (having (2 ^ n) 0 (named s)) k
      (rising_wider 0 (2 ^ n) (8 * table_len n) (having (2 ^ n) 0 (named s)) (table_room n) nodes_rise)

  pub table_named : (k : ℕ) → k < 2 ^ n → node_bit (named_table n s) k ≡ named s k
  table_named k h = table_among k ∙ having_among (2 ^ n) (named s) (2 ^ n) 0 k (omega arith) (omega arith) h

  pub table_sized : length (named_table n s) ≡ table_len n
  unfolding named_table
  table_sized = length_bits (empty_table n) (having (2 ^ n) 0 (named s)) ∙ length-replicate {A = ℕ} (table_len n) 0

  -- no bit of it stands for anything else
  pub table_beyond : (k : ℕ) → 2 ^ n ≤ k → node_bit (named_table n s) k ≡ false
  table_beyond k h = table_among k ∙ not_among 0 (2 ^ n) (having (2 ^ n) 0 (named s)) k nodes_rise (inr h)

  bit_unused : (k : ℕ) → (leb (2 ^ n) k ≡ true) ⊎ (leb (2 ^ n) k ≡ false) → (leb (2 ^ n) k && node_bit (named_table n s) k) ≡ false
  bit_unused k (inl t) = rw (t, table_beyond k (leb-true (2 ^ n) k t))
  bit_unused k (inr t) = rw t

  table_unused : unused_set n (named_table n s) ≡ false
  unfolding unused_set
  table_unused =
      some_none (8 * length (named_table n s)) (λ k. leb (2 ^ n) k && node_bit (named_table n s) k) (λ k _. bit_unused k (either (leb (2 ^ n) k)))

  pub is_table : 1 ≤ n → n ≤ 12 → IsTable n (named_table n s)
  is_table h l = record { dimension = (h, l); sized = table_sized; unused = table_unused }

  pub table_bytes : Bytes (named_table n s)
  unfolding named_table
  table_bytes = bytes_bits (empty_table n) (having (2 ^ n) 0 (named s)) (bytes_zeros (table_len n))

-- ---- the text of a table

module _ (n : ℕ) (faults : List ℕ) where
  faulty_rise : rising 0 (2 ^ n) (faulty_nodes n faults) ≡ true
  faulty_rise = having_rises (2 ^ n) (node_bit faults) (2 ^ n) 0 (omega arith)

  pub runs-rise : runs_rise 0 (2 ^ n) (grouped (faulty_nodes n faults)) ≡ true
  runs-rise = grouped_rises 0 (2 ^ n) (faulty_nodes n faults) faulty_rise

  pub runs_are : (k : ℕ) → k < 2 ^ n → in_runs (grouped (faulty_nodes n faults)) k ≡ node_bit faults k
  runs_are k h =
      grouped_has 0 (2 ^ n) (faulty_nodes n faults) k faulty_rise ∙ having_among (2 ^ n) (node_bit faults) (2 ^ n) 0 k (omega arith) (omega arith) h

  pub one_text : (runs : List (ℕ × ℕ)) → runs_rise 0 (2 ^ n) runs ≡ true → ((k : ℕ) → k < 2 ^ n → in_runs runs k ≡ node_bit faults k)
      → grouped (faulty_nodes n faults) ≡ runs
  one_text runs up same = runs_same (2 ^ n) 0 (grouped (faulty_nodes n faults)) runs runs-rise up (λ k h. runs_are k h ∙ sym (same k h))

  pub keeps_rules : is_list (list_text n faults) ≡ true
  unfolding list_text
  keeps_rules = text.text_keeps (2 ^ n) (grouped (faulty_nodes n faults)) runs-rise

  pub within : reaches (2 ^ n) (list_text n faults) ≡ false
  unfolding list_text
  within = text.text_within (2 ^ n) (grouped (faulty_nodes n faults)) runs-rise

  pub text_names : (k : ℕ) → k < 2 ^ n → named (list_text n faults) k ≡ node_bit faults k
  unfolding list_text
  text_names k h = text.text_names (2 ^ n) (grouped (faulty_nodes n faults)) runs-rise k ∙ runs_are k h

  same_nodes : having (2 ^ n) 0 (named (list_text n faults)) ≡ faulty_nodes n faults
  same_nodes =
      having_is (2 ^ n) (named (list_text n faults)) (2 ^ n) 0 (faulty_nodes n faults) (omega arith) faulty_rise
      (λ i _ h. text_names i h ∙ sym (having_among (2 ^ n) (node_bit faults) (2 ^ n) 0 i (omega arith) (omega arith) h))

  pub reads_back : IsTable n faults → Bytes faults → named_table n (list_text n faults) ≡ faults
  unfolding named_table
  reads_back is bytes = rw (same_nodes, ← is.sized) (table_again n faults is bytes)

  pub text_bytes : Bytes (list_text n faults)
  unfolding list_text
  text_bytes = text.text_bytes (grouped (faulty_nodes n faults))
