-- Worked texts. Short ones are computed. The longest, of pairs of nodes with one between, has its pairs counted one by one, as each is a run that no other
-- joins.
use mathlib.Core.Path.{◌≡◌, refl, ap, ◌∙◌}
use mathlib.Core.Bool.{Bool, beq, true, false, not}
use mathlib.Core.List.{List, [], ◌∷◌, ◌++◌}
use Prim.Native.Nat.{ℕ, zero, suc, ◌+◌, ◌*◌, ◌-◌, ◌/◌, ◌%◌, ◌<◌}
use native.Mathlib.Omega.{arith}
use lib.Dec.{eqb}
use lib.ListN.{get_or, length, replicate}
use borrow.Author.Tests.{eq-eqb, ne_eqb, not-false}
use Rattle.cube.specs.Count.{some, least}
use Rattle.cube.specs.Cube.{bit}
use Rattle.cube.specs.Tables.{node_bit}
use Rattle.cube.proofs.Bools.{beq_true}
use Rattle.cube.proofs.Front.{get_d_tab}
use Rattle.cube.proofs.Search.{none_some}
use Rattle.spelling.specs.Spelled.{having}
use Rattle.spelling.proofs.Having.{having_no, having_rises, having_yes}
use Rattle.ranges.specs.Grammar.{split, ahead, every, is_digit, all_digits, no_zero, is_number, value_from, entry_of, is_entry, parts_of, is_list}
use Rattle.ranges.specs.Laws.{pairs, runs_rise}
use Rattle.ranges.specs.Written.{join_run, grouped, digits_of, decimal, entry_text, entry_texts, behind, joined, list_text}
use Rattle.ranges.proofs.Length.{cost, cost_lone, cost_none, cost_range, text_cost, width}
use Rattle.ranges.proofs.Runs.{first_run, grouped_rises, join_apart, join_next}

pub as_in_rules : list_text 4 (0x0F ∷ 0x01 ∷ []) ≡ 48 ∷ 45 ∷ 51 ∷ 44 ∷ 56 ∷ []
unfolding bit node_bit having join_run grouped digits_of decimal entry_text entry_texts behind joined list_text
as_in_rules = refl

pub two_nodes : list_text 1 (3 ∷ []) ≡ 48 ∷ 45 ∷ 49 ∷ []
unfolding bit node_bit having join_run grouped digits_of decimal entry_text entry_texts behind joined list_text
two_nodes = refl

pub none : list_text 4 (0 ∷ 0 ∷ []) ≡ []
unfolding bit node_bit having join_run grouped digits_of decimal entry_text entry_texts behind joined list_text
none = refl

-- low above high, where low has more digits than any machine word
pub falls : is_list (replicate 20 57 ++ 45 ∷ 49 ∷ []) ≡ false
unfolding split ahead every is_digit all_digits no_zero is_number value_from entry_of is_entry parts_of is_list
falls = refl

-- ---- the longest

-- pairs of nodes, and one between
abbrev paired : ℕ → Bool
paired k = not (eqb (k % 3) 2)

abbrev in_turn : ℕ → ℕ
in_turn i = get_or (0xDB ∷ 0xB6 ∷ 0x6D ∷ []) (i % 3) 0

-- the bits of the table: its bytes are three in turn, of 24 nodes
twenty_four : some 24 (λ r. not (beq (bit (r % 8) (in_turn (r / 8))) (paired r))) ≡ false
unfolding some least bit
twenty_four = refl

turn_bit : (r : ℕ) → r < 24 → bit (r % 8) (in_turn (r / 8)) ≡ paired r
turn_bit r h =
    beq_true (bit (r % 8) (in_turn (r / 8))) (paired r)
    (not-false (beq (bit (r % 8) (in_turn (r / 8))) (paired r))
    (none_some 24 (λ i. not (beq (bit (i % 8) (in_turn (i / 8))) (paired i))) twenty_four r h))

thirds : (q r : ℕ) → (3 * q + r) % 3 ≡ r % 3
thirds q r = omega arith

eighths : (q r : ℕ) → (8 * q + r) % 8 ≡ r % 8
eighths q r = omega arith

turn_byte : (k : ℕ) → k / 8 % 3 ≡ k % 24 / 8 % 3
turn_byte k =
    let z : k / 8 ≡ 3 * (k / 24) + k % 24 / 8 = omega arith in
    ap (λ (x : ℕ). x % 3) z ∙ thirds (k / 24) (k % 24 / 8)

turn_place : (k : ℕ) → k % 8 ≡ k % 24 % 8
turn_place k =
    let z : k ≡ 8 * (3 * (k / 24)) + k % 24 = omega arith in
    ap (λ (x : ℕ). x % 8) z ∙ eighths (3 * (k / 24)) (k % 24)

turn_pair : (k : ℕ) → k % 3 ≡ k % 24 % 3
turn_pair k =
    let z : k ≡ 3 * (8 * (k / 24)) + k % 24 = omega arith in
    ap (λ (x : ℕ). x % 3) z ∙ thirds (8 * (k / 24)) (k % 24)

pairs_bit : (k : ℕ) → k < 4096 → node_bit (pairs 512) k ≡ paired k
unfolding node_bit
pairs_bit k h = rw (get_d_tab 512 in_turn (k / 8) (omega arith), turn_byte k, turn_place k, turn_pair k) (turn_bit (k % 24) (omega arith))

-- a pair in front of runs that begin behind the node between
pair_front : (k size : ℕ) (runs : List (ℕ × ℕ)) → runs_rise (k + 1 + 1 + 1) size runs ≡ true → join_run k (join_run (k + 1) runs) ≡ (k, k + 1) ∷ runs
unfolding join_run
pair_front k size [] up = join_next k (k + 1, k + 1) [] refl
pair_front k size (r ∷ more) up =
    let f = first_run (k + 1 + 1 + 1) size r more up in
    ap (join_run k) (join_apart (k + 1) r more (λ e. omega (arith, f.from))) ∙ join_next k (k + 1, k + 1) (r ∷ more) refl

-- m pairs and the last node, 4095
unfoldable bytes_of : (m : ℕ) → ℕ
bytes_of zero = 5
bytes_of (suc m) = width (4092 - 3 * m) + width (4093 - 3 * m) + 2 + bytes_of m

all_bytes : bytes_of 1365 ≡ 12914
unfolding bytes_of width
all_bytes = refl

last_cost : width 4095 + 1 + cost [] ≡ 5
unfolding width
last_cost = rw cost_none

module _ (p : ℕ → Bool) (alike : (k : ℕ) → k < 4096 → p k ≡ paired k) where
  yes_node : (k : ℕ) → k < 4096 → k % 3 < 2 → p k ≡ true
  yes_node k h l = alike k h ∙ rw (ne_eqb (k % 3) 2 (λ e. omega arith))

  no_node : (k : ℕ) → k < 4096 → k % 3 ≡ 2 → p k ≡ false
  no_node k h e = alike k h ∙ rw (eq-eqb (k % 3) 2 e)

  next_pair : (left k : ℕ) → k + (left + 3) ≡ 4096 → k % 3 ≡ 0
      → grouped (having (suc (suc (suc left))) k p) ≡ (k, k + 1) ∷ grouped (having left (k + 1 + 1 + 1) p)
  unfolding grouped
  next_pair left k e z =
      let rest : List ℕ = having left (k + 1 + 1 + 1) p in
      let nodes : having (suc (suc (suc left))) k p ≡ k ∷ (k + 1) ∷ rest =
      having_yes 4096 p (suc (suc left)) k (yes_node k (omega arith) (omega arith))
      ∙ ap (λ (l : List ℕ). k ∷ l) (having_yes 4096 p (suc left) (k + 1) (yes_node (k + 1) (omega arith) (omega arith))
      ∙ ap (λ (l : List ℕ). (k + 1) ∷ l) (having_no 4096 p left (k + 1 + 1) (no_node (k + 1 + 1) (omega arith) (omega arith)))) in
      ap grouped nodes
      ∙ pair_front k 4096 (grouped rest) (grouped_rises (k + 1 + 1 + 1) 4096 rest (having_rises 4096 p left (k + 1 + 1 + 1) (omega arith)))

  pairs_cost : (m k : ℕ) → k + (3 * m + 1) ≡ 4096 → cost (grouped (having (3 * m + 1) k p)) ≡ bytes_of m
  unfolding bytes_of having grouped join_run
  pairs_cost zero k e =
      let z : k ≡ 4095 = omega arith in
      rw z (ap (λ (l : List ℕ). cost (grouped l)) (having_yes 4096 p 0 4095 (yes_node 4095 (omega arith) (omega arith)))
      ∙ cost_lone 4095 [] (omega arith) ∙ last_cost)
  pairs_cost (suc m) k e =
      let z : 3 * suc m + 1 ≡ suc (suc (suc (3 * m + 1))) = omega arith in
      let a : 4092 - 3 * m ≡ k = omega arith in
      let b : 4093 - 3 * m ≡ k + 1 = omega arith in
      rw (z, next_pair (3 * m + 1) k (omega arith) (omega arith), a, b)
      (cost_range k (k + 1) (grouped (having (3 * m + 1) (k + 1 + 1 + 1) p)) (omega arith) (omega arith)
      ∙ ap (λ (x : ℕ). width k + width (k + 1) + 2 + x) (pairs_cost m (k + 1 + 1 + 1) (omega arith)))

pub longest : length (list_text 12 (pairs 512)) ≡ 12913
unfolding list_text
longest =
    text_cost (grouped (having 4096 0 (node_bit (pairs 512))))
    ∙ ap (λ (x : ℕ). x - 1) (pairs_cost (node_bit (pairs 512)) pairs_bit 1365 0 refl ∙ all_bytes)
