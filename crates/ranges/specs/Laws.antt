-- What RULES says of list text (List text), as laws of the definitions: what the rules take, which nodes are named, and what the text of a table is. Proved in
-- proofs/Laws.antt.
use Rattle.std.specs.Prelude.{Bool, true, false, cond, ◌&&◌, ◌||◌, List, [], ◌∷◌, ◌++◌, ◌↔◌, ◌≡◌, ℕ, ◌+◌, ◌%◌, ◌^◌, ◌≤◌, ◌<◌, eqb, leb, ltb, get_or, length, replicate}
use Rattle.cube.specs.Tables.{node_bit, tab}
use Rattle.spelling.specs.Laws.{Bytes, IsTable}
use Rattle.spelling.specs.Spelled.{faulty_nodes}
use Rattle.ranges.specs.Grammar.{dash, is_list, named, named_table, reaches}
use Rattle.ranges.specs.Written.{decimal, grouped, joined, list_text}

-- ---- the grammar, the other way: entries first, and then their text

-- an entry is a number, or a range from low to high
pub record Entry : Type 0 where
  pub lone : Bool
  pub low : ℕ
  pub high : ℕ

-- a lone number stands for itself, a range has low at most high
unfoldable pub sound : List Entry → Bool
sound [] = true
sound (e ∷ more) = cond e.lone (eqb e.low e.high) (leb e.low e.high) && sound more

unfoldable pub spelled : List Entry → List (List ℕ)
spelled [] = []
spelled (e ∷ more) = cond e.lone (decimal e.low) (decimal e.low ++ dash ∷ decimal e.high) ∷ spelled more

-- these are the entries of a text that keeps the rules; and it is one
abbrev pub Entries : List Entry → List ℕ → Type 0
Entries es text = (sound es ≡ true) × (text ≡ joined (spelled es))

abbrev pub ListText : List ℕ → Type 0
ListText text = (es : List Entry) × Entries es text

-- some entry has node k
unfoldable pub holds : List Entry → ℕ → Bool
holds [] k = false
holds (e ∷ more) k = (leb e.low k && leb k e.high) || holds more k

-- ---- runs

-- each run is within the nodes from base on, and the next begins more than one node behind it
unfoldable pub runs_rise : (base size : ℕ) → List (ℕ × ℕ) → Bool
runs_rise base size [] = true
runs_rise base size (r ∷ more) = leb base r.0 && (leb r.0 r.1 && (ltb r.1 size && runs_rise (r.1 + 2) size more))

-- some run has node k
unfoldable pub in_runs : List (ℕ × ℕ) → ℕ → Bool
in_runs [] k = false
in_runs (r ∷ more) k = (leb r.0 k && leb k r.1) || in_runs more k

-- the table of an n-cube, of that many bytes, whose faulty nodes are pairs with one node between: 0, 1, 3, 4, 6, 7, ..
abbrev pub pairs : (len : ℕ) → List ℕ
pairs len = tab len (λ i. get_or (0xDB ∷ 0xB6 ∷ 0x6D ∷ []) (i % 3) 0)

pub record RangesLaws : Type 0 where
  -- the texts that the rules take are those of sound entries, joined by commas
  pub grammar : (s : List ℕ) → (is_list s ≡ true) ↔ ListText s
  -- and such a text names the nodes that its entries have
  pub union : (es : List Entry) (k : ℕ) → sound es ≡ true → named (joined (spelled es)) k ≡ holds es k
  -- it goes beyond a cube of that many nodes where it names a node that the cube does not have
  pub beyond : (size : ℕ) (text : List ℕ) → is_list text ≡ true → (reaches size text ≡ true) ↔ ((k : ℕ) × (size ≤ k) × (named text k ≡ true))
  -- "the table is their union": said node by node, of a table that labelling takes
  pub table_named : (n : ℕ) (text : List ℕ) (k : ℕ) → k < 2 ^ n → node_bit (named_table n text) k ≡ named text k
  pub is_table : (n : ℕ) (text : List ℕ) → 1 ≤ n → n ≤ 12 → IsTable n (named_table n text)
  pub table_bytes : (n : ℕ) (text : List ℕ) → Bytes (named_table n text)
  -- "writing gives rising, longest runs": they rise, more than one node apart, and have the faulty nodes and no other
  pub runs-rise : (n : ℕ) (faults : List ℕ) → runs_rise 0 (2 ^ n) (grouped (faulty_nodes n faults)) ≡ true
  pub runs_are : (n : ℕ) (faults : List ℕ) (k : ℕ) → k < 2 ^ n → in_runs (grouped (faulty_nodes n faults)) k ≡ node_bit faults k
  -- no other runs do: rising runs more than one node apart are given by the nodes that they have
  pub one_text : (n : ℕ) (faults : List ℕ) (runs : List (ℕ × ℕ)) → runs_rise 0 (2 ^ n) runs ≡ true
      → ((k : ℕ) → k < 2 ^ n → in_runs runs k ≡ node_bit faults k) → grouped (faulty_nodes n faults) ≡ runs
  -- "reading what was written returns the table": the text keeps the rules, goes not beyond the cube, and names the faulty nodes
  pub keeps_rules : (n : ℕ) (faults : List ℕ) → is_list (list_text n faults) ≡ true
  pub within : (n : ℕ) (faults : List ℕ) → reaches (2 ^ n) (list_text n faults) ≡ false
  pub reads_back : (n : ℕ) (faults : List ℕ) → IsTable n faults → Bytes faults → named_table n (list_text n faults) ≡ faults
  pub text_bytes : (n : ℕ) (faults : List ℕ) → Bytes (list_text n faults)
  -- the longest text has 12,913 bytes, at n = 12
  pub short : (n : ℕ) (faults : List ℕ) → n ≤ 12 → length (list_text n faults) ≤ 12913
  pub longest : length (list_text 12 (pairs 512)) ≡ 12913
  -- no text of a table is shorter than the written one: what was read is written in at most as many bytes
  pub shortest : (n : ℕ) (text : List ℕ) → is_list text ≡ true → reaches (2 ^ n) text ≡ false → length (list_text n (named_table n text)) ≤ length text
  -- worked texts: `0-3,8`; two nodes, `0-1`; none; and `99999999999999999999-1` is not taken
  pub as_in_rules : list_text 4 (0x0F ∷ 0x01 ∷ []) ≡ 48 ∷ 45 ∷ 51 ∷ 44 ∷ 56 ∷ []
  pub two_nodes : list_text 1 (3 ∷ []) ≡ 48 ∷ 45 ∷ 49 ∷ []
  pub none : list_text 4 (0 ∷ 0 ∷ []) ≡ []
  pub falls : is_list (replicate 20 57 ++ 45 ∷ 49 ∷ []) ≡ false
