-- What RULES says of writing a notice (Tables and the notice), as laws of the bytes: they read back as the table, whatever stands behind them; what an accepted
-- notice gave is spelled as the bytes that it took; so each table has one notice; and how long it is. Proved in proofs/Laws.antt.
use Rattle.std.specs.Prelude.{List, [], ◌∷◌, ◌++◌, false, ◌≡◌, ℕ, ◌+◌, ◌^◌, ◌≤◌, ◌<◌, get_or, length, take, replicate}
use Rattle.cube.specs.Count.{count}
use Rattle.cube.specs.Tables.{node_bit, table_len, unused_set}
use Rattle.notice.specs.Addresses.{with_bit}
use Rattle.notice.specs.Notice.{a_notice, noticed, table_after}
use Rattle.spelling.specs.Spelled.{notice_bytes}

-- a list of numbers that are bytes, as what a caller lends always is
abbrev pub Bytes : List ℕ → Type 0
Bytes s = (i : ℕ) → get_or s i 0 < 256

-- a fault table of an n-cube that labelling would take: "one byte for n up to 3, otherwise 2^n/8 bytes; for n = 1 and 2 the unused high bits are zero"
pub record IsTable (n : ℕ) (faults : List ℕ) : Type 0 where
  pub dimension : (1 ≤ n) × (n ≤ 12)
  pub sized : length faults ≡ table_len n
  pub unused : unused_set n faults ≡ false

-- bytes s that begin with the notice of a table, of `len` bytes, are read over any table of its length
pub record ReadsBack (n : ℕ) (faults s : List ℕ) (len : ℕ) : Type 0 where
  -- as the dimension, the count and the length,
  pub answer : (before : List ℕ) → length before ≡ length faults → noticed s before ≡ a_notice n (count (2 ^ n) (node_bit faults)) len
  -- and as the table
  pub table : (before : List ℕ) → length before ≡ length faults → Bytes faults → table_after s before ≡ faults

pub record SpellingLaws : Type 0 where
  -- "reading what was written, whatever stands behind it, gives back the dimension, the count and the table, and takes as many bytes as the length"
  pub reads_back : (n : ℕ) (faults rest : List ℕ) → IsTable n faults → ReadsBack n faults (notice_bytes n faults ++ rest) (length (notice_bytes n faults))
  -- "writing what an accepted notice gave yields the bytes that it took"
  pub is_table : (s before : List ℕ) (n m taken : ℕ) → noticed s before ≡ a_notice n m taken → IsTable n (table_after s before)
  pub table_bytes : (s before : List ℕ) (n m taken : ℕ) → noticed s before ≡ a_notice n m taken → Bytes (table_after s before)
  pub spelled : (s before : List ℕ) (n m taken : ℕ) → Bytes s → noticed s before ≡ a_notice n m taken → notice_bytes n (table_after s before) ≡ take taken s
  -- a notice is of bytes, as the table that was read is: so what is asked of either can be met
  pub notice-bytes : (n : ℕ) (faults : List ℕ) → IsTable n faults → Bytes (notice_bytes n faults)
  -- "so each table has one notice"
  pub one_notice :
      (s s' before before' : List ℕ) (n m m' taken taken' : ℕ) → Bytes s → Bytes s'
      → noticed s before ≡ a_notice n m taken → noticed s' before' ≡ a_notice n m' taken' → table_after s before ≡ table_after s' before'
      → take taken s ≡ take taken' s'
  -- "it has at most 2^n + 3 bytes, 4,099 at n = 12"
  pub short : (n : ℕ) (faults : List ℕ) → IsTable n faults → length (notice_bytes n faults) ≤ 2 ^ n + 3
  pub longest : length (notice_bytes 12 (replicate 512 255)) ≡ 4099
  -- the listing's notice, of nodes 2, 4, 8 and 15 of a 4-cube; that of a cube without faults; and an address of two groups, node 200's
  pub listing : notice_bytes 4 (0x14 ∷ 0x81 ∷ []) ≡ 0x04 ∷ 0x04 ∷ 0x02 ∷ 0x01 ∷ 0x03 ∷ 0x06 ∷ []
  pub none : notice_bytes 4 (0 ∷ 0 ∷ []) ≡ 0x04 ∷ 0x00 ∷ []
  pub far : notice_bytes 8 (with_bit (replicate 32 0) 200) ≡ 0x08 ∷ 0x01 ∷ 0xC8 ∷ 0x01 ∷ []
