-- List text (RULES, List text), of whatever the contracts allow: what a text that is taken names is what the table then holds, what was written is the text of
-- the table and reads back, the refusals, and the bytes of the buffers. lib is the library, as Rattle or as C calls it. Proved in proofs/Lists.antt.
use Rattle.std.specs.Prelude.{true, List, ◌≢◌, ◌≡◌, ℕ, ◌^◌, ◌≤◌, ◌<◌, drop, length, take, Ok, Err}
use Rattle.cube.specs.Tables.{node_bit}
use Rattle.ranges.specs.Grammar.{named}
use Rattle.ranges.specs.Laws.{ListText}
use Rattle.ranges.specs.Written.{list_text}
use Rattle.spelling.specs.Laws.{Bytes, IsTable}
use Rattle.writer.specs.Writing.{Wrote}
use Rattle.promises.specs.Library.{Library}
use Rattle.promises.specs.Refusals.{ReadListGiven, TableLength, WriteListGiven}
use Rattle.cube.specs.declared.refusals.Refusal.{Refusal}
use Rattle.cube.specs.declared.refusals.Refusal.TheVariants.{Room}
use Rattle.cube.specs.Refused.{refused}

pub record Lists (lib : Library) : Type 0 where
  -- ---- reading: "1, 2, then 14 for text that breaks these rules anywhere, then 12",
  pub read_refusal : {n k : ℕ} {text before after : List ℕ} → lib.reads_list n text before k after → ReadListGiven n text (length before) k
  -- with the table untouched
  pub read_kept : {n k : ℕ} {text before after : List ℕ} → lib.reads_list n text before k after → k ≢ 0 → after ≡ before
  -- what an accepted text names is what the table then holds, node by node: "the table is their union"
  pub union : {n k : ℕ} {text before after : List ℕ} → lib.reads_list n text before 0 after → k < 2 ^ n → node_bit after k ≡ named text k
  -- it is a table that labelling takes, and the writers
  pub table : {n : ℕ} {text before after : List ℕ} → lib.reads_list n text before 0 after → IsTable n after × Bytes after
  -- and nothing is left of what stood there
  pub overwritten :
      {n : ℕ} {text before before' after after' : List ℕ} → lib.reads_list n text before 0 after → lib.reads_list n text before' 0 after'
      → after ≡ after'
  -- what is accepted keeps the rules, and names no node that the cube does not have
  pub accepted :
      {n k : ℕ} {text before after : List ℕ} → lib.reads_list n text before 0 after → ListText text × (named text k ≡ true → k < 2 ^ n)
  -- ---- writing: "1, 2, 3, then 13 exactly if the text is longer than the buffer",
  pub write_refusal :
      {n : ℕ} {faults before after : List ℕ} {x : Wrote} → lib.writes_list n faults before x after
      → WriteListGiven n faults (length before) (refused x)
  -- with the buffer untouched
  pub write_kept : {n : ℕ} {r : Refusal} {faults before after : List ℕ} → lib.writes_list n faults before (Err r) after → after ≡ before
  -- the front of the buffer is the text of the table, and "bytes behind a written text keep their content"
  pub text : {n len : ℕ} {faults before after : List ℕ} → lib.writes_list n faults before (Ok len) after → take len after ≡ list_text n faults
  pub behind : {n len : ℕ} {faults before after : List ℕ} → lib.writes_list n faults before (Ok len) after → drop len after ≡ drop len before
  pub within :
      {n len : ℕ} {faults before after : List ℕ} → lib.writes_list n faults before (Ok len) after
      → (len ≤ length before) × (length after ≡ length before)
  -- "reading what was written returns the table"
  pub reads_back :
      {n len k : ℕ} {faults before after old table : List ℕ} → lib.writes_list n faults before (Ok len) after
      → TableLength n (length old) → lib.reads_list n (take len after) old k table → Bytes faults → (k ≡ 0) × (table ≡ faults)
  -- what was read is written, and in no more bytes: no text of a table is shorter than the written one
  pub writes_back :
      {n : ℕ} {text old faults before after : List ℕ} {x : Wrote} → lib.reads_list n text old 0 faults → lib.writes_list n faults before x after
      → length text ≤ length before → (len : ℕ) × (x ≡ Ok len) × (len ≤ length text)
  -- the longest text has 12,913 bytes: a buffer of so many is never too short
  pub short : {n len : ℕ} {faults before after : List ℕ} → lib.writes_list n faults before (Ok len) after → len ≤ 12913
  pub enough : {n : ℕ} {r : Refusal} {faults before after : List ℕ} → lib.writes_list n faults before (Err r) after → 12913 ≤ length before → r ≢ Room
