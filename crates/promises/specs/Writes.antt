-- Writing a notice (RULES, Tables and the notice), of whatever the contracts allow: what was written is read back, what was read is written again, the
-- refusals, and the bytes of the buffer. lib is the library, as Rattle or as C calls it. Proved in proofs/Writes.antt.
use Rattle.std.specs.Prelude.{List, ◌≢◌, ◌≡◌, ℕ, ◌+◌, ◌^◌, ◌≤◌, ◌<◌, drop, length, take, Ok, Err}
use Rattle.cube.specs.Count.{count}
use Rattle.cube.specs.Tables.{node_bit}
use Rattle.notice.specs.Notice.{Noticed, a_notice}
use Rattle.spelling.specs.Laws.{Bytes}
use Rattle.writer.specs.Writing.{Wrote}
use Rattle.promises.specs.Library.{Library}
use Rattle.promises.specs.Refusals.{TableLength, WriteGiven}
use Rattle.cube.specs.declared.refusals.Refusal.{Refusal}
use Rattle.cube.specs.declared.refusals.Refusal.TheVariants.{Room}
use Rattle.cube.specs.Refused.{refused}

pub record Writes (lib : Library) : Type 0 where
  -- "1, 2, 3 as in labelling, then 13 exactly if the notice is longer than the buffer,
  pub refusal :
      {n : ℕ} {faults before after : List ℕ} {x : Wrote} → lib.writes n faults before x after → WriteGiven n faults (length before) (refused x)
  -- with the buffer untouched"
  pub kept : {n : ℕ} {r : Refusal} {faults before after : List ℕ} → lib.writes n faults before (Err r) after → after ≡ before
  -- "bytes of the buffer behind the notice keep their content"; the notice is in the buffer, whose length stays
  pub behind : {n len : ℕ} {faults before after : List ℕ} → lib.writes n faults before (Ok len) after → drop len after ≡ drop len before
  pub within :
      {n len : ℕ} {faults before after : List ℕ} → lib.writes n faults before (Ok len) after
      → (len ≤ length before) × (length after ≡ length before)
  -- "reading what was written, whatever stands behind it, gives back the dimension, the count and the table, and takes as many bytes as the length": the
  -- bytes that are read begin as those that were written
  pub reads_back :
      {n len : ℕ} {faults before after bytes old table : List ℕ} {y : Noticed} → lib.writes n faults before (Ok len) after
      → take len bytes ≡ take len after → TableLength n (length old) → lib.reads bytes old y table
      → y ≡ a_notice n (count (2 ^ n) (node_bit faults)) len
  pub table_back :
      {n len : ℕ} {faults before after bytes old table : List ℕ} {y : Noticed} → lib.writes n faults before (Ok len) after
      → take len bytes ≡ take len after → TableLength n (length old) → lib.reads bytes old y table → Bytes faults → table ≡ faults
  -- "writing what an accepted notice gave yields the bytes that it took"
  pub writes_back :
      {n m taken : ℕ} {bytes old faults before after : List ℕ} {x : Wrote} → Bytes bytes → lib.reads bytes old (a_notice n m taken) faults
      → lib.writes n faults before x after → taken ≤ length before → (x ≡ Ok taken) × (take taken after ≡ take taken bytes)
  -- and where they have no room, it is refused
  pub no_room :
      {n m taken : ℕ} {bytes old faults before after : List ℕ} {x : Wrote} → Bytes bytes → lib.reads bytes old (a_notice n m taken) faults
      → lib.writes n faults before x after → length before < taken → x ≡ Err Room
  -- "so each table has one notice": two accepted notices that gave one table took the same bytes
  pub one_notice :
      {n m m' taken taken' : ℕ} {bytes bytes' old old' faults : List ℕ} → Bytes bytes → Bytes bytes'
      → lib.reads bytes old (a_notice n m taken) faults → lib.reads bytes' old' (a_notice n m' taken') faults
      → take taken bytes ≡ take taken' bytes'
  -- "it has at most 2^n + 3 bytes, 4,099 at n = 12": a buffer of so many is never too short, nor one of 4,099 for any n
  pub short : {n len : ℕ} {faults before after : List ℕ} → lib.writes n faults before (Ok len) after → len ≤ 2 ^ n + 3
  pub enough : {n : ℕ} {r : Refusal} {faults before after : List ℕ} → lib.writes n faults before (Err r) after → 2 ^ n + 3 ≤ length before → r ≢ Room
  pub enough_for_all : {n : ℕ} {r : Refusal} {faults before after : List ℕ} → lib.writes n faults before (Err r) after → 4099 ≤ length before → r ≢ Room
