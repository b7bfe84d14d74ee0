-- What RULES says of a notice (Tables and the notice, Refusal numbers), as laws of its definitions: an accepted notice names what the table then holds, a
-- refused one writes nothing, and the tail question agrees with the reader; and how far in a refusal's place can be. Proved in proofs/Laws.antt.
use Rattle.std.specs.Prelude.{◌≡◌, ◌≢◌, true, false, List, [], ◌∷◌, ℕ, ◌+◌, ◌^◌, ◌≤◌, length, drop, replicate, Ok, Err}
use Rattle.cube.specs.Count.{count}
use Rattle.cube.specs.Tables.{table_len, node_bit, unused_set}
use Rattle.groups.specs.Number.{number_at}
use Rattle.cube.specs.Refused.{number}
use Rattle.cube.specs.declared.refusals.Refusal.{Refusal}
use Rattle.cube.specs.declared.refusals.Refusal.TheVariants.{Address, Count, Cut, Group, Length}
use Rattle.notice.specs.Addresses.{rising, among}
use Rattle.notice.specs.Notice.{Noticed, a_notice, dimension_at, notice_of, noticed, addresses_of, refusal_of, table_after, tail_at}

-- an accepted notice at the front of the bytes s
pub record ReadNotice (s : List ℕ) (n m taken : ℕ) : Type 0 where
  -- "dimension n is 1 to 12", and the count is not "above 2^n"
  pub dimension : (1 ≤ n) × (n ≤ 12)
  pub few : m ≤ 2 ^ n
  -- "the number of bytes the notice took": a byte or two for each number, and never more than there are nodes and three
  pub within : taken ≤ length s
  pub short : taken ≤ 3 + 2 ^ n
  -- as many addresses as the count says, "in rising order", and none "2^n or more"
  pub counted : length (addresses_of s) ≡ m
  pub rises : rising 0 (2 ^ n) (addresses_of s) ≡ true

-- a notice that is refused with r at a place
pub record RefusedNotice (s : List ℕ) (r : Refusal) (at : ℕ) : Type 0 where
  -- the number is one of the table's
  pub number : (1 ≤ number r) × (number r ≤ 12)
  -- the place is among the bytes, or where they end, and never further in than the longest notice
  pub within : at ≤ length s
  pub near : at ≤ 4099

-- the fault table of m addresses l
pub record TableOf (n m : ℕ) (l after : List ℕ) : Type 0 where
  -- "one bit per node": node k's bit is set exactly where k is one of the addresses, so as many are set as the count says
  pub sized : length after ≡ table_len n
  pub bits : (k : ℕ) → node_bit after k ≡ among l k
  pub total : count (2 ^ n) (node_bit after) ≡ m
  -- "for n = 1 and 2 the unused high bits are zero"
  pub unused : unused_set n after ≡ false

-- a notice whose count is zero, before the place `next`: it names no node
pub record NoneFaulty (s t : List ℕ) (n next : ℕ) : Type 0 where
  pub answer : noticed s t ≡ a_notice n 0 next
  pub clear : table_after s t ≡ replicate (length t) 0
  pub tail : tail_at s ≡ next

-- "04 04 02 01 03 06 0D 00 ..", the listing's input: nodes 2, 4, 8 and 15 of a 4-cube, and what stands behind the notice
abbrev pub listing_bytes : List ℕ
listing_bytes = 0x04 ∷ 0x04 ∷ 0x02 ∷ 0x01 ∷ 0x03 ∷ 0x06 ∷ 0x0D ∷ 0x00 ∷ []

pub record NoticeLaws : Type 0 where
  -- accepted, "the notice reader overwrites all of the fault table and returns dimension, count and the number of bytes the notice took"
  pub accepted : (s t : List ℕ) (n m taken : ℕ) → noticed s t ≡ a_notice n m taken → ReadNotice s n m taken
  pub written : (s t : List ℕ) (n m taken : ℕ) → noticed s t ≡ a_notice n m taken → TableOf n m (addresses_of s) (table_after s t)
  -- "a count of zero ends the notice"
  pub none_faulty :
      (s t : List ℕ) (n at next : ℕ) → dimension_at s ≡ Ok (n, at) → length t ≡ table_len n → number_at s at ≡ Ok (0, next)
      → NoneFaulty s t n next
  -- "Refused: lent tables keep every byte"
  pub kept : (s t : List ℕ) (r : Refusal) (at : ℕ) → noticed s t ≡ Err (r, at) → table_after s t ≡ t
  pub refused : (s t : List ℕ) (r : Refusal) (at : ℕ) → noticed s t ≡ Err (r, at) → RefusedNotice s r at
  -- the dimension by itself: what it refuses, the reader refuses alike, whatever table it is lent,
  pub dimension_refused : (s t : List ℕ) (r : Refusal) (at : ℕ) → dimension_at s ≡ Err (r, at) → noticed s t ≡ Err (r, at)
  -- at the first byte,
  pub dimension_place : (s : List ℕ) (r : Refusal) (at : ℕ) → dimension_at s ≡ Err (r, at) → at ≡ 0
  -- a table that was sized by it is not refused for its length,
  pub dimension_sizes :
      (s t : List ℕ) (n next : ℕ) (r : Refusal) (at : ℕ) → dimension_at s ≡ Ok (n, next) → length t ≡ table_len n → noticed s t ≡ Err (r, at)
      → 9 ≤ number r
  -- and it is the dimension of an accepted notice
  pub dimension_read : (s t : List ℕ) (n next n' m taken : ℕ) → dimension_at s ≡ Ok (n, next) → noticed s t ≡ a_notice n' m taken → n' ≡ n
  -- the tail question "isn't given" the table's length: it takes for a notice, or refuses, what the reader does, unless the reader answers 2
  pub same_notice : (s t : List ℕ) (x : Noticed) → noticed s t ≡ x → refusal_of x ≢ 2 → notice_of s ≡ x
  -- "one question gives the bytes after the first notice"
  pub tail_behind : (s t : List ℕ) (n m taken : ℕ) → noticed s t ≡ a_notice n m taken → tail_at s ≡ taken
  -- "if the notice is refused for anything but the table's length, it gives the empty part at their end"
  pub tail_empty : (s t : List ℕ) (r : Refusal) (at : ℕ) → noticed s t ≡ Err (r, at) → number r ≢ 2 → (tail_at s ≡ length s) × (drop (tail_at s) s ≡ [])
  -- the listing's notice, read over an old table
  pub listing_answer : noticed listing_bytes (0 ∷ 255 ∷ []) ≡ a_notice 4 4 6
  pub listing_nodes : addresses_of listing_bytes ≡ 2 ∷ 4 ∷ 8 ∷ 15 ∷ []
  pub listing_table : table_after listing_bytes (0 ∷ 255 ∷ []) ≡ 0x14 ∷ 0x81 ∷ []
  pub listing_tail : tail_at listing_bytes ≡ 6
  -- a missing count, behind a table of the wrong length and of the right one: 2 stands before it
  pub two_first : noticed (0x04 ∷ []) (0 ∷ []) ≡ Err (Length, 0)
  pub nine_then : noticed (0x04 ∷ []) (0 ∷ 0 ∷ []) ≡ Err (Cut, 1)
  -- places: a count of 17, a second address that is ill written, one that is node 16, and one that is missing
  pub eleven_place : noticed (0x04 ∷ 0x11 ∷ 0x00 ∷ []) (0 ∷ 0 ∷ []) ≡ Err (Count, 1)
  pub ten_place : noticed (0x04 ∷ 0x02 ∷ 0x03 ∷ 0x81 ∷ 0x00 ∷ []) (0 ∷ 0 ∷ []) ≡ Err (Group, 3)
  pub twelve_place : noticed (0x04 ∷ 0x02 ∷ 0x03 ∷ 0x0C ∷ []) (0 ∷ 0 ∷ []) ≡ Err (Address, 3)
  pub end_place : noticed (0x04 ∷ 0x02 ∷ 0x03 ∷ []) (0 ∷ 0 ∷ []) ≡ Err (Cut, 3)
