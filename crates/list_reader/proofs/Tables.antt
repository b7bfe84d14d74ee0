-- A cleared table with the bits of all entries set, one entry after the other, is the table of the nodes that the text names: both have node k's bit exactly
-- where some entry has it, and a table is given by its bits.
use mathlib.Core.Bool.{Bool, true, false, ◌&&◌, ◌||◌}
use mathlib.Core.List.{List, [], ◌∷◌}
use mathlib.Core.Logic.{◌⊎◌, inl, inr}
use mathlib.Core.Path.{◌≡◌, refl, sym, ap, ◌∙◌}
use Prim.Native.Nat.{ℕ, ◌*◌, ◌^◌, ◌≤◌}
use native.Mathlib.Omega.{arith}
use lib.Dec.{leb}
use lib.ListN.{length, length-replicate}
use borrow.Author.Tests.{leb-false, leb-true, lt-leb}
use Rattle.cube.specs.Tables.{empty_table, node_bit, table_len}
use Rattle.cube.proofs.Bools.{and_true, either, or_false}
use Rattle.cube.proofs.Tables.{table_room, zeros_none}
use Rattle.notice.specs.Addresses.{with_bits}
use Rattle.notice.proofs.Bits.{bits_with, length_bits}
use Rattle.spelling.specs.Laws.{Bytes}
use Rattle.spelling.proofs.Tables.{bytes_bits, bytes_zeros, same_table}
use Rattle.ranges.specs.Grammar.{any, covers, every, high, is_entry, is_list, low, named, named_table, parts_of, reaches}
use Rattle.ranges.proofs.Tables.{table_beyond, table_bytes, table_named, table_sized}
use Rattle.list_reader.specs.Front.{between, with_parts}
use Rattle.ranges.proofs.Beyond.{entry_order}
use Rattle.list_reader.proofs.Nodes.{run_has, run_within}
use Rattle.list_reader.proofs.Parts.{and_none}
use Rattle.list_reader.proofs.Left.{far_off}

-- ---- the bits of all entries

pub length_parts : (t : List ℕ) (ps : List (List ℕ)) → length (with_parts t ps) ≡ length t
unfolding with_parts
length_parts t [] = refl
length_parts t (p ∷ ps) = length_parts (with_bits t (between (low p) (high p))) ps ∙ length_bits t (between (low p) (high p))

bytes_parts : (t : List ℕ) (ps : List (List ℕ)) → Bytes t → Bytes (with_parts t ps)
unfolding with_parts
bytes_parts t [] b = b
bytes_parts t (p ∷ ps) b = bytes_parts (with_bits t (between (low p) (high p))) ps (bytes_bits t (between (low p) (high p)) b)

-- an entry or-ed to the bits before it, as it is to the entries behind it
or_then : (a b c : Bool) → ((a || b) || c) ≡ (a || (b || c))
or_then true b c = refl
or_then false b c = refl

or_last : (a : Bool) → a ≡ (a || false)
or_last true = refl
or_last false = refl

module _ (size k : ℕ) where
  bits_parts : (t : List ℕ) (ps : List (List ℕ)) → 8 * length t ≡ size → every is_entry ps ≡ true → any (far_off size) ps ≡ false
      → node_bit (with_parts t ps) k ≡ (node_bit t k || any (covers k) ps)
  unfolding with_parts any every covers
  bits_parts t [] l e f = or_last (node_bit t k)
  bits_parts t (p ∷ ps) l e f =
      let good = and_true (is_entry p) (every is_entry ps) e in
      let near = or_false (far_off size p) (any (far_off size) ps) f in
      let up = entry_order p good.0 in
      let run : List ℕ = between (low p) (high p) in
      let one = bits_with t (low p) run k (run_within (low p) (high p) up (8 * length t) (omega (arith, l, leb-false size (high p) near.0))) in
      bits_parts (with_bits t run) ps (ap (λ (m : ℕ). 8 * m) (length_bits t run) ∙ l) good.1 near.1
      ∙ ap (λ (b : Bool). b || any (covers k) ps) (one ∙ ap (λ (b : Bool). node_bit t k || b) (run_has (low p) (high p) up k))
      ∙ or_then (node_bit t k) (leb (low p) k && leb k (high p)) (any (covers k) ps)

-- what is within a cube is within a larger one, and no entry has a node beyond
far_wider : (size wider : ℕ) (ps : List (List ℕ)) → size ≤ wider → any (far_off size) ps ≡ false → any (far_off wider) ps ≡ false
unfolding any
far_wider size wider [] h e = refl
far_wider size wider (p ∷ ps) h e =
    let r = or_false (far_off size p) (any (far_off size) ps) e in
    rw (lt-leb wider (high p) (omega (arith, leb-false size (high p) r.0))) (far_wider size wider ps h r.1)

pub reaches_wider : (size wider : ℕ) (text : List ℕ) → size ≤ wider → reaches size text ≡ false → reaches wider text ≡ false
unfolding reaches
reaches_wider size wider text h e = far_wider size wider (parts_of text) h e

none_beyond : (size k : ℕ) (ps : List (List ℕ)) → size ≤ k → any (far_off size) ps ≡ false → any (covers k) ps ≡ false
unfolding any covers
none_beyond size k [] h e = refl
none_beyond size k (p ∷ ps) h e =
    let r = or_false (far_off size p) (any (far_off size) ps) e in
    rw (lt-leb k (high p) (omega (arith, leb-false size (high p) r.0)), and_none (leb (low p) k)) (none_beyond size k ps h r.1)

-- ---- the table

module _ (n : ℕ) (text : List ℕ) (rules : is_list text ≡ true) (near : reaches (2 ^ n) text ≡ false) where
  abbrev zeros : List ℕ
  zeros = empty_table n

  sized : length zeros ≡ table_len n
  sized = length-replicate {A = ℕ} (table_len n) 0

  set_bits : (k : ℕ) → node_bit (with_parts zeros (parts_of text)) k ≡ named text k
  unfolding is_list reaches named
  set_bits k =
      bits_parts (8 * length zeros) k zeros (parts_of text) refl rules
      (reaches_wider (2 ^ n) (8 * length zeros) text (omega (arith, sized, table_room n)) near)
      ∙ rw (zeros_none (table_len n) k)

  named_bits : (k : ℕ) → (leb (2 ^ n) k ≡ true) ⊎ (leb (2 ^ n) k ≡ false) → named text k ≡ node_bit (named_table n text) k
  unfolding named reaches
  named_bits k (inl e) =
      let h = leb-true (2 ^ n) k e in
      none_beyond (2 ^ n) k (parts_of text) h near ∙ sym (table_beyond n text k h)
  named_bits k (inr e) = sym (table_named n text k (leb-false (2 ^ n) k e))

  pub parts_table : with_parts zeros (parts_of text) ≡ named_table n text
  parts_table =
      same_table (with_parts zeros (parts_of text)) (named_table n text) (length_parts zeros (parts_of text) ∙ sized ∙ sym (table_sized n text))
      (bytes_parts zeros (parts_of text) (bytes_zeros (table_len n))) (table_bytes n text)
      (λ k h. set_bits k ∙ named_bits k (either (leb (2 ^ n) k)))
