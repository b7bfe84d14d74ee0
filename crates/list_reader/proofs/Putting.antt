-- The pass that sets bits: the table with the bits of the parts that are left is the table with those of all parts.
use mathlib.Core.Bool.{true, false}
use mathlib.Core.List.{List, [], ◌∷◌}
use mathlib.Core.Path.{◌≡◌, refl, sym, ap, ap₂, subst, ◌∙◌}
use mathlib.Core.Logic.{⊎_elim}
use Prim.Native.Nat.{ℕ, min, ◌+◌, ◌*◌, ◌≤◌, ◌<◌}
use native.Mathlib.Omega.{arith}
use lib.Dec.{leb, ltb}
use lib.ListN.{length, drop, length-drop}
use borrow.Author.Tests.{leb-false, ltb-false, ltb-true}
use Rattle.cube.proofs.Bools.{clash, either, or_false}
use Rattle.notice.specs.Addresses.{with_bits}
use Rattle.notice.proofs.Bits.{length_bits}
use Rattle.list_reader.specs.Front.{Entry, a_run, between, bytes_at, capped, entry_at, front, high_at, with_parts}
use Rattle.std.specs.Prelude.{Some, None}
use Rattle.ranges.specs.Grammar.{high, is_list, low, parts_of, reaches, value}
use Rattle.spelling.specs.Laws.{Bytes}
use Rattle.spelling.proofs.Tables.{bytes_bits}
use Rattle.list_reader.proofs.Again.{Again, again}
use Rattle.list_reader.proofs.Entries.{Taken}
use Rattle.ranges.proofs.Beyond.{entry_order}
use Rattle.list_reader.proofs.Left.{bad_at, beyond_on, near_capped, nothing_left, rules_on, taken_at, within_near}

pub record Putting (text old now rest : List ℕ) : Type 0 where
  pub long : length rest ≤ length text
  pub sized : length now ≡ length old
  pub bytes : Bytes now
  pub rules : is_list rest ≡ true
  pub near : reaches (8 * length old) rest ≡ false
  pub whole : with_parts now (parts_of rest) ≡ with_parts old (parts_of text)

pub put_start : (text old : List ℕ) → Bytes old → is_list text ≡ true → reaches (8 * length old) text ≡ false → Putting text old old text
put_start text old b e f = record { long = omega arith; sized = refl; bytes = b; rules = e; near = f; whole = refl }

parts_then : (t p : List ℕ) (ps : List (List ℕ)) → with_parts t (p ∷ ps) ≡ with_parts (with_bits t (between (low p) (high p))) ps
unfolding with_parts
parts_then t p ps = refl

parts_end : (t : List ℕ) → with_parts t (parts_of []) ≡ t
unfolding with_parts parts_of
parts_end t = refl

module _ {text old now rest : List ℕ} (P : Putting text old now rest) (few : length old ≤ 512) where
  module _ (h : 0 < length rest) where
    -- no entry is bad any more
    put_bad : {A : Type 0} → None ≡ entry_at rest → A
    put_bad e = absurd (clash P.rules (bad_at rest h e))

    module _ {lo hi next : ℕ} (e : a_run lo hi next ≡ entry_at rest) where
      t : Taken rest lo hi next
      t = taken_at rest h e

      small : 8 * length old ≤ 4096
      small = omega (arith, few)

      near_both : (leb (8 * length old) hi ≡ false) × (reaches (8 * length old) (drop next rest) ≡ false)
      near_both = or_false _ _ (sym (beyond_on t (8 * length old) small) ∙ P.near)

      put_within : hi < 8 * length old
      put_within = leb-false (8 * length old) hi near_both.0

      -- so its nodes are what they are
      high_near : high t.part < 8 * length old
      high_near = within_near (8 * length old) (high t.part) small (omega (arith, t.high_is, put_within))

      high_exact : hi ≡ high t.part
      high_exact = t.high_is ∙ near_capped (high t.part) (omega (arith, high_near, small))

      low_exact : lo ≡ low t.part
      low_exact = t.low_is ∙ near_capped (low t.part) (omega (arith, high_near, small, entry_order t.part t.entry))

      put_on : {after : List ℕ} → after ≡ with_bits now (between lo hi) → Putting text old after (drop next rest)
      put_on {after} b =
          record {
            long = omega (arith, length-drop next rest, P.long);
            sized = ap length b ∙ length_bits now (between lo hi) ∙ P.sized;
            bytes = subst Bytes (sym b) (bytes_bits now (between lo hi) P.bytes);
            rules = sym (rules_on t) ∙ P.rules;
            near = near_both.1;
            whole =
                ap (λ (s : List ℕ). with_parts s (parts_of (drop next rest)))
                (b ∙ ap₂ (λ (x y : ℕ). with_bits now (between x y)) low_exact high_exact)
                ∙ sym (parts_then now t.part (parts_of (drop next rest)))
                ∙ ap (with_parts now) (sym t.parts)
                ∙ P.whole;
          }

    -- so there is one, and what is read of it again is what was taken
    record Found : Type 0 where
      lo : ℕ
      hi : ℕ
      next : ℕ
      is : a_run lo hi next ≡ entry_at rest

    found : Found
    found = go (entry_at rest) refl
      where
        go : (e : Entry) → e ≡ entry_at rest → Found
        go (Some r) e = record { lo = r.low; hi = r.high; next = r.bytes; is = e }
        go None e = put_bad e

    module _ {lo hi bytes : ℕ} (low_is : lo ≡ capped (value (front rest))) (high_is : hi ≡ high_at rest) (bytes-is : bytes ≡ bytes_at rest) where
      seen : Again rest found.lo found.hi found.next
      seen = again rest found.is

      same_low : lo ≡ found.lo
      same_low = low_is ∙ sym seen.low_is

      same_high : hi ≡ found.hi
      same_high = high_is ∙ sym seen.high_is

      pub turn_within : hi < 8 * length old
      turn_within = omega (arith, same_high, put_within found.is)

      pub turn_upto : bytes ≤ length rest
      turn_upto = omega (arith, bytes-is, seen.within)

      turn : {after : List ℕ} → after ≡ with_bits now (between lo hi) → Putting text old after (drop found.next rest)
      turn b = put_on found.is (b ∙ ap₂ (λ (x y : ℕ). with_bits now (between x y)) same_low same_high)

      -- the comma goes with it, if one stands there
      next_is : found.next ≡ min (bytes + 1) (length rest)
      next_is =
          ⊎_elim
          (λ (e : ltb (bytes_at rest) (length rest) ≡ true).
          let next : found.next ≡ bytes_at rest + 1 = seen.next_is ∙ rw e in
          omega (arith, next, bytes-is, ltb-true (bytes_at rest) (length rest) e))
          (λ (e : ltb (bytes_at rest) (length rest) ≡ false).
          let next : found.next ≡ bytes_at rest = seen.next_is ∙ rw e in
          omega (arith, next, bytes-is, seen.within, ltb-false (bytes_at rest) (length rest) e))
          (either (ltb (bytes_at rest) (length rest)))

      pub turn_on : {k : ℕ} → k ≡ min (bytes + 1) (length rest) → {after : List ℕ} → after ≡ with_bits now (between lo hi) → Putting text old after (drop k rest)
      turn_on e {after} b = subst (λ (k : ℕ). Putting text old after (drop k rest)) (next_is ∙ sym e) (turn b)

  pub put_end : length rest ≡ 0 → now ≡ with_parts old (parts_of text)
  put_end h = sym (ap (λ (s : List ℕ). with_parts now (parts_of s)) (nothing_left rest h) ∙ parts_end now) ∙ P.whole
