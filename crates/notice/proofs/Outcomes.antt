-- The outcomes of a notice, one law each, as the code comes to them: what the number at hand is, and so what the notice is. Refused, the table is kept
-- and the tail begins at the end; accepted, the table has room for every address, so that the writing pass may go, and holds their bits after it.
use mathlib.Core.Path.{◌≡◌, refl, sym, ap, ap₂, ◌∙◌}
use mathlib.Core.Bool.{true}
use mathlib.Core.List.{List}
use Prim.Native.Nat.{ℕ, ◌+◌, ◌-◌, ◌*◌, ◌^◌, ◌≤◌, ◌<◌}
use native.Mathlib.Omega.{arith}
use lib.ListN.{length, take, drop, replicate, length-drop, length-replicate}
use lib.Seq.{take_all}
use borrow.Author.Tests.{eq-eqb, le-ltb, lt-ltb, ne_eqb}
use Rattle.std.specs.Prelude.{Ok, Err}
use Rattle.cube.specs.Refusal.{first}
use Rattle.cube.specs.declared.refusals.Refusal.{Refusal}
use Rattle.cube.specs.declared.refusals.Refusal.TheVariants.{Count, Length}
use Rattle.cube.specs.Tables.{table_len}
use Rattle.cube.proofs.Tables.{table_few, table_room}
use Rattle.groups.specs.Number.{Number, further, number_at}
use Rattle.groups.proofs.Groups.{read_number}
use Rattle.notice.specs.Tests.{tested, count_tests, length_tests}
use Rattle.notice.specs.Addresses.{addresses_end, addresses_at, rising, with_bits}
use Rattle.notice.specs.Notice.{Noticed, a_notice, a_rest, count_at, dimension_at, rest_at, notice_from, notice_of, noticed, addresses_of, table_after, tail_at}
use Rattle.notice.proofs.Cases.{tested_refused, tested_fails, tested_passes}
use Rattle.notice.proofs.Addresses.{read_addresses}
use Rattle.notice.proofs.Rising.{rising_wider}
use Rattle.notice.proofs.Refusals.{rest_within}
use Rattle.notice.proofs.Opened.{ReadRest, opened_count, opened_dimension, opened_rest, read_rest, addresses_are}

-- the part of a slice from a place on
pub part_drop : (s : List ℕ) (k : ℕ) → take (length s - k) (drop k s) ≡ drop k s
part_drop s k = take_all (length s - k) (drop k s) (omega (arith, length-drop k s))

-- ---- what follows the dimension: the count's refusals, and then those of the addresses, on the bytes behind it

module _ (n : ℕ) (s : List ℕ) (at : ℕ) where
  pub rest_refused : {r : Refusal} {p : ℕ} → Err (r, p) ≡ count_at n s at → Err (r, p) ≡ rest_at n s at
  unfolding rest_at
  rest_refused e = rw (sym e)

  -- the count, as the code comes to it
  pub count_refused : {r : Refusal} {p : ℕ} → Err (r, p) ≡ number_at s at → Err (r, p) ≡ rest_at n s at
  unfolding count_at
  count_refused e = rest_refused (tested_refused (count_tests n) at e)

  module _ {m start size : ℕ} (e : Ok (m, start) ≡ number_at s at) (full : size ≡ 2 ^ n) where
    pub count_many : size < m → Err (Count, at) ≡ rest_at n s at
    unfolding count_at first
    count_many h = rest_refused (tested_fails (count_tests n) at 11 e (rw (lt-ltb (2 ^ n) m (omega arith))) refl)

    pub counted : m ≤ size → Ok (m, start) ≡ count_at n s at
    unfolding count_at first
    counted h = tested_passes (count_tests n) at e (rw (le-ltb (2 ^ n) m (omega arith)))

  module _ {m start size : ℕ} (e : Ok (m, start) ≡ count_at n s at) (full : size ≡ 2 ^ n) where
    pub rest_begins : start ≤ length s
    rest_begins = (read_number s at m start (opened_count n s at m start (sym e)).0).within

    -- the addresses, as the address reader is handed them
    handed_end : addresses_end m (take (length s - start) (drop start s)) 0 0 size ≡ addresses_end m (drop start s) 0 0 (2 ^ n)
    handed_end = rw (part_drop s start, full)

    module _ {r : Refusal} {p : ℕ} (f : Err (r, p) ≡ addresses_end m (take (length s - start) (drop start s)) 0 0 size) where
      pub rest_bad : Err (r, start + p) ≡ rest_at n s at
      unfolding rest_at further
      rest_bad = rw (sym e) (rw (sym (f ∙ handed_end)))

      -- the place that the address reader answers is among its bytes, or where they end
      pub rest_place : start + p ≤ length s
      rest_place = rest_within n s at m start (opened_count n s at m start (sym e)).0 r p (sym (f ∙ handed_end))

    module _ {base taken : ℕ} (f : Ok (base, taken) ≡ addresses_end m (take (length s - start) (drop start s)) 0 0 size) where
      pub rest_good : a_rest m start (start + taken) ≡ rest_at n s at
      unfolding rest_at further
      rest_good = rw (sym e) (rw (sym (f ∙ handed_end)))

      pub rest_fits : start + taken ≤ length s
      rest_fits =
          let a = read_addresses m (drop start s) 0 0 (2 ^ n) _ _ (sym (f ∙ handed_end)) in
          omega (arith, length-drop start s, rest_begins, a.within (omega arith))

-- ---- the whole notice, where d is the dimension as the question reads it

module _ (s : List ℕ) {d : Number} where
  pub notice-refused : {r : Refusal} {p : ℕ} → Err (r, p) ≡ d → Err (r, p) ≡ notice_from d s
  unfolding notice_from
  notice-refused e = rw (sym e)

  module _ {n at : ℕ} (e : Ok (n, at) ≡ d) where
    pub notice_bad : {r : Refusal} {p : ℕ} → Err (r, p) ≡ rest_at n s at → Err (r, p) ≡ notice_from d s
    unfolding notice_from
    notice_bad f = rw (sym e) (rw (sym f))

    pub notice_good : {m start end : ℕ} → a_rest m start end ≡ rest_at n s at → a_notice n m end ≡ notice_from d s
    unfolding notice_from
    notice_good f = rw (sym e) (rw (sym f))

-- ---- the tail

module _ (s : List ℕ) where
  pub tail_refused : {r : Refusal} {p : ℕ} → Err (r, p) ≡ notice_of s → length s ≡ tail_at s
  unfolding tail_at
  tail_refused e = rw (sym e)

  pub tail_good : {n m end : ℕ} → a_notice n m end ≡ notice_of s → end ≡ tail_at s
  unfolding tail_at
  tail_good e = rw (sym e)

  -- the part from a place on, as bytes and as a place of memory
  pub tail_part : (block offset at end : ℕ) → at ≡ end
      → record { bytes : take (length s - at) (drop at s) ≡ drop end s; place : ◌≡◌ {A = ℕ × ℕ} (block, at + offset) (block, offset + end) }
  tail_part block offset at end e =
      let z : at + offset ≡ offset + end = omega arith in
      record { bytes = part_drop s at ∙ ap (λ (k : ℕ). drop k s) e; place = ap (λ (k : ℕ). (block, k)) z }

-- ---- the reader

-- what `read` has to show of its answer, and of the table after it
abbrev pub Outcome : (s t : List ℕ) → Noticed → List ℕ → Type 0
Outcome s t told after = record { answer : told ≡ noticed s t; table : after ≡ table_after s t }

-- `x` is what the code hands back
outcome_refused : (s t : List ℕ) {x : Noticed} {e : Refusal × ℕ} → x ≡ Err e → Err e ≡ noticed s t → Outcome s t x t
unfolding table_after
outcome_refused s t is e = record { answer = is ∙ e; table = rw (sym e) }

module _ (s : List ℕ) where
  pub outcome_number : (t : List ℕ) {x : Noticed} {r : Refusal × ℕ} → x ≡ Err r → Err r ≡ dimension_at s → Outcome s t x t
  unfolding noticed
  outcome_number t is e = outcome_refused s t is (notice-refused s (tested_refused (length_tests t) 0 e))

  module _ {n at : ℕ} (e : Ok (n, at) ≡ dimension_at s) where
    pub small : n ≤ 12
    small = (opened_dimension s n at (sym e)).good.1

    pub outcome_length : (t : List ℕ) → (length t ≡ table_len n → ⊥) → Outcome s t (Err (Length, 0)) t
    unfolding noticed first
    outcome_length t h = outcome_refused s t refl (notice-refused s (tested_fails (length_tests t) 0 2 e (rw (ne_eqb (length t) (table_len n) h)) refl))

    pub sized_value : (t : List ℕ) → length t ≡ table_len n → Ok (n, at) ≡ tested (length_tests t) 0 (dimension_at s)
    unfolding first
    sized_value t sized = tested_passes (length_tests t) 0 e (rw (eq-eqb (length t) (table_len n) sized))

    pub outcome_rest : (t : List ℕ) → length t ≡ table_len n → {x : Noticed} {r : Refusal × ℕ} → x ≡ Err r → Err r ≡ rest_at n s at → Outcome s t x t
    unfolding noticed
    outcome_rest t sized is f = outcome_refused s t is (notice_bad s (sized_value t sized) f)

    module _ {m start end : ℕ} (f : a_rest m start end ≡ rest_at n s at) where
      pub rest_read : ReadRest n s at m start end
      rest_read = read_rest n s at m start end (opened_rest n s at m start end (sym f))

      -- the addresses, as the writing pass is handed them
      handed : addresses_at m (take (length s - start) (drop start s)) 0 0 ≡ addresses_of s
      handed = ap (λ (l : List ℕ). addresses_at m l 0 0) (part_drop s start) ∙ sym (addresses_are n s at m start end (sym e) (sym f))

      module _ (t : List ℕ) (sized : length t ≡ table_len n) {zeros : List ℕ} (clear : zeros ≡ replicate (length t) 0) where
        cleared : length zeros ≡ table_len n
        cleared = ap length clear ∙ length-replicate (length t) 0 ∙ sized

        pub outcome_room : record {
          faults_len_bound : length zeros ≤ 512;
          bytes_value : rising 0 (8 * length zeros) (addresses_at m (take (length s - start) (drop start s)) 0 0) ≡ true;
        }
        outcome_room = record {
          faults_len_bound = omega (arith, cleared, table_few n small);
          bytes_value =
              rw (part_drop s start)
              (rising_wider 0 (2 ^ n) (8 * length zeros) (addresses_at m (drop start s) 0 0) (omega (arith, cleared, table_room n)) rest_read.rises);
        }

        pub outcome_notice : {after : List ℕ} → after ≡ with_bits zeros (addresses_at m (take (length s - start) (drop start s)) 0 0)
            → Outcome s t (a_notice n m end) after
        unfolding noticed table_after
        outcome_notice w =
            let good : a_notice n m end ≡ noticed s t = notice_good s (sized_value t sized) f in
            record { answer = good; table = w ∙ ap₂ with_bits clear handed ∙ rw (sym good) }
