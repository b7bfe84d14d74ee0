-- What an accepted notice is made of, taken apart again: a good dimension, a count of at most 2 ^ n, and good addresses behind it, all within the
-- bytes. Every other outcome is a refusal, so none is left.
use mathlib.Core.Path.{◌≡◌, refl, ap, ◌∙◌}
use mathlib.Core.Bool.{true}
use mathlib.Core.List.{List}
use Prim.Native.Nat.{ℕ, ◌+◌, ◌^◌, ◌≤◌}
use native.Mathlib.Omega.{arith}
use lib.ListN.{length, drop, length-drop}
use lib.Dec.{eqb}
use borrow.Author.Tests.{eqb-true, ltb-false, not-false}
use Rattle.std.specs.Prelude.{Ok, Err}
use Rattle.cube.specs.Tables.{is_dimension, table_len}
use Rattle.cube.proofs.Refusal.{first_none}
use Rattle.cube.proofs.Tables.{dimension_is}
use Rattle.groups.specs.Number.{Number, number_at, on_number}
use Rattle.groups.proofs.Groups.{read_number}
use Rattle.notice.specs.Tests.{tested, dimension_tests, length_tests, count_tests}
use Rattle.notice.specs.Addresses.{addresses_end, addresses_at, rising}
use Rattle.notice.specs.Notice.{a_notice, a_rest, count_at, on_noticed, on_rest, dimension_at, rest_at, notice_from, notice_of, addresses_of}
use Rattle.notice.specs.Laws.{ReadNotice}
use Rattle.notice.proofs.Cases.{no_addresses, no_notice, on_further, on-number, on-rest, tested_value}
use Rattle.notice.proofs.Addresses.{read_addresses}

-- ---- the dimension

pub record OpenedDimension (s : List ℕ) (n at : ℕ) : Type 0 where
  pub number : number_at s 0 ≡ Ok (n, at)
  pub is : is_dimension n ≡ true
  pub good : (1 ≤ n) × (n ≤ 12)

pub opened_dimension : (s : List ℕ) (n at : ℕ) → dimension_at s ≡ Ok (n, at) → OpenedDimension s n at
unfolding dimension_at
opened_dimension s n at e =
    let passed = tested_value dimension_tests 0 (number_at s 0) e in
    let is = not-false (is_dimension n) (first_none 12 (dimension_tests n) refl passed.1).0 in
    record { number = passed.0; is = is; good = dimension_is n is }

-- a dimension with the length of the lent fault table
pub opened_sized : (s t : List ℕ) (n at : ℕ) → tested (length_tests t) 0 (dimension_at s) ≡ Ok (n, at)
    → (dimension_at s ≡ Ok (n, at)) × (length t ≡ table_len n)
opened_sized s t n at e =
    let passed = tested_value (length_tests t) 0 (dimension_at s) e in
    (passed.0, eqb-true (length t) (table_len n) (not-false (eqb (length t) (table_len n)) (first_none 12 (length_tests t n) refl passed.1).0))

-- ---- the count and the addresses

pub opened_count : (n : ℕ) (s : List ℕ) (at m start : ℕ) → count_at n s at ≡ Ok (m, start) → (number_at s at ≡ Ok (m, start)) × (m ≤ 2 ^ n)
unfolding count_at
opened_count n s at m start e =
    let passed = tested_value (count_tests n) at (number_at s at) e in
    (passed.0, ltb-false (2 ^ n) m (first_none 12 (count_tests n m) refl passed.1).0)

pub record OpenedRest (n : ℕ) (s : List ℕ) (at m start end : ℕ) : Type 0 where
  pub base : ℕ
  pub taken : ℕ
  pub count : number_at s at ≡ Ok (m, start)
  pub few : m ≤ 2 ^ n
  pub addresses : addresses_end m (drop start s) 0 0 (2 ^ n) ≡ Ok (base, taken)
  pub ends : start + taken ≡ end

pub opened_rest : (n : ℕ) (s : List ℕ) (at m start end : ℕ) → rest_at n s at ≡ a_rest m start end → OpenedRest n s at m start end
unfolding rest_at
opened_rest n s at m start end =
    on-number (λ y. y ≡ a_rest m start end → OpenedRest n s at m start end) (count_at n s at)
    (λ _ _ _ e. absurd (no_addresses e))
    (λ c from here. on_further
    (λ y. on_number y (λ r place. Err (r, place)) (λ base last. a_rest c from last) ≡ a_rest m start end → OpenedRest n s at m start end)
    from (addresses_end c (drop from s) 0 0 (2 ^ n)) (λ _ _ _ e. absurd (no_addresses e))
    (λ base taken found e.
    let p : c ≡ m = ap (λ x. on_rest x (λ r at. 0) (λ m start end. m)) e in
    let q : from ≡ start = ap (λ x. on_rest x (λ r at. 0) (λ m start end. start)) e in
    let r : from + taken ≡ end = ap (λ x. on_rest x (λ r at. 0) (λ m start end. end)) e in
    let read = opened_count n s at c from here in
    record {
      base = base;
      taken = taken;
      count = rw (p, q) at read.0;
      few = omega (arith, read.1);
      addresses = rw (p, q) at found;
      ends = rw q at r;
    }))

pub record ReadRest (n : ℕ) (s : List ℕ) (at m start end : ℕ) : Type 0 where
  pub begins : start ≤ length s
  pub within : end ≤ length s
  pub short : end ≤ at + 2 + 2 ^ n
  pub counted : length (addresses_at m (drop start s) 0 0) ≡ m
  pub rises : rising 0 (2 ^ n) (addresses_at m (drop start s) 0 0) ≡ true

pub read_rest : (n : ℕ) (s : List ℕ) (at m start end : ℕ) → OpenedRest n s at m start end → ReadRest n s at m start end
read_rest n s at m start end o =
    let r = read_number s at m start o.count in
    let a = read_addresses m (drop start s) 0 0 (2 ^ n) o.base o.taken o.addresses in
    let w = a.within (omega arith) in
    record {
      begins = r.within;
      within = omega (arith, length-drop start s, r.within, o.ends);
      short = omega (arith, r.near, a.short, a.low (omega arith), o.ends);
      counted = a.counted;
      rises = a.rises;
    }

-- ---- the whole

pub addresses_are : (n : ℕ) (s : List ℕ) (at m start end : ℕ) → dimension_at s ≡ Ok (n, at) → rest_at n s at ≡ a_rest m start end
    → addresses_of s ≡ addresses_at m (drop start s) 0 0
unfolding addresses_of
addresses_are n s at m start end here found = rw here (rw found)

-- whichever way the dimension was read
pub record OpenedNotice (x : Number) (s : List ℕ) (n m taken : ℕ) : Type 0 where
  pub at : ℕ
  pub start : ℕ
  pub dimension : x ≡ Ok (n, at)
  pub rest : rest_at n s at ≡ a_rest m start taken

pub opened_notice : (x : Number) (s : List ℕ) (n m taken : ℕ) → notice_from x s ≡ a_notice n m taken → OpenedNotice x s n m taken
unfolding notice_from
opened_notice x s n m taken =
    on-number (λ y. y ≡ a_notice n m taken → OpenedNotice x s n m taken) x (λ _ _ _ e. absurd (no_notice e))
    (λ v at here. on-rest (λ y. y ≡ a_notice n m taken → OpenedNotice x s n m taken) (rest_at v s at) (λ _ _ _ e. absurd (no_notice e))
    (λ c start end found e.
    let p : v ≡ n = ap (λ x. on_noticed x (λ r at. 0) (λ n m taken. n)) e in
    let q : c ≡ m = ap (λ x. on_noticed x (λ r at. 0) (λ n m taken. m)) e in
    let r : end ≡ taken = ap (λ x. on_noticed x (λ r at. 0) (λ n m taken. taken)) e in
    record { at = at; start = start; dimension = rw p at here; rest = rw (p, q, r) at found }))

pub read_notice : (s : List ℕ) (n m taken : ℕ) → notice_of s ≡ a_notice n m taken → ReadNotice s n m taken
unfolding notice_of
read_notice s n m taken e =
    let o = opened_notice (dimension_at s) s n m taken e in
    let d = opened_dimension s n o.at o.dimension in
    let p = opened_rest n s o.at m o.start taken o.rest in
    let l = read_rest n s o.at m o.start taken p in
    let names = addresses_are n s o.at m o.start taken o.dimension o.rest in
    record {
      dimension = d.good;
      few = p.few;
      within = l.within;
      short = omega (arith, d.good.1, (read_number s 0 n o.at d.number).shortest (omega (arith, d.good.1)), l.short);
      counted = ap length names ∙ l.counted;
      rises = ap (rising 0 (2 ^ n)) names ∙ l.rises;
    }
