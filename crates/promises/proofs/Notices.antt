-- The refusals of a number and of a notice, in words. A number is one of the outcomes of its definition, each with its case. A notice is accepted, and
-- then no case holds at any of its numbers, or it is bad at one of them, and then a case holds there, at its place, and none at those before.
use Rattle.cube.specs.Refused.{number}
use Rattle.std.specs.Prelude.{Ok, Err}
use mathlib.Core.Path.{◌≡◌, refl, sym, ap, ◌∙◌}
use mathlib.Core.Logic.{◌⊎◌, ◌↔◌}
use mathlib.Core.Bool.{true, false, not, ◌||◌}
use mathlib.Core.List.{List, [], ◌∷◌}
use Prim.Native.Nat.{ℕ, zero, suc, ◌+◌, ◌^◌, ◌≤◌, ◌<◌}
use native.Mathlib.Omega.{arith}
use lib.Dec.{eqb, leb, ltb}
use lib.ListN.{drop, get_or, length}
use borrow.Author.Tests.{eq-eqb, leb-false, leb-true, ltb-false, ltb-true, ne_eqb}
use Rattle.cube.specs.Refusal.{Test, first, ◌⇒◌}
use Rattle.cube.specs.Tables.{is_dimension, table_len}
use Rattle.cube.proofs.Bools.{by_cases, clash}
use Rattle.cube.proofs.Refused.{number_range}
use Rattle.groups.specs.Number.{further, number_at, refusal_in, two_groups}
use Rattle.groups.specs.Number.{Number}
use Rattle.groups.proofs.Groups.{no_value, same_refusal, same_value}
use Rattle.groups.proofs.Laws.{number_laws}
use Rattle.notice.specs.Addresses.{addresses_end}
use Rattle.notice.specs.Notice.{dimension_at, noticed, place_of, refusal_of, a_notice}
use Rattle.notice.specs.Tests.{address_tests, length_tests, tested}
use Rattle.notice.specs.Notice.{Noticed}
use Rattle.notice.proofs.Addresses.{first_address, read_address}
use Rattle.notice.proofs.Bad.{Bad, bad, bad_address, bad_count, bad_dimension, many, no_dimension, tested_bad, wrong_table}
use Rattle.notice.proofs.Cases.{on-number}
use Rattle.notice.proofs.Opened.{opened_dimension, opened_notice, opened_rest, opened_sized}
use Rattle.promises.specs.Refusals.{
  Addresses,
  AddressWhen,
  CountWhen,
  DimensionWhen,
  Due,
  Given,
  NoticeGiven,
  NumberGiven,
  NumberWhen,
  address_12,
  behind,
  count_11,
  dimension_1,
  dimension_2,
  here,
  ill,
  later,
  none,
  number_10,
  number_9_first,
  number_9_second,
  wrong,
}
use Rattle.promises.proofs.Given.{eqb_says, given_one, leb_says, one_test, or_says, wrong_dimension}
use Rattle.promises.proofs.Given as goal
use Rattle.cube.specs.declared.refusals.Refusal.{Refusal}

-- ---- a number

module _ (s : List ℕ) (at : ℕ) where
  abbrev low : ℕ
  low = get_or s at 0

  abbrev high : ℕ
  high = get_or s (at + 1) 0

  complete : at < length s → (128 ≤ low → at + 1 < length s) → ¬ (NumberWhen s at 9)
  complete h f (number_9_first l) = omega arith
  complete h f (number_9_second b l) = omega (arith, f b)

  pub number_given : NumberGiven s at (refusal_in (number_at s at))
  unfolding number_at two_groups
  number_given =
      by_cases P (leb (length s) at) (λ e. here (number_9_first (leb-true _ _ e)))
      (λ first. by_cases P (ltb low 128) (λ e. single (leb-false _ _ first) (ltb-true _ _ e))
      (λ more. by_cases P (leb (length s) (at + 1)) (λ e. here (number_9_second (ltb-false low 128 more) (leb-true _ _ e)))
      (λ second. double (leb-false _ _ second) (ltb-false low 128 more))))
    where
      P : Number → Type 0
      P x = NumberGiven s at (refusal_in x)

      single : at < length s → low < 128 → NumberGiven s at 0
      single h l = later (complete h (λ b. absurd (omega arith))) (later ten none)
        where
          ten : ¬ (NumberWhen s at 10)
          ten (number_10 b _) = omega arith

      double : at + 1 < length s → 128 ≤ low → P (two_groups low high at)
      double h l =
          by_cases P (eqb high 0 || leb 128 high) (λ e. later nine (here (number_10 l (says.0 e)))) (λ e. later nine (later (ten e) none))
        where
          says : ((eqb high 0 || leb 128 high) ≡ true) ↔ ((high ≡ 0) ⊎ (128 ≤ high))
          says = or_says (eqb high 0) (leb 128 high) (eqb_says high 0) (leb_says 128 high)

          nine : ¬ (NumberWhen s at 9)
          nine = complete (omega arith) (λ _. h)

          ten : (eqb high 0 || leb 128 high) ≡ false → ¬ (NumberWhen s at 10)
          ten e (number_10 _ w) = clash (says.1 w) e

  -- a value is not refused, and a refusal is
  value_given : {v next : ℕ} → number_at s at ≡ Ok (v, next) → NumberGiven s at 0
  value_given e = rw e at number_given

  refused_given : {r : Refusal} {place : ℕ} → number_at s at ≡ Err (r, place) → NumberGiven s at (number r)
  refused_given e = rw e at number_given

-- ---- a number that is due, and what follows it

module _ {s : List ℕ} {at : ℕ} {When : ℕ → ℕ → Type 0} {order : List ℕ} {Behind : ℕ → ℕ → ℕ → ℕ → Type 0} where
  -- a number that is refused is so at its own place
  pub ill_at : {r : Refusal} {place : ℕ} → number_at s at ≡ Err (r, place) → Due s at When order Behind (number r) place
  ill_at {r} {place} e = rw (number_laws.refused_place s at r place e) (ill (refused_given s at e) (λ z. omega (arith, (number_range r).0)))

  pub due_one : ((v next j p k q : ℕ) → Behind v next j p → Behind v next k q → (j ≡ k) × (p ≡ q)) → {j p k q : ℕ} → Due s at When order Behind j p
      → Due s at When order Behind k q → (j ≡ k) × (p ≡ q)
  due_one f (ill p _) (ill q _) = (given_one p q, refl)
  due_one f (ill p a) (wrong e _ _) = absurd (a (given_one p (value_given s at e)))
  due_one f (ill p a) (behind e _ _) = absurd (a (given_one p (value_given s at e)))
  due_one f (wrong e _ _) (ill q b) = absurd (b (given_one q (value_given s at e)))
  due_one f (wrong {v} {next} e p _) (wrong {v = v'} {next = next'} e' q _) = let z : v ≡ v' = (same_value (sym e ∙ e')).0 in (given_one p (rw z q), refl)
  due_one f (wrong {v} {next} e p a) (behind {v = v'} {next = next'} e' q _) = let z : v ≡ v' = (same_value (sym e ∙ e')).0 in absurd (a (given_one p (rw z q)))
  due_one f (behind e _ _) (ill q b) = absurd (b (given_one q (value_given s at e)))
  due_one f (behind {v} {next} e p _) (wrong {v = v'} {next = next'} e' q b) = let z : v ≡ v' = (same_value (sym e ∙ e')).0 in absurd (b (given_one q (rw (← z) p)))
  due_one f (behind {v} {next} e _ p) (behind {v = v'} {next = next'} e' _ q) =
      let z : v ≡ v' = (same_value (sym e ∙ e')).0 in
      let y : next ≡ next' = (same_value (sym e ∙ e')).1 in
      f v next _ _ _ _ p (rw (z, y) q)

-- ---- the addresses

few : {n base v : ℕ} → base + v < 2 ^ n → ¬ (AddressWhen n base v 12)
few h (address_12 l) = omega arith

-- the definition reads them from the bytes behind the count, which begin at `start`
module _ (n : ℕ) (s : List ℕ) (start : ℕ) where
  handed : (at : ℕ) (x : Number) → number_at (drop start s) at ≡ x → number_at s (start + at) ≡ further start x
  handed at x e = number_laws.handed_on s start at ∙ ap (further start) e

  addresses_bad : (left at base : ℕ) (k : Refusal) (p : ℕ) → addresses_end left (drop start s) at base (2 ^ n) ≡ Err (k, p)
      → Addresses left n s (start + at) base (number k) (start + p)
  unfolding Addresses addresses_end further
  addresses_bad zero at base k p = λ e. absurd (no_value (sym e))
  addresses_bad (suc left) at base k p =
      on-number (λ (y : Number). y ≡ Err (k, p) → Addresses (suc left) n s (start + at) base (number k) (start + p))
      (tested (address_tests base (2 ^ n)) at (number_at (drop start s) at))
      (λ r q e f.
      let (a, b) = same_refusal f in
      tested_bad (λ v. leb (2 ^ n) (base + v)) 12 at (number_at (drop start s) at) (Addresses (suc left) n s (start + at) base (number k) (start + p))
      (rw (a, b) at e) (λ own. ill_at (handed at (Err (k, p)) own))
      (λ v next own over c d. rw (← c, ← d)
      (wrong (handed at (Ok (v, next)) own) (here (address_12 ((leb_says (2 ^ n) (base + v)).0 over))) (λ z. omega arith))))
      (λ v next e f.
      let a = read_address (drop start s) at base (2 ^ n) e in
      behind (handed at (Ok (v, next)) a.0) (later (few a.1) none) (addresses_bad left next (base + v + 1) k p f))

  addresses_good : (left at base last end : ℕ) → addresses_end left (drop start s) at base (2 ^ n) ≡ Ok (last, end)
      → Addresses left n s (start + at) base 0 0
  unfolding Addresses further
  addresses_good zero at base last end e = (refl, refl)
  addresses_good (suc left) at base last end e =
      let f = first_address left (drop start s) at base (2 ^ n) last end e in
      behind (handed at (Ok (f.v, f.next)) f.number) (later (few f.below) none)
      (addresses_good left f.next (base + f.v + 1) last end f.others)

addresses_one : (left n : ℕ) (s : List ℕ) (at base j p k q : ℕ) → Addresses left n s at base j p → Addresses left n s at base k q → (j ≡ k) × (p ≡ q)
unfolding Addresses
addresses_one zero n s at base j p k q a b = (a.0 ∙ sym b.0, a.1 ∙ sym b.1)
addresses_one (suc left) n s at base j p k q a b = due_one (λ v next. addresses_one left n s next (base + v + 1)) a b

-- ---- the dimension

-- the two tests of a dimension, in a row
abbrev front_tests : (t : List ℕ) (n : ℕ) → List Test
front_tests t n = not (is_dimension n) ⇒ 1 ∷ length_tests t n

front_given : (t : List ℕ) (n : ℕ) → Given (DimensionWhen t n) (1 ∷ 2 ∷ []) (first (front_tests t n))
unfolding first
front_given t n =
    one_test _ (λ e. dimension_1 ((wrong_dimension n).0 e)) said_1 (one_test _ (λ e. dimension_2 ((goal.wrong_table n (length t)).0 e)) said_2 none)
  where
    said_1 : DimensionWhen t n 1 → not (is_dimension n) ≡ true
    said_1 (dimension_1 w) = (wrong_dimension n).1 w

    said_2 : DimensionWhen t n 2 → not (eqb (length t) (table_len n)) ≡ true
    said_2 (dimension_2 w) = (goal.wrong_table n (length t)).1 w

-- ---- the whole

module _ (s t : List ℕ) where
  -- a dimension with a table of its length: neither of its cases holds
  front_none : (n : ℕ) → is_dimension n ≡ true → length t ≡ table_len n → Given (DimensionWhen t n) (1 ∷ 2 ∷ []) 0
  unfolding first
  front_none n is sized = rw (is, eq-eqb (length t) (table_len n) sized) at (front_given t n)

  module _ {n at : ℕ} (d : dimension_at s ≡ Ok (n, at)) (sized : length t ≡ table_len n) where
    -- so what is given is given behind it, and behind a count that is not too large
    behind_front : {k place : ℕ} → Due s at (CountWhen n) (11 ∷ []) (λ m start. Addresses m n s start 0) k place → NoticeGiven s t k place
    behind_front g = let o = opened_dimension s n at d in behind o.number (front_none n o.is sized) g

    behind_count : {m start k place : ℕ} → number_at s at ≡ Ok (m, start) → m ≤ 2 ^ n → Addresses m n s (start + 0) 0 k place → NoticeGiven s t k place
    behind_count {m} {start} c h g =
        let z : start + 0 ≡ start = omega arith in
        behind_front (behind c (later not_many none) (rw z at g))
      where
        not_many : ¬ (CountWhen n m 11)
        not_many (count_11 over) = omega arith

  given_bad : {r : Refusal} {at : ℕ} → Bad s t r at → NoticeGiven s t (number r) at
  unfolding first
  given_bad (bad_dimension e) = ill_at e
  given_bad (no_dimension {n} e is) = wrong e (rw is at (front_given t n)) (λ z. omega arith)
  given_bad (wrong_table {n} {next} d w) =
      let o = opened_dimension s n next d in
      wrong o.number (rw (o.is, ne_eqb (length t) (table_len n) w) at (front_given t n)) (λ z. omega arith)
  given_bad (bad_count d sized e) = behind_front d sized (ill_at e)
  given_bad (many d sized c over) = behind_front d sized (wrong c (here (count_11 over)) (λ z. omega arith))
  given_bad (bad_address {n} {m = m} {start} {r = k} {place} d sized c few e) = behind_count d sized c few (addresses_bad n s start m 0 0 k place e)

  given_good : (n m taken : ℕ) → noticed s t ≡ a_notice n m taken → NoticeGiven s t 0 0
  unfolding noticed
  given_good n m taken e =
      let o = opened_notice (tested (length_tests t) 0 (dimension_at s)) s n m taken e in
      let d = opened_sized s t n o.at o.dimension in
      let p = opened_rest n s o.at m o.start taken o.rest in
      behind_count d.0 d.1 p.count p.few (addresses_good n s o.start m 0 0 p.base p.taken p.addresses)

  pub notice_given : NoticeGiven s t (refusal_of (noticed s t)) (place_of (noticed s t))
  notice_given = go (noticed s t) refl
    where
      go : (x : Noticed) → noticed s t ≡ x → NoticeGiven s t (refusal_of x) (place_of x)
      go (Ok x) e = given_good x.n x.count x.taken e
      go (Err (k, at)) e = given_bad (bad s t e)

  pub notice_one : (j p k q : ℕ) → NoticeGiven s t j p → NoticeGiven s t k q → (j ≡ k) × (p ≡ q)
  notice_one j p k q = due_one (λ n at j' p' k' q'. due_one (λ m start. addresses_one m n s start 0))
