-- A refused notice, read number by number: each number before the place was read, so the reader comes to that place, and there the notice reader's
-- own tests say what the refusal is about. The address reader counts its places from the bytes behind the count, as in proofs/Laws.antt.
use mathlib.Core.Path.{◌≡◌, refl, sym, ap, ◌∙◌}
use mathlib.Core.Logic.{◌⊎◌, inl, inr}
use mathlib.Core.Bool.{true}
use mathlib.Core.List.{List}
use Prim.Native.Nat.{ℕ, zero, suc, ◌+◌, ◌^◌, ◌≤◌, ◌<◌}
use native.Mathlib.Omega.{arith}
use lib.Dec.{leb}
use lib.ListN.{drop, get_or, length}
use borrow.Author.Tests.{leb-true}
use Rattle.std.specs.Prelude.{Ok, Err}
use Rattle.cube.specs.declared.refusals.Refusal.{Refusal}
use Rattle.cube.specs.declared.refusals.Refusal.TheVariants.{Address}
use Rattle.cube.specs.Tables.{is_dimension, table_len}
use Rattle.cube.proofs.Bools.{clash}
use Rattle.groups.specs.Number.{further, number_at, value_in}
use Rattle.groups.proofs.Groups.{no_value}
use Rattle.groups.proofs.HandedOn.{handed_on}
use Rattle.notice.specs.Addresses.{addresses_end}
use Rattle.notice.specs.Notice.{dimension_at, noticed}
use Rattle.notice.specs.Tests.{address_tests, tested}
use Rattle.notice.proofs.Addresses.{read_address}
use Rattle.notice.proofs.Bad.{Bad, bad, bad_address, bad_count, bad_dimension, many, no_dimension, tested_bad, wrong_table}
use Rattle.notice.proofs.Cases.{on-number, same_error}
use Rattle.notice.proofs.Opened.{opened_dimension}
use Rattle.reader.specs.Laws.{Names, RefusedThrough, Told, address_12, address_in, count_11, count_in, dimension_1, dimension_2, dimension_in, ill}
use Rattle.reader.specs.Reading.{places, answers, values, addresses_from}
use Rattle.reader.proofs.Told.{after, refusal, stands, told, value}

-- ---- addresses from a base on, whose numbers follow j others

abbrev address_from : (s : List ℕ) (j base i : ℕ) → ℕ
address_from s j base i = get_or (addresses_from base (values (suc i) s j)) i 0

-- what is wrong with one of them, with what the refusal r is: it is ill written, or read and too far
abbrev Wrong : (s : List ℕ) (j size address : ℕ) (r : Refusal) (at : ℕ) → Type 0
Wrong s j size address r at = (answers s j ≡ Err (r, at)) ⊎ ((r ≡ Address) × Told s j × (size ≤ address))

record BadAddress (left : ℕ) (s : List ℕ) (j base size : ℕ) (r : Refusal) (at : ℕ) : Type 0 where
  others : ℕ
  few : others < left
  each : (i : ℕ) → i < others → Told s (j + i)
  below : (i : ℕ) → i < others → address_from s j base i < size
  comes : places s (j + others) ≡ at
  names : Wrong s (j + others) size (address_from s j base others) r at

-- the first of them
first_bad : (left : ℕ) (s : List ℕ) (j base size : ℕ) (r : Refusal) (at : ℕ) → places s j ≡ at
    → Wrong s j size (base + value_in (answers s j)) r at → BadAddress (suc left) s j base size r at
unfolding addresses_from values
first_bad left s j base size r at here names =
    let z : j + 0 ≡ j = omega arith in
    record {
      others = 0;
      few = omega arith;
      each = λ i h. absurd (omega arith);
      below = λ i h. absurd (omega arith);
      comes = rw z here;
      names = rw z names;
    }

-- one of the others, behind an address that was read
first_address : (s : List ℕ) (j base v : ℕ) → value_in (answers s j) ≡ v → address_from s j base 0 ≡ base + v
unfolding addresses_from values
first_address s j base v e = ap (λ (u : ℕ). base + u) e

later_address : (s : List ℕ) (j base v i : ℕ) → value_in (answers s j) ≡ v → address_from s j base (suc i) ≡ address_from s (suc j) (base + v + 1) i
unfolding addresses_from values
later_address s j base v i e = ap (λ (u : ℕ). get_or (addresses_from (base + u + 1) (values (suc i) s (suc j))) i 0) e

later_bad : (left : ℕ) (s : List ℕ) (j base size v : ℕ) (r : Refusal) (at : ℕ) → Told s j → value_in (answers s j) ≡ v → base + v < size
    → BadAddress left s (suc j) (base + v + 1) size r at → BadAddress (suc left) s j base size r at
later_bad left s j base size v r at t e l g =
    let z : suc j + g.others ≡ j + suc g.others = omega arith in
    record {
      others = suc g.others;
      few = omega (arith, g.few);
      each = all;
      below = low;
      comes = rw z at g.comes;
      names = named g.names;
    }
  where
    all : (i : ℕ) → i < suc g.others → Told s (j + i)
    all zero h = let z : j + 0 ≡ j = omega arith in rw z t
    all (suc i) h = let z : suc j + i ≡ j + suc i = omega arith in rw z at (g.each i (omega arith))

    low : (i : ℕ) → i < suc g.others → address_from s j base i < size
    low zero h = omega (arith, first_address s j base v e)
    low (suc i) h = omega (arith, later_address s j base v i e, g.below i (omega arith))

    named : Wrong s (suc j + g.others) size (address_from s (suc j) (base + v + 1) g.others) r at
        → Wrong s (j + suc g.others) size (address_from s j base (suc g.others)) r at
    named w = let z : suc j + g.others ≡ j + suc g.others = omega arith in rw (later_address s j base v g.others e) (rw z at w)

-- the address reader counts from the bytes behind the count, which begin at `start`
address_bad : (left : ℕ) (s : List ℕ) (start at base size j : ℕ) (k : Refusal) (p : ℕ) → addresses_end left (drop start s) at base size ≡ Err (k, p)
    → places s j ≡ start + at → BadAddress left s j base size k (start + p)
unfolding addresses_end further
address_bad zero s start at base size j k p = λ e here. absurd (no_value (sym e))
address_bad (suc left) s start at base size j k p =
    on-number (λ y. y ≡ Err (k, p) → places s j ≡ start + at → BadAddress (suc left) s j base size k (start + p))
    (tested (address_tests base size) at (number_at (drop start s) at))
    (λ r q e f here.
    let a = same_error f in
    tested_bad (λ v. leb size (base + v)) 12 at (number_at (drop start s) at) (BadAddress (suc left) s j base size k (start + p)) (rw (a.0, a.1) at e)
    (λ own.
    let number : number_at s (start + at) ≡ Err (k, start + p) = handed_on s start at ∙ ap (further start) own in
    first_bad left s j base size k (start + p) (stands s j here number) (inl (refusal s j here number)))
    (λ v next own over c d.
    let number : number_at s (start + at) ≡ Ok (v, start + next) = handed_on s start at ∙ ap (further start) own in
    first_bad left s j base size k (start + p) (here ∙ ap (λ (i : ℕ). start + i) d)
    (inr (sym c, told s j here number, rw (value s j here number) (leb-true size (base + v) over)))))
    (λ v next e f here.
    let own = read_address (drop start s) at base size e in
    let number : number_at s (start + at) ≡ Ok (v, start + next) = handed_on s start at ∙ ap (further start) own.0 in
    later_bad left s j base size v k (start + p) (told s j here number) (value s j here number) own.1
    (address_bad left s start next (base + v + 1) size (suc j) k p f (after s j here number)))

-- ---- the whole notice

module _ (s t : List ℕ) where
  -- a number that is read, and whose value passes what is asked of it: no refusal is about it
  record Good (j : ℕ) : Type 0 where
    read : Told s j
    dimension : j ≡ 0 → (is_dimension (dimension_in s) ≡ true) × (length t ≡ table_len (dimension_in s))
    count : j ≡ 1 → count_in s ≤ 2 ^ dimension_in s
    address : (i : ℕ) → j ≡ 2 + i → address_in s i < 2 ^ dimension_in s

  unnamed : (j : ℕ) (r : Refusal) → Good j → ¬ (Names s t j r)
  unnamed j r g (ill k place e) = no_value (sym e ∙ g.read)
  unnamed j r g (dimension_1 _ wrong) = clash (g.dimension refl).0 wrong
  unnamed j r g (dimension_2 _ _ w) = w (g.dimension refl).1
  unnamed j r g (count_11 _ over) = omega (arith, g.count refl)
  unnamed j r g (address_12 i _ far) = omega (arith, g.address i refl)

  -- its first number is at the front, and its second where the first ends
  front : places s 0 ≡ 0
  unfolding places
  front = refl

  module _ {n at : ℕ} (d : dimension_at s ≡ Ok (n, at)) where
    number : number_at s 0 ≡ Ok (n, at)
    number = (opened_dimension s n at d).number

    dimension : dimension_in s ≡ n
    dimension = value s 0 front number

    second : places s 1 ≡ at
    second = after s 0 front number

    only_first : (j : ℕ) → j < 1 → Told s j
    only_first zero h = told s 0 front number
    only_first (suc j) h = absurd (omega arith)

    module _ (sized : length t ≡ table_len n) where
      good_front : Good 0
      good_front = record {
        read = told s 0 front number;
        dimension = λ _. (ap is_dimension dimension ∙ (opened_dimension s n at d).is, sized ∙ ap table_len (sym dimension));
        count = λ z. absurd (omega arith);
        address = λ i z. absurd (omega arith);
      }

      front_unnamed : (j : ℕ) (r : Refusal) → j < 1 → ¬ (Names s t j r)
      front_unnamed j r h = let z : 0 ≡ j = omega arith in unnamed j r (rw z at good_front)

    module _ {m start : ℕ} (sized : length t ≡ table_len n) (c : number_at s at ≡ Ok (m, start)) where
      count : count_in s ≡ m
      count = value s 1 second c

      third : places s 2 ≡ start + 0
      third = after s 1 second c ∙ omega arith

      address_through : {k : Refusal} {place : ℕ} → m ≤ 2 ^ n → BadAddress m s 2 0 (2 ^ n) k place → RefusedThrough s t k place
      address_through {k} {place} few b = record {
        before = 2 + b.others;
        told = each;
        good = λ j r h. unnamed j r (good j h);
        comes = b.comes;
        due = omega (arith, b.few, count);
        names = named b.names;
      }
        where
          each : (j : ℕ) → j < 2 + b.others → Told s j
          each zero h = told s 0 front number
          each (suc zero) h = told s 1 second c
          each (suc (suc i)) h = let z : 2 + i ≡ suc (suc i) = omega arith in rw z at (b.each i (omega arith))

          good : (j : ℕ) → j < 2 + b.others → Good j
          good j h = record {
            read = each j h;
            dimension = λ _. (good_front sized).dimension refl;
            count = λ _. omega (arith, count, ap (λ (i : ℕ). 2 ^ i) dimension);
            address = λ i z. omega (arith, b.below i (omega arith), ap (λ (i : ℕ). 2 ^ i) dimension);
          }

          named : Wrong s (2 + b.others) (2 ^ n) (address_in s b.others) k place → Names s t (2 + b.others) k
          named (inl e) = ill k place e
          named (inr e) = rw e.0 (address_12 b.others e.1 (rw dimension e.2))

  through : {k : Refusal} {at : ℕ} → Bad s t k at → RefusedThrough s t k at
  through {k} {at} (bad_dimension e) = record {
    before = 0;
    told = λ j h. absurd (omega arith);
    good = λ j r h. absurd (omega arith);
    comes = stands s 0 front e;
    due = omega arith;
    names = ill k at (refusal s 0 front e);
  }
  through (no_dimension e is) = record {
    before = 0;
    told = λ j h. absurd (omega arith);
    good = λ j r h. absurd (omega arith);
    comes = front;
    due = omega arith;
    names = dimension_1 (told s 0 front e) (ap is_dimension (value s 0 front e) ∙ is);
  }
  through (wrong_table {n} {next} d w) = record {
    before = 0;
    told = λ j h. absurd (omega arith);
    good = λ j r h. absurd (omega arith);
    comes = front;
    due = omega arith;
    names = dimension_2 (told s 0 front (number d)) (ap is_dimension (dimension d) ∙ (opened_dimension s n next d).is) (λ z. w (z ∙ ap table_len (dimension d)));
  }
  through {k} {at} (bad_count d sized e) = record {
    before = 1;
    told = only_first d;
    good = front_unnamed d sized;
    comes = stands s 1 (second d) e;
    due = omega arith;
    names = ill k at (refusal s 1 (second d) e);
  }
  through (many d sized c over) = record {
    before = 1;
    told = only_first d;
    good = front_unnamed d sized;
    comes = second d;
    due = omega arith;
    names = count_11 (told s 1 (second d) c) (rw (dimension d, count d sized c) over);
  }
  through {k} (bad_address {n} {m = m} {start} {place = place} d sized c few e) =
      address_through d sized c few (address_bad m s start 0 0 (2 ^ n) 2 k place e (third d sized c))

  pub refused_through : (r : Refusal) (at : ℕ) → noticed s t ≡ Err (r, at) → RefusedThrough s t r at
  refused_through r at e = through (bad s t e)
