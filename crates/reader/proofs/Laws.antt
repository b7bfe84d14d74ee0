-- The laws of the reader that specs/Laws.antt states. A whole accepted notice is read number by number: dimension and count are the first two answers.
-- The address reader counts its places from the bytes behind them, so each of its numbers is the reader's answer at the place that much further.
use mathlib.Core.Path.{◌≡◌, refl, sym, ap, ◌∙◌}
use mathlib.Core.List.{List, [], ◌∷◌}
use Prim.Native.Nat.{ℕ, zero, suc, ◌+◌, ◌^◌, ◌<◌}
use native.Mathlib.Omega.{arith}
use lib.ListN.{drop}
use Rattle.std.specs.Prelude.{Ok}
use Rattle.groups.specs.Number.{number_at, value_in, two_groups, further}
use Rattle.groups.proofs.Groups.{same_value}
use Rattle.groups.proofs.HandedOn.{handed_on}
use Rattle.notice.specs.Addresses.{addresses_end, addresses_at}
use Rattle.notice.specs.Notice.{a_notice, dimension_at, notice_of}
use Rattle.notice.proofs.Addresses.{first_address}
use Rattle.notice.proofs.Agree.{same_accepted}
use Rattle.notice.proofs.Opened.{opened_dimension, opened_rest, opened_notice, addresses_are}
use Rattle.reader.specs.Reader.{place_after}
use Rattle.reader.specs.Reading.{places, answers, values, addresses_from}
use Rattle.reader.specs.Laws.{Told, ReadThrough, ReaderLaws}
use Rattle.reader.proofs.Told.{after, keeps, moves, stays, told, value}
use Rattle.reader.proofs.Refused.{refused_through}

-- ---- addresses, whose numbers follow k others

record AddressAnswers (m : ℕ) (s : List ℕ) (k base : ℕ) (l : List ℕ) (end : ℕ) : Type 0 where
  each : (j : ℕ) → j < m → Told s (k + j)
  addresses : addresses_from base (values m s k) ≡ l
  last : places s (k + m) ≡ end

none : (s : List ℕ) (k base end : ℕ) → places s k ≡ end → AddressAnswers zero s k base [] end
unfolding addresses_from values
none s k base end e = let z : k + 0 ≡ k = omega arith in record { each = λ j h. absurd (omega arith); addresses = refl; last = rw z e }

more : (m : ℕ) (s : List ℕ) (k base v : ℕ) (l : List ℕ) (end : ℕ) → Told s k → value_in (answers s k) ≡ v
    → AddressAnswers m s (suc k) (base + v + 1) l end → AddressAnswers (suc m) s k base ((base + v) ∷ l) end
unfolding addresses_from values
more m s k base v l end t e r = record {
  each = all;
  addresses = rw e (ap (λ (u : List ℕ). (base + v) ∷ u) r.addresses);
  last = let z : k + suc m ≡ suc k + m = omega arith in ap (places s) z ∙ r.last;
}
  where
    all : (j : ℕ) → j < suc m → Told s (k + j)
    all zero h = let z : k + 0 ≡ k = omega arith in rw z t
    all (suc j) h = let z : suc k + j ≡ k + suc j = omega arith in rw z at (r.each j (omega arith))

address_answers : (m : ℕ) (s : List ℕ) (start at base size end last k : ℕ) → addresses_end m (drop start s) at base size ≡ Ok (end, last)
    → places s k ≡ start + at → AddressAnswers m s k base (addresses_at m (drop start s) at base) (start + last)
unfolding addresses_end addresses_at further
address_answers zero s start at base size end last k e here =
    let z = (same_value e).1 in
    none s k base (start + last) (here ∙ ap (λ (j : ℕ). start + j) z)
address_answers (suc m) s start at base size end last k e here =
    let f = first_address m (drop start s) at base size end last e in
    let number : number_at s (start + at) ≡ Ok (f.v, start + f.next) = handed_on s start at ∙ ap (further start) f.number in
    rw f.number
    (more m s k base f.v _ (start + last) (told s k here number) (value s k here number)
    (address_answers m s start f.next (base + f.v + 1) size end last (suc k) f.others (after s k here number)))

-- ---- the whole notice

module _ (s : List ℕ) (n m taken : ℕ) where
  read_through : notice_of s ≡ a_notice n m taken → ReadThrough s n m taken
  unfolding notice_of places
  read_through e =
      let o = opened_notice (dimension_at s) s n m taken e in
      let d = (opened_dimension s n o.at o.dimension).number in
      let p = opened_rest n s o.at m o.start taken o.rest in
      let z : places s 2 ≡ o.start + 0 = after s 1 (after s 0 refl d) p.count ∙ omega arith in
      let a = address_answers m s o.start 0 0 (2 ^ n) p.base p.taken 2 p.addresses z in
      record {
        told = each (told s 0 refl d) (told s 1 (after s 0 refl d) p.count) a.each;
        dimension = value s 0 refl d;
        count = value s 1 (after s 0 refl d) p.count;
        addresses = a.addresses ∙ sym (addresses_are n s o.at m o.start taken o.dimension o.rest);
        end = a.last ∙ p.ends;
      }
    where
      each : Told s 0 → Told s 1 → ((j : ℕ) → j < m → Told s (2 + j)) → (k : ℕ) → k < 2 + m → Told s k
      each a b f zero h = a
      each a b f (suc zero) h = b
      each a b f (suc (suc j)) h = let z : 2 + j ≡ suc (suc j) = omega arith in rw z at (f j (omega arith))

pub reader_laws : ReaderLaws
unfolding addresses_from values answers places place_after number_at two_groups
reader_laws = record {
  moves = moves;
  stays = stays;
  keeps = keeps;
  whole = λ s t n m taken e. read_through s n m taken (same_accepted s t n m taken e);
  refused = refused_through;
  listing_values = refl;
  listing_nodes = refl;
}
