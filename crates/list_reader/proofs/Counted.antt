-- The digits of a text, counted one by one with their value: as it is, kept to 4,096, and as it is where so few are read that it stays small.
use mathlib.Core.List.{List, [], ◌∷◌}
use mathlib.Core.Bool.{true, false}
use mathlib.Core.Logic.{◌⊎◌, inl, inr}
use mathlib.Core.Path.{◌≡◌, refl, sym, ap, subst, ◌∙◌}
use Prim.Native.Nat.{ℕ, zero, suc, ◌+◌, ◌*◌, ◌-◌, ◌≤◌, ◌<◌}
use native.Mathlib.Numerals.{add-one}
use native.Mathlib.Omega.{arith}
use lib.Dec.{ltb}
use lib.ListN.{get_or-eq_default, length, get_or, drop, drop_of_length-le}
use lib.Seq.{drop-cons}
use borrow.Author.Tests.{le-ltb, lt-ltb, ltb-false, ltb-true}
use Rattle.cube.proofs.Bools.{by_cases, clash, either}
use Rattle.list_reader.specs.Front.{capped, front, lead}
use Rattle.ranges.specs.Grammar.{is_digit, value, value_from}
use Rattle.ranges.proofs.Decimal.{digit_is}
use Rattle.list_reader.proofs.Fronts.{lead_off, lead_on}

-- ---- numbers that 4,096 stands for

pub capped_low : (v : ℕ) → v < 4096 → v ≡ capped v
capped_low v h = rw (lt-ltb v 4096 h)

pub capped_high : (v : ℕ) → 4096 ≤ v → 4096 ≡ capped v
capped_high v h = rw (le-ltb v 4096 h)

pub capped_bound : (v : ℕ) → capped v ≤ 4096
capped_bound v = by_cases (λ (w : ℕ). w ≤ 4096) (ltb v 4096) (λ e. omega (arith, ltb-true v 4096 e)) (λ e. omega arith)

-- one more digit sees no difference
pub capped_digit : (v d : ℕ) → capped (10 * capped v + d) ≡ capped (10 * v + d)
capped_digit v d = go (either (ltb v 4096))
  where
    go : (ltb v 4096 ≡ true) ⊎ (ltb v 4096 ≡ false) → capped (10 * capped v + d) ≡ capped (10 * v + d)
    go (inl e) = rw e
    go (inr e) =
        let h = ltb-false v 4096 e in
        rw e (sym (capped_high (10 * 4096 + d) (omega arith)) ∙ capped_high (10 * v + d) (omega (arith, h)))

-- ---- the digits of a text up to the place `count`, of the value `exact`; at last they are `total` many, of the value `final`

pub record Counting (s : List ℕ) (total final exact count : ℕ) : Type 0 where
  pub counted : total ≡ count + lead (drop count s)
  pub valued : final ≡ value_from exact (front (drop count s))

pub count_start : (s : List ℕ) (from known : ℕ) → Counting s (from + lead (drop from s)) (value_from known (front (drop from s))) known from
count_start s from known = record { counted = refl; valued = refl }

-- a digit, and what is left behind it
front_on : (v x : ℕ) (s : List ℕ) → is_digit x ≡ true → value_from v (front (x ∷ s)) ≡ value_from (10 * v + (x - 48)) (front s)
unfolding value_from
front_on v x s e = rw (lead_on x s e)

front_off : (v x : ℕ) (s : List ℕ) → is_digit x ≡ false → value_from v (front (x ∷ s)) ≡ v
unfolding value_from
front_off v x s e = rw (lead_off x s e)

front_none : (v : ℕ) → value_from v (front []) ≡ v
unfolding value_from lead
front_none v = refl

lead_none : lead [] ≡ 0
unfolding lead
lead_none = refl

-- past the end stands none
pub past_end : (s : List ℕ) (i : ℕ) → length s ≤ i → is_digit (get_or s i 0) ≡ false
unfolding is_digit
past_end s i h = rw (get_or-eq_default s 0 h)

pub digit_within : (s : List ℕ) (i : ℕ) → is_digit (get_or s i 0) ≡ true → i < length s
digit_within s i e = go (either (ltb i (length s)))
  where
    go : (ltb i (length s) ≡ true) ⊎ (ltb i (length s) ≡ false) → i < length s
    go (inl h) = ltb-true i (length s) h
    go (inr h) = absurd (clash e (past_end s i (ltb-false i (length s) h)))

module _ {s : List ℕ} {total final exact count : ℕ} (P : Counting s total final exact count) where
  pub count_on : is_digit (get_or s count 0) ≡ true → Counting s total final (10 * exact + (get_or s count 0 - 48)) (count + 1)
  count_on e =
      let x = get_or s count 0 in
      let left : drop count s ≡ x ∷ drop (suc count) s = drop-cons s count 0 (digit_within s count e) in
      let next : count + 1 ≡ suc count = omega arith in
      let more : drop (count + 1) s ≡ drop (suc count) s = ap (λ (k : ℕ). drop k s) next in
      record {
        counted = omega (arith, P.counted, ap lead left, lead_on x (drop (suc count) s) e, ap lead more);
        valued =
            P.valued ∙ ap (λ (l : List ℕ). value_from exact (front l)) left ∙ front_on exact x (drop (suc count) s) e
            ∙ ap (λ (l : List ℕ). value_from (10 * exact + (x - 48)) (front l)) (sym more);
      }

  pub count_off : is_digit (get_or s count 0) ≡ false → (count ≡ total) × (exact ≡ final)
  count_off e = go (either (ltb count (length s)))
    where
      go : (ltb count (length s) ≡ true) ⊎ (ltb count (length s) ≡ false) → (count ≡ total) × (exact ≡ final)
      go (inl h) =
          let x = get_or s count 0 in
          let left : drop count s ≡ x ∷ drop (suc count) s = drop-cons s count 0 (ltb-true count (length s) h) in (
            omega (arith, P.counted, ap lead left, lead_off x (drop (suc count) s) e),
            sym (P.valued ∙ ap (λ (l : List ℕ). value_from exact (front l)) left ∙ front_off exact x (drop (suc count) s) e),
          )
      go (inr h) =
          let none : drop count s ≡ [] = drop_of_length-le s (ltb-false count (length s) h) in (
            omega (arith, P.counted, ap lead none, lead_none),
            sym (P.valued ∙ ap (λ (l : List ℕ). value_from exact (front l)) none ∙ front_none exact),
          )

-- ---- the same where the value is kept to 4,096

pub record Capping (s : List ℕ) (total final now count : ℕ) : Type 0 where
  pub exact : ℕ
  pub known : now ≡ capped exact
  pub counting : Counting s total final exact count

module _ {s : List ℕ} {total final now count : ℕ} (P : Capping s total final now count) where
  pub capped_few : now ≤ 4096
  capped_few = omega (arith, P.known, capped_bound P.exact)

  pub cap_on : is_digit (get_or s count 0) ≡ true → {next : ℕ} → next ≡ capped (10 * now + (get_or s count 0 - 48)) → Capping s total final next (count + 1)
  cap_on e n =
      let d = get_or s count 0 - 48 in
      record {
        exact = 10 * P.exact + d;
        known = n ∙ ap (λ (v : ℕ). capped (10 * v + d)) P.known ∙ capped_digit P.exact d;
        counting = count_on P.counting e;
      }

  pub cap_off : is_digit (get_or s count 0) ≡ false → (count ≡ total) × (now ≡ capped final)
  cap_off e = let r = count_off P.counting e in (r.0, P.known ∙ ap capped r.1)

-- ---- and where so few are read that it need not be: the greatest value of k digits

unfoldable pub top : ℕ → ℕ
top zero = 0
top (suc k) = 10 * top k + 9

top_few : (k : ℕ) → k < 4 → top k ≤ 999
unfolding top
top_few zero h = omega arith
top_few (suc zero) h = omega arith
top_few (suc (suc zero)) h = omega arith
top_few (suc (suc (suc zero))) h = omega arith
top_few (suc (suc (suc (suc k)))) h = absurd (omega arith)

top_next : (k : ℕ) → top (k + 1) ≡ 10 * top k + 9
unfolding top
top_next k = ap top (add-one k)

pub record Few (s : List ℕ) (now count : ℕ) : Type 0 where
  pub counting : Counting s (lead s) (value (front s)) now count
  pub upto : count ≤ 4
  pub below : now ≤ top count

pub few_start : (s : List ℕ) → Few s 0 0
few_start s = record { counting = record { counted = omega arith; valued = refl }; upto = omega arith; below = omega arith }

module _ {s : List ℕ} {now count : ℕ} (P : Few s now count) where
  module _ (h : count < 4) where
    pub few_small : now ≤ 999
    few_small = omega (arith, P.below, top_few count h)

    pub few_on : is_digit (get_or s count 0) ≡ true → {next : ℕ} → next ≡ 10 * now + (get_or s count 0 - 48) → Few s next (count + 1)
    few_on e n =
        let x = get_or s count 0 in
        record {
          counting = subst (λ (v : ℕ). Counting s (lead s) (value (front s)) v (count + 1)) (sym n) (count_on P.counting e);
          upto = omega arith;
          below = omega (arith, n, P.below, top_next count, (digit_is x e).1);
        }

    pub few_off : is_digit (get_or s count 0) ≡ false → (count ≡ lead s) × (now ≡ capped (value (front s)))
    few_off e = let r = count_off P.counting e in (r.0, capped_low now (omega (arith, few_small)) ∙ ap capped r.1)

  -- what `more_digits` tells of the rest
  pub few_more : {all v : ℕ} → all ≡ count + lead (drop count s) → v ≡ capped (value_from now (front (drop count s)))
      → (all ≡ lead s) × (v ≡ capped (value (front s)))
  few_more a b = (a ∙ sym P.counting.counted, b ∙ ap capped (sym P.counting.valued))
