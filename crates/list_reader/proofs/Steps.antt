-- What the small functions and their loops go by, step by step: whether digits are a number, the compare of digits, and how an entry closes.
use mathlib.Core.Bool.{true, false, not, ◌&&◌, ◌||◌}
use mathlib.Core.List.{List, [], ◌∷◌}
use mathlib.Core.Logic.{◌⊎◌, inl, inr, ◌≢◌}
use mathlib.Core.Path.{◌≡◌, refl, sym, ap, ap₂, ◌∙◌}
use Prim.Native.Nat.{ℕ, zero, suc, ◌+◌, ◌≤◌, ◌<◌}
use native.Mathlib.Omega.{arith}
use lib.Dec.{eqb, ltb}
use lib.ListN.{length, get_or, take, drop, drop_of_length-le}
use lib.Seq.{drop-cons, drop-drop, length-take-le}
use borrow.Author.Tests.{eq-eqb, eqb-false, eqb-true, ltb-true, ne_eqb, not-true}
use Rattle.cube.proofs.Bools.{and_true, clash, either, or_none, or_right}
use Rattle.list_reader.specs.Front.{a_run, above, capped, closing, entry_at, entry_on, front, later, lead, range_on}
use Rattle.std.specs.Prelude.{None}
use Rattle.std.specs.Cmp.Lexicographic.{slice_partial_cmp}
use Rattle.std.specs.Ordering.{as_partial_cmp, is_lt, is_some_and, nat_cmp}
use Rattle.ranges.specs.Grammar.{comma, dash, no_zero, value}
use Rattle.list_reader.proofs.Fronts.{lead_within}

-- ---- whether digits are a number

pub no_digits : (count : ℕ) (s : List ℕ) → count ≡ 0 → false ≡ no_zero (take count s)
unfolding no_zero
no_digits zero s e = refl
no_digits (suc count) s e = absurd (omega arith)

pub some_digits : (count : ℕ) (s : List ℕ) → count ≤ length s → count ≢ 0 → (not (eqb (get_or s 0 0) 48) || eqb count 1) ≡ no_zero (take count s)
unfolding no_zero
some_digits zero s l d = absurd (d refl)
some_digits (suc zero) [] l d = absurd (omega arith)
some_digits (suc zero) (x ∷ s) l d = or_right (not (eqb x 48)) refl
some_digits (suc (suc count)) [] l d = absurd (omega arith)
some_digits (suc (suc count)) (x ∷ []) l d = absurd (omega arith)
some_digits (suc (suc count)) (x ∷ y ∷ s) l d = or_none (not (eqb x 48)) (ne_eqb (suc (suc count)) 1 (λ e. omega arith))

-- ---- which of two is above

pub above_by_length : (a b : List ℕ) → length a ≢ length b → ltb (length b) (length a) ≡ above a b
unfolding above
above_by_length a b d = rw (ne_eqb (length a) (length b) d)

-- as bytes: of the same count the order is that of slices
bytes_later : (a b : List ℕ) → length a ≡ length b → is_some_and is_lt (slice_partial_cmp (as_partial_cmp nat_cmp) b a) ≡ later a b
unfolding later
bytes_later [] [] e = refl
bytes_later [] (y ∷ b) e = absurd (omega arith)
bytes_later (x ∷ a) [] e = absurd (omega arith)
bytes_later (x ∷ a) (y ∷ b) e = go (bytes_later a b (omega arith)) (either (ltb y x)) (either (eqb x y))
  where
    go : is_some_and is_lt (slice_partial_cmp (as_partial_cmp nat_cmp) b a) ≡ later a b → (ltb y x ≡ true) ⊎ (ltb y x ≡ false)
        → (eqb x y ≡ true) ⊎ (eqb x y ≡ false)
        → is_some_and is_lt (slice_partial_cmp (as_partial_cmp nat_cmp) (y ∷ b) (x ∷ a)) ≡ later (x ∷ a) (y ∷ b)
    go more (inl l) _ = let h = ltb-true y x l in rw (l, ne_eqb x y (λ q. omega arith))
    go more (inr g) (inl q) = let p = eqb-true x y q in rw (g, eq-eqb y x (sym p), q) more
    go more (inr g) (inr d) = let p = eqb-false x y d in rw (g, ne_eqb y x (λ q. p (sym q)), d)

pub above_by_bytes : (a b : List ℕ) → length a ≡ length b → is_some_and is_lt (slice_partial_cmp (as_partial_cmp nat_cmp) b a) ≡ above a b
unfolding above
above_by_bytes a b e = rw (eq-eqb (length a) (length b) e) (bytes_later a b e)

-- ---- how an entry closes

module _ (s : List ℕ) (end lo hi : ℕ) where
  pub close_end : end ≡ length s → a_run lo hi end ≡ closing end lo hi (drop end s)
  unfolding closing
  close_end e = let h : length s ≤ end = omega (arith, e) in rw (drop_of_length-le s h)

  module _ (h : end < length s) where
    left_byte : drop end s ≡ get_or s end 0 ∷ drop (suc end) s
    left_byte = drop-cons s end 0 h

    left_bytes : end + 1 ≢ length s → drop end s ≡ get_or s end 0 ∷ get_or s (suc end) 0 ∷ drop (suc (suc end)) s
    left_bytes d = left_byte ∙ ap (λ (l : List ℕ). get_or s end 0 ∷ l) (drop-cons s (suc end) 0 (omega arith))

    pub close_comma : (eqb (get_or s end 0) comma && not (eqb (end + 1) (length s))) ≡ true → a_run lo hi (end + 1) ≡ closing end lo hi (drop end s)
    unfolding closing
    close_comma e =
        let r = and_true (eqb (get_or s end 0) comma) (not (eqb (end + 1) (length s))) e in
        rw (left_bytes (eqb-false (end + 1) (length s) (not-true _ r.1)), r.0)

    last_byte : end + 1 ≡ length s → drop end s ≡ get_or s end 0 ∷ []
    last_byte e = let l : length s ≤ suc end = omega (arith, e) in left_byte ∙ ap (λ (l : List ℕ). get_or s end 0 ∷ l) (drop_of_length-le s l)

    pub close_not : (eqb (get_or s end 0) comma && not (eqb (end + 1) (length s))) ≡ false → None ≡ closing end lo hi (drop end s)
    unfolding closing
    close_not e = go (either (eqb (end + 1) (length s))) (either (eqb (get_or s end 0) comma))
      where
        go : (eqb (end + 1) (length s) ≡ true) ⊎ (eqb (end + 1) (length s) ≡ false) → (eqb (get_or s end 0) comma ≡ true) ⊎ (eqb (get_or s end 0) comma ≡ false)
            → None ≡ closing end lo hi (drop end s)
        go (inl q) _ = rw (last_byte (eqb-true (end + 1) (length s) q))
        go (inr q) (inl r) = absurd (clash (rw (q, r)) e)
        go (inr q) (inr r) = rw (left_bytes (eqb-false (end + 1) (length s) q), r)

-- ---- a range, from what the second number's digits are: `rest` is what is left behind the dash at place `at`

module _ (s : List ℕ) (at count : ℕ) (rest : List ℕ) (is : rest ≡ drop (at + 1) s) (counted : count ≡ lead rest) where
  digits_are : take count rest ≡ front (drop (at + 1) s)
  digits_are = ap (λ (k : ℕ). take k rest) counted ∙ ap front is

  pub range_zero : no_zero (take count rest) ≡ false → None ≡ range_on (take at s) (drop (at + 1) s)
  unfolding range_on
  range_zero e = rw (sym (ap no_zero digits_are) ∙ e)

  module _ (number : no_zero (take count rest) ≡ true) where
    pub range_below : above (take at s) (take count rest) ≡ true → None ≡ range_on (take at s) (drop (at + 1) s)
    unfolding range_on
    range_below e = rw (sym (ap no_zero digits_are) ∙ number, sym (ap (above (take at s)) digits_are) ∙ e)

    pub range_good : at < length s → above (take at s) (take count rest) ≡ false → {lo hi : ℕ} → lo ≡ capped (value (take at s))
        → hi ≡ capped (value (front rest)) → closing (at + 1 + count) lo hi (drop (at + 1 + count) s) ≡ range_on (take at s) (drop (at + 1) s)
    unfolding range_on
    range_good h e {lo} {hi} low_is high_is =
        let left = drop (at + 1) s in
        let c : count ≡ lead left = counted ∙ ap lead is in
        let l : at ≡ length (take at s) = sym (length-take-le at s (omega arith)) in
        let v : hi ≡ capped (value (front left)) = high_is ∙ ap (λ (t : List ℕ). capped (value (front t))) is in
        let d : drop (at + 1 + count) s ≡ drop (lead left) left = sym (drop-drop count (at + 1) s) ∙ ap (λ (k : ℕ). drop k left) c in
        let place : at + 1 + count ≡ length (take at s) + 1 + lead left = omega (arith, c, l) in
        rw (sym (ap no_zero digits_are) ∙ number, sym (ap (above (take at s)) digits_are) ∙ e, sym low_is, sym v, sym d, sym place)

-- ---- the entry at the front, from the digits there

on_none : (a : List ℕ) → entry_on a [] ≡ closing (length a) (capped (value a)) (capped (value a)) []
unfolding entry_on
on_none a = refl

on_dash : (a : List ℕ) (x : ℕ) (s : List ℕ) → x ≡ dash → range_on a s ≡ entry_on a (x ∷ s)
unfolding entry_on
on_dash a x s e = rw (eq-eqb x dash e)

on_other : (a : List ℕ) (x : ℕ) (s : List ℕ) → x ≢ dash → entry_on a (x ∷ s) ≡ closing (length a) (capped (value a)) (capped (value a)) (x ∷ s)
unfolding entry_on
on_other a x s d = rw (ne_eqb x dash d)

entry_number : (s : List ℕ) → no_zero (front s) ≡ true → entry_on (front s) (drop (lead s) s) ≡ entry_at s
unfolding entry_at
entry_number s e = rw e

module _ (s : List ℕ) (count : ℕ) (counted : count ≡ lead s) where
  front_is : take count s ≡ front s
  front_is = ap (λ (k : ℕ). take k s) counted

  left_is : drop count s ≡ drop (lead s) s
  left_is = ap (λ (k : ℕ). drop k s) counted

  pub entry_zero : no_zero (take count s) ≡ false → None ≡ entry_at s
  unfolding entry_at
  entry_zero e = rw (sym (ap no_zero front_is) ∙ e)

  module _ (number : no_zero (take count s) ≡ true) where
    entry-on : entry_on (take count s) (drop count s) ≡ entry_at s
    entry-on = ap₂ entry_on front_is left_is ∙ entry_number s (sym (ap no_zero front_is) ∙ number)

    -- a dash behind them
    pub entry_dash : count < length s → get_or s count 0 ≡ dash → range_on (take count s) (drop (count + 1) s) ≡ entry_at s
    entry_dash h e =
        let next : count + 1 ≡ suc count = omega arith in
        ap (λ (k : ℕ). range_on (take count s) (drop k s)) next ∙ on_dash (take count s) (get_or s count 0) (drop (suc count) s) e
        ∙ ap (entry_on (take count s)) (sym (drop-cons s count 0 h)) ∙ entry-on

    -- nothing, or another byte
    pub entry_close : {v : ℕ} → (length s ≤ count) ⊎ ((count < length s) × (get_or s count 0 ≢ dash)) → v ≡ capped (value (front s))
        → closing count v v (drop count s) ≡ entry_at s
    entry_close {v} other e =
        let l : count ≡ length (take count s) = sym (length-take-le count s (omega (arith, counted, lead_within s))) in
        let w : v ≡ capped (value (take count s)) = e ∙ ap (λ (a : List ℕ). capped (value a)) (sym front_is) in
        ap₂ (λ (k u : ℕ). closing k u u (drop count s)) l w ∙ go other ∙ entry-on
      where
        go : (length s ≤ count) ⊎ ((count < length s) × (get_or s count 0 ≢ dash))
            → closing (length (take count s)) (capped (value (take count s))) (capped (value (take count s))) (drop count s)
            ≡ entry_on (take count s) (drop count s)
        go (inl h) = rw (drop_of_length-le s h) (sym (on_none (take count s)))
        go (inr h) = rw (drop-cons s count 0 h.0) (sym (on_other (take count s) (get_or s count 0) (drop (suc count) s) h.1))
