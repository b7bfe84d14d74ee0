-- The parts of a text from its front: bytes that hold no comma begin its first part, and what follows decides where that part ends; the same of an entry and
-- its dash. So which parts are entries is seen from the digits at their front and the byte behind them.
use mathlib.Core.Bool.{Bool, true, false, ◌&&◌}
use mathlib.Core.List.{List, [], ◌∷◌, ◌++◌, append_assoc}
use mathlib.Core.Logic.{◌⊎◌, inl, inr}
use mathlib.Core.Path.{◌≡◌, refl, ap, ◌∙◌}
use Prim.Native.Nat.{ℕ}
use native.Mathlib.Omega.{arith}
use lib.Dec.{eqb, leb}
use borrow.Author.Tests.{eqb-true}
use Rattle.cube.proofs.Bools.{either}
use Rattle.ranges.specs.Grammar.{ahead, all_digits, dash, entry_of, first_of, high, is_digit, is_entry, is_number, last_of, low, no_zero, split, value}
use Rattle.ranges.proofs.Decimal.{digits_lack}
use Rattle.ranges.proofs.Split.{lacks, lacks_cons, parts, split_ahead, split_alone}

-- ---- bytes without b, in front of others

-- where b follows, they are the part; where another byte does, the part goes on
pub split_behind : (b : ℕ) (w : List ℕ) (x : ℕ) (s : List ℕ) → lacks b w ≡ true → eqb x b ≡ true → split b (w ++ x ∷ s) ≡ w ∷ split b s
split_behind b w x s e h = ap (λ (y : ℕ). split b (w ++ y ∷ s)) (eqb-true x b h) ∙ split_ahead b w s e

pub split_more : (b : ℕ) (w : List ℕ) (x : ℕ) (s : List ℕ) → lacks b w ≡ true → eqb x b ≡ false
    → split b (w ++ x ∷ s) ≡ (w ++ x ∷ (parts b s).head) ∷ (parts b s).more
unfolding split ahead
split_more b [] x s e h = rw (h, (parts b s).are)
split_more b (y ∷ w) x s e h = let r = lacks_cons b y w e in rw (r.0, split_more b w x s r.1 h)

-- ---- digits

pub and_none : (a : Bool) → (a && false) ≡ false
and_none true = refl
and_none false = refl

-- a byte that is no digit is in no number
not_digits : (a : List ℕ) (x : ℕ) (s : List ℕ) → is_digit x ≡ false → all_digits (a ++ x ∷ s) ≡ false
unfolding all_digits
not_digits [] x s e = rw e
not_digits (y ∷ a) x s e = rw (not_digits a x s e) (and_none (is_digit y))

-- ---- entries

-- a part that begins otherwise than with a number is none
entry_first : (a : List ℕ) (more : List (List ℕ)) → is_number a ≡ false → entry_of (a ∷ more) ≡ false
unfolding entry_of
entry_first a [] e = e
entry_first a (b ∷ []) e = rw e
entry_first a (b ∷ c ∷ more) e = refl

entry_second : (a b : List ℕ) (more : List (List ℕ)) → is_number b ≡ false → entry_of (a ∷ b ∷ more) ≡ false
unfolding entry_of
entry_second a b [] e = rw e (and_none (is_number a))
entry_second a b (c ∷ more) e = refl

entry_third : (a b c : List ℕ) (more : List (List ℕ)) → entry_of (a ∷ b ∷ c ∷ more) ≡ false
unfolding entry_of
entry_third a b c more = refl

no_number : (a : List ℕ) (x : ℕ) (s : List ℕ) → is_digit x ≡ false → is_number (a ++ x ∷ s) ≡ false
unfolding is_number
no_number a x s e = rw (not_digits a x s e)

number_is : (a : List ℕ) → all_digits a ≡ true → is_number a ≡ no_zero a
unfolding is_number
number_is a e = rw e

entry_is : (p : List ℕ) (ps : List (List ℕ)) → split dash p ≡ ps → is_entry p ≡ entry_of ps
unfolding is_entry
entry_is p ps e = ap entry_of e

dash_ends : (a : List ℕ) → all_digits a ≡ true → split dash a ≡ a ∷ []
dash_ends a e = split_alone dash a (digits_lack dash a (omega arith) e)

dash_behind : (a s : List ℕ) → all_digits a ≡ true → split dash (a ++ dash ∷ s) ≡ a ∷ split dash s
dash_behind a s e = split_behind dash a dash s (digits_lack dash a (omega arith) e) refl

module _ (a : List ℕ) (ea : all_digits a ≡ true) where
  -- digits alone
  pub lone_entry : is_entry a ≡ no_zero a
  unfolding entry_of
  lone_entry = entry_is a (a ∷ []) (dash_ends a ea) ∙ number_is a ea

  pub lone_low : low a ≡ value a
  unfolding low first_of
  lone_low = ap first_of (dash_ends a ea)

  pub lone_high : high a ≡ value a
  unfolding high last_of
  lone_high = ap last_of (dash_ends a ea)

  -- digits, and then a byte that is neither a digit nor a dash
  pub odd_entry : (x : ℕ) (s : List ℕ) → is_digit x ≡ false → eqb x dash ≡ false → is_entry (a ++ x ∷ s) ≡ false
  odd_entry x s e h =
      let p = parts dash s in
      entry_is (a ++ x ∷ s) _ (split_more dash a x s (digits_lack dash a (omega arith) ea) h)
      ∙ entry_first (a ++ x ∷ p.head) p.more (no_number a x p.head e)

  -- digits that are no number, and then a dash
  pub zero_entry : (s : List ℕ) → no_zero a ≡ false → is_entry (a ++ dash ∷ s) ≡ false
  zero_entry s e = entry_is (a ++ dash ∷ s) _ (dash_behind a s ea) ∙ entry_first a (split dash s) (number_is a ea ∙ e)

  module _ (b : List ℕ) (eb : all_digits b ≡ true) where
    both : split dash (a ++ dash ∷ b) ≡ a ∷ b ∷ []
    both = dash_behind a b ea ∙ ap (λ (ps : List (List ℕ)). a ∷ ps) (dash_ends b eb)

    -- digits, a dash and digits
    pub range_entry : is_entry (a ++ dash ∷ b) ≡ (no_zero a && (no_zero b && leb (value a) (value b)))
    unfolding entry_of
    range_entry = entry_is (a ++ dash ∷ b) (a ∷ b ∷ []) both ∙ rw (number_is a ea, number_is b eb)

    pub range_low : low (a ++ dash ∷ b) ≡ value a
    unfolding low first_of
    range_low = ap first_of both

    pub range_high : high (a ++ dash ∷ b) ≡ value b
    unfolding high last_of
    range_high = ap last_of both

    -- and then a byte that is no digit
    pub odd_range : (x : ℕ) (s : List ℕ) → is_digit x ≡ false → is_entry ((a ++ dash ∷ b) ++ x ∷ s) ≡ false
    odd_range x s e =
        ap is_entry (append_assoc a (dash ∷ b) (x ∷ s))
        ∙ entry_is (a ++ dash ∷ (b ++ x ∷ s)) _ (dash_behind a (b ++ x ∷ s) ea)
        ∙ go (either (eqb x dash))
      where
        go : (eqb x dash ≡ true) ⊎ (eqb x dash ≡ false) → entry_of (a ∷ split dash (b ++ x ∷ s)) ≡ false
        go (inl h) =
            let p = parts dash s in
            ap (λ (ps : List (List ℕ)). entry_of (a ∷ ps))
            (split_behind dash b x s (digits_lack dash b (omega arith) eb) h ∙ ap (λ (ps : List (List ℕ)). b ∷ ps) p.are)
            ∙ entry_third a b p.head p.more
        go (inr h) =
            let p = parts dash s in
            ap (λ (ps : List (List ℕ)). entry_of (a ∷ ps)) (split_more dash b x s (digits_lack dash b (omega arith) eb) h)
            ∙ entry_second a (b ++ x ∷ p.head) p.more (no_number b x p.head e)
