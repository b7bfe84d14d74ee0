-- Entries and their texts: the text of a sound entry is one that the rules take, and low and high of it are the entry's; and a text that they take is that of
-- its low and high. So the parts of a text are entries exactly where they are the texts of sound entries, and name the nodes that these have.
use mathlib.Core.Path.{◌≡◌, refl, sym, ap, ap₂, ◌∙◌}
use mathlib.Core.Logic.{◌⊎◌, inl, inr, ◌↔◌}
use mathlib.Core.Bool.{Bool, true, false, cond, ◌&&◌}
use mathlib.Core.List.{List, [], ◌∷◌, ◌++◌, append-nil}
use Prim.Native.Nat.{ℕ, ◌≤◌}
use native.Mathlib.Omega.{arith}
use lib.Dec.{eqb, leb}
use borrow.Author.Tests.{leb-true, le-leb, eqb-true, eq-eqb}
use Rattle.cube.proofs.Bools.{either, and_true, and_both, clash}
use Rattle.ranges.specs.Grammar.{comma, dash, split, every, any, is_number, no_zero, all_digits, value, entry_of, is_entry, first_of, last_of, low, high}
use Rattle.ranges.specs.Grammar.{parts_of, is_list, covers, named}
use Rattle.ranges.specs.Laws.{Entry, ListText, sound, spelled, holds}
use Rattle.ranges.specs.Written.{decimal, joined}
use Rattle.ranges.proofs.Split.{after, every_cons, lacks, lacks_both, rejoin, rejoin_split, split_alone, split_ahead, parts_joined, joined_parts}
use Rattle.ranges.proofs.Decimal.{decimal_digits, decimal_number, decimal_value, digits_lack, value_decimal}

-- ---- an entry

-- one that stands for itself, or has low at most high
abbrev pub sound_one : Entry → Bool
sound_one e = cond e.lone (eqb e.low e.high) (leb e.low e.high)

abbrev pub text_one : Entry → List ℕ
text_one e = cond e.lone (decimal e.low) (decimal e.low ++ dash ∷ decimal e.high)

-- what is to be known of a text p that stands for an entry from a to b
pub record Stands (p : List ℕ) (a b : ℕ) : Type 0 where
  pub entry : is_entry p ≡ true
  pub from : low p ≡ a
  pub to : high p ≡ b
  pub whole : lacks comma p ≡ true

no_dash : (v : ℕ) → lacks dash (decimal v) ≡ true
no_dash v = digits_lack dash (decimal v) (omega arith) (decimal_digits v)

no_comma : (v : ℕ) → lacks comma (decimal v) ≡ true
no_comma v = digits_lack comma (decimal v) (omega arith) (decimal_digits v)

lone_split : (v : ℕ) → split dash (decimal v) ≡ decimal v ∷ []
lone_split v = split_alone dash (decimal v) (no_dash v)

range_split : (a b : ℕ) → split dash (decimal a ++ dash ∷ decimal b) ≡ decimal a ∷ decimal b ∷ []
range_split a b = split_ahead dash (decimal a) (decimal b) (no_dash a) ∙ ap (λ (t : List (List ℕ)). decimal a ∷ t) (lone_split b)

lone_stands : (v : ℕ) → Stands (decimal v) v v
unfolding is_entry entry_of low high first_of last_of
lone_stands v = record {
  entry = rw (lone_split v) (decimal_number v);
  from = rw (lone_split v) (value_decimal v);
  to = rw (lone_split v) (value_decimal v);
  whole = no_comma v;
}

dash_whole : (s : List ℕ) → lacks comma s ≡ true → lacks comma (dash ∷ s) ≡ true
unfolding lacks
dash_whole s e = e

range_stands : (a b : ℕ) → a ≤ b → Stands (decimal a ++ dash ∷ decimal b) a b
unfolding is_entry entry_of low high first_of last_of
range_stands a b h = record {
  entry = rw (range_split a b)
      (and_both (decimal_number a) (and_both (decimal_number b) (rw (value_decimal a, value_decimal b) (le-leb a b h))));
  from = rw (range_split a b) (value_decimal a);
  to = rw (range_split a b) (value_decimal b);
  whole = lacks_both comma (decimal a) (dash ∷ decimal b) (no_comma a) (dash_whole (decimal b) (no_comma b));
}

pub stands : (e : Entry) → sound_one e ≡ true → Stands (text_one e) e.low e.high
stands e s = go (either e.lone) s
  where
    go : (e.lone ≡ true) ⊎ (e.lone ≡ false) → sound_one e ≡ true → Stands (text_one e) e.low e.high
    go (inl t) s = let z = eqb-true e.low e.high (rw t at s) in rw (t, ← z) (lone_stands e.low)
    go (inr t) s = rw t (range_stands e.low e.high (leb-true e.low e.high (rw t at s)))

-- ---- an entry of a text

-- the entry that a text is of
pub record Spells (p : List ℕ) : Type 0 where
  pub entry : Entry
  pub good : sound_one entry ≡ true
  pub text : p ≡ text_one entry

spells_one : (p a : List ℕ) → split dash p ≡ a ∷ [] → is_number a ≡ true → Spells p
unfolding rejoin after
spells_one p a e n = record {
  entry = record { lone = true; low = value a; high = value a };
  good = eq-eqb (value a) (value a) refl;
  text = sym (rejoin_split dash p) ∙ rw e (append-nil a ∙ sym (decimal_value a n));
}

spells_two : (p a b : List ℕ) → split dash p ≡ a ∷ b ∷ [] → is_number a ≡ true → is_number b ≡ true → leb (value a) (value b) ≡ true → Spells p
unfolding rejoin after
spells_two p a b e n m h = record {
  entry = record { lone = false; low = value a; high = value b };
  good = h;
  text = sym (rejoin_split dash p) ∙ rw (e, append-nil b) (ap₂ (λ (x y : List ℕ). x ++ dash ∷ y) (sym (decimal_value a n)) (sym (decimal_value b m)));
}

spells_parts : (p : List ℕ) (ps : List (List ℕ)) → split dash p ≡ ps → entry_of ps ≡ true → Spells p
unfolding entry_of
spells_parts p [] e f = let z : ◌≡◌ {A = ℕ} 0 1 = cc in absurd (omega arith)
spells_parts p (a ∷ []) e f = spells_one p a e f
spells_parts p (a ∷ b ∷ []) e f =
    let r = and_true (is_number a) (is_number b && leb (value a) (value b)) f in
    let q = and_true (is_number b) (leb (value a) (value b)) r.1 in
    spells_two p a b e r.0 q.0 q.1
spells_parts p (a ∷ b ∷ c ∷ more) e f = let z : ◌≡◌ {A = ℕ} 0 1 = cc in absurd (omega arith)

spells : (p : List ℕ) → is_entry p ≡ true → Spells p
unfolding is_entry
spells p e = spells_parts p (split dash p) refl e

-- ---- the entries of a text

-- sound entries whose texts are these parts
pub record Spelling (ps : List (List ℕ)) : Type 0 where
  pub entries : List Entry
  pub good : sound entries ≡ true
  pub texts : ps ≡ spelled entries

pub spelling : (ps : List (List ℕ)) → every is_entry ps ≡ true → Spelling ps
unfolding every sound spelled
spelling [] e = record { entries = []; good = refl; texts = refl }
spelling (p ∷ more) e =
    let r = and_true (is_entry p) (every is_entry more) e in
    let s = spells p r.0 in
    let others = spelling more r.1 in
    record {
      entries = s.entry ∷ others.entries;
      good = and_both s.good others.good;
      texts = ap₂ (λ (a : List ℕ) (l : List (List ℕ)). a ∷ l) s.text others.texts;
    }

pub sound_cons : (e : Entry) (es : List Entry) → sound (e ∷ es) ≡ true → (sound_one e ≡ true) × (sound es ≡ true)
unfolding sound
sound_cons e es s = and_true (sound_one e) (sound es) s

texts_entries : (es : List Entry) → sound es ≡ true → every is_entry (spelled es) ≡ true
unfolding every spelled
texts_entries [] s = refl
texts_entries (e ∷ es) s = let r = sound_cons e es s in and_both (stands e r.0).entry (texts_entries es r.1)

texts_whole : (es : List Entry) → sound es ≡ true → every (lacks comma) (spelled es) ≡ true
unfolding every spelled
texts_whole [] s = refl
texts_whole (e ∷ es) s = let r = sound_cons e es s in and_both (stands e r.0).whole (texts_whole es r.1)

no_entry : is_entry [] ≡ true → ⊥
unfolding is_entry split entry_of is_number all_digits no_zero
no_entry e = clash e refl

-- entries that lack commas are found again
parts_again : (ps : List (List ℕ)) → every is_entry ps ≡ true → every (lacks comma) ps ≡ true → parts_of (joined ps) ≡ ps
unfolding parts_of joined
parts_again [] e w = refl
parts_again ([] ∷ more) e w = absurd (no_entry (every_cons is_entry [] more e).0)
parts_again ((x ∷ p) ∷ more) e w = parts_joined x p more w

pub parts_are : (es : List Entry) → sound es ≡ true → parts_of (joined (spelled es)) ≡ spelled es
parts_are es s = parts_again (spelled es) (texts_entries es s) (texts_whole es s)

-- ---- the laws

pub text_listed : (es : List Entry) → sound es ≡ true → is_list (joined (spelled es)) ≡ true
unfolding is_list
text_listed es s = rw (parts_are es s) (texts_entries es s)

pub grammar : (s : List ℕ) → (is_list s ≡ true) ↔ ListText s
unfolding is_list
grammar s = (
  λ e. let l = spelling (parts_of s) e in (l.entries, (l.good, sym (joined_parts s) ∙ ap joined l.texts)),
  λ (r : ListText s). rw r.1.1 (text_listed r.0 r.1.0),
)

covered : (es : List Entry) (k : ℕ) → sound es ≡ true → any (covers k) (spelled es) ≡ holds es k
unfolding any spelled holds covers
covered [] k s = refl
covered (e ∷ es) k s =
    let r = sound_cons e es s in
    let p = stands e r.0 in
    rw (p.from, p.to, covered es k r.1)

pub union : (es : List Entry) (k : ℕ) → sound es ≡ true → named (joined (spelled es)) k ≡ holds es k
unfolding named
union es k s = rw (parts_are es s) (covered es k s)
