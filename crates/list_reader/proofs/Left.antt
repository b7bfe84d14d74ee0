-- What is left of a text between its entries: an entry that is taken at its front is the first of its parts, and where none is, the text breaks the rules.
use mathlib.Core.Bool.{Bool, true, false, ◌&&◌, ◌||◌}
use mathlib.Core.List.{List, [], ◌∷◌}
use mathlib.Core.Logic.{◌⊎◌, inl, inr}
use mathlib.Core.Path.{◌≡◌, refl, sym, ap, ap₂, subst, ◌∙◌}
use Prim.Native.Nat.{ℕ, ◌≤◌, ◌<◌}
use native.Mathlib.Omega.{arith}
use lib.Dec.{eqb, leb, ltb}
use lib.ListN.{length, drop}
use borrow.Author.Tests.{eqb-false, eqb-true, le-leb, lt-ltb, ltb-true, ltb-false}
use Rattle.cube.proofs.Bools.{either}
use Rattle.list_reader.specs.Front.{a_run, capped, entry_at}
use Rattle.std.specs.Prelude.{None}
use Rattle.ranges.specs.Grammar.{any, every, high, is_entry, is_list, parts_of, reaches}
use Rattle.list_reader.proofs.Entries.{Judged, Taken, judged}

-- an entry goes beyond a cube of that many nodes
abbrev pub far_off : (size : ℕ) → List ℕ → Bool
far_off size p = leb size (high p)

-- a number that 4,096 stands for is beyond as before
beyond_capped : (size v : ℕ) → size ≤ 4096 → leb size (capped v) ≡ leb size v
beyond_capped size v h = go (either (ltb v 4096))
  where
    go : (ltb v 4096 ≡ true) ⊎ (ltb v 4096 ≡ false) → leb size (capped v) ≡ leb size v
    go (inl e) = rw e
    go (inr e) = rw e (le-leb size 4096 h ∙ sym (le-leb size v (omega (arith, ltb-false v 4096 e))))

-- and one that is within is itself
pub near_capped : (v : ℕ) → v < 4096 → capped v ≡ v
near_capped v h = rw (lt-ltb v 4096 h)

pub within_near : (size v : ℕ) → size ≤ 4096 → capped v < size → v < size
within_near size v h l = go (either (ltb v 4096))
  where
    go : (ltb v 4096 ≡ true) ⊎ (ltb v 4096 ≡ false) → v < size
    go (inl e) = omega (arith, l, near_capped v (ltb-true v 4096 e))
    go (inr e) = let top : capped v ≡ 4096 = rw e in absurd (omega (arith, l, h, top))

every_part : (f : List ℕ → Bool) (p : List ℕ) (ps : List (List ℕ)) → every f (p ∷ ps) ≡ (f p && every f ps)
unfolding every
every_part f p ps = refl

any_part : (f : List ℕ → Bool) (p : List ℕ) (ps : List (List ℕ)) → any f (p ∷ ps) ≡ (f p || any f ps)
unfolding any
any_part f p ps = refl

list_every : (s : List ℕ) → is_list s ≡ every is_entry (parts_of s)
unfolding is_list
list_every s = refl

reaches_any : (size : ℕ) (s : List ℕ) → reaches size s ≡ any (far_off size) (parts_of s)
unfolding reaches
reaches_any size s = refl

-- something is left, or nothing
pub some_left : (s : List ℕ) {b : Bool} → b ≡ eqb (length s) 0 → b ≡ false → 0 < length s
some_left s e f = let d = eqb-false (length s) 0 (sym e ∙ f) in omega arith

pub none_left : (s : List ℕ) {b : Bool} → b ≡ eqb (length s) 0 → b ≡ true → length s ≡ 0
none_left s e t = eqb-true (length s) 0 (sym e ∙ t)

-- the entry at the front of what is left
module _ (s : List ℕ) (h : 0 < length s) where
  pub taken_at : {lo hi next : ℕ} → a_run lo hi next ≡ entry_at s → Taken s lo hi next
  taken_at e = subst (Judged s) (sym e) (judged s h)

  pub bad_at : None ≡ entry_at s → is_list s ≡ false
  bad_at e = subst (Judged s) (sym e) (judged s h)

-- behind it
module _ {s : List ℕ} {lo hi next : ℕ} (t : Taken s lo hi next) where
  pub rules_on : is_list s ≡ is_list (drop next s)
  rules_on =
      list_every s ∙ ap (every is_entry) t.parts ∙ every_part is_entry t.part (parts_of (drop next s))
      ∙ ap (λ (b : Bool). b && every is_entry (parts_of (drop next s))) t.entry
      ∙ sym (list_every (drop next s))

  pub beyond_on : (size : ℕ) → size ≤ 4096 → reaches size s ≡ (leb size hi || reaches size (drop next s))
  beyond_on size h =
      reaches_any size s ∙ ap (any (far_off size)) t.parts ∙ any_part (far_off size) t.part (parts_of (drop next s))
      ∙ ap₂ ◌||◌ (sym (ap (leb size) t.high_is ∙ beyond_capped size (high t.part) h)) (sym (reaches_any size (drop next s)))

pub nothing_left : (s : List ℕ) → length s ≡ 0 → s ≡ []
nothing_left [] e = refl
nothing_left (x ∷ s) e = absurd (omega arith)

pub none_rules : is_list [] ≡ true
unfolding is_list parts_of every
none_rules = refl

pub none_beyond : (size : ℕ) → reaches size [] ≡ false
unfolding reaches parts_of any
none_beyond size = refl
