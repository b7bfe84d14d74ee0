-- The first node of an entry is not behind its last, so each entry names its last node; and a text that keeps the rules goes beyond a cube exactly where it
-- names a node that the cube does not have.
use mathlib.Core.Path.{◌≡◌, refl}
use mathlib.Core.Logic.{◌⊎◌, inl, inr, ◌↔◌}
use mathlib.Core.Bool.{true, ◌&&◌}
use mathlib.Core.List.{List, [], ◌∷◌}
use Prim.Native.Nat.{ℕ, ◌≤◌}
use native.Mathlib.Omega.{arith}
use lib.Dec.{leb}
use borrow.Author.Tests.{le-leb, leb-true}
use Rattle.cube.proofs.Bools.{and_both, and_true, clash, or_left, or_right, or_true}
use Rattle.ranges.specs.Grammar.{any, covers, dash, entry_of, every, first_of, high, is_entry, is_list, is_number, last_of, low, named}
use Rattle.ranges.specs.Grammar.{parts_of, reaches, split, value}

parts_order : (ps : List (List ℕ)) → entry_of ps ≡ true → first_of ps ≤ last_of ps
unfolding entry_of first_of last_of
parts_order [] e = absurd (clash e refl)
parts_order (a ∷ []) e = omega arith
parts_order (a ∷ b ∷ []) e = leb-true (value a) (value b) (and_true (is_number b) _ (and_true (is_number a) _ e).1).1
parts_order (a ∷ b ∷ c ∷ more) e = absurd (clash e refl)

pub entry_order : (p : List ℕ) → is_entry p ≡ true → low p ≤ high p
unfolding is_entry low high
entry_order p e = parts_order (split dash p) e

-- node k is named, and is none of the first so many
abbrev Names : (size : ℕ) → List (List ℕ) → ℕ → Type 0
Names size ps k = (size ≤ k) × (any (covers k) ps ≡ true)

module _ (size : ℕ) where
  parts_beyond : (ps : List (List ℕ)) → every is_entry ps ≡ true → any (λ p. leb size (high p)) ps ≡ true → (k : ℕ) × Names size ps k
  unfolding every any covers
  parts_beyond [] good far = absurd (clash far refl)
  parts_beyond (p ∷ ps) good far = go (λ g. parts_beyond ps g) (and_true (is_entry p) (every is_entry ps) good) (or_true _ _ far)
    where
      go : (every is_entry ps ≡ true → any (λ p. leb size (high p)) ps ≡ true → (k : ℕ) × Names size ps k)
          → (is_entry p ≡ true) × (every is_entry ps ≡ true) → (leb size (high p) ≡ true) ⊎ (any (λ p. leb size (high p)) ps ≡ true)
          → (k : ℕ) × Names size (p ∷ ps) k
      go more g (inl e) =
          let own = and_both (le-leb (low p) (high p) (entry_order p g.0)) (le-leb (high p) (high p) (omega arith)) in
          (high p, (leb-true size (high p) e, or_left (any (covers (high p)) ps) own))
      go more g (inr e) = let (k, n) = more g.1 e in (k, (n.0, or_right (leb (low p) k && leb k (high p)) n.1))

  beyond_parts : (ps : List (List ℕ)) (k : ℕ) → Names size ps k → any (λ p. leb size (high p)) ps ≡ true
  unfolding any covers
  beyond_parts [] k n = absurd (clash n.1 refl)
  beyond_parts (p ∷ ps) k n = go (λ e. beyond_parts ps k (n.0, e)) (or_true _ _ n.1)
    where
      go : (any (covers k) ps ≡ true → any (λ p. leb size (high p)) ps ≡ true) → ((leb (low p) k && leb k (high p)) ≡ true) ⊎ (any (covers k) ps ≡ true)
          → any (λ p. leb size (high p)) (p ∷ ps) ≡ true
      go more (inl e) =
          let r = and_true (leb (low p) k) (leb k (high p)) e in
          or_left (any (λ p. leb size (high p)) ps) (le-leb size (high p) (omega (arith, n.0, leb-true k (high p) r.1)))
      go more (inr e) = or_right (leb size (high p)) (more e)

pub beyond : (size : ℕ) (text : List ℕ) → is_list text ≡ true → (reaches size text ≡ true) ↔ ((k : ℕ) × (size ≤ k) × (named text k ≡ true))
unfolding is_list reaches named
beyond size text good = (
  λ e. let (k, n) = parts_beyond size (parts_of text) good e in (k, n.0, n.1),
  λ r. beyond_parts size (parts_of text) r.0 (r.1, r.2),
)
