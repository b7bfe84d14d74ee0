-- Parts and the text that they make: parts that lack the byte between them are found again in their text, and the parts of any text make it. Both go byte by
-- byte, for a byte either ends the first part or stands in front of it.
use mathlib.Core.Path.{◌≡◌, refl, sym, ap, ap₂, ◌∙◌}
use mathlib.Core.Logic.{◌⊎◌, inl, inr}
use mathlib.Core.Bool.{Bool, true, false, not, ◌&&◌}
use mathlib.Core.List.{List, [], ◌∷◌, ◌++◌, append-nil}
use Prim.Native.Nat.{ℕ}
use lib.Dec.{eqb}
use borrow.Author.Tests.{eq-eqb, eqb-true, not-true}
use Rattle.cube.proofs.Bools.{either, and_true, and_both}
use Rattle.ranges.specs.Grammar.{comma, ahead, split, every, parts_of}
use Rattle.ranges.specs.Written.{behind, joined}

-- no byte of s is b
unfoldable pub lacks : (b : ℕ) → List ℕ → Bool
lacks b [] = true
lacks b (x ∷ s) = not (eqb x b) && lacks b s

-- parts, each behind a byte b; and joined by such bytes
unfoldable pub after : (b : ℕ) → List (List ℕ) → List ℕ
after b [] = []
after b (p ∷ more) = b ∷ p ++ after b more

unfoldable pub rejoin : (b : ℕ) → List (List ℕ) → List ℕ
rejoin b [] = []
rejoin b (p ∷ more) = p ++ after b more

behind_is : (ps : List (List ℕ)) → behind ps ≡ after comma ps
unfolding behind after
behind_is [] = refl
behind_is (p ∷ more) = rw (behind_is more)

pub joined_is : (ps : List (List ℕ)) → joined ps ≡ rejoin comma ps
unfolding joined rejoin
joined_is [] = refl
joined_is (p ∷ more) = rw (behind_is more)

lacks_none : (b : ℕ) → lacks b [] ≡ true
unfolding lacks
lacks_none b = refl

pub lacks_cons : (b x : ℕ) (s : List ℕ) → lacks b (x ∷ s) ≡ true → (eqb x b ≡ false) × (lacks b s ≡ true)
unfolding lacks
lacks_cons b x s e = let r = and_true (not (eqb x b)) (lacks b s) e in (not-true (eqb x b) r.0, r.1)

pub lacks_both : (b : ℕ) (s t : List ℕ) → lacks b s ≡ true → lacks b t ≡ true → lacks b (s ++ t) ≡ true
unfolding lacks
lacks_both b [] t e f = f
lacks_both b (x ∷ s) t e f = let r = and_true (not (eqb x b)) (lacks b s) e in and_both r.0 (lacks_both b s t r.1 f)

pub every_cons : (f : List ℕ → Bool) (p : List ℕ) (more : List (List ℕ)) → every f (p ∷ more) ≡ true → (f p ≡ true) × (every f more ≡ true)
unfolding every
every_cons f p more e = and_true (f p) (every f more) e

-- ---- from parts to their text and back

pub split_alone : (b : ℕ) (p : List ℕ) → lacks b p ≡ true → split b p ≡ p ∷ []
unfolding split ahead
split_alone b [] e = refl
split_alone b (x ∷ p) e = let r = lacks_cons b x p e in rw (r.0, split_alone b p r.1)

pub split_ahead : (b : ℕ) (p s : List ℕ) → lacks b p ≡ true → split b (p ++ b ∷ s) ≡ p ∷ split b s
unfolding split ahead
split_ahead b [] s e = rw (eq-eqb b b refl)
split_ahead b (x ∷ p) s e = let r = lacks_cons b x p e in rw (r.0, split_ahead b p s r.1)

pub split_rejoin : (b : ℕ) (p : List ℕ) (more : List (List ℕ)) → every (lacks b) (p ∷ more) ≡ true → split b (rejoin b (p ∷ more)) ≡ p ∷ more
unfolding rejoin after
split_rejoin b p [] e = rw (append-nil p) (split_alone b p (every_cons (lacks b) p [] e).0)
split_rejoin b p (q ∷ more) e =
    let r = every_cons (lacks b) p (q ∷ more) e in
    split_ahead b p (q ++ after b more) r.0 ∙ ap (λ (t : List (List ℕ)). p ∷ t) (split_rejoin b q more r.1)

-- ---- from a text to its parts and back

-- there is a first part
pub record Parts (b : ℕ) (s : List ℕ) : Type 0 where
  pub head : List ℕ
  pub more : List (List ℕ)
  pub are : split b s ≡ head ∷ more

pub parts : (b : ℕ) (s : List ℕ) → Parts b s
unfolding split ahead
parts b [] = record { head = []; more = []; are = refl }
parts b (x ∷ s) = go (parts b s) (either (eqb x b))
  where
    go : Parts b s → (eqb x b ≡ true) ⊎ (eqb x b ≡ false) → Parts b (x ∷ s)
    go r (inl t) = record { head = []; more = split b s; are = rw t }
    go r (inr t) = record { head = x ∷ r.head; more = r.more; are = rw (t, r.are) }

split_here : (b x : ℕ) (s : List ℕ) → eqb x b ≡ true → split b (x ∷ s) ≡ [] ∷ split b s
unfolding split
split_here b x s t = rw t

split_on : (b x : ℕ) (s : List ℕ) (r : Parts b s) → eqb x b ≡ false → split b (x ∷ s) ≡ (x ∷ r.head) ∷ r.more
unfolding split ahead
split_on b x s r t = rw (t, r.are)

pub rejoin_split : (b : ℕ) (s : List ℕ) → rejoin b (split b s) ≡ s
unfolding rejoin after
rejoin_split b [] = ap (rejoin b) (split_alone b [] (lacks_none b))
rejoin_split b (x ∷ s) = go (parts b s) (rejoin_split b s) (either (eqb x b))
  where
    go : (r : Parts b s) → rejoin b (split b s) ≡ s → (eqb x b ≡ true) ⊎ (eqb x b ≡ false) → rejoin b (split b (x ∷ s)) ≡ x ∷ s
    go r e (inl t) = rw (split_here b x s t, r.are) (ap₂ (λ (y : ℕ) (l : List ℕ). y ∷ l) (sym (eqb-true x b t)) (rw r.are at e))
    go r e (inr t) = rw (split_on b x s r t) (ap (λ (l : List ℕ). x ∷ l) (rw r.are at e))

-- ---- the entries of a text

pub joined_parts : (s : List ℕ) → joined (parts_of s) ≡ s
unfolding parts_of joined
joined_parts [] = refl
joined_parts (x ∷ s) = joined_is (split comma (x ∷ s)) ∙ rejoin_split comma (x ∷ s)

pub parts_joined : (x : ℕ) (p : List ℕ) (more : List (List ℕ)) → every (lacks comma) ((x ∷ p) ∷ more) ≡ true
    → parts_of (joined ((x ∷ p) ∷ more)) ≡ (x ∷ p) ∷ more
unfolding parts_of rejoin
parts_joined x p more e = rw (joined_is ((x ∷ p) ∷ more)) (split_rejoin comma (x ∷ p) more e)
