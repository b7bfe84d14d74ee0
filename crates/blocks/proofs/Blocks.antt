-- The figure's table of blocks, read row by row once and for all: what a hop of a block means, which blocks are surely looked at, and what a
-- block that takes no dimension says. All that is proved of the algorithm rests on these laws and not on the table.
use mathlib.Core.Path.{◌≡◌, refl}
use mathlib.Core.Logic.{◌⊎◌, inl, inr, ⊎_elim, ⊎_map}
use mathlib.Core.Bool.{Bool, true, false, beq, not, ◌&&◌, false≢true}
use Prim.Native.Nat.{ℕ, zero, suc, ◌*◌, ◌≤◌, ◌<◌}
use native.Mathlib.Omega.{arith}
use lib.Dec.{eqb, leb}
use borrow.Author.Tests.{leb-true, leb-false, eq-eqb, eqb-true, le-leb}
use Rattle.cube.specs.Cube.{apart}
use Rattle.cube.proofs.Bools.{and_true, beq_same, beq_true, or_left, or_right, or_true}
use Rattle.blocks.specs.Phase.{down, turns}
use Rattle.blocks.specs.Blocks.{Block, block_at, eager, fits, may_fourth, may_sixth}

-- ---- one block and one dimension

-- what a dimension that a block takes has
pub record Fits (c d p : ℕ) (near : ℕ → ℕ) (side : Bool) (b : Block) (i : ℕ) : Type 0 where
  pub on : apart i c d ≡ side
  pub way : turns p c i ≡ b.turning
  pub low : near i ≤ b.top
  pub looked : b.tried ≡ true

module _ (c d p : ℕ) (near : ℕ → ℕ) (side : Bool) (b : Block) (i : ℕ) where
  pub fits_says : fits c d p near side b i ≡ true → Fits c d p near side b i
  unfolding fits
  fits_says e =
      let r = and_true (beq (apart i c d) side && beq (turns p c i) b.turning) (leb (near i) b.top && b.tried) e in
      let u = and_true (beq (apart i c d) side) (beq (turns p c i) b.turning) r.0 in
      let v = and_true (leb (near i) b.top) b.tried r.1 in
      record {
        on = beq_true (apart i c d) side u.0;
        way = beq_true (turns p c i) b.turning u.1;
        low = leb-true (near i) b.top v.0;
        looked = v.1;
      }

  pub fits_so : Fits c d p near side b i → fits c d p near side b i ≡ true
  unfolding fits
  fits_so f = rw (f.on, f.way, f.looked, beq_same side, beq_same b.turning, le-leb (near i) b.top f.low)

  -- what one that it does not take lacks
  pub fits_not : fits c d p near side b i ≡ false → apart i c d ≡ side → turns p c i ≡ b.turning → b.tried ≡ true → b.top < near i
  unfolding fits
  fits_not e s t l = leb-false (near i) b.top (rw (s, t, l, beq_same side, beq_same b.turning, and_true_r (leb (near i) b.top)) at e)
    where
      and_true_r : (a : Bool) → (a && true) ≡ a
      and_true_r true = refl
      and_true_r false = refl

-- ---- the table

module _ (own l p : ℕ) where
  -- a hop of block s
  pub record Made (s : ℕ) : Type 0 where
    -- a label above 2 is never taken, a higher one by a later block, and a turn by no first block
    pub works : (block_at own l p s).top ≤ 2
    pub late : 2 * (block_at own l p s).top ≤ s
    pub second : (block_at own l p s).turning ≡ true → 0 < s
    -- a strongly unsafe neighbour is taken by a strongly unsafe node, or near the destination
    pub worst : 1 < (block_at own l p s).top → (own ≡ 2) ⊎ (l ≤ 2)
    -- from down to up, to an unsafe neighbour: only near the destination, or to an ordinarily unsafe one in network 0
    pub bend : (block_at own l p s).turning ≡ true → 0 < (block_at own l p s).top → down p ≡ true → (l ≤ 2) ⊎ ((p ≤ 1) × ((block_at own l p s).top ≤ 1))

  pub eager_says : eager own l ≡ true → (own ≡ 2) ⊎ (l ≤ 2)
  unfolding eager ⊎_map
  eager_says e = ⊎_map (eqb-true own 2) (leb-true l 2) (or_true (eqb own 2) (leb l 2) e)

  pub says_eager : (own ≡ 2) ⊎ (l ≤ 2) → eager own l ≡ true
  unfolding eager
  says_eager (inl e) = or_left _ (eq-eqb own 2 e)
  says_eager (inr a) = or_right (eqb own 2) (le-leb l 2 a)

  pub may-fourth : may_fourth l p ≡ true → down p ≡ true → (l ≤ 2) ⊎ (p ≤ 1)
  unfolding may_fourth
  may-fourth e h = ⊎_elim (λ t. inr (leb-true p 1 t)) (λ t. inl (leb-true l 2 t)) (or_true (leb p 1) (leb l 2) (rw h at e))

  pub may-sixth : may_sixth l p ≡ true → down p ≡ true → l ≤ 2
  unfolding may_sixth
  may-sixth e h = leb-true l 2 (rw h at e)

  pub made : (s : ℕ) → s < 6 → (block_at own l p s).tried ≡ true → (block_at own l p s).may ≡ true → Made s
  made zero h t m =
      record { works = omega arith; late = omega arith; second = λ e. absurd (false≢true e); worst = λ k. absurd (omega arith); bend = λ e. absurd (false≢true e) }
  made (suc zero) h t m =
      record { works = omega arith; late = omega arith; second = λ e. omega arith; worst = λ k. absurd (omega arith); bend = λ e k. absurd (omega arith) }
  made (suc (suc zero)) h t m =
      record { works = omega arith; late = omega arith; second = λ e. absurd (false≢true e); worst = λ k. absurd (omega arith); bend = λ e. absurd (false≢true e) }
  made (suc (suc (suc zero))) h t m =
      record {
        works = omega arith;
        late = omega arith;
        second = λ e. omega arith;
        worst = λ k. absurd (omega arith);
        bend = λ e k f. ⊎_elim (λ (a : l ≤ 2). inl a) (λ (a : p ≤ 1). inr (a, omega arith)) (may-fourth m f);
      }
  made (suc (suc (suc (suc zero)))) h t m =
      record { works = omega arith; late = omega arith; second = λ e. omega arith; worst = λ k. eager_says t; bend = λ e. absurd (false≢true e) }
  made (suc (suc (suc (suc (suc zero))))) h t m =
      record { works = omega arith; late = omega arith; second = λ e. omega arith; worst = λ k. eager_says t; bend = λ e k f. inl (may-sixth m f) }
  made (suc (suc (suc (suc (suc (suc s)))))) h t m = absurd (omega arith)

  -- ---- which blocks make the hop that they find

  pub may_low : (s : ℕ) → s < 3 → (block_at own l p s).may ≡ true
  may_low zero h = refl
  may_low (suc zero) h = refl
  may_low (suc (suc zero)) h = refl
  may_low (suc (suc (suc s))) h = absurd (omega arith)

  -- there is no seventh block
  pub may_lt : (s : ℕ) → (block_at own l p s).may ≡ true → s < 6
  may_lt zero e = omega arith
  may_lt (suc zero) e = omega arith
  may_lt (suc (suc zero)) e = omega arith
  may_lt (suc (suc (suc zero))) e = omega arith
  may_lt (suc (suc (suc (suc zero)))) e = omega arith
  may_lt (suc (suc (suc (suc (suc zero))))) e = omega arith
  may_lt (suc (suc (suc (suc (suc (suc s)))))) e = absurd (false≢true e)

  pub may_early : p ≤ 1 → (s : ℕ) → s < 4 → (block_at own l p s).may ≡ true
  unfolding may_fourth
  may_early a zero h = refl
  may_early a (suc zero) h = refl
  may_early a (suc (suc zero)) h = refl
  may_early a (suc (suc (suc zero))) h = or_right (not (down p)) (or_left (leb l 2) (le-leb p 1 a))
  may_early a (suc (suc (suc (suc s)))) h = absurd (omega arith)

  pub may_near : l ≤ 2 → (s : ℕ) → s < 6 → (block_at own l p s).may ≡ true
  unfolding may_fourth may_sixth
  may_near a zero h = refl
  may_near a (suc zero) h = refl
  may_near a (suc (suc zero)) h = refl
  may_near a (suc (suc (suc zero))) h = or_right (not (down p)) (or_right (leb p 1) (le-leb l 2 a))
  may_near a (suc (suc (suc (suc zero)))) h = refl
  may_near a (suc (suc (suc (suc (suc zero))))) h = or_right (not (down p)) (le-leb l 2 a)
  may_near a (suc (suc (suc (suc (suc (suc s)))))) h = absurd (omega arith)

  -- ---- two blocks in a row look at all the dimensions of their side

  module _ (c d : ℕ) (near : ℕ → ℕ) (side : Bool) (i : ℕ) (on : apart i c d ≡ side) where
    abbrev Lacks : ℕ → Type 0
    Lacks s = fits c d p near side (block_at own l p s) i ≡ false

    either_way : {t : ℕ} → (turns p c i ≡ false → t < near i) → (turns p c i ≡ true → t < near i) → t < near i
    either_way f g = go f g (turns p c i) refl
      where
        go : {t : ℕ} → (turns p c i ≡ false → t < near i) → (turns p c i ≡ true → t < near i) → (b : Bool) → turns p c i ≡ b → t < near i
        go f g true e = g e
        go f g false e = f e

    pub not-safe : Lacks 0 → Lacks 1 → 0 < near i
    not-safe a b =
        either_way
        (λ e. fits_not c d p near side (block_at own l p 0) i a on e refl)
        (λ e. fits_not c d p near side (block_at own l p 1) i b on e refl)

    pub not_ordinary : Lacks 2 → Lacks 3 → 1 < near i
    not_ordinary a b =
        either_way
        (λ e. fits_not c d p near side (block_at own l p 2) i a on e refl)
        (λ e. fits_not c d p near side (block_at own l p 3) i b on e refl)

    pub not_working : l ≤ 2 → Lacks 4 → Lacks 5 → 2 < near i
    not_working h a b =
        either_way
        (λ e. fits_not c d p near side (block_at own l p 4) i a on e (says_eager (inr h)))
        (λ e. fits_not c d p near side (block_at own l p 5) i b on e (says_eager (inr h)))

    -- the first block alone looks at those in the phase's direction
    pub not_safe_on : Lacks 0 → turns p c i ≡ false → 0 < near i
    not_safe_on a e = fits_not c d p near side (block_at own l p 0) i a on e refl
