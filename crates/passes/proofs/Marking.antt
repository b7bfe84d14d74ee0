-- A pass over a table that leaves f may read the table while it is written, if what it reads takes f's bytes for what stood there. A round's rule does: it
-- asks for 3 and for 2, and what becomes 128 was 0. So does the search for a safe neighbour in the last pass: it asks for 0, what becomes 1 was 2, and a node
-- that does not work, whose byte was 3, does not get 0.
use mathlib.Core.Path.{◌≡◌, refl, sym, ap, ap₂, ◌∙◌, subst}
use mathlib.Core.Logic.{◌⊎◌, inl, inr, ⊎_elim}
use mathlib.Core.Bool.{Bool, true, false, cond, ◌&&◌}
use mathlib.Core.List.{List}
use Prim.Native.Nat.{ℕ, ◌+◌, ◌≤◌, ◌<◌}
use native.Mathlib.Omega.{arith}
use lib.Dec.{eqb, ltb}
use lib.ListN.{length, get_or, set}
use borrow.Author.Tests.{eqb-true, ltb-true, ltb-false, ne_eqb}
use Rattle.cube.specs.Count.{count, some}
use Rattle.cube.specs.Cube.{flip}
use Rattle.cube.specs.Tables.{label_in}
use Rattle.cube.proofs.Bools.{and_true, by_cases, either}
use Rattle.cube.proofs.Count.{count-in, count_out}
use Rattle.cube.proofs.Search.{some_same}
use Rattle.cube.proofs.Front.{front, front_before, front_after}
use Rattle.passes.specs.Passes.{Kept, KeptByte, kept_new, out_in, mark_in, plain_in, fresh, ordinary, swept, finished}
use Rattle.rule.specs.Rule.{meets}
use Rattle.cube.proofs.Filling.{Filled, fill_here, fill_write, fill_keep}
use Rattle.rule.proofs.Rounds.{meets_same}

module _ (f : ℕ → ℕ) (s l : List ℕ) (x : ℕ) (L : Filled f s l x) where
  -- a byte while the pass goes on is f's, or what stood there
  is_byte : (y : ℕ) → (label_in l y ≡ f y) ⊎ (label_in l y ≡ label_in s y)
  unfolding label_in
  is_byte y = go (either (ltb y x))
    where
      here : label_in l y ≡ get_or (front f x s) y 0
      here = ap (λ (m : List ℕ). get_or m y 0) L.table

      go : (ltb y x ≡ true) ⊎ (ltb y x ≡ false) → (label_in l y ≡ f y) ⊎ (label_in l y ≡ label_in s y)
      go (inl a) = inl (here ∙ front_before f x s y (ltb-true y x a))
      go (inr a) = inr (here ∙ front_after f x s y (ltb-false y x a))

  -- a test q that takes f's bytes for what stood there does not see the pass
  unseen : (q : ℕ → Bool) → ((y : ℕ) → q (f y) ≡ q (label_in s y)) → (y : ℕ) → q (label_in l y) ≡ q (label_in s y)
  unseen q e y = ⊎_elim (λ w. ap q w ∙ e y) (λ w. ap q w) (is_byte y)

first_test : (v w : ℕ) (b : Bool) → (eqb v w && b) ≡ true → v ≡ w
first_test v w b e = eqb-true v w (and_true (eqb v w) b e).0

-- ---- a round

module _ (n k : ℕ) (s : List ℕ) where
  pub swept_new : (x : ℕ) → fresh n k s x ≡ true → swept n k s x ≡ 128
  unfolding swept
  swept_new x e = rw e

  pub swept_old : (x : ℕ) → fresh n k s x ≡ false → swept n k s x ≡ label_in s x
  unfolding swept
  swept_old x e = rw e

  swept_kept : (y : ℕ) → KeptByte (label_in s y) → KeptByte (swept n k s y)
  unfolding swept
  swept_kept y b = by_cases KeptByte (fresh n k s y) (λ _. kept_new) (λ _. b)

  -- a test that takes 128 for 0 takes what the round writes for what stood there
  pub swept_alike : (q : ℕ → Bool) → q 128 ≡ q 0 → (y : ℕ) → q (swept n k s y) ≡ q (label_in s y)
  unfolding swept fresh plain_in
  swept_alike q e y =
      by_cases (λ b. q b ≡ q (label_in s y)) (fresh n k s y)
      (λ t. e ∙ ap q (sym (first_test (label_in s y) 0 (meets n k (out_in s) (mark_in s) y) t))) (λ _. refl)

  module _ (l : List ℕ) (x : ℕ) (L : Filled (swept n k s) s l x) where
    -- a turn, with a count of the marks
    module _ (m : ℕ) (counted : m ≡ count x (fresh n k s)) (h : x < length s) where
      pub sweep_here : fresh n k s x ≡ true → Filled (swept n k s) s (set l x 128) (x + 1) × (m + 1 ≡ count (x + 1) (fresh n k s))
      sweep_here e = (fill_write (swept n k s) s l x L 128 h (sym (swept_new x e)), omega (arith, count-in x (fresh n k s) e))

      pub sweep_not : fresh n k s x ≡ false → Filled (swept n k s) s l (x + 1) × (m ≡ count (x + 1) (fresh n k s))
      sweep_not e = (fill_keep (swept n k s) s l x L h (sym (swept_old x e)), omega (arith, count_out x (fresh n k s) e))

    -- while a round goes on the table has the bytes that rounds are kept by
    pub kept_on : Kept s → Kept l
    kept_on f y h =
        let b : KeptByte (label_in s y) = f y (rw L.sized at h) in
        ⊎_elim (λ e. subst KeptByte (sym e) (swept_kept y b)) (λ e. subst KeptByte (sym e) b) (is_byte (swept n k s) s l x L y)

    -- what a round asks of the table as it is written says what it asked of the table as it was
    pub fresh_seen : fresh n k l x ≡ fresh n k s x
    unfolding fresh out_in mark_in plain_in
    fresh_seen =
        ap₂ (λ (v : ℕ) (b : Bool). eqb v 0 && b) (fill_here (swept n k s) s l x L)
        (meets_same n k (out_in l) (out_in s) (mark_in l) (mark_in s) x (λ i _. seen (λ v. eqb v 3) refl (flip i x)) (λ i _. seen (λ v. eqb v 2) refl (flip i x)))
      where
        seen : (q : ℕ → Bool) → q 128 ≡ q 0 → (y : ℕ) → q (label_in l y) ≡ q (label_in s y)
        seen q e = unseen (swept n k s) s l x L q (swept_alike q e)

-- ---- the last pass

module _ (n : ℕ) (byte : ℕ → ℕ) (high : (y : ℕ) → 3 ≤ byte y) (s : List ℕ) where
  -- the test for 0 takes what the pass writes for what stood there
  final_alike : (y : ℕ) → eqb (finished n byte s y) 0 ≡ eqb (label_in s y) 0
  unfolding finished out_in ordinary mark_in
  final_alike y =
      by_cases (λ b. eqb b 0 ≡ eqb (label_in s y) 0) (out_in s y)
      (λ t. ne_eqb (byte y) 0 (λ z. omega (arith, high y)) ∙ ap (λ v. eqb v 0) (sym (eqb-true (label_in s y) 3 t)))
      (λ _. by_cases (λ b. eqb b 0 ≡ eqb (label_in s y) 0) (ordinary n s y)
      (λ t. ap (λ v. eqb v 0) (sym (first_test (label_in s y) 2 (some n (λ i. plain_in s (flip i y))) t))) (λ _. refl))

  -- what the pass asks of the table as it is written says what it asked of the table as it was
  -- a byte below 2 stays
  pub final_low : (x : ℕ) → label_in s x < 2 → label_in s x ≡ finished n byte s x
  unfolding finished out_in ordinary mark_in
  final_low x h = rw (ne_eqb (label_in s x) 3 (λ e. omega arith), ne_eqb (label_in s x) 2 (λ e. omega arith))

  pub final_seen : (l : List ℕ) (x : ℕ) → Filled (finished n byte s) s l x → finished n byte l x ≡ finished n byte s x
  unfolding finished out_in ordinary mark_in plain_in
  final_seen l x L =
      ap₂ (λ (v : ℕ) (b : Bool). cond (eqb v 3) (byte x) (cond (eqb v 2 && b) 1 v)) (fill_here (finished n byte s) s l x L)
      (some_same n (λ i. plain_in l (flip i x)) (λ i. plain_in s (flip i x)) (λ i _. seen (flip i x)))
    where
      seen : (y : ℕ) → eqb (label_in l y) 0 ≡ eqb (label_in s y) 0
      seen = unseen (finished n byte s) s l x L (λ v. eqb v 0) final_alike
