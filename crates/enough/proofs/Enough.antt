-- The theorem, of the shadow of F in the dimensions D, by induction on how many nodes F has. Where they are far apart (Far.antt) some node is safe by either
-- rule. Where there are twins but for one dimension or two, these are dropped and one twin left out.
-- Rule 2: each two dimensions that are dropped take a node of F with them, so half as many nodes as dimensions can be borne.
-- Rule 3: dropping one dimension leaves twins but for one, and as many nodes as dimensions at most. That is borne too: drop the other dimension with a twin;
-- if again there are twins but for one, go on so; if not, no two neighbours are in the shadow, and the half with fewer nodes of F, at most half of them, has a
-- safe node by rule 2 (Half.antt).
use mathlib.Core.Path.{◌≡◌, refl, sym, subst}
use mathlib.Core.Logic.{◌⊎◌, inl, inr, by_cases}
use mathlib.Core.Bool.{Bool, true, false}
use Prim.Native.Nat.{ℕ, zero, suc, ◌*◌, ◌^◌, ◌≤◌, ◌<◌}
use native.Mathlib.Decide.{dec_le}
use native.Mathlib.Omega.{arith}
use Rattle.cube.specs.Count.{count}
use Rattle.cube.specs.Cube.{flip}
use Rattle.cube.specs.Tables.{label_in}
use Rattle.cube.proofs.Bools.{clash, either, is_false}
use Rattle.cube.proofs.Count.{count_all, count_without, without}
use Rattle.rule.specs.Cabinet.{Cabinet, labels_of, out}
use Rattle.rule.specs.Rule.{safe}
use Rattle.rule.proofs.Cabinet.{is_zero}
use Rattle.enough.specs.Enough.{Enough, FewOutSafe, LeavesSafe}
use Rattle.enough.proofs.Far.{far_safe}
use Rattle.enough.proofs.Half.{half_safe, halves, on_side}
use Rattle.enough.proofs.Shadow.{Like, dropped, shadow, whole}
use Rattle.enough.proofs.Twins.{Twin, beside, but_one_is, but_one_says, but_two_says, but_one, but_two, left_out, like_other, two_twins}

module _ (n : ℕ) where
  -- ---- rule 2

  two : (f : ℕ) (D F : ℕ → Bool) → count (2 ^ n) F ≡ f → 2 * f ≤ suc (count n D) → LeavesSafe n 2 (shadow n D F)
  two zero D F c h = far_safe n D F (is_false none) 2 (omega arith) (omega arith)
    where
      none : but_two n D F ≡ true → ⊥
      none e =
          let (i, hi, di, e') = but_two_says n D F e in
          let (j, hj, dj, t) = but_one_says n (without D i) F e' in
          omega (arith, c, two_twins n (without (without D i) j) F t)
  two (suc f) D F c h = go (two f) (either (but_two n D F))
    where
      go : ((E G : ℕ → Bool) → count (2 ^ n) G ≡ f → 2 * f ≤ suc (count n E) → LeavesSafe n 2 (shadow n E G))
          → (but_two n D F ≡ true) ⊎ (but_two n D F ≡ false) → LeavesSafe n 2 (shadow n D F)
      go ih (inl e) =
          let (i, hi, di, e') = but_two_says n D F e in
          let E : ℕ → Bool = without D i in
          let (j, hj, dj, t) = but_one_says n E F e' in
          dropped n 2 D F i (dropped n 2 E F j (left_out n (without E j) F 2 t
          (ih (without E j) (without F t.y) (omega (arith, count_without (2 ^ n) F t.y t.below t.of))
          (omega (arith, count_without n D i hi di, count_without n E j hj dj)))))
      go ih (inr e) = far_safe n D F e 2 (omega arith) (omega arith)

  -- ---- rule 3

  -- the half with fewer of the nodes of F
  by_half : (D F : ℕ → Bool) (i : ℕ) → i < n → D i ≡ true → count (2 ^ n) F ≤ count n D
      → ((j x : ℕ) → j < n → without D i j ≡ true → Like n (without D i) F (flip j x) → Like n (without D i) F x → ⊥) → LeavesSafe n 3 (shadow n D F)
  by_half D F i h d few far =
      by_cases (dec_le (2 * count (2 ^ n) (on_side i true F)) (count n D)) (λ l. on true l)
      (λ l. on false (omega (arith, halves n i F)))
    where
      on : (b : Bool) → 2 * count (2 ^ n) (on_side i b F) ≤ count n D → LeavesSafe n 3 (shadow n D F)
      on b l =
          half_safe n D F i h d b far
          (two (count (2 ^ n) (on_side i b F)) (without D i) (on_side i b F) refl (omega (arith, count_without n D i h d)))

  -- twins but for i: drop i, and one of them
  module _ (D F : ℕ → Bool) (few : count (2 ^ n) F ≤ count n D) (i : ℕ) (hi : i < n) (di : D i ≡ true) (t : Twin n (without D i) F) where
    abbrev E : ℕ → Bool
    E = without D i

    abbrev G : ℕ → Bool
    G = without F t.y

    step : (but_one n E G ≡ true → LeavesSafe n 3 (shadow n E G)) → LeavesSafe n 3 (shadow n D F)
    step again = go (either (but_one n E G))
      where
        go : (but_one n E G ≡ true) ⊎ (but_one n E G ≡ false) → LeavesSafe n 3 (shadow n D F)
        go (inl e) = dropped n 3 D F i (left_out n E F 3 t (again e))
        go (inr e) =
            by_half D F i hi di few
            (λ j x hj dj l m. clash (but_one_is n E G j hj dj (beside n E G j x hj dj (like_other n E F t (flip j x) l) (like_other n E F t x m))) e)

  -- as many nodes as dimensions, with twins but for one
  as_many : (f : ℕ) (D F : ℕ → Bool) → count (2 ^ n) F ≡ f → f ≤ count n D → but_one n D F ≡ true → LeavesSafe n 3 (shadow n D F)
  as_many zero D F c h e = let (i, hi, di, t) = but_one_says n D F e in absurd (omega (arith, c, two_twins n (without D i) F t))
  as_many (suc f) D F c h e =
      let (i, hi, di, t) = but_one_says n D F e in
      step D F (omega (arith, c, h)) i hi di t
      (as_many f (without D i) (without F t.y) (omega (arith, c, count_without (2 ^ n) F t.y t.below t.of))
      (omega (arith, h, count_without n D i hi di)))

  fewer : (D F : ℕ → Bool) → count (2 ^ n) F < count n D → LeavesSafe n 3 (shadow n D F)
  fewer D F h = go (either (but_two n D F))
    where
      go : (but_two n D F ≡ true) ⊎ (but_two n D F ≡ false) → LeavesSafe n 3 (shadow n D F)
      go (inl e) =
          let (i, hi, di, e') = but_two_says n D F e in
          dropped n 3 D F i (as_many (count (2 ^ n) F) (without D i) F refl (omega (arith, count_without n D i hi di)) e')
      go (inr e) = far_safe n D F e 3 (omega arith) (omega arith)

-- ---- in all dimensions

pub enough : (n : ℕ) (F : ℕ → Bool) → Enough n F
enough n F =
    record {
      three = λ h. whole n 3 F (fewer n (λ _. true) F (omega (arith, h, count_all n)));
      two = λ h. whole n 2 F (two n (count (2 ^ n) F) (λ _. true) F refl (omega (arith, h, count_all n)));
    }

-- ---- of a cabinet

by-rule : (K : Cabinet) (k : ℕ) → K.rule ≡ k → LeavesSafe K.n k (out K) → (x : ℕ) × (x < 2 ^ K.n) × (label_in (labels_of K) x ≡ 0)
by-rule K k e (x, h, s) = (x, h, is_zero K x h (subst (λ r. safe K.n r (out K) x ≡ true) (sym e) s))

pub few_out_safe : FewOutSafe
few_out_safe K (inl (e, h)) = by-rule K 3 e ((enough K.n (out K)).three h)
few_out_safe K (inr (e, h)) = by-rule K 2 e ((enough K.n (out K)).two h)
