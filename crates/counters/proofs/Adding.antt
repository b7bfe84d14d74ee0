-- Numbers that are added to counters: nothing, one after another, to one counter alone, and from a place on.
use mathlib.Core.Bool.{true, false, cond, ◌&&◌}
use mathlib.Core.List.{List, ◌++◌}
use mathlib.Core.Logic.{◌⊎◌, inl, inr}
use mathlib.Core.Path.{◌≡◌, sym, ap, subst, ◌∙◌}
use Prim.Native.Nat.{ℕ, ◌+◌, ◌-◌, ◌^◌, ◌≤◌, ◌<◌}
use native.Mathlib.Omega.{arith}
use lib.Dec.{eqb, leb, ltb}
use lib.ListN.{drop, get_or, length, length-append, length-drop, length-set, set, take, get_or-append, get_or-eq_default}
use lib.Seq.{ext_get_or, get_or-append-add, get_or-drop, get_or-set_other, get_or-set_same, get_or-take, length-take-le}
use borrow.Author.Tests.{eqb-false, eqb-true, le-leb, lt-leb, ltb-false, ltb-true}
use Rattle.cube.proofs.Bools.{either}
use Rattle.cube.proofs.Front.{get_d_tab, length_tab, tab_cong}
use Rattle.counters.specs.Helpers.{Room, plus}

module _ (m : ℕ) (f : ℕ → ℕ) (l : List ℕ) where
  pub plus_length : length (plus m f l) ≡ m
  unfolding plus
  plus_length = length_tab m (λ i. get_or l i 0 + f i)

  pub plus_at : (i : ℕ) → i < m → get_or (plus m f l) i 0 ≡ get_or l i 0 + f i
  unfolding plus
  plus_at i h = get_d_tab m (λ i. get_or l i 0 + f i) i h

  pub plus_same : (g : ℕ → ℕ) → ((i : ℕ) → i < m → f i ≡ g i) → plus m f l ≡ plus m g l
  unfolding plus
  plus_same g h = tab_cong m _ _ (λ i k. ap (λ (x : ℕ). get_or l i 0 + x) (h i k))

  pub plus_then : (g : ℕ → ℕ) → plus m g (plus m f l) ≡ plus m (λ i. f i + g i) l
  unfolding plus
  plus_then g = tab_cong m _ _ (λ i k. let e = get_d_tab m (λ i. get_or l i 0 + f i) i k in omega (arith, e))

  -- where each counter is what it was and f
  pub plus_is : (r : List ℕ) → length r ≡ m → ((i : ℕ) → i < m → get_or r i 0 ≡ get_or l i 0 + f i) → r ≡ plus m f l
  plus_is r e h = ext_get_or 0 r (plus m f l) (e ∙ sym plus_length) (λ i k. h i (omega arith) ∙ sym (plus_at i (omega arith)))

  -- what is left of the room
  pub plus_room : (b c : ℕ) → Room m b l → ((i : ℕ) → i < m → f i + c ≤ b) → c ≤ b → Room m c (plus m f l)
  plus_room b c R h few = record { sized = plus_length; below = λ i. go i (either (ltb i m)) }
    where
      go : (i : ℕ) → (ltb i m ≡ true) ⊎ (ltb i m ≡ false) → get_or (plus m f l) i 0 + c < 2 ^ 32
      go i (inl e) = let k = ltb-true i m e in omega (arith, plus_at i k, h i k, R.below i)
      go i (inr e) =
          let k = ltb-false i m e in
          let z : get_or (plus m f l) i 0 ≡ 0 = get_or-eq_default (plus m f l) 0 (omega (arith, plus_length)) in
          omega (arith, z, R.below i)

module _ (m : ℕ) (l : List ℕ) (sized : length l ≡ m) where
  pub plus_none : l ≡ plus m (λ _. 0) l
  plus_none = plus_is m (λ _. 0) l l sized (λ i _. omega arith)

  -- to counter k alone
  pub plus_one : (k v : ℕ) → k < m → set l k (get_or l k 0 + v) ≡ plus m (λ i. cond (eqb i k) v 0) l
  plus_one k v h = plus_is m (λ i. cond (eqb i k) v 0) l (set l k (get_or l k 0 + v)) (length-set l k _ ∙ sized) (λ i j. go i (either (eqb i k)))
    where
      go : (i : ℕ) → (eqb i k ≡ true) ⊎ (eqb i k ≡ false) → get_or (set l k (get_or l k 0 + v)) i 0 ≡ get_or l i 0 + cond (eqb i k) v 0
      go i (inl e) = let z = eqb-true i k e in rw (e, z) (get_or-set_same l k (get_or l k 0 + v) 0 (omega arith))
      go i (inr e) = rw e (get_or-set_other l k i (get_or l k 0 + v) 0 (eqb-false i k e) ∙ omega arith)

-- less is asked of the room
pub room_less : (m b c : ℕ) (l : List ℕ) → c ≤ b → Room m b l → Room m c l
room_less m b c l h R = record { sized = R.sized; below = λ i. omega (arith, R.below i) }

-- ---- a part of the counters: k of them, from place a on

abbrev pub in_part : (a k : ℕ) (f : ℕ → ℕ) (i : ℕ) → ℕ
in_part a k f i = cond (leb a i && ltb i (a + k)) (f (i - a)) 0

module _ (m : ℕ) (l : List ℕ) (sized : length l ≡ m) (a k : ℕ) (within : a + k ≤ m) where
  abbrev part : List ℕ
  part = take k (drop a l)

  pub part_length : length part ≡ k
  part_length = length-take-le k (drop a l) (omega (arith, length-drop a l, sized))

  pub part_at : (i : ℕ) → i < k → get_or part i 0 ≡ get_or l (a + i) 0
  part_at i h = get_or-take k (drop a l) i 0 h ∙ get_or-drop a l i 0

  pub part_room : (b : ℕ) → Room m b l → Room k b part
  part_room b R = record { sized = part_length; below = λ i. go i (either (ltb i k)) }
    where
      go : (i : ℕ) → (ltb i k ≡ true) ⊎ (ltb i k ≡ false) → get_or part i 0 + b < 2 ^ 32
      go i (inl e) = omega (arith, part_at i (ltb-true i k e), R.below (a + i))
      go i (inr e) =
          let z : get_or part i 0 ≡ 0 = get_or-eq_default part 0 (omega (arith, part_length, ltb-false i k e)) in
          omega (arith, z, R.below 0)

  -- what is added to the part is added to the counters there, and to no other
  pub plus_part : (f : ℕ → ℕ) (r : List ℕ) → r ≡ plus k f part → take a l ++ (r ++ drop k (drop a l)) ≡ plus m (in_part a k f) l
  plus_part f r e = plus_is m (in_part a k f) l whole long at
    where
      whole : List ℕ
      whole = take a l ++ (r ++ drop k (drop a l))

      front : length (take a l) ≡ a
      front = length-take-le a l (omega (arith, sized))

      r_length : length r ≡ k
      r_length = ap length e ∙ plus_length k f part

      long : length whole ≡ m
      long =
          omega (
            arith,
            length-append (take a l) (r ++ drop k (drop a l)),
            length-append r (drop k (drop a l)),
            length-drop k (drop a l),
            length-drop a l,
            front,
            r_length,
            sized,
          )

      -- before the part, in it, and behind it
      before : (i : ℕ) → i < a → get_or whole i 0 ≡ get_or l i 0
      before i h = get_or-append (take a l) (r ++ drop k (drop a l)) 0 i (omega (arith, front)) ∙ get_or-take a l i 0 h

      from : (j : ℕ) → get_or whole (a + j) 0 ≡ get_or (r ++ drop k (drop a l)) j 0
      from j = ap (λ (x : ℕ). get_or whole (x + j) 0) (sym front) ∙ get_or-append-add (take a l) (r ++ drop k (drop a l)) j 0

      inside : (j : ℕ) → j < k → get_or whole (a + j) 0 ≡ get_or l (a + j) 0 + f j
      inside j h =
          from j ∙ get_or-append r (drop k (drop a l)) 0 j (omega (arith, r_length)) ∙ ap (λ (x : List ℕ). get_or x j 0) e ∙ plus_at k f part j h
          ∙ ap (λ (x : ℕ). x + f j) (part_at j h)

      behind : (j : ℕ) → get_or whole (a + (k + j)) 0 ≡ get_or l (a + (k + j)) 0
      behind j =
          from (k + j) ∙ ap (λ (x : ℕ). get_or (r ++ drop k (drop a l)) (x + j) 0) (sym r_length) ∙ get_or-append-add r (drop k (drop a l)) j 0
          ∙ get_or-drop k (drop a l) j 0 ∙ get_or-drop a l (k + j) 0

      at : (i : ℕ) → i < m → get_or whole i 0 ≡ get_or l i 0 + in_part a k f i
      at i h = go (either (ltb i a)) (either (ltb i (a + k)))
        where
          go : (ltb i a ≡ true) ⊎ (ltb i a ≡ false) → (ltb i (a + k) ≡ true) ⊎ (ltb i (a + k) ≡ false) → get_or whole i 0 ≡ get_or l i 0 + in_part a k f i
          go (inl b) _ = let x = ltb-true i a b in rw (lt-leb a i x) (before i x ∙ omega arith)
          go (inr b) (inl c) =
              let x = ltb-false i a b in
              let y = ltb-true i (a + k) c in
              let z : a + (i - a) ≡ i = omega arith in
              rw (le-leb a i x, c) (subst (λ (j : ℕ). get_or whole j 0 ≡ get_or l j 0 + f (i - a)) z (inside (i - a) (omega arith)))
          go (inr b) (inr c) =
              let x = ltb-false i a b in
              let y = ltb-false i (a + k) c in
              let z : a + (k + (i - a - k)) ≡ i = omega arith in
              rw (le-leb a i x, c) (subst (λ (j : ℕ). get_or whole j 0 ≡ get_or l j 0 + 0) z (behind (i - a - k) ∙ omega arith))
