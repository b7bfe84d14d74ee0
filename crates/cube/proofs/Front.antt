-- A table that is written in place from the front: the first k places hold f, the rest what stood there. Assumes nothing.
use mathlib.Core.Path.{◌≡◌, refl, sym, ap, ap₂, ◌∙◌}
use mathlib.Core.Logic.{◌⊎◌, inl, inr}
use mathlib.Core.Bool.{Bool, true, false, cond}
use mathlib.Core.List.{List, [], ◌∷◌, ◌++◌, append_assoc, append-nil}
use Prim.Native.Nat.{ℕ, zero, suc, ◌+◌, ◌-◌, ◌≤◌, ◌<◌}
use native.Mathlib.Nat.{not-suc-le-zero, le_of_suc-le-suc, le_of_eq}
use native.Mathlib.Numerals.{add-one}
use native.Mathlib.Omega.{arith}
use borrow.Author.Tests.{ltb-true, ltb-false}
use lib.Dec.{ltb}
use lib.ListN.{length, get_or, set, drop, replicate, length-append, length-drop, length-replicate, get_or-replicate, drop_of_length-le, get_or-append}
use lib.Seq.{drop-cons, set_at, get_or-append-add, get_or-drop, ext_get_or}
use Rattle.cube.specs.Tables.{tab}
use Rattle.cube.proofs.Bools.{either}

pub length_tab : (n : ℕ) (f : ℕ → ℕ) → length (tab n f) ≡ n
unfolding tab
length_tab zero f = refl
length_tab (suc n) f = ap suc (length_tab n (λ k. f (suc k)))

pub get_d_tab : (n : ℕ) (f : ℕ → ℕ) (i : ℕ) → i < n → get_or (tab n f) i 0 ≡ f i
unfolding tab
get_d_tab zero f i h = absurd (not-suc-le-zero h)
get_d_tab (suc n) f zero h = refl
get_d_tab (suc n) f (suc i) h = get_d_tab n (λ k. f (suc k)) i (le_of_suc-le-suc h)

pub tab_zeros : (n : ℕ) → tab n (λ _. 0) ≡ replicate n 0
unfolding tab
tab_zeros zero = refl
tab_zeros (suc n) = ap (λ (l : List ℕ). 0 ∷ l) (tab_zeros n)

tab_snoc : (n : ℕ) (f : ℕ → ℕ) → tab (suc n) f ≡ tab n f ++ (f n ∷ [])
unfolding tab
tab_snoc zero f = refl
tab_snoc (suc n) f = ap (λ (r : List ℕ). f zero ∷ r) (tab_snoc n (λ k. f (suc k)))

pub tab_cong : (n : ℕ) (f g : ℕ → ℕ) → ((i : ℕ) → i < n → f i ≡ g i) → tab n f ≡ tab n g
unfolding tab
tab_cong zero f g h = refl
tab_cong (suc n) f g h =
    ap₂ (λ (x : ℕ) (r : List ℕ). x ∷ r) (h zero (omega arith)) (tab_cong n (λ k. f (suc k)) (λ k. g (suc k)) (λ i l. h (suc i) (omega arith)))

unfoldable pub front : (ℕ → ℕ) → ℕ → List ℕ → List ℕ
front f k s = tab k f ++ drop k s

pub front_zero : (f : ℕ → ℕ) (s : List ℕ) → s ≡ front f 0 s
unfolding front tab
front_zero f s = refl

pub front_step : (f : ℕ → ℕ) (k : ℕ) (s : List ℕ) → k < length s → set (front f k s) k (f k) ≡ front f (k + 1) s
unfolding front
front_step f k s h =
    ap (λ (r : List ℕ). set (tab k f ++ r) k (f k)) (drop-cons s k 0 h)
    ∙ set_at (tab k f) (get_or s k 0) (drop (suc k) s) (f k) k (length_tab k f)
    ∙ sym (append_assoc (tab k f) (f k ∷ []) (drop (suc k) s))
    ∙ ap (λ (r : List ℕ). r ++ drop (suc k) s) (sym (tab_snoc k f))
    ∙ ap (λ (j : ℕ). tab j f ++ drop j s) (sym (add-one k))

pub front_all : (f : ℕ → ℕ) (n : ℕ) (s : List ℕ) → length s ≡ n → front f n s ≡ tab n f
unfolding front
front_all f n s h = ap (λ (r : List ℕ). tab n f ++ r) (drop_of_length-le s (le_of_eq h)) ∙ append-nil (tab n f)

pub length_front : (f : ℕ → ℕ) (k : ℕ) (s : List ℕ) → k ≤ length s → length (front f k s) ≡ length s
unfolding front
length_front f k s h = omega (arith, length-append (tab k f) (drop k s), length_tab k f, length-drop k s)

pub front_before : (f : ℕ → ℕ) (k : ℕ) (s : List ℕ) (i : ℕ) → i < k → get_or (front f k s) i 0 ≡ f i
unfolding front
front_before f k s i h = get_or-append (tab k f) (drop k s) 0 i (rw (length_tab k f) h) ∙ get_d_tab k f i h

pub front_after : (f : ℕ → ℕ) (k : ℕ) (s : List ℕ) (i : ℕ) → k ≤ i → get_or (front f k s) i 0 ≡ get_or s i 0
unfolding front
front_after f k s i h =
    let e : i ≡ length (tab k f) + (i - k) = omega (arith, length_tab k f) in
    ap (λ (j : ℕ). get_or (tab k f ++ drop k s) j 0) e ∙ get_or-append-add (tab k f) (drop k s) (i - k) 0 ∙ get_or-drop k s (i - k) 0
    ∙ ap (λ (j : ℕ). get_or s j 0) (omega arith)

-- a turn that writes place k
pub front_write : (f : ℕ → ℕ) (k : ℕ) (s l : List ℕ) (x : ℕ) → k < length s → l ≡ front f k s → x ≡ f k → set l k x ≡ front f (k + 1) s
front_write f k s l x h e ex = ap₂ (λ (m : List ℕ) (y : ℕ). set m k y) e ex ∙ front_step f k s h

-- a row of zeros whose first k places are written, where p tells those places from the others
pub front_zeros : (f : ℕ → ℕ) (p : ℕ → Bool) (k m : ℕ) → k ≤ m → ((i : ℕ) → i < k → p i ≡ true) → ((i : ℕ) → k ≤ i → p i ≡ false)
    → front f k (replicate m 0) ≡ tab m (λ i. cond (p i) (f i) 0)
front_zeros f p k m h in-it out = ext_get_or 0 (front f k (replicate m 0)) (tab m g) (long ∙ sym (length_tab m g)) at
  where
    g : ℕ → ℕ
    g i = cond (p i) (f i) 0

    long : length (front f k (replicate m 0)) ≡ m
    long = length_front f k (replicate m 0) (omega (arith, length-replicate {A = ℕ} m 0)) ∙ length-replicate {A = ℕ} m 0

    value : (i : ℕ) → i < m → (ltb i k ≡ true) ⊎ (ltb i k ≡ false) → get_or (front f k (replicate m 0)) i 0 ≡ cond (p i) (f i) 0
    value i l (inl a) = let h = ltb-true i k a in front_before f k (replicate m 0) i h ∙ rw (in-it i h)
    value i l (inr a) = let h = ltb-false i k a in front_after f k (replicate m 0) i h ∙ get_or-replicate m i 0 0 l ∙ rw (out i h)

    at : (i : ℕ) → i < length (front f k (replicate m 0)) → get_or (front f k (replicate m 0)) i 0 ≡ get_or (tab m g) i 0
    at i l = value i (omega (arith, long)) (either (ltb i k)) ∙ sym (get_d_tab m g i (omega (arith, long)))
