-- The laws of the halves that specs/Laws.antt states, each by the two jobs.
use mathlib.Core.Path.{◌≡◌, sym, ap, ap₂, ◌∙◌}
use mathlib.Core.Logic.{◌⊎◌, inl, inr, ◌≢◌}
use mathlib.Core.List.{List, ◌++◌}
use Prim.Native.Nat.{ℕ, ◌+◌, ◌*◌, ◌^◌, ◌<◌}
use native.Mathlib.Omega.{arith}
use lib.ListN.{drop, get_or, length, length-append, length-drop, take, take-append-drop}
use lib.Seq.{drop_at, get_or-drop, get_or-take, length-take-le, take_at}
use Rattle.jobs.specs.Jobs.{Halved, half, label_bytes, with_half}
use Rattle.jobs.specs.Laws.{JobLaws}
use Rattle.jobs.proofs.Halves.{half_first, half_second, two_jobs, with_first, with_second}

pub half_byte : (j m x : ℕ) (l : List ℕ) → x < m → get_or (half j m l) x 0 ≡ get_or l (j * m + x) 0
unfolding half
half_byte j m x l h = get_or-take m (drop (j * m) l) x 0 h ∙ get_or-drop (j * m) l x 0

half_both : (m : ℕ) (l : List ℕ) → length l ≡ 2 * m → half 0 m l ++ half 1 m l ≡ l
half_both m l e = ap₂ (λ (a b : List ℕ). a ++ b) (half_first m l) (half_second m l e) ∙ take-append-drop m l

module _ (m : ℕ) (l : List ℕ) (e : length l ≡ 2 * m) where
  front : length (take m l) ≡ m
  front = length-take-le m l (omega arith)

  back : length (drop m l) ≡ m
  back = omega (arith, length-drop m l)

  pub half_long : (j : ℕ) → j < 2 → length (half j m l) ≡ m
  half_long j h = go (two_jobs j h)
    where
      go : (j ≡ 0) ⊎ (j ≡ 1) → length (half j m l) ≡ m
      go (inl z) = rw z (ap length (half_first m l) ∙ front)
      go (inr z) = rw z (ap length (half_second m l e) ∙ back)

  module _ (h : List ℕ) (eh : length h ≡ m) where
    first_long : length (h ++ drop m l) ≡ 2 * m
    first_long = omega (arith, length-append h (drop m l), back)

    second_long : length (take m l ++ h) ≡ 2 * m
    second_long = omega (arith, length-append (take m l) h, front)

    pub with_long : (j : ℕ) → j < 2 → length (with_half j m h l) ≡ length l
    with_long j hj = go (two_jobs j hj)
      where
        go : (j ≡ 0) ⊎ (j ≡ 1) → length (with_half j m h l) ≡ length l
        go (inl z) = rw z (ap length (with_first m l h) ∙ first_long ∙ sym e)
        go (inr z) = rw z (ap length (with_second m l h e) ∙ second_long ∙ sym e)

    pub with_there : (j : ℕ) → j < 2 → half j m (with_half j m h l) ≡ h
    with_there j hj = go (two_jobs j hj)
      where
        go : (j ≡ 0) ⊎ (j ≡ 1) → half j m (with_half j m h l) ≡ h
        go (inl z) = rw z (half_first m (with_half 0 m h l) ∙ ap (take m) (with_first m l h) ∙ take_at h (drop m l) m eh)
        go (inr z) =
            rw z (half_second m (with_half 1 m h l) (ap length (with_second m l h e) ∙ second_long) ∙ ap (drop m) (with_second m l h e)
            ∙ drop_at (take m l) h m front)

    pub with_others : (i j : ℕ) → i < 2 → j < 2 → i ≢ j → half i m (with_half j m h l) ≡ half i m l
    with_others i j hi hj d = go (two_jobs i hi) (two_jobs j hj)
      where
        go : (i ≡ 0) ⊎ (i ≡ 1) → (j ≡ 0) ⊎ (j ≡ 1) → half i m (with_half j m h l) ≡ half i m l
        go (inl y) (inl z) = absurd (d (y ∙ sym z))
        go (inl y) (inr z) =
            rw (y, z) (half_first m (with_half 1 m h l) ∙ ap (take m) (with_second m l h e) ∙ take_at (take m l) h m front ∙ sym (half_first m l))
        go (inr y) (inl z) =
            rw (y, z) (half_second m (with_half 0 m h l) (ap length (with_first m l h) ∙ first_long) ∙ ap (drop m) (with_first m l h)
            ∙ drop_at h (drop m l) m eh ∙ sym (half_second m l e))
        go (inr y) (inr z) = absurd (d (y ∙ sym z))

-- the half of a job in a buffer that has one
pub halved_long : (n j : ℕ) (l : List ℕ) → Halved n j (length l) → length (half j (2 ^ n) l) ≡ 2 ^ n
unfolding label_bytes
halved_long n j l h = half_long (2 ^ n) l h.sized j h.job

pub halves_alike : (m : ℕ) (l l' : List ℕ) → length l ≡ 2 * m → length l' ≡ 2 * m → half 0 m l ≡ half 0 m l' → half 1 m l ≡ half 1 m l' → l ≡ l'
halves_alike m l l' e e' a b = sym (half_both m l e) ∙ ap₂ (λ (x y : List ℕ). x ++ y) a b ∙ half_both m l' e'

pub job_laws : JobLaws
job_laws =
    record {
      byte = half_byte;
      both = half_both;
      long = λ j m l hj e. half_long m l e j hj;
      there = λ j m h l hj e eh. with_there m l e h eh j hj;
      others = λ i j m h l hi hj d e eh. with_others m l e h eh i j hi hj d;
      same_length = λ j m h l hj e eh. with_long m l e h eh j hj;
      alike = halves_alike;
    }
