-- The two halves, one by one: job 0's is the front of the buffer and job 1's the rest. Every law of them is then one of two lists in a row.
use mathlib.Core.Path.{◌≡◌, refl, ap, ◌∙◌}
use mathlib.Core.Bool.{true}
use mathlib.Core.Logic.{◌⊎◌, inl, inr}
use mathlib.Core.List.{List, ◌++◌, append-nil}
use Prim.Native.Nat.{ℕ, zero, suc, ◌+◌, ◌-◌, ◌*◌, ◌^◌, ◌≤◌, ◌<◌}
use native.Mathlib.Omega.{arith}
use lib.ListN.{drop, length, length-drop, take, drop_of_length-le}
use lib.Seq.{take_all}
use borrow.Author.Tests.{lt-ltb, ltb-true}
use Rattle.cube.proofs.Tables.{nodes_few}
use Rattle.jobs.specs.Jobs.{Halved, half, is_job, label_bytes, with_half}

-- where the two halves begin
first_at : (m : ℕ) → 0 * m ≡ 0
first_at m = omega arith

second_at : (m : ℕ) → 1 * m ≡ m
second_at m = omega arith

module _ (m : ℕ) (l : List ℕ) where
  pub half_first : half 0 m l ≡ take m l
  unfolding half
  half_first = ap (λ (k : ℕ). take m (drop k l)) (first_at m)

  pub half_second : length l ≡ 2 * m → half 1 m l ≡ drop m l
  unfolding half
  half_second e = ap (λ (k : ℕ). take m (drop k l)) (second_at m) ∙ take_all m (drop m l) (omega (arith, length-drop m l))

  pub with_first : (h : List ℕ) → with_half 0 m h l ≡ h ++ drop m l
  unfolding with_half
  with_first h = ap (λ (k : ℕ). take k l ++ (h ++ drop m (drop k l))) (first_at m)

  pub with_second : (h : List ℕ) → length l ≡ 2 * m → with_half 1 m h l ≡ take m l ++ h
  unfolding with_half
  with_second h e =
      ap (λ (k : ℕ). take k l ++ (h ++ drop m (drop k l))) (second_at m)
      ∙ ap (λ (r : List ℕ). take m l ++ (h ++ r)) (drop_of_length-le (drop m l) {i = m} (omega (arith, length-drop m l)))
      ∙ ap (λ (r : List ℕ). take m l ++ r) (append-nil h)

-- a job is 0 or 1
pub two_jobs : (j : ℕ) → j < 2 → (j ≡ 0) ⊎ (j ≡ 1)
two_jobs zero h = inl refl
two_jobs (suc zero) h = inr refl
two_jobs (suc (suc j)) h = absurd (omega arith)

pub job_is : (j : ℕ) → is_job j ≡ true → j < 2
unfolding is_job
job_is j e = ltb-true j 2 e

pub is-job : (j : ℕ) → j < 2 → is_job j ≡ true
unfolding is_job
is-job j h = lt-ltb j 2 h

half_ends : (j m : ℕ) → j < 2 → j * m + m ≤ 2 * m
half_ends j m h = go (two_jobs j h)
  where
    go : (j ≡ 0) ⊎ (j ≡ 1) → j * m + m ≤ 2 * m
    go (inl e) = rw e (omega arith)
    go (inr e) = rw e (omega arith)

-- its half ends in the buffer, and a buffer is short; s is the number of nodes, as the code has it
module _ (n j m s : ℕ) (h : Halved n j m) (e : s ≡ 2 ^ n) where
  pub ends_within : j * s + s ≤ m
  unfolding label_bytes
  ends_within = omega (arith, half_ends j s h.job, h.sized, e)

  pub ends_short : j * s + s ≤ 8192
  unfolding label_bytes
  ends_short = omega (arith, ends_within, h.sized, nodes_few n h.small)

-- so many bytes from where its half begins are the half, as the code takes it out of the buffer; s is m, as the code has it
module _ (j m s : ℕ) (e : s ≡ m) (l : List ℕ) where
  size_of_part : j * s + s - j * s ≡ m
  size_of_part = omega (arith, e)

  pub part_is_half : take (j * s + s - j * s) (drop (j * s) l) ≡ half j m l
  unfolding half
  part_is_half = rw (size_of_part, e)

  -- and where these are written anew, the buffer is that with another half
  pub part_with_half : (h : List ℕ) → take (j * s) l ++ (h ++ drop (j * s + s - j * s) (drop (j * s) l)) ≡ with_half j m h l
  unfolding with_half
  part_with_half h = rw (size_of_part, e)
