-- The halves of a label buffer (RULES, Which nodes work): there are two, they share no byte, and what is written into one stays out of the other.
-- Proved in proofs/Laws.antt.
use Rattle.std.specs.Prelude.{List, ◌++◌, ◌≢◌, ◌≡◌, ℕ, ◌+◌, ◌*◌, ◌<◌, get_or, length}
use Rattle.jobs.specs.Jobs.{half, with_half}

pub record JobLaws : Type 0 where
  -- byte x of a job's half is a byte of the buffer: for job 0 the same, for job 1 that many places on
  pub byte : (j m x : ℕ) (l : List ℕ) → x < m → get_or (half j m l) x 0 ≡ get_or l (j * m + x) 0
  -- the buffer is job 0's half and then job 1's, each as long as the other
  pub both : (m : ℕ) (l : List ℕ) → length l ≡ 2 * m → half 0 m l ++ half 1 m l ≡ l
  pub long : (j m : ℕ) (l : List ℕ) → j < 2 → length l ≡ 2 * m → length (half j m l) ≡ m
  -- what is written as a job's half stands there,
  pub there : (j m : ℕ) (h l : List ℕ) → j < 2 → length l ≡ 2 * m → length h ≡ m → half j m (with_half j m h l) ≡ h
  -- and no other half changes, nor the length
  pub others : (i j m : ℕ) (h l : List ℕ) → i < 2 → j < 2 → i ≢ j → length l ≡ 2 * m → length h ≡ m → half i m (with_half j m h l) ≡ half i m l
  pub same_length : (j m : ℕ) (h l : List ℕ) → j < 2 → length l ≡ 2 * m → length h ≡ m → length (with_half j m h l) ≡ length l
  -- a buffer is known by its halves
  pub alike : (m : ℕ) (l l' : List ℕ) → length l ≡ 2 * m → length l' ≡ 2 * m → half 0 m l ≡ half 0 m l' → half 1 m l ≡ half 1 m l' → l ≡ l'
