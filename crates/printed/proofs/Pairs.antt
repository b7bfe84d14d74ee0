-- What is printed for a pair, as the code comes to it: a number of it that is refused gives the last line, and else the next pair lies behind this one,
-- since each number takes a byte at least.
use mathlib.Core.Path.{◌≡◌, refl, ◌∙◌}
use mathlib.Core.List.{List}
use Prim.Native.Nat.{ℕ, ◌<◌}
use native.Mathlib.Omega.{arith}
use lib.ListN.{length}
use Rattle.std.specs.Prelude.{Result, Ok, Err}
use Rattle.cube.specs.Refused.{number}
use Rattle.cube.specs.declared.refusals.Refusal.{Refusal}
use Rattle.groups.specs.Number.{number_at}
use Rattle.groups.proofs.Groups.{read_number}
use Rattle.notice.proofs.Cases.{on-number}
use Rattle.lines.specs.Lines.{input_refused, pair_line}
use Rattle.printed.specs.Printed.{line_at, line_from, next_at, next_from, pair_at, walked_in}

module _ (n : ℕ) (labels s : List ℕ) (at : ℕ) where
  pub first_refused : {r : Refusal} {place : ℕ} → number_at s at ≡ Err (r, place) → (input_refused (number r) place ≡ line_at n labels s at) × (length s ≡ next_at s at)
  unfolding line_at next_at
  first_refused e = rw e (refl, refl)

  pub first_read : {a next : ℕ} → number_at s at ≡ Ok (a, next) → (line_from n labels a s next ≡ line_at n labels s at) × (next_from s next ≡ next_at s at)
  unfolding line_at next_at
  first_read e = rw e (refl, refl)

  module _ (a : ℕ) where
    pub second_refused : {r : Refusal} {place : ℕ} → number_at s at ≡ Err (r, place) → (input_refused (number r) place ≡ line_from n labels a s at) × (length s ≡ next_from s at)
    unfolding line_from next_from
    second_refused e = rw e (refl, refl)

    pub second_read : {b after : ℕ} → number_at s at ≡ Ok (b, after)
        → (pair_line a b (walked_in n labels a b) ≡ line_from n labels a s at) × (after ≡ next_from s at)
    unfolding line_from next_from
    second_read e = rw e (refl, refl)

-- ---- both numbers of a pair

abbrev pub Numbers : Type 0
Numbers = Result (ℕ × ℕ × ℕ) (Refusal × ℕ)

module _ (n : ℕ) (labels s : List ℕ) (at : ℕ) where
  -- what the line of the pair is and where the next one begins, by its numbers
  abbrev pub Shown : Numbers → Type 0
  Shown (Ok x) = (pair_line x.0 x.1 (walked_in n labels x.0 x.1) ≡ line_at n labels s at) × (x.2 ≡ next_at s at)
  Shown (Err x) = (input_refused (number x.0) x.1 ≡ line_at n labels s at) × (length s ≡ next_at s at)

  pub shown : Shown (pair_at s at)
  unfolding pair_at
  shown =
      on-number Shown (number_at s at) (λ r place e. first_refused n labels s at e)
      (λ a next e. let first = first_read n labels s at e in
      on-number Shown (number_at s next) (λ r place f. let second = second_refused n labels s next a f in (second.0 ∙ first.0, second.1 ∙ first.1))
      (λ b after f. let second = second_read n labels s next a f in (second.0 ∙ first.0, second.1 ∙ first.1)))

pub next_beyond : (s : List ℕ) (at : ℕ) → at < length s → at < next_at s at
unfolding next_at next_from
next_beyond s at h =
    on-number (λ (p : ℕ). at < p) (number_at s at) (λ _ _ _. h)
    (λ a next e. on-number (λ (p : ℕ). at < p) (number_at s next) (λ _ _ _. h)
    (λ b after f. omega (arith, (read_number s at a next e).beyond, (read_number s next b after f).beyond)))
