-- The reader and the tail question agree: they share one definition, and only the table's length can part them. So what the reader takes for a notice
-- is one of the bytes alone, and the tail is what it did not take.
use mathlib.Core.Path.{◌≡◌, refl, sym, ap, ◌∙◌}
use mathlib.Core.Logic.{◌⊎◌, inl, inr, ⊎_elim, ◌≢◌}
use mathlib.Core.Bool.{not}
use mathlib.Core.List.{List, []}
use Prim.Native.Nat.{ℕ, ◌≤◌}
use native.Mathlib.Omega.{arith}
use lib.ListN.{length, drop}
use lib.Seq.{drop-length}
use Rattle.std.specs.Prelude.{Ok, Err}
use Rattle.cube.specs.Refused.{number, refusal}
use Rattle.cube.specs.declared.refusals.Refusal.{Refusal}
use Rattle.cube.specs.declared.refusals.Refusal.TheVariants.{Length}
use Rattle.cube.specs.Tables.{is_dimension}
use Rattle.cube.proofs.Refusal.{first_only}
use Rattle.cube.proofs.Tables.{nodes_few}
use Rattle.groups.specs.Number.{number_at}
use Rattle.groups.proofs.Groups.{refused_place, same_value}
use Rattle.notice.specs.Tests.{length_tests, tested}
use Rattle.notice.specs.Notice.{Noticed, a_notice, dimension_at, notice_from, notice_of, noticed, refusal_of, tail_at}
use Rattle.notice.specs.Laws.{ReadNotice}
use Rattle.notice.proofs.Bad.{tested_bad}
use Rattle.notice.proofs.Cases.{on_tested}
use Rattle.notice.proofs.Opened.{opened_notice, opened_sized, read_notice}
use Rattle.notice.proofs.Outcomes.{outcome_number, tail_refused, tail_good}

-- the tail begins among the bytes, or at their end
pub tail_within : (s : List ℕ) → tail_at s ≤ length s
tail_within s = go (notice_of s) refl
  where
    go : (x : Noticed) → notice_of s ≡ x → tail_at s ≤ length s
    go (Ok x) e = omega (arith, tail_good s (sym e), (read_notice s x.n x.count x.taken e).within)
    go (Err x) e = omega (arith, tail_refused s (sym e))

pub record Parts (n m taken : ℕ) : Type 0 where
  pub dimension : n ≤ 12
  pub count : m ≤ 4096
  pub short : taken ≤ 4099

-- the dimension is refused at the first byte, whatever is wrong with it
pub dimension_place : (s : List ℕ) (r : Refusal) (at : ℕ) → dimension_at s ≡ Err (r, at) → at ≡ 0
unfolding dimension_at
dimension_place s r at e =
    tested_bad (λ n. not (is_dimension n)) 1 0 (number_at s 0) (at ≡ 0) e (λ own. refused_place s 0 r at own) (λ _ _ _ _ _ z. sym z)

module _ (s t : List ℕ) where
  -- with a table of any length the answer is that of the tail question, or 2
  same_or_two : (noticed s t ≡ notice_of s) ⊎ (noticed s t ≡ Err (Length, 0))
  unfolding noticed notice_of notice_from
  same_or_two =
      on_tested (length_tests t) 0 (λ x. (notice_from x s ≡ notice_from (dimension_at s) s) ⊎ (notice_from x s ≡ Err (Length, 0))) (dimension_at s)
      (λ r at e. inl (rw e)) (λ n at e z. inr (ap (λ (k : ℕ). Err (refusal k, 0)) (first_only _ 2 z).1)) (λ n at e _. inl (rw e))

  pub same_notice : (x : Noticed) → noticed s t ≡ x → refusal_of x ≢ 2 → notice_of s ≡ x
  same_notice x e d = ⊎_elim (λ p. sym p ∙ e) (λ p. absurd (d (ap refusal_of (sym e ∙ p)))) same_or_two

  pub same_accepted : (n m taken : ℕ) → noticed s t ≡ a_notice n m taken → notice_of s ≡ a_notice n m taken
  same_accepted n m taken e = same_notice (a_notice n m taken) e (λ p. omega arith)

  pub accepted : (n m taken : ℕ) → noticed s t ≡ a_notice n m taken → ReadNotice s n m taken
  accepted n m taken e = read_notice s n m taken (same_accepted n m taken e)

  -- its parts are small
  pub parts : (n m taken : ℕ) → noticed s t ≡ a_notice n m taken → Parts n m taken
  parts n m taken e =
      let r = accepted n m taken e in
      let few = nodes_few n r.dimension.1 in
      record { dimension = r.dimension.1; count = omega (arith, r.few); short = omega (arith, r.short) }

  -- the dimension by itself and the reader agree too
  pub dimension_refused : (r : Refusal) (at : ℕ) → dimension_at s ≡ Err (r, at) → noticed s t ≡ Err (r, at)
  dimension_refused r at e = sym (outcome_number s t refl (sym e)).answer

  pub dimension_read : (n next n' m taken : ℕ) → dimension_at s ≡ Ok (n, next) → noticed s t ≡ a_notice n' m taken → n' ≡ n
  unfolding noticed
  dimension_read n next n' m taken d e =
      let o = opened_notice (tested (length_tests t) 0 (dimension_at s)) s n' m taken e in
      (same_value (sym (opened_sized s t n' o.at o.dimension).0 ∙ d)).0

  pub tail_behind : (n m taken : ℕ) → noticed s t ≡ a_notice n m taken → tail_at s ≡ taken
  tail_behind n m taken e = sym (tail_good s (sym (same_accepted n m taken e)))

  pub tail_empty : (r : Refusal) (at : ℕ) → noticed s t ≡ Err (r, at) → number r ≢ 2 → (tail_at s ≡ length s) × (drop (tail_at s) s ≡ [])
  tail_empty r at e d =
      let z : tail_at s ≡ length s = sym (tail_refused s (sym (same_notice (Err (r, at)) e d))) in
      (z, ap (λ (j : ℕ). drop j s) z ∙ drop-length s)
