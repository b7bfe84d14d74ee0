-- What an answer says, by the refusal number that it goes by: an accepted one that no refusal is due, a refused one that its number is.
use mathlib.Core.List.{List}
use mathlib.Core.Path.{◌≡◌, refl, sym, ap, ◌∙◌}
use Prim.Native.Nat.{ℕ}
use native.Mathlib.Omega.{arith}
use lib.Dec.{eqb}
use lib.ListN.{length, replicate}
use borrow.Author.Tests.{eqb-true}
use Rattle.std.specs.Prelude.{Ok, Err}
use Rattle.cube.specs.Refused.{refusal}
use Rattle.cube.specs.declared.refusals.Refusal.{Refusal}
use Rattle.cube.proofs.Bools.{by_cases}
use Rattle.cube.proofs.Refused.{number_range}
use Rattle.rule.specs.Cabinet.{Cabinet, exchanges_of}
use Rattle.labels.specs.Labelling.{label_refusal, labelled, labels_after}
use Rattle.labels.proofs.Refusal.{kept, of_refused}
use Rattle.walk.specs.Walk.{refused, refusal_of, walk_refusal, walked}
use Rattle.walk.specs.declared.Ending.TheVariants as ending
use Rattle.walk.specs.declared.Walked.{Walked}
use Rattle.hcube.specs.Answers.{has_row}
use Rattle.hcube.proofs.Small.{has-row}

-- ---- labelling

pub labels_kept : (K : Cabinet) (j : ℕ) (before : List ℕ) (r : Refusal) → labelled K j (length before) ≡ Err r → labels_after K j before ≡ before
labels_kept K j before r e = let q = of_refused K j (length before) r e in sym (kept K j before (λ z. q.1 (q.0 ∙ z)))

pub answered : (K : Cabinet) (j m : ℕ) → label_refusal K j m ≡ 0 → labelled K j m ≡ Ok (exchanges_of K)
unfolding labelled
answered K j m e = rw e

-- ---- the walk

module _ (n j s d m room : ℕ) (lab : ℕ → ℕ) where
  pub of_ended : refusal_of (walked n j s d m room lab).ending ≡ 0 → walk_refusal n j s d m room lab ≡ 0
  unfolding walked refused
  of_ended =
      by_cases (λ (w : Walked). refusal_of w.ending ≡ 0 → walk_refusal n j s d m room lab ≡ 0) (eqb (walk_refusal n j s d m room lab) 0)
      (λ z _. eqb-true (walk_refusal n j s d m room lab) 0 z)
      (λ z e. absurd (omega (arith, e, (number_range (refusal (walk_refusal n j s d m room lab))).0)))

  pub of_blank : (r : Refusal) → (walked n j s d m room lab).ending ≡ ending.Refused r
      → ((walked n j s d m room lab).hops ≡ 0) × ((walked n j s d m room lab).row ≡ replicate 17 0)
  unfolding walked refused
  of_blank r =
      by_cases (λ (w : Walked). w.ending ≡ ending.Refused r → (w.hops ≡ 0) × (w.row ≡ replicate 17 0)) (eqb (walk_refusal n j s d m room lab) 0)
      (λ z e. let h = has-row n j s d m room lab (eqb-true (walk_refusal n j s d m room lab) 0 z) in
      let q : ◌≡◌ {A = ℕ} 0 1 = cc (ap has_row e) in absurd (omega arith))
      (λ _ e. (refl, refl))
