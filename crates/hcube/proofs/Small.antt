-- Every part of an answer is small, so that the packed number does not wrap: a dimension is below 12, a hop count at most 16.
-- A walk that is not refused was lent a row of 34 bytes.
use mathlib.Core.Path.{◌≡◌, refl}
use mathlib.Core.Bool.{true, false}
use mathlib.Core.List.{List, []}
use Prim.Native.Nat.{ℕ, ◌≤◌, ◌<◌}
use native.Mathlib.Omega.{arith}
use lib.Dec.{eqb}
use borrow.Author.Tests.{eqb-true}
use Rattle.std.specs.Prelude.{Result, Ok, Err}
use Rattle.cube.specs.declared.refusals.Refusal.{Refusal}
use Rattle.cube.specs.Tables.{tab}
use Rattle.cube.proofs.Bools.{by_cases}
use Rattle.rule.specs.Cabinet.{Cabinet}
use Rattle.rule.proofs.Cabinet.{exchanges_few}
use Rattle.labels.specs.Labelling as L
use Rattle.labels.proofs.Refusal.{fitting, of_exchanges}
use Rattle.groups.specs.Number.{Number}
use Rattle.notice.specs.Notice.{dimension_at, dimension_value}
use Rattle.notice.proofs.Agree.{dimension_refused}
use Rattle.notice.proofs.Opened.{opened_dimension}
use Rattle.notice.proofs.Refusals.{refused_notice}
use Rattle.hop.specs.Hop as H
use Rattle.walk.specs.Walk as W
use Rattle.hop.specs.declared.Decision.{Decision}
use Rattle.hop.specs.declared.Decision.TheVariants.{Deliver, Hop, Halted}
use Rattle.walk.specs.declared.Walked.{Walked}
use Rattle.walk.proofs.Refusals.{hops_few, walk_good}
use Rattle.hop.proofs.Local.{hop_dim}
use Rattle.hop.proofs.Refusals.{hop_good, of_decided}
use Rattle.hcube.specs.Answers.{has_row, row_after, row_byte, value_in}
use Rattle.hcube.specs.Fits.{HopFits, RowFits, WalkFits}

-- ---- labelling

abbrev pub LabelFits : Result ℕ Refusal → Type 0
LabelFits a = value_in a < 65536

pub label_small : (K : Cabinet) (j m : ℕ) → LabelFits (L.labelled K j m)
label_small K j m = go (L.labelled K j m) refl
  where
    go : (a : Result ℕ Refusal) → L.labelled K j m ≡ a → LabelFits a
    go (Ok k) e = let p = of_exchanges K j m k e in omega (arith, exchanges_few K (fitting K j m p.0).halved.small, p.1)
    go (Err r) e = omega arith

-- ---- the dimension of a notice by itself

abbrev pub DimensionFits : Number → Type 0
DimensionFits x = dimension_value x < 65536

pub dimension_small : (s : List ℕ) (x : Number) → dimension_at s ≡ x → DimensionFits x
dimension_small s (Ok (n, next)) e = omega (arith, (opened_dimension s n next e).good.1)
dimension_small s (Err (r, at)) e = omega (arith, (refused_notice s [] r at (dimension_refused s [] r at e)).near)

-- ---- the hop

module _ (n j c d m : ℕ) (lab : ℕ → ℕ) where
  decision_small : (x : Decision) → n ≤ 12 → H.hop n lab c d ≡ x → H.decision_value x < 65536
  decision_small Deliver h e = omega arith
  decision_small (Hop i) h e = omega (arith, hop_dim n lab c d i e)
  decision_small Halted h e = omega arith

  pub hop_small : HopFits (H.hopped n j c d m lab)
  hop_small = go (H.hopped n j c d m lab) refl
    where
      go : (a : Result Decision Refusal) → H.hopped n j c d m lab ≡ a → HopFits a
      go (Ok x) e = let p = of_decided n j c d m lab x e in decision_small x (hop_good n j c d m lab p.0).halved.small p.1
      go (Err r) e = omega arith

-- ---- the walk

-- a decision that ends the walk is no refusal
ends_well : (x : Decision) → W.stops x ≡ true → has_row (W.ending_of x) ≡ true
unfolding W.stops
ends_well Deliver e = refl
ends_well (Hop i) e = let z : ◌≡◌ {A = ℕ} 0 1 = cc in absurd (omega arith)
ends_well Halted e = refl

module _ (n j s d m room : ℕ) (lab : ℕ → ℕ) where
  -- where nothing is refused, the last decision is no hop, so the walk has a row to write
  pub has-row : W.walk_refusal n j s d m room lab ≡ 0 → has_row (W.walk_from n (W.route n lab d) s).ending ≡ true
  unfolding W.walk_from
  has-row e = ends_well (W.last n (W.route n lab d) s) (walk_good n j s d m room lab e).stops

  pub walk_small : WalkFits (W.walked n j s d m room lab)
  walk_small = omega (arith, hops_few n j s d m room lab)

  pub row_fits : RowFits (W.walked n j s d m room lab) room
  unfolding W.walked W.refused
  row_fits =
      by_cases (λ w. RowFits w room) (eqb (W.walk_refusal n j s d m room lab) 0)
      (λ e _. (walk_good n j s d m room lab (eqb-true (W.walk_refusal n j s d m room lab) 0 e)).lent)
      (λ _ h. let z : ◌≡◌ {A = ℕ} 0 1 = cc in absurd (omega arith))

pub written : (w : Walked) (before : List ℕ) → has_row w.ending ≡ true → tab W.row_bytes (row_byte w.row) ≡ row_after w before
unfolding row_after
written w before e = rw e

pub kept : (w : Walked) (before : List ℕ) → has_row w.ending ≡ false → before ≡ row_after w before
unfolding row_after
kept w before e = rw e
