-- The refusals of labelling are those that the words give, test by test, and so are those of the question why a node has its label: its order is that of
-- labelling with one number more behind it.
use mathlib.Core.Path.{◌≡◌, refl, sym}
use mathlib.Core.Logic.{inl, inr, ⊎_elim, ◌≢◌}
use mathlib.Core.Bool.{Bool, true, false, not}
use mathlib.Core.List.{List, [], ◌∷◌, ◌++◌}
use Prim.Native.Nat.{ℕ, ◌^◌}
use native.Mathlib.Decide.{ℕ_discrete}
use native.Mathlib.Omega.{arith}
use lib.Dec.{eqb, leb}
use lib.ListN.{length}
use borrow.Author.Tests.{leb-false, leb-true}
use Rattle.cube.specs.Refusal.{first}
use Rattle.cube.specs.Refused.{refused}
use Rattle.cube.specs.Tables.{is_dimension, table_len, unused_set}
use Rattle.cube.proofs.Bools.{clash, either}
use Rattle.cube.proofs.Refused.{refused_is}
use Rattle.jobs.specs.Jobs.{is_job, label_bytes}
use Rattle.rule.specs.Cabinet.{Cabinet, exchanges_of, is_rule}
use Rattle.labels.specs.Labelling as L
use Rattle.labels.proofs.Refusal.{refusal_le}
use Rattle.why.specs.NodeReasons as Y
use Rattle.why.proofs.Refusal.{refuses_first, refuses_node, refuses_none}
use Rattle.why.proofs.Refusal as why
use Rattle.promises.specs.Refusals.{
  Given,
  LabelGiven,
  LabelWhen,
  NodeGiven,
  NodeWhen,
  here,
  label_1,
  label_18,
  label_19,
  label_2_closed,
  label_2_draining,
  label_2_faults,
  label_2_labels,
  label_3_closed,
  label_3_draining,
  label_3_faults,
  later,
  none,
}
use Rattle.promises.proofs.Given.{also_test, one_test, unused_says, wrong_dimension, wrong_halves, wrong_job, wrong_rule, wrong_table}

-- ---- labelling

module _ (K : Cabinet) (j m : ℕ) where
  pub label-refusal : L.label_refusal K j m ≡ refused (L.labelled K j m)
  unfolding L.labelled
  label-refusal = sym (refused_is _ (exchanges_of K) (refusal_le K j m))

  -- a table has another length than it should
  abbrev wrong : List ℕ → Bool
  wrong t = not (eqb (length t) (table_len K.n))

  pub label_given : LabelGiven K j m (L.label_refusal K j m)
  unfolding L.label_refusal first
  label_given =
      one_test _ (λ e. label_1 ((wrong_dimension K.n).0 e)) said_1
      (one_test _ (λ e. label_18 ((wrong_rule K.rule).0 e)) said_18
      (one_test _ (λ e. label_19 ((wrong_job j).0 e)) said_19
      (also_test _ (λ e. label_2_faults ((wrong_table K.n (length K.faults)).0 e)) (λ f.
      also_test _ (λ e. label_2_draining ((wrong_table K.n (length K.draining)).0 e)) (λ g.
      also_test _ (λ e. label_2_closed ((wrong_table K.n (length K.closed)).0 e)) (λ h.
      one_test _ (λ e. label_2_labels ((wrong_halves K.n m).0 e)) (said_2 f g h)
      (also_test _ (λ e. label_3_faults ((unused_says K.n K.faults).0 e)) (λ f.
      also_test _ (λ e. label_3_draining ((unused_says K.n K.draining).0 e)) (λ g.
      one_test _ (λ e. label_3_closed ((unused_says K.n K.closed).0 e)) (said_3 f g) none)))))))))
    where
      said_1 : LabelWhen K j m 1 → not (is_dimension K.n) ≡ true
      said_1 (label_1 w) = (wrong_dimension K.n).1 w

      said_18 : LabelWhen K j m 18 → not (is_rule K.rule) ≡ true
      said_18 (label_18 w) = (wrong_rule K.rule).1 w

      said_19 : LabelWhen K j m 19 → not (is_job j) ≡ true
      said_19 (label_19 w) = (wrong_job j).1 w

      said_2 : wrong K.faults ≡ false → wrong K.draining ≡ false → wrong K.closed ≡ false → LabelWhen K j m 2
          → not (eqb m (label_bytes K.n)) ≡ true
      said_2 f g h (label_2_faults w) = absurd (clash ((wrong_table K.n (length K.faults)).1 w) f)
      said_2 f g h (label_2_draining w) = absurd (clash ((wrong_table K.n (length K.draining)).1 w) g)
      said_2 f g h (label_2_closed w) = absurd (clash ((wrong_table K.n (length K.closed)).1 w) h)
      said_2 f g h (label_2_labels w) = (wrong_halves K.n m).1 w

      said_3 : unused_set K.n K.faults ≡ false → unused_set K.n K.draining ≡ false → LabelWhen K j m 3
          → unused_set K.n K.closed ≡ true
      said_3 f g (label_3_faults u) = absurd (clash ((unused_says K.n K.faults).1 u) f)
      said_3 f g (label_3_draining u) = absurd (clash ((unused_says K.n K.draining).1 u) g)
      said_3 f g (label_3_closed u) = (unused_says K.n K.closed).1 u

-- ---- why a node has its label: labelling's order, and one number behind it

-- numbers of which none is 5 or 0
abbrev Other : List ℕ → Type 0
Other [] = Unit {0}
Other (k ∷ ks) = (k ≢ 5) × (k ≢ 0) × Other ks

module _ (K : Cabinet) (j m x : ℕ) where
  not_here : {k : ℕ} → k ≢ 5 → ¬ (LabelWhen K j m k) → ¬ (NodeWhen K j m x k)
  not_here five unless = ⊎_elim unless (λ w. five w.0)

  -- labelling never gives 5
  not_five : {k : ℕ} → LabelWhen K j m k → k ≢ 5
  not_five (label_1 w) e = omega arith
  not_five (label_18 w) e = omega arith
  not_five (label_19 w) e = omega arith
  not_five (label_2_faults w) e = omega arith
  not_five (label_2_draining w) e = omega arith
  not_five (label_2_closed w) e = omega arith
  not_five (label_2_labels w) e = omega arith
  not_five (label_3_faults u) e = omega arith
  not_five (label_3_draining u) e = omega arith
  not_five (label_3_closed u) e = omega arith

  -- what labelling's order gives, the longer one gives
  given_first : {k : ℕ} {order : List ℕ} → Other order → k ≢ 0 → Given (LabelWhen K j m) order k → Given (NodeWhen K j m x) (order ++ (5 ∷ [])) k
  given_first o z (here w) = here (inl w)
  given_first o z (later unless p) = later (not_here o.0 unless) (given_first o.2 z p)
  given_first o z none = absurd (z refl)

  -- and where that gives none, 5 is next
  given_last : {k : ℕ} {order : List ℕ} → Given (LabelWhen K j m) order 0 → Other order → Given (NodeWhen K j m x) (5 ∷ []) k
      → Given (NodeWhen K j m x) (order ++ (5 ∷ [])) k
  given_last (here w) o g = absurd (o.1 refl)
  given_last (later unless p) o g = later (not_here o.0 unless) (given_last p o.2 g)
  given_last none o g = g

  others : Other (1 ∷ 18 ∷ 19 ∷ 2 ∷ 3 ∷ [])
  others = (
    λ e. omega arith,
    λ e. omega arith,
    (
      λ e. omega arith,
      λ e. omega arith,
      (
        λ e. omega arith,
        λ e. omega arith,
        (λ e. omega arith, λ e. omega arith, (λ e. omega arith, λ e. omega arith, tt)),
      ),
    ),
  )

  pub node-refusal : Y.node_refusal K j m x ≡ refused (Y.node_reason K j m x)
  unfolding Y.node_reason
  node-refusal = sym (refused_is _ (Y.reason_of K x) (why.refusal_le K j m x))

  pub node_given : NodeGiven K j m x (Y.node_refusal K j m x)
  node_given =
      elim (ℕ_discrete (L.label_refusal K j m) 0) [
        | yes z ↦ given_last (rw z at (label_given K j m)) others (last z)
        | no z ↦ rw (← refuses_first K j m x (L.label_refusal K j m) refl z) (given_first others z (label_given K j m))
      ]
    where
      last : L.label_refusal K j m ≡ 0 → Given (NodeWhen K j m x) (5 ∷ []) (Y.node_refusal K j m x)
      last z =
          ⊎_elim
          (λ (h : leb (2 ^ K.n) x ≡ true). rw (← refuses_node K j m x z (leb-true (2 ^ K.n) x h)) (here (inr (refl, leb-true (2 ^ K.n) x h))))
          (λ (h : leb (2 ^ K.n) x ≡ false). rw (← refuses_none K j m x z (leb-false (2 ^ K.n) x h))
          (later (⊎_elim (λ w. not_five w refl) (λ w. omega (arith, leb-false (2 ^ K.n) x h, w.1))) none))
          (either (leb (2 ^ K.n) x))
