-- The refusals of a node's question are those of labelling with one more behind them, so what labelling refuses is refused with its number, and a question
-- that is accepted is one that labelling accepts, of a node of the cube. The answer and the label buffer afterwards go by the refusal number.
use mathlib.Core.Path.{◌≡◌, refl, sym, ap, ◌∙◌}
use mathlib.Core.Logic.{◌⊎◌, inl, inr}
use mathlib.Core.Bool.{true, false}
use mathlib.Core.List.{List, [], ◌∷◌}
use Prim.Native.Nat.{ℕ, ◌^◌, ◌≤◌, ◌<◌}
use lib.Dec.{eqb, leb}
use lib.ListN.{length}
use native.Mathlib.Omega.{arith}
use borrow.Author.Tests.{eq-eqb, eqb-false, eqb-true, le-leb, lt-leb, ne_eqb}
use Rattle.std.specs.Prelude.{Ok, Err}
use Rattle.cube.specs.declared.refusals.Refusal.{Refusal}
use Rattle.cube.specs.Refusal.{first, ◌⇒◌}
use Rattle.cube.specs.Refused.{answered}
use Rattle.cube.proofs.Bools.{either}
use Rattle.cube.proofs.Refusal.{first_le, first_none, first_passes, first_stops}
use Rattle.cube.proofs.Refused.{accepts, passed_on, refusing}
use Rattle.jobs.specs.Jobs.{with_half}
use Rattle.rule.specs.Cabinet.{Cabinet, labels_of}
use Rattle.labels.specs.Labelling.{label_refusal, label_tests, labels_after}
use Rattle.why.specs.NodeReasons.{labels_left, node_reason, node_refusal, node_tests, reason_of}
use Rattle.why.specs.declared.NodeReason.{NodeReason}

module _ (K : Cabinet) (j m x : ℕ) where
  pub refuses_first : (k : ℕ) → k ≡ label_refusal K j m → (k ≡ 0 → ⊥) → k ≡ node_refusal K j m x
  unfolding label_refusal node_refusal
  refuses_first k e h = e ∙ sym (first_stops (label_tests K j m) (leb (2 ^ K.n) x ⇒ 5 ∷ []) (λ z. h (e ∙ z)))

  pub refuses_as_labelling : (r : Refusal) → answered {A = Unit {0}} (label_refusal K j m) tt ≡ Err r → Err r ≡ answered {A = Unit {0}} (node_refusal K j m x) tt
  refuses_as_labelling r e =
      sym e ∙ ap (λ (k : ℕ). answered {A = Unit {0}} k tt) (refuses_first (label_refusal K j m) refl (refusing (label_refusal K j m) tt r e))

  passes : label_refusal K j m ≡ 0 → node_refusal K j m x ≡ first (leb (2 ^ K.n) x ⇒ 5 ∷ [])
  unfolding label_refusal node_refusal
  passes e = first_passes (label_tests K j m) (leb (2 ^ K.n) x ⇒ 5 ∷ []) (first_none 19 (label_tests K j m) refl e)

  pub refuses_node : label_refusal K j m ≡ 0 → 2 ^ K.n ≤ x → 5 ≡ node_refusal K j m x
  unfolding first
  refuses_node e h = sym (passes e ∙ rw (le-leb (2 ^ K.n) x h))

  pub refuses_none : label_refusal K j m ≡ 0 → x < 2 ^ K.n → 0 ≡ node_refusal K j m x
  unfolding first
  refuses_none e h = sym (passes e ∙ rw (lt-leb (2 ^ K.n) x h))

  -- and what an accepted question has
  pub accepted : node_refusal K j m x ≡ 0 → (label_refusal K j m ≡ 0) × (x < 2 ^ K.n)
  accepted e = go (either (eqb (label_refusal K j m) 0))
    where
      go : (eqb (label_refusal K j m) 0 ≡ true) ⊎ (eqb (label_refusal K j m) 0 ≡ false) → (label_refusal K j m ≡ 0) × (x < 2 ^ K.n)
      go (inl t) = let z = eqb-true (label_refusal K j m) 0 t in (z, inside z)
        where
          inside : label_refusal K j m ≡ 0 → x < 2 ^ K.n
          inside z =
              let out : ¬ (2 ^ K.n ≤ x) = λ h. let five = refuses_node z h in omega (arith, five, e) in
              omega (arith, out)
      go (inr t) = absurd (eqb-false (label_refusal K j m) 0 t (refuses_first (label_refusal K j m) refl (eqb-false (label_refusal K j m) 0 t) ∙ e))

  pub refusal_le : node_refusal K j m x ≤ 19
  unfolding node_refusal
  refusal_le = first_le 19 (node_tests K j m x) refl

-- ---- the answer and the buffer, from what the code has

module _ (K : Cabinet) (j x : ℕ) (before : List ℕ) where
  pub kept : (node_refusal K j (length before) x ≡ 0 → ⊥) → before ≡ labels_left K j x before
  unfolding labels_left
  kept d = rw (ne_eqb (node_refusal K j (length before) x) 0 d)

  pub says_refused : (r : Refusal) → answered {A = Unit {0}} (node_refusal K j (length before) x) tt ≡ Err r
      → (Err r ≡ node_reason K j (length before) x) × (before ≡ labels_left K j x before)
  unfolding node_reason
  says_refused r e = (
    sym (passed_on (node_refusal K j (length before) x) tt (reason_of K x) r e),
    kept (refusing (node_refusal K j (length before) x) tt r e),
  )

  pub says_reason : (table after : List ℕ) (r : NodeReason) → node_refusal K j (length before) x ≡ 0 → r ≡ reason_of K x
      → table ≡ labels_of K → after ≡ with_half j (2 ^ K.n) table before
      → (Ok r ≡ node_reason K j (length before) x) × (after ≡ labels_left K j x before)
  unfolding node_reason labels_left labels_after
  says_reason table after r q er et ea =
      let z = eq-eqb (node_refusal K j (length before) x) 0 q in
      let y = eq-eqb (label_refusal K j (length before)) 0 (accepted K j (length before) x q).0 in (
        ap Ok er ∙ sym (accepts (node_refusal K j (length before) x) (reason_of K x) q),
        rw (z, y) (ea ∙ ap (λ (t : List ℕ). with_half j (2 ^ K.n) t before) et),
      )
