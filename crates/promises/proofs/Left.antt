-- What is left of a label buffer, by halves: labelling writes its own job's half and no other, and so does the question why a node has its label, which leaves what
-- labelling leaves.
use mathlib.Core.List.{List}
use mathlib.Core.Logic.{◌≢◌}
use mathlib.Core.Path.{◌≡◌, refl, sym, ap, ◌∙◌}
use Prim.Native.Nat.{ℕ, ◌^◌, ◌<◌}
use native.Mathlib.Decide.{ℕ_discrete}
use lib.ListN.{length}
use borrow.Author.Tests.{ne_eqb}
use Rattle.jobs.specs.Jobs.{half, with_half}
use Rattle.rule.specs.Cabinet.{Cabinet, labels_of}
use Rattle.labels.specs.Labelling.{label_refusal, labels_after}
use Rattle.labels.proofs.Refusal as labelling
use Rattle.labels.proofs.Refusal.{labels_written, length_kept, others_kept}
use Rattle.why.specs.NodeReasons.{labels_left, node_refusal}
use Rattle.promises.specs.Jobs.{SameTo}

-- ---- what labelling leaves

module _ (K : Cabinet) (j : ℕ) where
  pub written : (l : List ℕ) → label_refusal K j (length l) ≡ 0 → labels_after K j l ≡ with_half j (2 ^ K.n) (labels_of K) l
  unfolding labels_after
  written l z = rw z

  pub kept : (l : List ℕ) → label_refusal K j (length l) ≢ 0 → labels_after K j l ≡ l
  kept l z = sym (labelling.kept K j l z)

  -- its own half goes by that half and the length
  pub own_same : (l l' : List ℕ) → SameTo K.n j l l' → half j (2 ^ K.n) (labels_after K j l) ≡ half j (2 ^ K.n) (labels_after K j l')
  own_same l l' s =
      elim (ℕ_discrete (label_refusal K j (length l)) 0) [
        | yes z ↦ labels_written K j l z ∙ sym (labels_written K j l' (ap (label_refusal K j) (sym s.long) ∙ z))
        | no z ↦ ap (half j (2 ^ K.n)) (kept l z) ∙ s.own
            ∙ sym (ap (half j (2 ^ K.n)) (kept l' (λ e. z (ap (label_refusal K j) s.long ∙ e))))
      ]

  pub same_after : (l l' : List ℕ) → SameTo K.n j l l' → SameTo K.n j (labels_after K j l) (labels_after K j l')
  same_after l l' s = record { long = length_kept K j l ∙ s.long ∙ sym (length_kept K j l'); own = own_same l l' s }

  -- to another job the buffer is the same
  pub other_same : (i : ℕ) → i < 2 → i ≢ j → (l : List ℕ) → SameTo K.n i l (labels_after K j l)
  other_same i h d l = record { long = sym (length_kept K j l); own = sym (others_kept K j l i h d) }

-- ---- what the question why a node has its label leaves

module _ (K : Cabinet) (j x : ℕ) where
  pub left : (l : List ℕ) → node_refusal K j (length l) x ≡ 0 → labels_left K j x l ≡ labels_after K j l
  unfolding labels_left
  left l e = rw e

  pub left_kept : (l : List ℕ) → node_refusal K j (length l) x ≢ 0 → labels_left K j x l ≡ l
  unfolding labels_left
  left_kept l z = rw (ne_eqb (node_refusal K j (length l) x) 0 z)

  -- it is what labelling leaves, or nothing is written: what holds of both holds of it
  by_left : (P : List ℕ → Type 0) (l : List ℕ) → P (labels_after K j l) → P l → P (labels_left K j x l)
  by_left P l a b =
      elim (ℕ_discrete (node_refusal K j (length l) x) 0) [
        | yes z ↦ rw (left l z) a
        | no z ↦ rw (left_kept l z) b
      ]

  pub left_other : (i : ℕ) → i < 2 → i ≢ j → (l : List ℕ) → SameTo K.n i l (labels_left K j x l)
  left_other i h d l = by_left (SameTo K.n i l) l (other_same K j i h d l) (record { long = refl; own = refl })

  pub left_same : (l l' : List ℕ) → SameTo K.n j l l' → SameTo K.n j (labels_left K j x l) (labels_left K j x l')
  left_same l l' s =
      elim (ℕ_discrete (node_refusal K j (length l) x) 0) [
        | yes z ↦ rw (left l z, left l' (ap (λ (m : ℕ). node_refusal K j m x) (sym s.long) ∙ z)) (same_after K j l l' s)
        | no z ↦ rw (left_kept l z, left_kept l' (λ e. z (ap (λ (m : ℕ). node_refusal K j m x) s.long ∙ e))) s
      ]
