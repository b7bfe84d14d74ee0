-- The dimension of a notice by itself: its refusals in words, and that the reader agrees with it, since both begin with the same number and the same test.
use Rattle.std.specs.Prelude.{Ok, Err}
use mathlib.Core.Path.{◌≡◌, refl, sym, ap, ◌∙◌}
use mathlib.Core.Logic.{◌≢◌}
use mathlib.Core.Bool.{not}
use mathlib.Core.List.{List, []}
use Prim.Native.Nat.{ℕ, ◌≤◌}
use native.Mathlib.Omega.{arith}
use lib.ListN.{length}
use Rattle.cube.specs.Tables.{is_dimension}
use Rattle.groups.specs.Number.{number_at, refusal_in}
use Rattle.groups.specs.Number.{Number}
use Rattle.notice.specs.Notice.{Told, dimension_at, dimension_value, a_notice}
use Rattle.notice.specs.Notice.{Noticed}
use Rattle.notice.proofs.Bad.{tested_bad}
use Rattle.notice.proofs.Laws.{notice_laws}
use Rattle.notice.proofs.Opened.{opened_dimension}
use Rattle.promises.specs.Library.{Library}
use Rattle.promises.specs.Refusals.{Dimension, DimensionGiven, DimensionWhen, TableLength, behind, dimension_1, here, later, none, wrong}
use Rattle.promises.proofs.Given.{table_length, wrong_dimension}
use Rattle.promises.proofs.Library.{Faithful}
use Rattle.promises.proofs.Notices.{due_one, ill_at}
use Rattle.cube.specs.declared.refusals.Refusal.{Refusal}
use Rattle.cube.specs.Refused.{number}

pub dimension_given : (s : List ℕ) → DimensionGiven s (refusal_in (dimension_at s)) (dimension_value (dimension_at s))
unfolding dimension_at
dimension_given s = go (dimension_at s) refl
  where
    good : {n : ℕ} → Dimension n → ¬ (DimensionWhen [] n 1)
    good d (dimension_1 not) = not d

    go : (x : Number) → dimension_at s ≡ x → DimensionGiven s (refusal_in x) (dimension_value x)
    go (Ok (n, next)) e = let o = opened_dimension s n next e in behind o.number (later (good o.good) none) (refl, refl)
    go (Err (k, at)) e =
        tested_bad (λ n. not (is_dimension n)) 1 0 (number_at s 0) (DimensionGiven s (number k) at) e ill_at
        (λ n next own bad a b. rw (← a, ← b) (wrong own (here (dimension_1 ((wrong_dimension n).0 bad))) (λ z. omega arith)))

pub dimension_one : (s : List ℕ) (j p k q : ℕ) → DimensionGiven s j p → DimensionGiven s k q → (j ≡ k) × (p ≡ q)
dimension_one s j p k q = due_one (λ n at j' p' k' q' a b. (a.0 ∙ sym b.0, a.1 ∙ sym b.1))

-- ---- and the reader

module _ (lib : Library) (F : Faithful lib) {bytes : List ℕ} where
  accepted : {n : ℕ} → lib.sizes bytes 0 n → (next : ℕ) × (dimension_at bytes ≡ Ok (n, next))
  accepted {n} m = go (dimension_at bytes) refl (F.sizes m)
    where
      go : (x : Number) → dimension_at bytes ≡ x → Told x 0 n → (next : ℕ) × (dimension_at bytes ≡ Ok (n, next))
      go (Ok (v, next)) e t = (next, e ∙ ap (λ (k : ℕ). Ok (k, next)) (sym t.value))
      go (Err (k, at)) e t =
          let r = notice_laws.refused bytes [] k at (notice_laws.dimension_refused bytes [] k at e) in
          absurd (omega (arith, t.refusal, r.number.0))

  refused : {k v : ℕ} → lib.sizes bytes k v → k ≢ 0 → (r : Refusal) × (k ≡ number r) × (dimension_at bytes ≡ Err (r, v))
  refused {k} {v} m other = go (dimension_at bytes) refl (F.sizes m)
    where
      go : (x : Number) → dimension_at bytes ≡ x → Told x k v → (r : Refusal) × (k ≡ number r) × (dimension_at bytes ≡ Err (r, v))
      go (Ok x) e t = absurd (other t.refusal)
      go (Err (r, at)) e t = (r, t.refusal, e ∙ ap (λ (p : ℕ). Err (r, p)) (sym t.value))

  pub dimension_sized : {n : ℕ} → lib.sizes bytes 0 n → Dimension n
  dimension_sized {n} m = let a = accepted m in (opened_dimension bytes n a.0 a.1).good

  module _ {before after : List ℕ} where
    pub dimension_read : {n n' m taken : ℕ} → lib.sizes bytes 0 n → lib.reads bytes before (a_notice n' m taken) after → n' ≡ n
    dimension_read {n} {n'} {m} {taken} d r =
        let a = accepted d in
        notice_laws.dimension_read bytes before n a.0 n' m taken a.1 (sym (F.reads r).0)

    pub sized_table : {n at : ℕ} {k : Refusal} → lib.sizes bytes 0 n → TableLength n (length before) → lib.reads bytes before (Err (k, at)) after → 9 ≤ number k
    sized_table {n} {at} {k} d l r =
        let a = accepted d in
        notice_laws.dimension_sizes bytes before n a.0 k at a.1 (table_length n (length before) l) (sym (F.reads r).0)

    pub dimension_refused : {k v : ℕ} {x : Noticed} → lib.sizes bytes k v → k ≢ 0 → lib.reads bytes before x after
        → (r : Refusal) × (k ≡ number r) × (x ≡ Err (r, v))
    dimension_refused {k} {v} d other r =
        let (why, e, at) = refused d other in
        (why, e, (F.reads r).0 ∙ notice_laws.dimension_refused bytes before why v at)
