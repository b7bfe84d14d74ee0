-- What labelling needs of a cabinet and a label buffer that are accepted: 0 is given only where every test passes. The answer and the label buffer afterwards
-- go by the refusal number, and of the buffer the job's half alone is written.
use mathlib.Core.Path.{◌≡◌, refl, sym, ap, ◌∙◌}
use mathlib.Core.Logic.{◌≢◌}
use mathlib.Core.Bool.{true, false}
use mathlib.Core.List.{List}
use Prim.Native.Nat.{ℕ, ◌*◌, ◌^◌, ◌≤◌, ◌<◌}
use native.Mathlib.Omega.{arith}
use lib.Dec.{eqb}
use lib.ListN.{length}
use borrow.Author.Tests.{eqb-true, eq-eqb, le-leb, ne_eqb, not-false}
use Rattle.std.specs.Prelude.{Ok, Err}
use Rattle.cube.specs.declared.refusals.Refusal.{Refusal}
use Rattle.cube.specs.Refusal.{first}
use Rattle.cube.specs.Refused.{answered, number}
use Rattle.cube.specs.Tables.{is_dimension, table_len, unused_set}
use Rattle.cube.proofs.Bools.{by_cases}
use Rattle.cube.proofs.Refusal.{first_le, first_none}
use Rattle.cube.proofs.Refused.{accepted, accepts, number_range, passed_on, refuses, refusing}
use Rattle.cube.proofs.Tables.{dimension_is}
use Rattle.jobs.specs.Jobs.{Halved, half, label_bytes, with_half}
use Rattle.jobs.proofs.Halves.{is-job, job_is}
use Rattle.jobs.proofs.Laws.{with_long, with_others, with_there}
use Rattle.rule.specs.Cabinet.{Cabinet, exchanges_of, labels_of}
use Rattle.rule.proofs.Cabinet.{is-rule, labels_length, rule_is}
use Rattle.labels.specs.Labelling.{label_refusal, label_tests, labelled, labels_after}

pub record Fitting (K : Cabinet) (j m : ℕ) : Type 0 where
  pub dimension : is_dimension K.n ≡ true
  pub rule : (2 ≤ K.rule) × (K.rule ≤ 3)
  pub faults : length K.faults ≡ table_len K.n
  pub draining : length K.draining ≡ table_len K.n
  pub closed : length K.closed ≡ table_len K.n
  pub halved : Halved K.n j m

module _ (K : Cabinet) (j m : ℕ) where
  pub fitting : label_refusal K j m ≡ 0 → Fitting K j m
  unfolding label_refusal
  fitting e =
      let t = first_none 19 (label_tests K j m) refl e in
      let dimension = not-false _ t.0 in
      record {
        dimension = dimension;
        rule = rule_is K.rule (not-false _ t.1.0);
        faults = eqb-true _ _ (not-false _ t.1.1.1.0);
        draining = eqb-true _ _ (not-false _ t.1.1.1.1.0);
        closed = eqb-true _ _ (not-false _ t.1.1.1.1.1.0);
        halved = record {
          small = (dimension_is K.n dimension).1;
          job = job_is j (not-false _ t.1.1.0);
          sized = eqb-true _ _ (not-false _ t.1.1.1.1.1.1.0);
        };
      }

  -- and where every test passes, nothing is refused
  pub fits : (1 ≤ K.n) × (K.n ≤ 12) → (2 ≤ K.rule) × (K.rule ≤ 3) → j < 2
      → length K.faults ≡ table_len K.n → length K.draining ≡ table_len K.n → length K.closed ≡ table_len K.n
      → unused_set K.n K.faults ≡ false → unused_set K.n K.draining ≡ false → unused_set K.n K.closed ≡ false
      → m ≡ label_bytes K.n → label_refusal K j m ≡ 0
  unfolding label_refusal first is_dimension
  fits d r h f g c u v w l =
      rw (
        le-leb 1 K.n d.0,
        le-leb K.n 12 d.1,
        is-rule K.rule r,
        is-job j h,
        eq-eqb (length K.faults) (table_len K.n) f,
        eq-eqb (length K.draining) (table_len K.n) g,
        eq-eqb (length K.closed) (table_len K.n) c,
        eq-eqb m (label_bytes K.n) l,
        u,
        v,
        w,
      )

  -- no number is above 19
  pub refusal_le : label_refusal K j m ≤ 19
  unfolding label_refusal
  refusal_le = first_le 19 (label_tests K j m) refl

-- ---- the answer and the buffer, from what the code has, and what an answer says

module _ (K : Cabinet) (j : ℕ) (before : List ℕ) where
  -- refused, nothing is written
  pub kept : (label_refusal K j (length before) ≡ 0 → ⊥) → before ≡ labels_after K j before
  unfolding labels_after
  kept d = rw (ne_eqb (label_refusal K j (length before)) 0 d)

  pub says_refused : (r : Refusal) → answered {A = Unit {0}} (label_refusal K j (length before)) tt ≡ Err r
      → (Err r ≡ labelled K j (length before)) × (before ≡ labels_after K j before)
  unfolding labelled
  says_refused r e = (
    sym (passed_on (label_refusal K j (length before)) tt (exchanges_of K) r e),
    kept (refusing (label_refusal K j (length before)) tt r e),
  )

  -- the half is what was written, and the rest what stood there
  pub says_exchanges : (table after : List ℕ) (r : ℕ) → label_refusal K j (length before) ≡ 0 → r ≡ exchanges_of K → table ≡ labels_of K
      → after ≡ with_half j (2 ^ K.n) table before → (Ok r ≡ labelled K j (length before)) × (after ≡ labels_after K j before)
  unfolding labelled labels_after
  says_exchanges table after r e er et ea = (
    ap Ok er ∙ sym (accepts (label_refusal K j (length before)) (exchanges_of K) e),
    rw (eq-eqb (label_refusal K j (length before)) 0 e) (ea ∙ ap (λ (t : List ℕ). with_half j (2 ^ K.n) t before) et),
  )

module _ (K : Cabinet) (j m : ℕ) where
  pub of_refused : (r : Refusal) → labelled K j m ≡ Err r → (number r ≡ label_refusal K j m) × (number r ≡ 0 → ⊥)
  unfolding labelled
  of_refused r e =
      (sym (refuses (label_refusal K j m) (exchanges_of K) r (refusal_le K j m) e), λ z. omega (arith, (number_range r).0, z))

  pub of_exchanges : (r : ℕ) → labelled K j m ≡ Ok r → (label_refusal K j m ≡ 0) × (exchanges_of K ≡ r)
  unfolding labelled
  of_exchanges r e = accepted (label_refusal K j m) (exchanges_of K) r e

-- ---- what labelling leaves, by halves

module _ (K : Cabinet) (j : ℕ) (before : List ℕ) where
  pub buffer_sized : label_refusal K j (length before) ≡ 0 → length before ≡ 2 * 2 ^ K.n
  unfolding label_bytes
  buffer_sized e = (fitting K j (length before) e).halved.sized

  -- accepted, its own half holds the labels
  pub labels_written : label_refusal K j (length before) ≡ 0 → half j (2 ^ K.n) (labels_after K j before) ≡ labels_of K
  unfolding labels_after
  labels_written e =
      rw e (with_there (2 ^ K.n) before (buffer_sized e) (labels_of K) (labels_length K) j (fitting K j (length before) e).halved.job)

  -- the other's half, and the length, are as they were, accepted or not
  pub others_kept : (i : ℕ) → i < 2 → i ≢ j → half i (2 ^ K.n) (labels_after K j before) ≡ half i (2 ^ K.n) before
  unfolding labels_after
  others_kept i h d =
      by_cases (λ (l : List ℕ). half i (2 ^ K.n) l ≡ half i (2 ^ K.n) before) (eqb (label_refusal K j (length before)) 0)
      (λ z. let e = eqb-true _ _ z in
      with_others (2 ^ K.n) before (buffer_sized e) (labels_of K) (labels_length K) i j h (fitting K j (length before) e).halved.job d) (λ _. refl)

  pub length_kept : length (labels_after K j before) ≡ length before
  unfolding labels_after
  length_kept =
      by_cases (λ (l : List ℕ). length l ≡ length before) (eqb (label_refusal K j (length before)) 0)
      (λ z. let e = eqb-true _ _ z in
      with_long (2 ^ K.n) before (buffer_sized e) (labels_of K) (labels_length K) j (fitting K j (length before) e).halved.job) (λ _. refl)
