-- Every walk falls in exactly one of the four kinds: by demand 3 it is not refused, and a delivered one has an even number of extra hops, at most twice the
-- source's label. So the walks of the four kinds are together all walks of a table, working × working.
use mathlib.Core.Bool.{Bool, true, false, cond, not, ◌&&◌}
use mathlib.Core.Logic.{◌⊎◌, inl, inr}
use mathlib.Core.Path.{◌≡◌, refl, sym, ◌∙◌}
use Prim.Native.Nat.{ℕ, ◌+◌, ◌*◌, ◌^◌, ◌≤◌, ◌<◌}
use native.Mathlib.Omega.{arith}
use lib.Dec.{eqb}
use borrow.Author.Tests.{eq-eqb, eqb-true, ne_eqb}
use Rattle.cube.specs.Count.{count}
use Rattle.cube.specs.Cube.{dist}
use Rattle.cube.specs.declared.refusals.Refusal.{Refusal}
use Rattle.cube.proofs.Bools.{by_cases, clash, either, or_false}
use Rattle.cube.proofs.Count.{count_alone, count_none, count_pos}
use Rattle.rule.specs.Cabinet.{Cabinet, out}
use Rattle.walk.specs.declared.Ending.{Ending}
use Rattle.walk.specs.declared.Ending.TheVariants as ending
use Rattle.walk.specs.declared.Walked.{Walked}
use Rattle.theorems.specs.Words.{Accepted, SomeSafe, Takes, Works, label_at, walk_of}
use Rattle.theorems.proofs.Demand2.{works}
use Rattle.theorems.proofs.Demand3.{demand3}
use Rattle.figures.specs.Figures.{goes, is_kind, pairs, walks_of}
use Rattle.figures.specs.Laws.{OneKind}
use Rattle.figures.specs.Sum.{sum}
use Rattle.figures.proofs.Sum.{count_is_sum, sum_counted, sum_none, sum_same, sum_swap}

-- ---- the kind of one walk

module _ (w : Walked) (l : ℕ) where
  pub is-delivered : (k : ℕ) → k < 3 → w.ending ≡ ending.Delivered → w.hops ≡ l + 2 * k → is_kind k w l ≡ true
  unfolding is_kind
  is-delivered k h e f = rw (ne_eqb k 3 (λ z. omega arith), e, eq-eqb w.hops (l + 2 * k) f)

  pub is-halted : w.ending ≡ ending.Halted → is_kind 3 w l ≡ true
  unfolding is_kind
  is-halted e = rw e

  pub arrived_not : w.ending ≡ ending.Delivered → is_kind 3 w l ≡ false
  unfolding is_kind
  arrived_not e = rw e

  pub delivered_is : (k : ℕ) → w.ending ≡ ending.Delivered → is_kind k w l ≡ true → w.hops ≡ l + 2 * k
  unfolding is_kind
  delivered_is k e t = go (either (eqb k 3)) (rw e at t)
    where
      go : (eqb k 3 ≡ true) ⊎ (eqb k 3 ≡ false) → cond (eqb k 3) false (eqb w.hops (l + 2 * k)) ≡ true → w.hops ≡ l + 2 * k
      go (inl a) t = absurd (clash (rw a at t) refl)
      go (inr a) t = eqb-true w.hops (l + 2 * k) (rw a at t)

  pub halted_is : (k : ℕ) → w.ending ≡ ending.Halted → is_kind k w l ≡ true → k ≡ 3
  unfolding is_kind
  halted_is k e t = go (either (eqb k 3)) (rw e at t)
    where
      go : (eqb k 3 ≡ true) ⊎ (eqb k 3 ≡ false) → cond (eqb k 3) true false ≡ true → k ≡ 3
      go (inl a) _ = eqb-true k 3 a
      go (inr a) t = absurd (clash (rw a at t) refl)

  pub refused_none : (k : ℕ) (m : Refusal) → w.ending ≡ ending.Refused m → is_kind k w l ≡ false
  unfolding is_kind
  refused_none k m e = rw e (by_cases (λ b. b ≡ false) (eqb k 3) (λ _. refl) (λ _. refl))

  abbrev kind : ℕ → Bool
  kind k = is_kind k w l

  -- one that is of kind e, and of no other
  just : (e : ℕ) → e < 4 → kind e ≡ true → ((k : ℕ) → kind k ≡ true → k ≡ e) → count 4 kind ≡ 1
  just e h t only = omega (arith, count_pos 4 kind e h t, count_alone 4 kind e h (λ k _ d u. d (only k u)))

  one_kind : (x : Ending) → w.ending ≡ x → (w.ending ≡ ending.Delivered → (e : ℕ) × (e ≤ 2) × (w.hops ≡ l + 2 * e))
      → ((r : Refusal) → w.ending ≡ ending.Refused r → ⊥) → count 4 kind ≡ 1
  one_kind ending.Delivered e even never =
      let (a, few, f) = even e in
      just a (omega arith) (is-delivered a (omega arith) e f) (λ k t. omega (arith, delivered_is k e t))
  one_kind ending.Halted e even never = just 3 (omega arith) (is-halted e) (λ k t. halted_is k e t)
  one_kind (ending.Refused k) e even never = absurd (never k e)

-- a node that works takes frames
takes : (K : Cabinet) (d : ℕ) → Works K d → Takes K d
takes K d h = (h.0, (or_false _ _ h.1).0)

-- for either job
pub of_four : (K : Cabinet) (j : ℕ) → Accepted K j → (s d : ℕ) → Works K s → Works K d → OneKind (walk_of K j s d) (dist s d)
of_four K j ok s d hs hd =
    let W = demand3 K j ok s d hs (takes K d hd) in
    one_kind (walk_of K j s d) (dist s d) (walk_of K j s d).ending refl
    (λ e. let (a, few, f) = W.even e in (a, omega (arith, few, works K s hs.0 hs.1), f)) W.never_refused

module _ (K : Cabinet) (ok : Accepted K 0) where
  abbrev size : ℕ
  size = 2 ^ K.n

  -- ---- all walks of the table

  abbrev works_at : ℕ → Bool
  works_at x = not (out K x)

  -- to one source: each working destination is counted once
  from_source : (s : ℕ) → s < size → out K s ≡ false → sum 4 (λ k. count size (λ d. works_at d && goes K k s d)) ≡ count size works_at
  from_source s hs es =
      sum_same 4 _ _ (λ k _. count_is_sum size (λ d. works_at d && goes K k s d))
      ∙ sum_swap 4 size (λ k d. cond (works_at d && goes K k s d) 1 0)
      ∙ sum_same size _ _ (λ d h. sym (count_is_sum 4 (λ k. works_at d && goes K k s d)) ∙ one d h (either (out K d)))
      ∙ sym (count_is_sum size works_at)
    where
      one : (d : ℕ) → d < size → (out K d ≡ true) ⊎ (out K d ≡ false) → count 4 (λ k. works_at d && goes K k s d) ≡ cond (works_at d) 1 0
      one d h (inl e) = rw e (count_none 4 (λ _. false) (λ _ _. refl))
      one d h (inr e) = rw e (of_four K 0 ok s d (hs, es) (h, e))

  pub all_walks : sum 4 (λ k. walks_of K k) ≡ count size works_at * count size works_at
  unfolding pairs
  all_walks =
      sum_swap 4 size (λ k s. cond (out K s) 0 (count size (λ d. works_at d && goes K k s d)))
      ∙ sum_same size _ _ (λ s h. each s h (either (out K s))) ∙ sum_counted size (count size works_at) works_at
    where
      each : (s : ℕ) → s < size → (out K s ≡ true) ⊎ (out K s ≡ false)
          → sum 4 (λ k. cond (out K s) 0 (count size (λ d. works_at d && goes K k s d))) ≡ cond (works_at s) (count size works_at) 0
      each s h (inl e) = rw e (sum_none 4 (λ _. 0) (λ _ _. refl))
      each s h (inr e) = rw e (from_source s h e)

  -- and where some node is safe, none halts
  pub none_halts : SomeSafe K.n (label_at K) → walks_of K 3 ≡ 0
  unfolding pairs
  none_halts safe = sum_none size _ (λ s h. from s h (either (out K s)))
    where
      to : (s : ℕ) → Works K s → (d : ℕ) → d < size → (out K d ≡ true) ⊎ (out K d ≡ false) → (works_at d && goes K 3 s d) ≡ false
      to s hs d h (inl e) = rw e refl
      to s hs d h (inr e) = rw e (arrived_not (walk_of K 0 s d) (dist s d) ((demand3 K 0 ok s d hs (takes K d (h, e))).arrives safe).ending)

      from : (s : ℕ) → s < size → (out K s ≡ true) ⊎ (out K s ≡ false) → cond (out K s) 0 (count size (λ d. works_at d && goes K 3 s d)) ≡ 0
      from s h (inl e) = rw e refl
      from s h (inr e) = rw e (count_none size (λ d. works_at d && goes K 3 s d) (λ d l. to s (h, e) d l (either (out K d))))
