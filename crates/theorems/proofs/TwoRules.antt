-- The two rules, of the bytes that labelling writes: what the crate rule proves of the safe nodes and the labels is read off them. Where rule 3 leaves no
-- node safe, rule 2 leaves none either, and both label every working node strongly unsafe: there the walks are the same.
use mathlib.Core.Logic.{◌⊎◌, inl, inr, ⊎_elim}
use mathlib.Core.Bool.{true, false}
use mathlib.Core.Path.{◌≡◌, sym, ap, ◌∙◌}
use Prim.Native.Nat.{ℕ, ◌+◌, ◌^◌, ◌≤◌, ◌<◌}
use native.Mathlib.Omega.{arith}
use lib.Dec.{eqb}
use borrow.Author.Tests.{eqb-false, eqb-true}
use Rattle.cube.specs.Cube.{dist, flip}
use Rattle.cube.proofs.Bools.{either, is_false}
use Rattle.cube.proofs.Cube.{flip_lt}
use Rattle.cube.proofs.Search.{find}
use Rattle.rule.specs.Cabinet.{Cabinet, by_rule, out, out_byte}
use Rattle.rule.proofs.Cabinet.{label-in, zero_is}
use Rattle.rule.proofs.Rules.{rules}
use Rattle.jobs.specs.Jobs.{label_bytes}
use Rattle.walk.specs.Walk.{row_bytes}
use Rattle.walk.specs.declared.Ending.TheVariants.{Delivered}
use Rattle.walk.specs.declared.Walked.{Walked}
use Rattle.walk.proofs.Local.{walk_local}
use Rattle.theorems.specs.Demand3.{Walks}
use Rattle.theorems.specs.TwoRules.{OnlyBetter, TwoRules, more}
use Rattle.theorems.specs.Words.{Accepted, SomeSafe, Takes, Works, label_at, walk_of}
use Rattle.theorems.proofs.Demand2.{demand2, out_label, works}
use Rattle.theorems.proofs.Demand3.{demand3}

-- a label is never negative, so where none is larger a safe node stays safe and no bound grows
better : (n : ℕ) (old new : ℕ → ℕ) → ((x : ℕ) → x < 2 ^ n → new x ≤ old x) → OnlyBetter n old new
unfolding more
better n old new falls = record { safe_stays = λ x h e. omega (arith, falls x h); label_falls = falls; bound_falls = bound }
  where
    bound : (s d : ℕ) → s < 2 ^ n → d < 2 ^ n → more new s d ≤ more old s d
    bound s d hs hd =
        ⊎_elim (λ (a : eqb (new d) 0 ≡ true). rw a (omega arith))
        (λ (a : eqb (new d) 0 ≡ false).
        let b : eqb (old d) 0 ≡ false = is_false (λ t. eqb-false (new d) 0 a (omega (arith, falls d hd, eqb-true (old d) 0 t))) in
        rw (a, b) (omega (arith, falls s hs)))
        (either (eqb (new d) 0))

-- demand 3 bounds a walk by the source's label, or by nothing where the destination is safe
within : (K : Cabinet) (lab : ℕ → ℕ) (s d : ℕ) (w : Walked) → Walks K lab s d w → SomeSafe K.n lab → w.hops ≤ dist s d + more lab s d
unfolding more
within K lab s d w W some =
    ⊎_elim (λ (a : eqb (lab d) 0 ≡ true). rw a (omega (arith, W.exact (inr (eqb-true (lab d) 0 a)))))
    (λ (a : eqb (lab d) 0 ≡ false). let e = W.even (W.arrives some).ending in rw a (omega (arith, e.1, e.2)))
    (either (eqb (lab d) 0))

module _ (K : Cabinet) where
  abbrev n : ℕ
  n = K.n

  abbrev old : Cabinet
  old = by_rule 2 K

  abbrev new : Cabinet
  new = by_rule 3 K

  falls : (x : ℕ) → x < 2 ^ n → label_at new x ≤ label_at old x
  falls x h = omega (arith, label-in old x h, label-in new x h, (rules n (out new)).label_falls 2 3 (omega arith) (out_byte new) x h)

  module _ (none : (x : ℕ) → x < 2 ^ n → eqb (label_at new x) 0 ≡ false) where
    same_labels : (x : ℕ) → x < 2 ^ n → label_at old x ≡ label_at new x
    same_labels x h = go (either (out new x))
      where
        not_one : ¬ (label_at new x ≡ 1)
        not_one e =
            let r = (demand2 new).ordinary x h e in
            eqb-false (label_at new (flip r.0 x)) 0 (none (flip r.0 x) (flip_lt n r.0 x r.1 h)) r.2

        go : (out new x ≡ true) ⊎ (out new x ≡ false) → label_at old x ≡ label_at new x
        go (inl a) = out_label old x h a ∙ sym (out_label new x h a)
        go (inr a) = omega (arith, eqb-false (label_at new x) 0 (none x h), not_one, works old x h a, falls x h)

    same_walk : (j s d : ℕ) → walk_of old j s d ≡ walk_of new j s d
    same_walk j s d = walk_local n j s d (label_bytes n) row_bytes (label_at old) (label_at new) same_labels

  still_delivered : (j : ℕ) → Accepted new j → (s d : ℕ) → Works K s → Takes K d
      → (walk_of old j s d).ending ≡ Delivered → (walk_of new j s d).ending ≡ Delivered
  still_delivered j ok s d hs hd e = go (find (2 ^ n) (λ x. eqb (label_at new x) 0))
    where
      go : ((x : ℕ) × (x < 2 ^ n) × (eqb (label_at new x) 0 ≡ true)) ⊎ ((x : ℕ) → x < 2 ^ n → eqb (label_at new x) 0 ≡ false)
          → (walk_of new j s d).ending ≡ Delivered
      go (inl r) = ((demand3 new j ok s d hs hd).arrives (r.0, r.1, eqb-true (label_at new r.0) 0 r.2)).ending
      go (inr none) = ap (λ (w : Walked). w.ending) (sym (same_walk none j s d)) ∙ e

pub two_rules : TwoRules
two_rules =
    record {
      better = λ K. better K.n (label_at (old K)) (label_at (new K)) (falls K);
      still_delivered = λ K j ok s d hs hd e. still_delivered K j ok s d hs hd e;
      none_strong = λ K some x w. omega (
        arith,
        label-in (old K) x w.0,
        (rules K.n (out K)).none_strong some.0 some.1 (zero_is (old K) some.0 some.1 some.2) (out_byte K) x w.0 w.1,
      );
      bound = within;
    }
