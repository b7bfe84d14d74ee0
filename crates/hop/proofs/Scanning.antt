-- The scans as the code makes them, one after the other: a scan that finds nothing is passed, and the first that finds a dimension picks it.
use mathlib.Core.Path.{◌≡◌, refl, sym, ap, ◌∙◌}
use mathlib.Core.Logic.{⊎_elim, ◌≢◌}
use mathlib.Core.Bool.{Bool, beq, true, false, cond, ◌&&◌, ◌||◌}
use Prim.Native.Nat.{ℕ, suc, ◌-◌, ◌^◌, ◌≤◌, ◌<◌}
use native.Mathlib.Decide.{ℕ_discrete}
use native.Mathlib.Omega.{arith}
use lib.Bits.{bit_xor}
use lib.Dec.{eqb, leb, ltb}
use borrow.Author.Tests.{eqb-true, leb-true, ne_eqb, lt-ltb, le-ltb}
use Rattle.std.specs.Prelude.{Some, None}
use Rattle.cube.specs.Count.{least}
use Rattle.cube.specs.Cube.{apart, dist, flip}
use Rattle.cube.proofs.Count.{below_suc}
use Rattle.cube.proofs.Bools.{and_true, beq_true, clash, is_false}
use Rattle.cube.proofs.Search.{least_is, the_least, least_none}
use Rattle.cube.proofs.Cube.{apart_other, dist_self, dist_zero}
use Rattle.cube.proofs.Laws.{across_one, agree_apart, one_across}
use Rattle.scans.specs.Scans.{first_scan, forward, lowest, no_scan, scan_at, scan_of, spare, suits, takes}
use Rattle.hop.specs.Helpers.{across, chosen, found, in_set}
use Rattle.hop.specs.Hop.{answer, decide}
use Rattle.hop.specs.declared.Decision.TheVariants.{Deliver, Hop, Halted}
use Rattle.hop.proofs.Sets.{LowestOf, forward_set, none_found, some_found, spare_set}

module _ (n c d own : ℕ) (near : ℕ → ℕ) where
  -- ---- what a scan finds

  -- one that takes no dimension
  idle : (s : ℕ) → ((i : ℕ) → takes c d own near s i ≡ false) → lowest n c d own near s ≡ n
  unfolding lowest
  idle s f = least_none n (takes c d own near s) (λ i _. f i)

  -- scan s by its line: it is allowed, and the set is the dimensions of its side
  pub forward_scan : (s t : ℕ) → scan_at (dist c d) own s ≡ scan_of forward 0 t true → least n (in_set (bit_xor c d) near t) ≡ lowest n c d own near s
  unfolding lowest takes
  forward_scan s t e = forward_set n c d near t ∙ ap (λ z. least n (suits c d near z)) (sym e)

  pub spare_scan : (s t : ℕ) → scan_at (dist c d) own s ≡ scan_of spare 0 t true
      → least n (in_set (bit_xor (bit_xor c d) (2 ^ n - 1)) near t) ≡ lowest n c d own near s
  unfolding lowest takes
  spare_scan s t e = spare_set n c d near t ∙ ap (λ z. least n (suits c d near z)) (sym e)

  -- scan 0 does not ask for c's label
  pub last_scan : lowest n c d 0 near 0 ≡ lowest n c d own near 0
  unfolding lowest takes
  last_scan = refl

  -- it takes the lowest forward dimension, where the neighbour across it is d and draining, and no other
  last_suits : (i : ℕ) → flip i c ≡ d → near i ≡ 4 → takes c d own near 0 i ≡ true
  unfolding takes suits
  last_suits i e q = let r = across_one i c d e in rw (r.1, r.0, q)

  pub suits_last : (i : ℕ) → takes c d own near 0 i ≡ true → (flip i c ≡ d) × (near i ≡ 4)
  unfolding takes suits
  suits_last i t =
      let a = and_true (eqb (dist c d) 1) (beq (apart i c d) true && (leb 4 (near i) && leb (near i) 4)) t in
      let b = and_true (beq (apart i c d) true) (leb 4 (near i) && leb (near i) 4) a.1 in
      let l = and_true (leb 4 (near i)) (leb (near i) 4) b.1 in (
        one_across i c d (beq_true (apart i c d) true b.0) (eqb-true (dist c d) 1 a.0),
        omega (arith, leb-true 4 (near i) l.0, leb-true (near i) 4 l.1),
      )

  -- so what it finds leads to d, and where it finds nothing no draining d is next door
  pub last_hits : lowest n c d own near 0 < n → flip (lowest n c d own near 0) c ≡ d
  unfolding lowest
  last_hits l = (suits_last (least n (takes c d own near 0)) ((the_least n (takes c d own near 0)).hit l)).0

  pub last_misses : n ≤ lowest n c d own near 0 → (i : ℕ) → i < n → flip i c ≡ d → near i ≢ 4
  unfolding lowest
  last_misses l i h e q = clash (last_suits i e q) ((the_least n (takes c d own near 0)).before i (omega arith))

  module _ (i : ℕ) (f : LowestOf n (bit_xor c d) i) where
    pub last_taken : flip i c ≡ d → near i ≡ 4 → i ≡ lowest n c d own near 0
    unfolding lowest apart
    last_taken e q = sym (least_is n (takes c d own near 0) i (omega (arith, f.inside)) lower (λ _. last_suits i e q))
      where
        lower : (j : ℕ) → j < i → takes c d own near 0 j ≡ false
        lower j l = is_false (λ t. clash (across_one j c d (suits_last j t).0).0 (f.before j l))

    pub last_left : (flip i c ≡ d → near i ≡ 4 → ⊥) → n ≡ lowest n c d own near 0
    unfolding apart
    last_left no-hop = sym (idle 0 none)
      where
        same : (j : ℕ) → flip j c ≡ d → j ≡ i
        same j e =
            elim (ℕ_discrete i j) [
              | yes q ↦ sym q
              | no k ↦ absurd (clash f.has (sym (apart_other i j c d k) ∙ ap (λ x. apart i x d) e ∙ agree_apart i d d refl))
            ]

        none : (j : ℕ) → takes c d own near 0 j ≡ false
        none j = is_false (λ t.
            let r = suits_last j t in
            let q = sym (same j r.0) in
            no-hop (ap (λ k. flip k c) q ∙ r.0) (ap near q ∙ r.1))

  -- the third, by its test
  pub third_open : (eqb own 2 || leb (dist c d) 2) ≡ true → least n (in_set (bit_xor c d) near 2) ≡ lowest n c d own near 3
  third_open e = forward_scan 3 2 (ap (scan_of forward 0 2) e)

  pub third_shut : (eqb own 2 || leb (dist c d) 2) ≡ false → n ≡ lowest n c d own near 3
  unfolding takes suits
  third_shut e = sym (idle 3 (λ i. rw e))

  -- ---- what is picked

  -- the scans before s find nothing
  abbrev pub Past : ℕ → Type 0
  Past s = (t : ℕ) → t < s → n ≤ lowest n c d own near t

  pub past_none : Past 0
  past_none t h = absurd (omega arith)

  -- scan s finds nothing, and the next one is due
  pub pass : (s : ℕ) → Past s → None ≡ found n (lowest n c d own near s) → Past (suc s)
  pass s p e t h =
      let l = none_found n (lowest n c d own near s) e in
      ⊎_elim (λ (k : t ≡ s). omega (arith, ap (lowest n c d own near) k)) (λ (k : t < s). p t k) (below_suc h)

  first_at : (s : ℕ) → s ≤ no_scan → Past s → (s < no_scan → lowest n c d own near s < n) → first_scan n c d own near ≡ s
  unfolding first_scan
  first_at s h p g =
      least_is no_scan (λ t. ltb (lowest n c d own near t) n) s h (λ t l. le-ltb (lowest n c d own near t) n (p t l))
      (λ l. lt-ltb (lowest n c d own near s) n (g l))

  -- or a dimension, and that is picked
  pub take : (s i : ℕ) → s < no_scan → Past s → Some i ≡ found n (lowest n c d own near s) → Some (s, i) ≡ chosen n c d own near
  unfolding chosen
  take s i h p e =
      let l = some_found n i (lowest n c d own near s) e in
      rw (first_at s (omega arith) p (λ _. l.1), lt-ltb s no_scan h) (ap (λ (j : ℕ). Some (s, j)) l.0)

  -- all of them find nothing
  pub take_none : Past no_scan → None ≡ chosen n c d own near
  unfolding chosen
  take_none p = rw (first_at no_scan (omega arith) p (λ l. absurd (omega arith)))

  -- ---- the decision

  pub deliver : c ≡ d → Deliver ≡ decide n c d own near
  unfolding decide answer
  deliver e = rw (e, dist_self)

  pub lowest_within : (s : ℕ) → lowest n c d own near s ≤ n
  unfolding lowest
  lowest_within s = (the_least n (takes c d own near s)).within

  pub decided : c < 2 ^ n → d < 2 ^ n → c ≢ d → across (chosen n c d own near) ≡ decide n c d own near
  unfolding decide answer chosen
  decided hc hd far = rw (ne_eqb (dist c d) 0 (λ e. far (dist_zero n c d hc hd e))) (of (ltb (first_scan n c d own near) no_scan))
    where
      s : ℕ
      s = first_scan n c d own near

      of : (b : Bool) → across (cond b (Some (s, lowest n c d own near s)) None) ≡ cond b (Hop (lowest n c d own near s)) Halted
      of true = refl
      of false = refl
