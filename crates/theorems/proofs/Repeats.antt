-- A walk that is not refused repeats the hop question. It stays in the cube, and no scan hits a faulty or draining neighbour but scan 0, which hits the
-- destination: so it stays off labels 3 and 4, as its source is, but for a destination that drains; all labels are in order, so the question is refused
-- nowhere on the way, and its decision is the walk's own.
use mathlib.Core.Path.{◌≡◌, refl, sym, ap, ◌∙◌}
use mathlib.Core.Logic.{◌⊎◌, inl, inr, ⊎_elim}
use mathlib.Core.Bool.{true, false, not, ◌&&◌, and-false}
use Prim.Native.Nat.{ℕ, zero, suc, ◌+◌, ◌^◌, ◌≤◌, ◌<◌}
use native.Mathlib.Omega.{arith}
use lib.Dec.{eqb, ltb}
use borrow.Author.Tests.{eq-eqb, le-ltb, lt-leb, ne_eqb}
use Rattle.cube.specs.Cube.{flip}
use Rattle.cube.specs.Refusal.{first}
use Rattle.cube.specs.Tables.{highest}
use Rattle.cube.proofs.Bools.{clash}
use Rattle.cube.proofs.Cube.{flip_lt}
use Rattle.cube.proofs.Search.{some_none}
use Rattle.jobs.specs.Jobs.{label_bytes}
use Rattle.jobs.proofs.Halves.{is-job}
use Rattle.scans.specs.Hit.{Hit, scan0, scan1, scan2, scan3, scan4, scan5}
use Rattle.scans.specs.Progress.{WorksOrEnds}
use Rattle.hop.specs.Hop.{hop, hop_refusal}
use Rattle.hop.specs.declared.Decision.{Decision}
use Rattle.hop.specs.declared.Decision.TheVariants.{Deliver, Hop, Halted}
use Rattle.hop.proofs.Local.{hop_dim}
use Rattle.hop.proofs.Refusals.{hop_decides}
use Rattle.walk.specs.Walk.{ending_of, hops, last, onto, route, spot, stops, turn, walk_from, walk_refusal, walked}
use Rattle.walk.specs.declared.Ending.TheVariants as ending
use Rattle.walk.specs.declared.Walked.{Walked}
use Rattle.walk.proofs.Local.{spot_lt}
use Rattle.walk.proofs.Once.{once}
use Rattle.walk.proofs.Refusals.{WalkGood, walk_good}
use Rattle.walk.proofs.Steps.{hops-on, hops_within, is_hop, spot_next, spot_zero}
use Rattle.theorems.specs.Picked.{Picked, arrived, took, stopped}
use Rattle.theorems.specs.Repeats.{Decides, Repeats, WalkRepeats}
use Rattle.theorems.specs.Words.{place}
use Rattle.theorems.proofs.Decision.{picked}
use Rattle.theorems.proofs.Places.{row_unused, row_used}
use Rattle.theorems.proofs.Advances.{not_there}

-- ---- no hop enters a node that is labelled faulty or draining but the destination, whatever the table

hit_works : {lab : ℕ → ℕ} {c d s i : ℕ} → Hit lab c d s i → WorksOrEnds lab d (flip i c)
hit_works (scan0 e _) = inr e
hit_works (scan1 _ e) = inl (omega (arith, e))
hit_works (scan2 _ l) = inl (omega (arith, l))
hit_works (scan3 _ l _) = inl l
hit_works (scan4 _ e) = inl (omega (arith, e))
hit_works (scan5 _ l) = inl (omega (arith, l))

onto_works : (n : ℕ) (lab : ℕ → ℕ) (c d : ℕ) (x : Decision) → WorksOrEnds lab d c → Picked n lab c d x → WorksOrEnds lab d (onto x c)
unfolding onto
onto_works n lab c d x h (arrived _) = h
onto_works n lab c d x h (took _ _ p) = hit_works p.hits
onto_works n lab c d x h (stopped _ _) = h

spot_works : (n : ℕ) (lab : ℕ → ℕ) (d s : ℕ) → WorksOrEnds lab d s → (k : ℕ) → WorksOrEnds lab d (spot (route n lab d) s k)
unfolding spot
spot_works n lab d s h zero = h
spot_works n lab d s h (suc k) =
    onto_works n lab (spot (route n lab d) s k) d (hop n lab (spot (route n lab d) s k) d) (spot_works n lab d s h k)
    (picked n lab (spot (route n lab d) s k) d)

-- ---- a walk that is not refused

module _ (n j s d m room : ℕ) (lab : ℕ → ℕ) (ok : walk_refusal n j s d m room lab ≡ 0) where
  abbrev G : WalkGood n j s d m room lab
  G = walk_good n j s d m room lab ok

  abbrev at : ℕ → ℕ
  at = spot (route n lab d) s

  inside : (k : ℕ) → at k < 2 ^ n
  inside = spot_lt n lab d s G.placed.first

  works : (k : ℕ) → WorksOrEnds lab d (at k)
  works = spot_works n lab d s (inl G.source)

  -- so 6 is given nowhere on the way
  not_six : (k : ℕ) → (eqb (lab (at k)) 3 ≡ false) × ((eqb (lab (at k)) 4 && not (eqb (at k) d)) ≡ false)
  not_six k =
      ⊎_elim (λ (l : lab (at k) ≤ 2). (ne_eqb (lab (at k)) 3 (λ e. omega arith), rw (ne_eqb (lab (at k)) 4 (λ e. omega arith))))
      (λ (e : at k ≡ d). (ne_eqb (lab (at k)) 3 (λ q. G.target (ap lab (sym e) ∙ q)), rw (eq-eqb (at k) d e) (and-false (eqb (lab (at k)) 4))))
      (works k)

  unrefused : (k : ℕ) → hop_refusal n j (at k) d m lab ≡ 0
  unfolding hop_refusal first
  unrefused k =
      rw (
        G.dimension,
        is-job j G.placed.halved.job,
        eq-eqb m (label_bytes n) G.placed.halved.sized,
        lt-leb (2 ^ n) (at k) (inside k),
        lt-leb (2 ^ n) d G.placed.second,
        le-ltb highest (lab (at k)) (G.low (at k) (inside k)),
        some_none n (λ i. ltb highest (lab (flip i (at k))))
            (λ i h. le-ltb highest (lab (flip i (at k))) (G.low (flip i (at k)) (flip_lt n i (at k) h (inside k)))),
        (not_six k).0,
        (not_six k).1,
      )

  -- the question after k hops
  decides : (k : ℕ) (x : Decision) → turn (route n lab d) s k ≡ x → Decides n j d m lab (at k) x
  unfolding turn
  decides k x e = sym (hop_decides n j (at k) d m lab x (unrefused k) (sym e))

  abbrev w : Walked
  w = walk_from n (route n lab d) s

  used : (k : ℕ) → k ≤ hops n (route n lab d) s → place w k ≡ at k
  unfolding walk_from
  used = row_used n (route n lab d) s G.placed.halved.small

  steps : (k : ℕ) → k < hops n (route n lab d) s
      → (i : ℕ) × (i < n) × Decides n j d m lab (place w k) (Hop i) × (place w (k + 1) ≡ flip i (place w k))
  unfolding turn
  steps k h =
      let r = is_hop (turn (route n lab d) s k) (hops-on n (route n lab d) s k h) in (
        r.0,
        hop_dim n lab (at k) d r.0 r.1,
        rw (used k (omega arith)) (decides k (Hop r.0) r.1),
        used (k + 1) (omega arith) ∙ spot_next (route n lab d) s k r.0 r.1 ∙ ap (flip r.0) (sym (used k (omega arith))),
      )

  ends : (Decides n j d m lab (place w (hops n (route n lab d) s)) Deliver × (ending_of (last n (route n lab d) s) ≡ ending.Delivered))
      ⊎ (Decides n j d m lab (place w (hops n (route n lab d) s)) Halted × (ending_of (last n (route n lab d) s) ≡ ending.Halted))
  unfolding last stops
  ends = go (last n (route n lab d) s) refl G.stops
    where
      here : (x : Decision) → last n (route n lab d) s ≡ x → Decides n j d m lab (place w (hops n (route n lab d) s)) x
      here x e = rw (used (hops n (route n lab d) s) (omega arith)) (decides (hops n (route n lab d) s) x e)

      go : (x : Decision) → last n (route n lab d) s ≡ x → stops x ≡ true
          → (Decides n j d m lab (place w (hops n (route n lab d) s)) Deliver × (ending_of (last n (route n lab d) s) ≡ ending.Delivered))
          ⊎ (Decides n j d m lab (place w (hops n (route n lab d) s)) Halted × (ending_of (last n (route n lab d) s) ≡ ending.Halted))
      go Deliver e f = inl (here Deliver e, ap ending_of e)
      go Halted e f = inr (here Halted e, ap ending_of e)
      go (Hop i) e f = absurd (clash f refl)

  repeats : Repeats n j s d m lab (walked n j s d m room lab)
  unfolding walked walk_from
  repeats = rw ok (record {
    starts = used 0 (omega arith) ∙ spot_zero (route n lab d) s;
    steps = steps;
    ends = ends;
    few = hops_within n (route n lab d) s;
    unused = row_unused n (route n lab d) s;
    enters = λ k h.
        rw (used k (omega arith)) (⊎_elim (λ (l : lab (at k) ≤ 2). l) (λ (e : at k ≡ d). absurd (not_there n lab d s k h e)) (works k));
    ends_in = rw (used (hops n (route n lab d) s) (omega arith)) (works (hops n (route n lab d) s));
    once = λ k i l h.
        let most : i ≤ hops n (route n lab d) s = omega (arith, h) in
        rw (used k (omega arith), used i most) ((once (route n lab d)).walk n s G.stops k i l most);
  })

pub walk_repeats : WalkRepeats
walk_repeats = repeats
