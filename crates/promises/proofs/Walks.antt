-- What a walk has on any labels, refused or not, and what a frame has that is forwarded by the hop question alone: of any library that is faithful to the
-- definitions.
use Rattle.std.specs.Prelude.{Result, Ok}
use mathlib.Core.List.{List}
use mathlib.Core.Logic.{◌⊎◌, ⊎_elim, inl, inr, ◌≢◌}
use mathlib.Core.Bool.{true}
use mathlib.Core.Path.{◌≡◌, sym, ap, subst, ◌∙◌}
use Prim.Native.Nat.{ℕ, ◌+◌, ◌≤◌, ◌<◌}
use lib.ListN.{length, replicate}
use Rattle.cube.specs.Cube.{flip}
use Rattle.jobs.specs.Jobs.{label_for}
use Rattle.hop.specs.Hop as H
use Rattle.hop.specs.declared.Decision.{Decision}
use Rattle.hop.specs.declared.Decision.TheVariants.{Deliver, Hop, Halted}
use Rattle.walk.specs.Once.{Forwarded}
use Rattle.walk.specs.Walk as W
use Rattle.walk.specs.declared.Ending.TheVariants as ending
use Rattle.walk.specs.declared.Walked.{Walked}
use Rattle.walk.proofs.Once.{once}
use Rattle.theorems.specs.Repeats.{Repeats}
use Rattle.theorems.specs.Words.{place}
use Rattle.theorems.proofs.Repeats.{walk_repeats}
use Rattle.promises.specs.Library.{Library}
use Rattle.promises.proofs.Library.{Faithful}
use Rattle.hop.proofs.Refusals.{of_decided}
use Rattle.promises.proofs.Outcomes.{of_blank, of_ended}
use Rattle.cube.specs.declared.refusals.Refusal.{Refusal}

module _ (lib : Library) (F : Faithful lib) where
  pub blank : {n j s d room : ℕ} {buffer : List ℕ} {w : Walked} {r : Refusal} → lib.walks n j s d buffer room w → w.ending ≡ ending.Refused r
      → (w.hops ≡ 0) × (w.row ≡ replicate 17 0)
  blank {n} {j} {s} {d} {room} {buffer} {w} {r} v e =
      let f = F.walks v in
      let b = of_blank n j s d (length buffer) room (label_for n j buffer) r (ap (λ (u : Walked). u.ending) (sym f) ∙ e) in
      (ap (λ (u : Walked). u.hops) f ∙ b.0, ap (λ (u : Walked). u.row) f ∙ b.1)

  module _ {n j s d room : ℕ} {buffer : List ℕ} {w : Walked} (v : lib.walks n j s d buffer room w) (e : W.refusal_of w.ending ≡ 0) where
    abbrev lab : ℕ → ℕ
    lab = label_for n j buffer

    pub again : Repeats n j s d (length buffer) lab w
    again =
        let f = F.walks v in
        subst (Repeats n j s d (length buffer) lab) (sym f)
        (walk_repeats n j s d (length buffer) room lab
        (of_ended n j s d (length buffer) room lab (ap (λ (u : Walked). W.refusal_of u.ending) (sym f) ∙ e)))

    pub steps : {k : ℕ} {x : Result Decision Refusal} → k < w.hops → lib.hops n j (place w k) d buffer x
        → (i : ℕ) × (i < n) × (x ≡ Ok (Hop i)) × (place w (k + 1) ≡ flip i (place w k))
    steps {k} h m = let a = again.steps k h in (a.0, a.1, F.hops m ∙ a.2, a.3)

    pub ends : {x : Result Decision Refusal} → lib.hops n j (place w w.hops) d buffer x
        → ((x ≡ Ok Deliver) × (w.ending ≡ ending.Delivered)) ⊎ ((x ≡ Ok Halted) × (w.ending ≡ ending.Halted))
    ends m = ⊎_elim (λ a. inl (F.hops m ∙ a.0, a.1)) (λ a. inr (F.hops m ∙ a.0, a.1)) again.ends

  -- ---- a frame

  pub decided : {n j c d : ℕ} {buffer : List ℕ} {x : Decision} → lib.hops n j c d buffer (Ok x) → H.hop n (label_for n j buffer) c d ≡ x
  decided {n} {j} {c} {d} {buffer} {x} m = (of_decided n j c d (length buffer) (label_for n j buffer) x (sym (F.hops m))).1

  pub frame_once : {n j d t : ℕ} {buffer : List ℕ} {x : Decision} (at : ℕ → ℕ)
      → Forwarded (λ c a. lib.hops n j c d buffer (Ok a)) at t → lib.hops n j (at t) d buffer (Ok x) → W.stops x ≡ true
      → (k m : ℕ) → k < m → m ≤ t → at k ≢ at m
  frame_once {n} {j} {d} {t} {buffer} at forwarded stopped ends =
      (once (W.route n (label_for n j buffer) d)).frame at t (λ k h. let f = forwarded k h in (f.0, decided f.1, f.2)) (ap W.stops (decided stopped) ∙ ends)
