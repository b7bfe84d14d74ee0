-- Each hop on good labels with a safe node makes progress, from any node that works and any phase in which there is room: the rank falls, and there is
-- room in the phase after it.
use mathlib.Core.Path.{◌≡◌}
use Prim.Native.Nat.{ℕ, ◌^◌, ◌≤◌, ◌<◌}
use native.Mathlib.Omega.{arith}
use Rattle.cube.specs.Cube.{flip, dist}
use Rattle.cube.proofs.Cube.{dist_zero, dist_fall}
use Rattle.rule.specs.Good.{Good}
use Rattle.scans.specs.Progress.{Receives, rank}
use Rattle.scans.proofs.Progress.{rank_ge, rank_near}
use Rattle.hop.specs.declared.Decision.TheVariants.{Deliver, Hop}
use Rattle.blocks.specs.Phase.{after}
use Rattle.blocks.specs.Blocks.{hop_in}
use Rattle.blocks.specs.Turns.{Room}
use Rattle.blocks.proofs.Calls.{Picked, arrived, homing, ahead, aside, stopped, picks}
use Rattle.blocks.proofs.Aside.{never_halted, better, aside_rank, aside_room}
use Rattle.blocks.proofs.Ahead.{next_door, ahead_rank, ahead_room}

-- the next thing that a walk does at c in phase p
pub data Next (n : ℕ) (lab : ℕ → ℕ) (d p c : ℕ) : Type 0 where
  arrive : c ≡ d → hop_in n lab d p c ≡ Deliver → Next n lab d p c
  move :
      (i : ℕ) → 0 < dist c d → i < n → hop_in n lab d p c ≡ Hop i → (0 < dist (flip i c) d → lab (flip i c) ≤ 2) → rank lab d (flip i c) < rank lab d c
      → Room n lab d (after p c i) (flip i c) → Next n lab d p c

module _ (n : ℕ) (lab : ℕ → ℕ) (G : Good n lab) (d : ℕ) (hd : d < 2 ^ n) (wd : Receives (lab d)) (x : ℕ) (hx : x < 2 ^ n) (ex : lab x ≡ 0) where
  pub next : (p c : ℕ) → c < 2 ^ n → (0 < dist c d → lab c ≤ 2) → Room n lab d p c → Next n lab d p c
  next p c hc wc room = go (picks n lab d p c)
    where
      go : Picked n lab d p c → Next n lab d p c
      go (arrived e h) = arrive (dist_zero n c d hc hd e) h
      go (homing i hi e on h) =
          let f = dist_fall n i c d hc hd hi on in
          move i (omega arith) hi h (λ l. absurd (omega arith)) (omega (arith, rank_near lab d (flip i c) (omega arith), rank_ge lab d c))
          (next_door n lab G d hd p c hc room i hi on (omega arith))
      go (ahead s i h r) =
          let l : 0 < dist c d = omega (arith, dist_fall n i c d hc hd r.dim_lt r.fit.on) in
          move i l r.dim_lt h (λ k. omega (arith, r.fit.low, r.row.works)) (ahead_rank n lab G d hd p c hc room s i r)
          (ahead_room n lab G d hd p c hc room s i r)
      go (aside s i l a h q r) =
          move i l r.dim_lt h (λ k. omega (arith, wc l, better n lab G d hd wd x hx ex p c hc (wc l) room s i l a q r))
          (aside_rank n lab G d hd wd x hx ex p c hc (wc l) room s i l a q r)
          (aside_room n lab G d hd wd x hx ex p c hc (wc l) room s i l a q r)
      go (stopped l a h q r) = absurd (never_halted n lab G d hd wd x hx ex p c hc (wc l) room l a q r)
