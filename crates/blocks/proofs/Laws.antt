-- The laws of Algorithm ROUTE_C, put together.
use Prim.Native.Nat.{ℕ, ◌^◌, ◌<◌}
use Rattle.blocks.specs.Laws.{EveryWalk, Theorem7, Unblocked}
use Rattle.blocks.proofs.Board.{five_enough, same_walk, walks}
use Rattle.blocks.proofs.Rising.{channel_once, hop_rises, hops-bound, ones_step, phase_rises, phase_step}

pub every_walk : (n : ℕ) (lab : ℕ → ℕ) (d s : ℕ) → s < 2 ^ n → EveryWalk n lab d s
every_walk n lab d s hs =
    record {
      keeps_or_adds = phase_step n lab d s hs;
      never_back = phase_rises n lab d s hs;
      ones_step = ones_step n lab d s hs;
      bounded = hops-bound n lab d s hs;
      once = channel_once n lab d s hs;
      ends = λ N h. (walks n lab d s hs N h).ends;
      same_walk = same_walk n lab d s hs;
    }

pub unblocked : (n : ℕ) → Unblocked n
unblocked = hop_rises

pub theorem_7 : Theorem7
theorem_7 n lab G x hx ex s d hs ws hd wd = five_enough n lab G x hx ex d hd wd s hs ws
