-- What it is to put bytes: into a count, or into a buffer from a place on, one behind the other.
use Rattle.std.specs.Prelude.{List, ℕ, ◌+◌, ◌-◌, ◌^◌, ◌≤◌, length, ◌≡◌}
use Rattle.cube.specs.Over.{over_at}

-- the highest count
abbrev pub most : ℕ
most = 2 ^ 64 - 1

-- a count of so many, before and after w
pub record Counted (before : ℕ) (w : List ℕ) (after : ℕ) : Type 0 where
  pub fits : length w ≤ most - before
  pub counted : after ≡ before + length w

-- a buffer and the place up to which it is written, before and after w
pub record Written (before : List ℕ) (at : ℕ) (w after : List ℕ) (next : ℕ) : Type 0 where
  pub fits : length w ≤ length before - at
  pub place : next ≡ at + length w
  pub bytes : after ≡ over_at at w before
