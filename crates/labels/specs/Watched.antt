-- Labelling, watched: in each round that marks something new a watcher looks at the label table, once the round's marks are in it and before the round ends.
use Rattle.std.specs.Prelude.{List, ℕ, zero, suc, ◌+◌, ◌^◌}
use Rattle.cube.specs.Tables.{tab}
use Rattle.rule.specs.Cabinet.{Cabinet, out}
use Rattle.rule.specs.Rule.{rounds}
use Rattle.passes.specs.Passes.{held, swept}

-- the table that it looks at after r rounds of the cabinet K, in round r + 1
unfoldable pub round_table : (K : Cabinet) (r : ℕ) → List ℕ
round_table K r = tab (2 ^ K.n) (swept K.n K.rule (tab (2 ^ K.n) (held K r)))

-- what it is after r rounds, if it was w before the first: `after` says what it is once it has looked at a table, in the round of a number
unfoldable pub looked : {W : Type 0} (after : W → List ℕ → ℕ → W) (K : Cabinet) (w : W) (r : ℕ) → W
looked after K w zero = w
looked after K w (suc r) = after (looked after K w r) (round_table K r) (r + 1)

-- and in the end
abbrev pub looked_all : {W : Type 0} (after : W → List ℕ → ℕ → W) (K : Cabinet) (w : W) → W
looked_all after K w = looked after K w (rounds K.n K.rule (out K))
