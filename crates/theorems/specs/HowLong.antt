-- How long labelling may take (RULES, How many exchanges there can be): ceilings for the exchanges of any labelling, by either rule, with draining nodes, and
-- for either job with the nodes that it closes. K is a cabinet as one job has it, lab x the label byte of its node x in that job's half, and exchanges the
-- number that labelling answers. A working node is one that is neither faulty nor draining nor closed by the job. Proved in proofs/HowLong.antt.
use Rattle.std.specs.Prelude.{Bool, true, ◌&&◌, ◌↔◌, ◌≡◌, ℕ, ◌+◌, ◌^◌, ◌≤◌, ◌<◌, leb}
use Rattle.cube.specs.Count.{count}
use Rattle.cube.specs.Cube.{flip}
use Rattle.rule.specs.Cabinet.{Cabinet, out}
use Rattle.rule.specs.Exchanges.{Exchanged, late}
use Rattle.rule.specs.Rule.{marked, working}

-- a label of an unsafe node, and one of a node that does not work
abbrev pub is_unsafe : ℕ → Bool
is_unsafe l = leb 1 l && leb l 2

abbrev pub is_out : ℕ → Bool
is_out l = leb 3 l

pub record HowLong (K : Cabinet) (lab : ℕ → ℕ) (exchanges : ℕ) : Type 0 where
  -- what is counted: each exchange before the last brought something new, and the last did not. Only beside this are the ceilings below ceilings of what the
  -- cards do: the definition looks for the quiet exchange among as many as the first of them says, so that one by itself would hold whatever they do
  pub counted : Exchanged K.n K.rule (out K) exchanges
  -- at most "the number of working nodes plus one, all-faulty cubes included"
  pub ceiling : exchanges ≤ working K.n (out K) + 1
  -- the first exchange marks the working nodes with two or more neighbours that do not work,
  pub first :
      (x : ℕ) → x < 2 ^ K.n
      → (marked K.n K.rule (out K) 1 x ≡ true) ↔ ((lab x ≤ 2) × (2 ≤ count K.n (λ i. is_out (lab (flip i x)))))
  -- and each later one but the last some other node: so there are at most as many as unsafe nodes with at most one neighbour that does not work, and two more
  pub fewer : exchanges ≤ late K.n (λ x. is_unsafe (lab x)) (λ x. is_out (lab x)) + 2
  -- and always fewer than nodes
  pub below_nodes : exchanges < 2 ^ K.n
