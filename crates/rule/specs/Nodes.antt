-- Which nodes of a cabinet are faulty for its job, drain, or do not work (RULES, Which nodes work): said of the bits of the three lent tables, apart from the
-- definitions by which the labels are computed. Proved in proofs/Nodes.antt.
use Rattle.std.specs.Prelude.{true, false, ◌⊎◌, ◌↔◌, ◌≡◌, ℕ}
use Rattle.cube.specs.Tables.{node_bit}
use Rattle.rule.specs.Cabinet.{Cabinet, drains, faulty, out, out_byte}

pub record Nodes (K : Cabinet) : Type 0 where
  -- "closed counts as faulty" (A10)
  pub is-faulty : (x : ℕ) → (faulty K x ≡ true) ↔ ((node_bit K.faults x ≡ true) ⊎ (node_bit K.closed x ≡ true))
  -- "a node in both is faulty" (A4), and closed goes "over draining too" (A10)
  pub is_draining :
      (x : ℕ) → (drains K x ≡ true) ↔ ((node_bit K.draining x ≡ true) × (node_bit K.faults x ≡ false) × (node_bit K.closed x ≡ false))
  -- draining "isn't a working node" (A4): one works that is in none of the tables
  pub is_working :
      (x : ℕ) → (out K x ≡ false) ↔ ((node_bit K.faults x ≡ false) × (node_bit K.closed x ≡ false) × (node_bit K.draining x ≡ false))
  -- the byte of one that does not: 3 where it is faulty or closed, 4 where it drains
  pub three : (x : ℕ) → faulty K x ≡ true → out_byte K x ≡ 3
  pub four : (x : ℕ) → drains K x ≡ true → out_byte K x ≡ 4
