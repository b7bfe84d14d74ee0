-- The passes as they are seen from outside, each with the claims that the check makes of its clauses, and what its contract says: the answer, and what is
-- left of what was lent, for whatever is handed. Each goes over the half of one job, and is lent to the crate labels. `settle` alone asks nothing of
-- its caller.
use mathlib.Core.Bool.{cond, ◌||◌}
use mathlib.Core.List.{List}
use mathlib.Core.Path.{refl}
use Prim.Native.Nat.{ℕ, ◌^◌}
use lib.ListN.{length}
use Rattle.cube.specs.Allowed.{AsksNothing, Function, Nothing}
use Rattle.cube.specs.Count.{count}
use Rattle.cube.specs.Cube.{flip}
use Rattle.cube.specs.Tables.{label_in, node_bit, tab}
use Rattle.cube.proofs.Contracts.{Says}
use Rattle.passes.specs.Passes.{finished, fresh, settled, started, swept}
use Rattle.passes.specs.contracts.Faulty.finish as finish-claims
use Rattle.passes.proofs.Faulty.finish.Reads as finish-claims-reads
use Rattle.passes.specs.contracts.Node.label as label-claims
use Rattle.passes.proofs.Node.label.Reads as label-claims-reads
use Rattle.passes.specs.contracts.Node.near as near-claims
use Rattle.passes.proofs.Node.near.Reads as near-claims-reads
use Rattle.passes.specs.contracts.settle as settle-claims
use Rattle.passes.proofs.settle.Reads as settle-claims-reads
use Rattle.passes.specs.contracts.Tables.start as start-claims
use Rattle.passes.proofs.Tables.start.Reads as start-claims-reads
use Rattle.passes.specs.contracts.sweep as sweep-claims
use Rattle.passes.proofs.sweep.Reads as sweep-claims-reads

abbrev pub start : Function start-claims.ended (ℕ × List ℕ × List ℕ × List ℕ × List ℕ) Nothing (List ℕ)
start =
    record {
      clauses = λ w. start-claims.clauses w.𝓛 w.𝓜.mem w.𝓡.returns;
      asked = start-claims-reads.Asked;
      post = start-claims-reads.Post;
      handed = λ κs a. (a.0.n, a.0.faults.now, a.0.draining.now, a.0.closed.now, a.1.0.now);
      answered = λ κs r. tt;
      left = λ κs e. e.1.0.now;
    }

pub start_says : Says start (λ i. tt)
    (λ i. tab (2 ^ i.0) (started (λ x. (node_bit i.1 x || node_bit i.3 x) || node_bit i.2 x)))
start_says = record { says = λ κs a r e p. (refl, p) }

abbrev pub sweep : Function sweep-claims.ended (ℕ × ℕ × List ℕ) ℕ (List ℕ)
sweep =
    record {
      clauses = λ w. sweep-claims.clauses w.𝓛 w.𝓜.mem w.𝓡.returns;
      asked = sweep-claims-reads.Asked;
      post = sweep-claims-reads.Post;
      handed = λ κs a. (a.0, a.1.0.number, a.1.1.0.now);
      answered = λ κs r. r;
      left = λ κs e. e.1.1.0.now;
    }

pub sweep_says : Says sweep (λ i. count (2 ^ i.0) (fresh i.0 i.1 i.2)) (λ i. tab (2 ^ i.0) (swept i.0 i.1 i.2))
sweep_says = record { says = λ κs a r e p. (p.0, p.1) }

abbrev pub settle : Function settle-claims.ended (List ℕ) Nothing (List ℕ)
settle =
    record {
      clauses = λ w. settle-claims.clauses w.𝓛 w.𝓜.mem w.𝓡.returns;
      asked = settle-claims-reads.Asked;
      post = settle-claims-reads.Post;
      handed = λ κs a. a.0.now;
      answered = λ κs r. tt;
      left = λ κs e. e.0.now;
    }

pub settle_asks : AsksNothing settle
settle_asks = record { asked = λ κs a. tt; empty = λ w κs a. (tt, refl) }

pub settle_says : Says settle (λ i. tt) (λ i. tab (length i) (settled i))
settle_says = record { says = λ κs a r e p. (refl, p) }

abbrev pub finish : Function finish-claims.ended (ℕ × List ℕ × List ℕ × List ℕ) Nothing (List ℕ)
finish =
    record {
      clauses = λ w. finish-claims.clauses w.𝓛 w.𝓜.mem w.𝓡.returns;
      asked = finish-claims-reads.Asked;
      post = finish-claims-reads.Post;
      handed = λ κs a. (a.0.n, a.0.faults.now, a.0.closed.now, a.1.0.now);
      answered = λ κs r. tt;
      left = λ κs e. e.1.0.now;
    }

pub finish_says : Says finish (λ i. tt)
    (λ i. tab (2 ^ i.0) (finished i.0 (λ y. cond (node_bit i.1 y || node_bit i.2 y) 3 4) i.3))
finish_says = record { says = λ κs a r e p. (refl, p) }

-- ---- a node

-- handed the dimension, the table and the node's number
abbrev pub label : Function label-claims.ended (ℕ × List ℕ × ℕ) ℕ Nothing
label =
    record {
      clauses = λ w. label-claims.clauses w.𝓛 w.𝓜.mem w.𝓡.returns;
      asked = label-claims-reads.Asked;
      post = label-claims-reads.Post;
      handed = λ κs a. (a.0.n, a.0.labels.now, a.0.x);
      answered = λ κs r. r;
      left = λ κs e. tt;
    }

pub label_asks : AsksNothing label
label_asks = record { asked = λ κs a. tt; empty = λ w κs a. (tt, refl) }

pub label_says : Says label (λ i. label_in i.1 i.2) (λ i. tt)
label_says = record { says = λ κs a r e p. (p, refl) }

-- and the neighbour's dimension
abbrev pub near : Function near-claims.ended (ℕ × List ℕ × ℕ × ℕ) ℕ Nothing
near =
    record {
      clauses = λ w. near-claims.clauses w.𝓛 w.𝓜.mem w.𝓡.returns;
      asked = near-claims-reads.Asked;
      post = near-claims-reads.Post;
      handed = λ κs a. (a.0.n, a.0.labels.now, a.0.x, a.1.0);
      answered = λ κs r. r;
      left = λ κs e. tt;
    }

pub near_says : Says near (λ i. label_in i.1 (flip i.3 i.2)) (λ i. tt)
near_says = record { says = λ κs a r e p. (p, refl) }
