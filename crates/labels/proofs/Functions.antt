-- The crate's public functions as they are seen from outside, each with the claims that the check makes of its clauses, and what its contract says: the
-- answer, and what is left of what was lent, for whatever is handed; and that an entry point asks nothing of its caller.
use mathlib.Core.List.{List}
use mathlib.Core.Path.{refl}
use Prim.Native.Nat.{ℕ}
use lib.ListN.{length}
use Rattle.std.specs.Prelude.{Result}
use Rattle.cube.specs.declared.refusals.Refusal.{Refusal}
use Rattle.cube.specs.Allowed.{AsksNothing, Function, Nothing}
use Rattle.cube.specs.Refused.{answered}
use Rattle.cube.proofs.Contracts.{Says}
use Rattle.rule.specs.Cabinet.{cabinet, exchanges_of, labels_of}
use Rattle.labels.specs.Labelling.{label_refusal, labelled, labels_after}
use Rattle.labels.specs.contracts.label as label-claims
use Rattle.labels.proofs.label.Reads as label-claims-reads
use Rattle.labels.specs.contracts.label_refusal
use Rattle.labels.proofs.label_refusal.Reads as label_refusal-reads
use Rattle.labels.specs.contracts.label_nodes as label_nodes-claims
use Rattle.labels.specs.declared.Watch.{Ghosts}
use Rattle.labels.proofs.label_nodes.Reads as label_nodes-reads
use Rattle.labels.specs.Watched.{looked_all}
use denote.RattleType.{RattleType}
use denote.Param.Laws.{Laws}
use mir.Syntax.{Dict}

-- handed the dimension, the rule's number, the job, the fault table, the table of draining nodes, that of the nodes that the job closes, and the label buffer
abbrev pub label : Function label-claims.ended (ℕ × ℕ × ℕ × List ℕ × List ℕ × List ℕ × List ℕ) (Result ℕ Refusal) (List ℕ)
label =
    record {
      clauses = λ w. label-claims.clauses w.𝓛 w.𝓜.mem w.𝓡.returns;
      asked = label-claims-reads.Asked;
      post = label-claims-reads.Post;
      handed = λ κs a.
          (a.0, a.1.0, a.1.1.0, a.1.1.1.0.now, a.1.1.1.1.0.now, a.1.1.1.1.1.0.now, a.1.1.1.1.1.1.0.now);
      answered = λ κs r. r;
      left = λ κs e. e.1.1.1.1.1.1.0.now;
    }

pub label_asks : AsksNothing label
label_asks = record { asked = λ κs a. tt; empty = λ w κs a. (tt, refl) }

pub label_says : Says label
    (λ i. labelled (cabinet i.0 i.1 i.3 i.4 i.5) i.2 (length i.6))
    (λ i. labels_after (cabinet i.0 i.1 i.3 i.4 i.5) i.2 i.6)
label_says = record { says = λ κs a r e p. (p.0, p.1) }

-- ---- what is lent to the crate why

abbrev pub label-refusal : Function label_refusal.ended (ℕ × ℕ × ℕ × List ℕ × List ℕ × List ℕ × ℕ) (Result (Unit {0}) Refusal) Nothing
label-refusal =
    record {
      clauses = λ w. label_refusal.clauses w.𝓛 w.𝓜.mem w.𝓡.returns;
      asked = label_refusal-reads.Asked;
      post = label_refusal-reads.Post;
      handed = λ κs a.
          (a.0, a.1.0, a.1.1.0, a.1.1.1.0.now, a.1.1.1.1.0.now, a.1.1.1.1.1.0.now, a.1.1.1.1.1.1.0);
      answered = λ κs r. r;
      left = λ κs e. tt;
    }

pub label_refusal_asks : AsksNothing label-refusal
label_refusal_asks = record { asked = λ κs a. tt; empty = λ w κs a. (tt, refl) }

pub label_refusal_says : Says label-refusal (λ i. answered (label_refusal (cabinet i.0 i.1 i.3 i.4 i.5) i.2 i.6) tt) (λ i. tt)
label_refusal_says = record { says = λ κs a r e p. (p, refl) }

-- whoever watches: handed the rule's number, the dimension, the fault table, the table of draining nodes, that of the nodes that the job closes, the watcher, and
-- the job's half of the label buffer; the watcher and the half are left
module _ (W : RattleType) (laws : Laws W) (G : Ghosts W.Denot) (dict : Dict) where
  abbrev pub label-nodes : Function (label_nodes-claims.ended W G dict) (ℕ × ℕ × List ℕ × List ℕ × List ℕ × W.Denot × List ℕ) ℕ (W.Denot × List ℕ)
  label-nodes =
      record {
        clauses = λ w. label_nodes-claims.clauses W G dict w.𝓛 w.𝓜.mem w.𝓡.returns;
        asked = label_nodes-reads.Asked W laws G dict;
        post = label_nodes-reads.Post W laws G dict;
        handed = λ κs a. (a.0.number, a.1.0.n, a.1.0.faults.now, a.1.0.draining.now, a.1.0.closed.now, a.1.1.0.now, a.1.1.1.0.now);
        answered = λ κs r. r;
        left = λ κs e. (e.1.1.0.now, e.1.1.1.0.now);
      }

  pub label_nodes_says : Says label-nodes
      (λ i. exchanges_of (cabinet i.1 i.0 i.2 i.3 i.4))
      (λ i. let K = cabinet i.1 i.0 i.2 i.3 i.4 in (looked_all G.after K i.5, labels_of K))
  label_nodes_says = record { says = λ κs a r e p. (p.0, rw (p.1.1, p.1.0)) }
