-- Every question has an answer that its contract allows, whatever is handed: so the demands, which speak of every such answer, speak of something.
use Rattle.std.specs.Prelude.{List, ℕ, Result}
use Rattle.rule.specs.Cabinet.{Cabinet}
use Rattle.notice.specs.Notice.{Noticed}
use Rattle.walk.specs.declared.Walked.{Walked}
use Rattle.walk_networks.specs.declared.Crossed.{Crossed}
use Rattle.why.specs.declared.HopReason.{HopReason}
use Rattle.why.specs.declared.NodeReason.{NodeReason}
use Rattle.writer.specs.Writing.{Wrote}
use Rattle.promises.specs.Library.{Library}
use Rattle.cube.specs.declared.refusals.Refusal.{Refusal}
use Rattle.hop.specs.declared.Decision.{Decision}

pub record Answers (lib : Library) : Type 0 where
  pub reads : (bytes before : List ℕ) → (x : Noticed) × (after : List ℕ) × lib.reads bytes before x after
  pub sizes : (bytes : List ℕ) → (k v : ℕ) × lib.sizes bytes k v
  pub writes : (n : ℕ) (faults before : List ℕ) → (x : Wrote) × (after : List ℕ) × lib.writes n faults before x after
  pub reads_list : (n : ℕ) (text before : List ℕ) → (k : ℕ) × (after : List ℕ) × lib.reads_list n text before k after
  pub writes_list : (n : ℕ) (faults before : List ℕ) → (x : Wrote) × (after : List ℕ) × lib.writes_list n faults before x after
  pub repairs : (n : ℕ) (faults masks result row : List ℕ) → (k : ℕ) × (t r : List ℕ) × lib.repairs n faults masks result row k t r
  pub labels : (K : Cabinet) (j : ℕ) (before : List ℕ) → (x : Result ℕ Refusal) × (after : List ℕ) × lib.labels K j before x after
  pub hops : (n j c d : ℕ) (buffer : List ℕ) → (x : Result Decision Refusal) × lib.hops n j c d buffer x
  pub why_nodes : (K : Cabinet) (j x : ℕ) (before : List ℕ) → (a : Result NodeReason Refusal) × (after : List ℕ) × lib.why_nodes K j x before a after
  pub why_hops : (n j c d : ℕ) (buffer : List ℕ) → (a : Result HopReason Refusal) × lib.why_hops n j c d buffer a
  pub walks : (n j s d : ℕ) (buffer : List ℕ) (room : ℕ) → (w : Walked) × lib.walks n j s d buffer room w
  pub hops_networks : (n N j c d w g : ℕ) (buffer : List ℕ) → (x : Result Decision Refusal) × lib.hops_networks n N j c d w g buffer x
  pub walks_networks :
      (n N j s d : ℕ) (buffer before : List ℕ) → (x : Result Crossed Refusal) × (after : List ℕ) × lib.walks_networks n N j s d buffer before x after
