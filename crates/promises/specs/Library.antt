-- The library's thirteen questions as relations: what is handed, what is answered and what is left, wherever the contract of the function allows it.
-- `rattle` has the functions that Rattle calls. `c` has those that C calls, and there the answer is what C takes out of the number and the row by the
-- header's macros.
use Rattle.std.specs.Prelude.{List, ◌⊎◌, ◌≡◌, ℕ, length, Result}
use Rattle.cube.specs.Allowed.{May}
use Rattle.rule.specs.Cabinet.{Cabinet}
use Rattle.groups.specs.Number.{Number}
use Rattle.notice.specs.Notice.{Told}
use Rattle.notice.specs.Notice.{Noticed}
use Rattle.notice.proofs.Functions as notice
use Rattle.labels.proofs.Functions as labels
use Rattle.hop.proofs.Functions as hop
use Rattle.walk.specs.Walk.{row_bytes}
use Rattle.walk.specs.declared.Walked.{Walked}
use Rattle.walk.proofs.Functions as walk
use Rattle.hop_networks.proofs.Functions as hop_networks
use Rattle.walk_networks.specs.declared.Crossed.{Crossed}
use Rattle.walk_networks.proofs.Functions as walk_networks
use Rattle.why.specs.declared.HopReason.{HopReason}
use Rattle.why.specs.declared.NodeReason.{NodeReason}
use Rattle.why.proofs.Functions as why
use Rattle.writer.specs.Writing.{Wrote}
use Rattle.writer.proofs.Functions as writer
use Rattle.list_reader.proofs.Functions as list_reader
use Rattle.list_writer.proofs.Functions as list_writer
use Rattle.repair.proofs.Functions as repair
use Rattle.hcube.specs.Decoded.{crossed_from, hop_reason_from, hopped_from, labelled_from, node_reason_from, noticed_from, refusal_part, value_part, walked_from, wrote_from}
use Rattle.hcube.proofs.Functions as hcube
use Rattle.cube.specs.declared.refusals.Refusal.{Refusal}
use Rattle.cube.specs.Refused.{refused}
use Rattle.hop.specs.declared.Decision.{Decision}

pub record Library : Type 1 where
  -- the notice at the front of the bytes is read into a fault table
  pub reads : (bytes before : List ℕ) (x : Noticed) (after : List ℕ) → Type 0
  -- the dimension of the notice at the front of the bytes: its refusal, 0 for none, and the dimension, or the place of the refusal
  pub sizes : (bytes : List ℕ) (k v : ℕ) → Type 0
  -- the notice of a fault table of an n-cube is written over the front of a buffer
  pub writes : (n : ℕ) (faults before : List ℕ) (x : Wrote) (after : List ℕ) → Type 0
  -- a list text is read into a fault table of an n-cube: its refusal, 0 for none
  pub reads_list : (n : ℕ) (text before : List ℕ) (k : ℕ) (after : List ℕ) → Type 0
  -- the list text of a fault table of an n-cube is written over the front of a buffer
  pub writes_list : (n : ℕ) (faults before : List ℕ) (x : Wrote) (after : List ℕ) → Type 0
  -- a fault table of an n-cube is repaired by masks, into a result and a row: its refusal, 0 for none
  pub repairs : (n : ℕ) (faults masks result row : List ℕ) (k : ℕ) (result' row' : List ℕ) → Type 0
  -- a cabinet is labelled for job j, in a label buffer
  pub labels : (K : Cabinet) (j : ℕ) (before : List ℕ) (x : Result ℕ Refusal) (after : List ℕ) → Type 0
  -- a hop is decided at c for d, by the labels that job j has in a buffer
  pub hops : (n j c d : ℕ) (buffer : List ℕ) (x : Result Decision Refusal) → Type 0
  -- it is told why node x has its label, for job j, with what labelling is lent
  pub why_nodes : (K : Cabinet) (j x : ℕ) (before : List ℕ) (a : Result NodeReason Refusal) (after : List ℕ) → Type 0
  -- it is told why the hop at c for d is taken, by the labels that job j has in a buffer
  pub why_hops : (n j c d : ℕ) (buffer : List ℕ) (a : Result HopReason Refusal) → Type 0
  -- a walk goes from s to d, by these labels, for a caller who lends a row of `room` bytes
  pub walks : (n j s d : ℕ) (buffer : List ℕ) (room : ℕ) (w : Walked) → Type 0
  -- a hop is decided at c for d on a board with N networks, by these labels, for a message in network w that goes up or, where g is 1, down
  pub hops_networks : (n N j c d w g : ℕ) (buffer : List ℕ) (x : Result Decision Refusal) → Type 0
  -- a walk goes from s to d on such a board, by these labels, its hops into a list
  pub walks_networks : (n N j s d : ℕ) (buffer before : List ℕ) (x : Result Crossed Refusal) (after : List ℕ) → Type 0

abbrev pub rattle : Library
rattle =
    record {
      reads = λ bytes before x after. May notice.read (bytes, before) x after;
      sizes = λ bytes k v. (x : Number) × May notice.dimension bytes x tt × Told x k v;
      writes = λ n faults before x after. May writer.write (n, faults, before) x after;
      reads_list = λ n text before k after. (x : Result (Unit {0}) Refusal) × May list_reader.read (n, text, before) x after × (refused x ≡ k);
      writes_list = λ n faults before x after. May list_writer.write (n, faults, before) x after;
      repairs = λ n faults masks result row k result' row'.
          (x : Result (Unit {0}) Refusal) × May repair.repair (n, faults, masks, result, row) x (result', row') × (refused x ≡ k);
      labels = λ K j before x after. May labels.label (K.n, K.rule, j, K.faults, K.draining, K.closed, before) x after;
      hops = λ n j c d buffer x. May hop.hop (n, j, c, d, buffer) x tt;
      why_nodes = λ K j x before a after. May why.why-node (K.n, K.rule, j, x, K.faults, K.draining, K.closed, before) a after;
      why_hops = λ n j c d buffer a. May why.why-hop (n, j, c, d, buffer) a tt;
      walks = λ n j s d buffer room w.
          May walk.walk-for (n, j, s, d, buffer, room) w tt ⊎ (May walk.walk (n, j, s, d, buffer) w tt × (room ≡ row_bytes));
      hops_networks = λ n N j c d w g buffer x. May hop_networks.hop-networks (n, N, j, c, d, w, g, buffer) x tt;
      walks_networks = λ n N j s d buffer before x after. May walk_networks.walk-networks (n, N, j, s, d, buffer, before) x after;
    }

abbrev pub c : Library
c =
    record {
      reads = λ bytes before x after. (r : ℕ) × May hcube.read_notice (bytes, before) r after × (noticed_from r ≡ x);
      sizes = λ bytes k v. (r : ℕ) × May hcube.notice_dimension bytes r tt × (refusal_part r ≡ k) × (value_part r ≡ v);
      writes = λ n faults before x after. (r : ℕ) × May hcube.write_notice (n, faults, before) r after × (wrote_from r ≡ x);
      reads_list = λ n text before k after. (r : ℕ) × May hcube.read_list (n, text, before) r after × (refusal_part r ≡ k);
      writes_list = λ n faults before x after. (r : ℕ) × May hcube.write_list (n, faults, before) r after × (wrote_from r ≡ x);
      repairs = λ n faults masks result row k result' row'.
          (r : ℕ) × May hcube.repair (n, faults, masks, result, row) r (result', row') × (refusal_part r ≡ k);
      labels = λ K j before x after.
          (r : ℕ) × May hcube.label (K.n, K.rule, j, K.faults, K.draining, K.closed, before) r after × (labelled_from r ≡ x);
      hops = λ n j c d buffer x. (r : ℕ) × May hcube.hop (n, j, c, d, buffer) r tt × (hopped_from r ≡ x);
      why_nodes = λ K j x before a after.
          (r : ℕ) × May hcube.why-node (K.n, K.rule, j, x, K.faults, K.draining, K.closed, before) r after × (node_reason_from K.rule r ≡ a);
      why_hops = λ n j c d buffer a. (r : ℕ) × May hcube.why-hop (n, j, c, d, buffer) r tt × (hop_reason_from r ≡ a);
      walks = λ n j s d buffer room w.
          (r : ℕ) × (before after : List ℕ) × May hcube.walk (n, j, s, d, buffer, before) r after × (length before ≡ room) × (walked_from r after ≡ w);
      hops_networks = λ n N j c d w g buffer x. (r : ℕ) × May hcube.hop-networks (n, N, j, c, d, w, g, buffer) r tt × (hopped_from r ≡ x);
      walks_networks = λ n N j s d buffer before x after.
          (r : ℕ) × May hcube.walk-networks (n, N, j, s, d, buffer, before) r after × (crossed_from r ≡ x);
    }
