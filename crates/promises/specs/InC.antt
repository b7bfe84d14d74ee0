-- What C has in hand (RULES, To C), of whatever the contracts of the C functions allow: the number of an answer, in plain numbers, and every byte of the row.
use Rattle.std.specs.Prelude.{List, ◌≢◌, ◌≡◌, ℕ, ◌+◌, ◌*◌, ◌/◌, ◌%◌, ◌<◌, get_or, length, Result, Ok, Err}
use Rattle.cube.specs.Allowed.{May}
use Rattle.notice.proofs.Functions as notice
use Rattle.labels.proofs.Functions as labels
use Rattle.hop.specs.declared.Decision.TheVariants.{Deliver, Hop, Halted}
use Rattle.hop.proofs.Functions as hop
use Rattle.causes.specs.declared.Cause.TheVariants as cause
use Rattle.why.specs.declared.HopReason.TheVariants as reason
use Rattle.why.specs.declared.NodeReason.{NodeReason}
use Rattle.why.specs.declared.NodeReason.TheVariants as because
use Rattle.why.proofs.Functions as why
use Rattle.writer.proofs.Functions as writer
use Rattle.list_reader.proofs.Functions as list_reader
use Rattle.list_writer.proofs.Functions as list_writer
use Rattle.repair.proofs.Functions as repair
use Rattle.walk.specs.Walk.{row_bytes}
use Rattle.walk.specs.declared.Ending.TheVariants as ending
use Rattle.walk.specs.declared.Walked.{Walked}
use Rattle.walk.proofs.Functions as walk
use Rattle.hop_networks.proofs.Functions as hop_networks
use Rattle.walk_networks.specs.declared.Crossed.{Crossed}
use Rattle.walk_networks.specs.declared.Crossed.TheVariants as crossed
use Rattle.walk_networks.proofs.Functions as walk_networks
use Rattle.theorems.specs.Words.{place}
use Rattle.hcube.specs.Decoded.{node_at, refusal_part, value_part}
use Rattle.hcube.proofs.Functions as hcube
use Rattle.cube.specs.declared.refusals.Refusal.{Refusal}
use Rattle.cube.specs.Refused.{number, refused}
use Rattle.hop.specs.declared.Decision.{Decision}
use Rattle.notice.specs.Notice.{a_notice}

-- the number of a node's reason, case by case
abbrev pub node_number : Result NodeReason Refusal → ℕ
node_number (Ok (because.Safe faulty bad)) = bad * 1099511627776 + faulty * 4294967296
node_number (Ok (because.Unsafe l round (cause.Faulty a b))) = 72057594037927936 + b * 1099511627776 + a * 4294967296 + l * 65536 + round
node_number (Ok (because.Unsafe l round (cause.Two a b))) = 2 * 72057594037927936 + b * 1099511627776 + a * 4294967296 + l * 65536 + round
node_number (Ok (because.Unsafe l round (cause.Three a b c))) =
    2 * 72057594037927936 + c * 281474976710656 + b * 1099511627776 + a * 4294967296 + l * 65536 + round
node_number (Ok (because.Out l)) = l * 65536
node_number (Err r) = number r * 16777216

-- the number of a hop by networks, and of a walk, case by case
abbrev pub hop_in_number : Result Decision Refusal → ℕ
hop_in_number (Ok Deliver) = 0
hop_in_number (Ok (Hop h)) = 65536 + h
hop_in_number (Ok Halted) = 131072
hop_in_number (Err r) = number r * 16777216

abbrev pub crossed_in_number : Result Crossed Refusal → ℕ
crossed_in_number (Ok (crossed.Delivered hops)) = hops
crossed_in_number (Ok (crossed.Halted hops)) = 65536 + hops
crossed_in_number (Err r) = number r * 16777216

pub record InC : Type 0 where
  -- "to C each answers one number: refusal × 16,777,216 + kind × 65,536 + value": that of the answer that the library's own function gives.
  -- "Labelling: kind 0, value is the number of exchanges"
  pub label_exchanges :
      {n rule j r v : ℕ} {faults draining closed before after after' : List ℕ} → May hcube.label (n, rule, j, faults, draining, closed, before) r after
      → May labels.label (n, rule, j, faults, draining, closed, before) (Ok v) after' → r ≡ v
  pub label_refuses :
      {n rule j r : ℕ} {k : Refusal} {faults draining closed before after after' : List ℕ} → May hcube.label (n, rule, j, faults, draining, closed, before) r after
      → May labels.label (n, rule, j, faults, draining, closed, before) (Err k) after' → r ≡ number k * 16777216
  -- "Hop: kind 0 deliver, 1 hop (value is the dimension), 2 halted"
  pub hop_delivers :
      {n j c d r : ℕ} {buffer : List ℕ} → May hcube.hop (n, j, c, d, buffer) r tt → May hop.hop (n, j, c, d, buffer) (Ok Deliver) tt → r ≡ 0
  pub hop_hops :
      {n j c d r i : ℕ} {buffer : List ℕ} → May hcube.hop (n, j, c, d, buffer) r tt → May hop.hop (n, j, c, d, buffer) (Ok (Hop i)) tt
      → r ≡ 65536 + i
  pub hop_halts :
      {n j c d r : ℕ} {buffer : List ℕ} → May hcube.hop (n, j, c, d, buffer) r tt → May hop.hop (n, j, c, d, buffer) (Ok Halted) tt → r ≡ 131072
  pub hop_refuses :
      {n j c d r : ℕ} {k : Refusal} {buffer : List ℕ} → May hcube.hop (n, j, c, d, buffer) r tt → May hop.hop (n, j, c, d, buffer) (Err k) tt → r ≡ number k * 16777216
  -- "Why a hop is taken: the hop's kind, value is scan × 256 + dimension"
  pub why_hop_delivers :
      {n j c d r : ℕ} {buffer : List ℕ} → May hcube.why-hop (n, j, c, d, buffer) r tt → May why.why-hop (n, j, c, d, buffer) (Ok reason.Deliver) tt → r ≡ 0
  pub why_hop_hops :
      {n j c d r s i : ℕ} {buffer : List ℕ} → May hcube.why-hop (n, j, c, d, buffer) r tt → May why.why-hop (n, j, c, d, buffer) (Ok (reason.Hop s i)) tt
      → r ≡ 65536 + s * 256 + i
  pub why_hop_halts :
      {n j c d r : ℕ} {buffer : List ℕ} → May hcube.why-hop (n, j, c, d, buffer) r tt → May why.why-hop (n, j, c, d, buffer) (Ok reason.Halted) tt → r ≡ 131072
  pub why_hop_refuses :
      {n j c d r : ℕ} {k : Refusal} {buffer : List ℕ} → May hcube.why-hop (n, j, c, d, buffer) r tt → May why.why-hop (n, j, c, d, buffer) (Err k) tt
      → r ≡ number k * 16777216
  -- "Why a node has its label: kind is the label, value the round that marked it, and cause × 2^56 + third × 2^48 + second × 2^40 + first × 2^32 are added:
  -- cause 1 has two faulty neighbours, by their dimensions, cause 2 the k neighbours faulty or marked in an earlier round, and for a safe node cause is 0, first
  -- counts the faulty and second the non-safe neighbours; a field that is not named is 0"
  pub why_node_number :
      {n rule j x r : ℕ} {faults draining closed before after after' : List ℕ} {a : Result NodeReason Refusal}
      → May hcube.why-node (n, rule, j, x, faults, draining, closed, before) r after
      → May why.why-node (n, rule, j, x, faults, draining, closed, before) a after' → r ≡ node_number a
  -- "Walk: kind 0 delivered, 1 halted, value is the hop count"
  pub walk_delivers :
      {n j s d r : ℕ} {buffer before after : List ℕ} {w : Walked} → May hcube.walk (n, j, s, d, buffer, before) r after
      → May walk.walk-for (n, j, s, d, buffer, length before) w tt → w.ending ≡ ending.Delivered → r ≡ w.hops
  pub walk_halts :
      {n j s d r : ℕ} {buffer before after : List ℕ} {w : Walked} → May hcube.walk (n, j, s, d, buffer, before) r after
      → May walk.walk-for (n, j, s, d, buffer, length before) w tt → w.ending ≡ ending.Halted → r ≡ 65536 + w.hops
  pub walk_refuses :
      {n j s d r : ℕ} {k : Refusal} {buffer before after : List ℕ} {w : Walked} → May hcube.walk (n, j, s, d, buffer, before) r after
      → May walk.walk-for (n, j, s, d, buffer, length before) w tt → w.ending ≡ ending.Refused k → (r ≡ number k * 16777216) × (after ≡ before)
  -- "A hop by networks: the hop's kind, value is network × 16 + dimension; a walk by networks: the walk's kind, value is the hop count"
  pub hop_networks_number :
      {n N j c d w g r : ℕ} {buffer : List ℕ} {x : Result Decision Refusal} → May hcube.hop-networks (n, N, j, c, d, w, g, buffer) r tt
      → May hop_networks.hop-networks (n, N, j, c, d, w, g, buffer) x tt → r ≡ hop_in_number x
  pub walk_networks_number :
      {n N j s d r : ℕ} {buffer before after after' : List ℕ} {x : Result Crossed Refusal} → May hcube.walk-networks (n, N, j, s, d, buffer, before) r after
      → May walk_networks.walk-networks (n, N, j, s, d, buffer, before) x after' → (r ≡ crossed_in_number x) × (after ≡ after')
  -- the dimension of a notice by itself: the dimension, or refusal × 16,777,216, its place being 0
  pub dimension_reads :
      {r n next : ℕ} {bytes : List ℕ} → May hcube.notice_dimension bytes r tt → May notice.dimension bytes (Ok (n, next)) tt → r ≡ n
  pub dimension_refuses :
      {r at : ℕ} {k : Refusal} {bytes : List ℕ} → May hcube.notice_dimension bytes r tt → May notice.dimension bytes (Err (k, at)) tt
      → (r ≡ number k * 16777216) × (at ≡ 0)
  -- a notice: dimension × 2^48 + count × 2^32 + bytes taken, or refusal × 16,777,216 + place, which fits its 16 bits
  pub notice_reads :
      {r n m taken : ℕ} {bytes before after after' : List ℕ} → May hcube.read_notice (bytes, before) r after
      → May notice.read (bytes, before) (a_notice n m taken) after' → r ≡ n * 281474976710656 + m * 4294967296 + taken
  pub notice_refuses :
      {r at : ℕ} {k : Refusal} {bytes before after after' : List ℕ} → May hcube.read_notice (bytes, before) r after
      → May notice.read (bytes, before) (Err (k, at)) after' → (r ≡ number k * 16777216 + at) × (at < 65536)
  -- "Writing a notice: kind 0, value is its length"
  pub writes_length :
      {n r len : ℕ} {faults before after after' : List ℕ} → May hcube.write_notice (n, faults, before) r after
      → May writer.write (n, faults, before) (Ok len) after' → r ≡ len
  pub writes_refuses :
      {n r : ℕ} {k : Refusal} {faults before after after' : List ℕ} → May hcube.write_notice (n, faults, before) r after
      → May writer.write (n, faults, before) (Err k) after' → r ≡ number k * 16777216
  -- "Reading a list text: kind and value 0"; "writing one: kind 0, value is its length"
  pub reads_list :
      {n r : ℕ} {x : Result (Unit {0}) Refusal} {text before after after' : List ℕ} → May hcube.read_list (n, text, before) r after
      → May list_reader.read (n, text, before) x after' → r ≡ refused x * 16777216
  pub writes_list_length :
      {n r len : ℕ} {faults before after after' : List ℕ} → May hcube.write_list (n, faults, before) r after
      → May list_writer.write (n, faults, before) (Ok len) after' → r ≡ len
  pub writes_list_refuses :
      {n r : ℕ} {k : Refusal} {faults before after after' : List ℕ} → May hcube.write_list (n, faults, before) r after
      → May list_writer.write (n, faults, before) (Err k) after' → r ≡ number k * 16777216
  -- "repairing a table: kind and value 0"
  pub repairs :
      {n r : ℕ} {x : Result (Unit {0}) Refusal} {faults masks result row : List ℕ} {o o' : List ℕ × List ℕ} → May hcube.repair (n, faults, masks, result, row) r o
      → May repair.repair (n, faults, masks, result, row) x o' → r ≡ refused x * 16777216
  -- "a lent buffer of exactly 34 bytes, two a node, low byte first": the node is the one that the walk has at that place
  pub row_nodes :
      {n j s d r : ℕ} {buffer before after : List ℕ} {w : Walked} → May hcube.walk (n, j, s, d, buffer, before) r after → refusal_part r ≡ 0
      → May walk.walk (n, j, s, d, buffer) w tt → (k : ℕ) → k < 17 → node_at after k ≡ place w k
  pub row-bytes :
      {n j s d r : ℕ} {buffer before after : List ℕ} → May hcube.walk (n, j, s, d, buffer, before) r after → refusal_part r ≡ 0 → (k : ℕ) → k < 17
      → (get_or after (2 * k) 0 ≡ node_at after k % 256) × (get_or after (2 * k + 1) 0 ≡ node_at after k / 256)
  -- "no node stands twice among the places of a walk's row that are used (the first ones, one more than its hop count)", whatever the labels (No node twice)
  pub row_once :
      {n j s d r : ℕ} {buffer before after : List ℕ} → May hcube.walk (n, j, s, d, buffer, before) r after → refusal_part r ≡ 0
      → (k m : ℕ) → k < m → m < value_part r + 1 → node_at after k ≢ node_at after m
  -- "an accepted walk writes all 34": whatever stood in the row
  pub row_whole :
      {n j s d r r' : ℕ} {buffer before before' after after' : List ℕ} → May hcube.walk (n, j, s, d, buffer, before) r after
      → May hcube.walk (n, j, s, d, buffer, before') r' after' → refusal_part r ≡ 0 → refusal_part r' ≡ 0 → (length after ≡ row_bytes) × (after ≡ after')
