-- A message that waits: it went from node 0 to node 4 in a cube of dimension 3, and its next hop is decided, to node 6. Its labels are those of the longest of the
-- worked walks; both nodes ask by them, and the answers are computed.
use Rattle.std.specs.Prelude.{Ok}
use mathlib.Core.Bool.{xor}
use mathlib.Core.List.{List, [], ◌∷◌}
use mathlib.Core.Path.{◌≡◌, refl, subst, ◌∙◌}
use Prim.Native.Nat.{ℕ, zero, suc, ◌≤◌, ◌<◌}
use native.Mathlib.Omega.{arith}
use lib.Count.{ones, ones_in}
use lib.ListN.{length}
use Rattle.cube.specs.Count.{least, some}
use Rattle.cube.specs.Cube.{apart, bit, dist, flip}
use Rattle.cube.specs.Refusal.{first}
use Rattle.cube.specs.Tables.{is_dimension, label_in}
use Rattle.scans.specs.Scans as scans
use Rattle.scans.specs.Scans.{suits, takes}
use Rattle.jobs.specs.Jobs.{half, is_job, label_bytes, label_for}
use Rattle.hop.specs.declared.Decision.TheVariants.{Hop}
use Rattle.blocks.specs.Blocks.{call, decide_in, eager, first_block, fits, hop_in, lowest, may_fourth, may_sixth, pick}
use Rattle.blocks.specs.Board.{beyond, numbered}
use Rattle.blocks.specs.Phase.{after, channel_number, down, turns}
use Rattle.hop_networks.specs.Hopping.{hop_refusal_in, hopped_in, is_board, lacks}
use Rattle.theorems.specs.Networks.{Spot, across}
use Rattle.promises.specs.Answers.{Answers}
use Rattle.promises.specs.Library.{Library}
use Rattle.promises.specs.Networks.{Waiting}
use Rattle.promises.proofs.Library.{Faithful}

abbrev labels : List ℕ
labels = 1 ∷ 2 ∷ 1 ∷ 2 ∷ 0 ∷ 3 ∷ 1 ∷ 0 ∷ 0 ∷ 0 ∷ 0 ∷ 0 ∷ 0 ∷ 0 ∷ 0 ∷ 0 ∷ []

abbrev spots : ℕ → Spot
spots zero = record { node = 0; network = 0; down = 0 }
spots (suc i) = record { node = 4; network = 0; down = 0 }

abbrev hops : ℕ → ℕ
hops zero = 2
hops (suc i) = 1

computed : (i : ℕ) → i ≤ 1 → hopped_in 3 1 0 (spots i).node 5 0 0 (length labels) (label_for 3 0 labels) ≡ Ok (Hop (hops i))
unfolding hopped_in hop_refusal_in label_bytes lacks is_board is_job is_dimension first half some hop_in decide_in pick scans.lowest takes suits call first_block lowest fits eager may_fourth may_sixth turns down after apart dist bit flip least label_in xor ones ones_in beyond channel_number numbered
computed zero h = refl
computed (suc i) h = refl

module _ (lib : Library) (F : Faithful lib) (A : Answers lib) where
  asked : (i : ℕ) → i ≤ 1 → lib.hops_networks 3 1 0 (spots i).node 5 0 0 labels (Ok (Hop (hops i)))
  asked i h =
      let a = A.hops_networks 3 1 0 (spots i).node 5 0 0 labels in
      subst (lib.hops_networks 3 1 0 (spots i).node 5 0 0 labels) (F.hops_networks a.1 ∙ computed i h) a.1

  pub waits : Waiting lib 3 (record { net = 0; node = 0; dim = 2 }) (record { net = 0; node = 4; dim = 1 })
  unfolding across flip bit
  waits =
      record {
        d = 5;
        last = 1;
        at = spots;
        h = hops;
        moves = moves;
        asked = λ i l. asked_by i l;
        earlier = 0;
        before = omega arith;
        holds = refl;
        wants = refl;
      }
    where
      moves : (i : ℕ) → i < 1 → spots (suc i) ≡ across (hops i) (spots i)
      moves zero l = refl
      moves (suc i) l = absurd (omega arith)

      asked_by : (i : ℕ) → i ≤ 1
          → (N j : ℕ) × (buffer : List ℕ) × lib.hops_networks 3 N j (spots i).node 5 (spots i).network (spots i).down buffer (Ok (Hop (hops i)))
      asked_by zero l = (1, 0, labels, asked 0 l)
      asked_by (suc i) l = (1, 0, labels, asked (suc i) l)
