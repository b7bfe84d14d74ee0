-- Every walk by networks, from what Along reads off its bytes and from the laws of Algorithm ROUTE_C; and that a board with more networks makes the same walk.
use mathlib.Core.Bool.{true}
use mathlib.Core.List.{List}
use mathlib.Core.Logic.{◌⊎◌, inl, inr, ⊎_elim, ◌≢◌}
use mathlib.Core.Path.{◌≡◌, refl, sym, ap, ◌∙◌}
use Prim.Native.Nat.{ℕ, suc, ◌/◌, ◌%◌, ◌^◌, ◌≤◌, ◌<◌}
use native.Mathlib.Omega.{arith}
use lib.Dec.{ltb}
use lib.ListN.{get_or, length}
use borrow.Author.Tests.{eq-eqb, le-leb, le-ltb, lt-leb, ltb-false, ltb-true, ne_eqb}
use Rattle.std.specs.Prelude.{Result, Ok}
use Rattle.cube.specs.Refusal.{first}
use Rattle.cube.specs.declared.refusals.Refusal.{Refusal}
use Rattle.cube.specs.Tables.{highest}
use Rattle.cube.proofs.Bools.{clash, either}
use Rattle.cube.proofs.Search.{some_none}
use Rattle.jobs.specs.Jobs.{label_bytes}
use Rattle.jobs.proofs.Halves.{is-job}
use Rattle.hop.specs.declared.Decision.{Decision}
use Rattle.hop.specs.declared.Decision.TheVariants.{Deliver, Hop, Halted}
use Rattle.walk.specs.Walk.{stops}
use Rattle.blocks.specs.Board.{hops_on, last_on, most_hops, numbered}
use Rattle.blocks.specs.Course.{channel_at, phase, spot, turn}
use Rattle.blocks.specs.Phase.{Channel, after, channel_number, phase_of}
use Rattle.blocks.proofs.Board.{same_walk}
use Rattle.blocks.proofs.Calls.{delivers_at}
use Rattle.blocks.proofs.Rising.{Step, channel_once, phase_rises}
use Rattle.hop_networks.specs.Hopping.{is_board}
use Rattle.walk_networks.specs.Crossing.{cross_refusal, crossing, ended_by, hops_after, hops_of, too_short}
use Rattle.walk_networks.specs.declared.Crossed.{Crossed}
use Rattle.walk_networks.specs.declared.Crossed.TheVariants as crossed
use Rattle.walk_networks.proofs.Outcomes.{CrossGood, cross_good}
use Rattle.theorems.specs.Networks.{Crosses, DecidesIn, MoreNetworks, Spot, WalkCrosses, along, pair_at}
use Rattle.theorems.proofs.Along.{
  along_is,
  answer_is,
  byte,
  byte_behind,
  count_is,
  few,
  inside,
  last_answered,
  list_long,
  number_is,
  number_parts,
  pair_is,
  running,
  step_answered,
  stepped,
  works_before,
  works_last,
}

-- a channel is its network, its node and its dimension
pub same_channel : {w w' c c' i i' : ℕ} → w ≡ w' → c ≡ c' → i ≡ i'
    → ◌≡◌ {A = Channel} (record { net = w; node = c; dim = i }) (record { net = w'; node = c'; dim = i' })
same_channel e f g = cc

-- ---- every walk

module _ (n N j s d m : ℕ) (lab : ℕ → ℕ) (before : List ℕ) (ok : cross_refusal n N j s d m (length before) lab ≡ 0) where
  abbrev G : CrossGood n N j s d m (length before) lab
  G = cross_good n N j s d m (length before) lab ok

  abbrev hs : s < 2 ^ n
  hs = G.placed.first

  abbrev K : ℕ
  K = hops_on n N lab d s

  abbrev x : Result Crossed Refusal
  x = crossing n N j s d m (length before) lab

  abbrev list : List ℕ
  list = hops_after n N j s d m lab before

  count : hops_of x ≡ K
  count = count_is n N j s d m lab before ok

  here : (k : ℕ) → k ≤ K → along list s k ≡ record { node = spot n lab d s k; network = phase n lab d s k / 2; down = phase n lab d s k % 2 }
  here = along_is n N j s d m lab before ok

  pair-at : (k : ℕ) → k ≤ K → pair_at list s k ≡ phase n lab d s k
  pair-at k h = ap (λ (q : Spot). phase_of q.network q.down) (here k h) ∙ pair_is n N j s d m lab before ok k

  -- how it ends
  ends :
      (DecidesIn n N j d m lab (along list s K) Deliver × (x ≡ Ok (crossed.Delivered K)) × ((along list s K).node ≡ d))
      ⊎ (DecidesIn n N j d m lab (along list s K) Halted × (x ≡ Ok (crossed.Halted K)))
  unfolding ended_by numbered stops last_on
  ends = go (last_on n N lab d s) refl G.ends
    where
      last : DecidesIn n N j d m lab (along list s K) (numbered (phase n lab d s K) (spot n lab d s K) (last_on n N lab d s))
      last = last_answered n N j s d m lab before ok

      answer : x ≡ ended_by K (last_on n N lab d s)
      answer = answer_is n N j s d m lab before ok

      go : (y : Decision) → last_on n N lab d s ≡ y → stops y ≡ true
          → (DecidesIn n N j d m lab (along list s K) Deliver × (x ≡ Ok (crossed.Delivered K)) × ((along list s K).node ≡ d))
          ⊎ (DecidesIn n N j d m lab (along list s K) Halted × (x ≡ Ok (crossed.Halted K)))
      go Deliver e h =
          inl (
            rw e at last,
            answer ∙ ap (ended_by K) e,
            ap (λ (q : Spot). q.node) (here K (omega arith))
                ∙ delivers_at n lab d (phase n lab d s K) (spot n lab d s K) (inside n N j s d m lab before ok K (omega arith)) G.placed.second e,
          )
      go (Hop i) e h = absurd (clash h refl)
      go Halted e h = inr (rw e at last, answer ∙ ap (ended_by K) e)

  -- a hop up comes before a hop down of its network
  up_first : (i k : ℕ) → i < K → k < K → (along list s (suc i)).network ≡ (along list s (suc k)).network → (along list s (suc i)).down ≡ 0
      → (along list s (suc k)).down ≡ 1 → i < k
  up_first i k hi hk e u w = ⊎_elim (λ t. ltb-true i k t) (λ t. absurd (back (ltb-false i k t))) (either (ltb i k))
    where
      back : k ≤ i → ⊥
      back l =
          omega (
            arith,
            phase_rises n lab d s hs (suc k) (suc i) (omega arith) (λ t q. running n N j s d m lab before ok t (omega arith)),
            pair-at (suc i) hi,
            pair-at (suc k) hk,
            e,
            u,
            w,
          )

  -- no channel twice: the node, and the byte, which has the network and the dimension
  once : (i k : ℕ) → i < k → k < K → (along list s i).node ≡ (along list s k).node → get_or list i 0 ≢ get_or list k 0
  once i k l hk same-node same_byte =
      channel_once n lab d s hs i k a.dim b.dim l (λ t q. running n N j s d m lab before ok t (omega arith)) a.decided b.decided same
    where
      hi : i < K
      hi = omega arith

      a : Step n lab d s hs i
      a = stepped n N j s d m lab before ok i hi

      b : Step n lab d s hs k
      b = stepped n N j s d m lab before ok k hk

      node : spot n lab d s i ≡ spot n lab d s k
      node = sym (ap (λ (q : Spot). q.node) (here i (omega arith))) ∙ same-node ∙ ap (λ (q : Spot). q.node) (here k (omega arith))

      number : channel_number (phase n lab d s i) (spot n lab d s i) a.dim ≡ channel_number (phase n lab d s k) (spot n lab d s k) b.dim
      number =
          sym (byte n N j s d m lab before ok i hi ∙ number_is n N j s d m lab before ok i hi) ∙ same_byte
          ∙ byte n N j s d m lab before ok k hk ∙ number_is n N j s d m lab before ok k hk

      same : channel_at n lab d s i a.dim ≡ channel_at n lab d s k b.dim
      same =
          let small = G.placed.halved.small in
          let u = number_parts n (phase n lab d s i) (spot n lab d s i) a.dim small a.dim_below in
          let v = number_parts n (phase n lab d s k) (spot n lab d s k) b.dim small b.dim_below in
          let net : after (phase n lab d s i) (spot n lab d s i) a.dim / 2 ≡ after (phase n lab d s k) (spot n lab d s k) b.dim / 2 =
          sym u.0 ∙ ap (λ (h : ℕ). h / 16) number ∙ v.0 in
          let dim : a.dim ≡ b.dim = sym u.1 ∙ ap (λ (h : ℕ). h % 16) number ∙ v.1 in
          same_channel net node dim

  crosses : Crosses n N j s d m lab before x list
  crosses =
      record {
        steps = λ k h. step_answered n N j s d m lab before ok k (omega (arith, count));
        ends = rw count ends;
        enters = λ k h. let l : k < K = omega (arith, count) in
            rw (ap (λ (q : Spot). q.node) (here k (omega arith))) (works_before n N j s d m lab before ok k l);
        ends_in = rw (count, ap (λ (q : Spot). q.node) (here K (omega arith))) (works_last n N j s d m lab before ok);
        few = omega (arith, count, few n N j s d m lab before ok);
        never_back = λ i k l h.
            let hk : k ≤ K = omega (arith, count) in
            omega (
              arith,
              pair-at i (omega arith),
              pair-at k hk,
              phase_rises n lab d s hs i k l (λ t q. running n N j s d m lab before ok t (omega arith)),
            );
        up_first = λ i k hi hk. up_first i k (omega (arith, count)) (omega (arith, count));
        once = λ i k l h. once i k l (omega (arith, count));
        behind = λ i h. byte_behind n N j s d m lab before ok i (omega (arith, count));
        long = list_long n N j s d m lab before ok;
      }

pub walk_crosses : WalkCrosses
walk_crosses = crosses

-- ---- more networks

module _ (n N M j s d m : ℕ) (lab : ℕ → ℕ) (before before' : List ℕ) (ok : cross_refusal n N j s d m (length before) lab ≡ 0)
    (l : N ≤ M) (top : M ≤ 5) (room : most_hops n M ≤ length before') where
  abbrev g : CrossGood n N j s d m (length before) lab
  g = cross_good n N j s d m (length before) lab ok

  same_hops : hops_on n M lab d s ≡ hops_on n N lab d s
  same_hops = same_walk n lab d s g.placed.first N M g.some l g.ends

  same_last : last_on n M lab d s ≡ last_on n N lab d s
  unfolding last_on
  same_last = ap (turn n lab d s) same_hops

  also_accepted : cross_refusal n M j s d m (length before') lab ≡ 0
  unfolding cross_refusal first is_board too_short
  also_accepted =
      rw (
        g.dimension,
        le-leb 1 M (omega (arith, g.some)),
        le-leb M 5 top,
        is-job j g.placed.halved.job,
        eq-eqb m (label_bytes n) g.placed.halved.sized,
        le-ltb (length before') (most_hops n M) room,
        lt-leb (2 ^ n) s g.placed.first,
        lt-leb (2 ^ n) d g.placed.second,
        some_none (2 ^ n) (λ y. ltb highest (lab y)) (λ y h. le-ltb highest (lab y) (g.low y h)),
        lt-leb 3 (lab s) (omega (arith, g.source)),
        ne_eqb (lab d) 3 g.target,
        same_last,
        g.ends,
      )

  more : (crossing n M j s d m (length before') lab ≡ crossing n N j s d m (length before) lab)
      × ((k : ℕ) → k < hops_of (crossing n N j s d m (length before) lab)
      → get_or (hops_after n M j s d m lab before') k 0 ≡ get_or (hops_after n N j s d m lab before) k 0)
  more = (
    answer_is n M j s d m lab before' also_accepted ∙ rw (same_hops, same_last) (sym (answer_is n N j s d m lab before ok)),
    λ k h.
        let q : k < hops_on n N lab d s = omega (arith, count_is n N j s d m lab before ok) in
        byte n M j s d m lab before' also_accepted k (omega (arith, same_hops)) ∙ sym (byte n N j s d m lab before ok k q),
  )

pub more_networks : MoreNetworks
more_networks = more
