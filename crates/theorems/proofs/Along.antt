-- A walk by networks that is not refused, read off its bytes: after the first k of them the message is where the walk is after k hops, in its network and
-- direction; so the hop question, asked there, is not refused and decides as the walk does.
use mathlib.Core.Bool.{true, false, not, ◌&&◌, and-false}
use mathlib.Core.List.{List}
use mathlib.Core.Logic.{inl, inr, ⊎_elim}
use mathlib.Core.Path.{◌≡◌, refl, sym, ap, ap₂, ◌∙◌}
use Prim.Native.Nat.{ℕ, zero, suc, ◌*◌, ◌/◌, ◌%◌, ◌^◌, ◌≤◌, ◌<◌}
use native.Mathlib.Omega.{arith}
use lib.Dec.{eqb, ltb}
use lib.ListN.{get_or, length}
use borrow.Author.Tests.{eq-eqb, le-leb, le-ltb, lt-leb, ne_eqb}
use Rattle.cube.specs.Cube.{flip}
use Rattle.cube.specs.Over.{over}
use Rattle.cube.specs.Refusal.{first}
use Rattle.cube.specs.Tables.{highest}
use Rattle.cube.proofs.Bools.{clash}
use Rattle.cube.proofs.Cube.{flip_lt}
use Rattle.cube.proofs.Front.{front, front_after, front_before, length_front, length_tab}
use Rattle.cube.proofs.Search.{some_none}
use Rattle.jobs.specs.Jobs.{label_bytes}
use Rattle.jobs.proofs.Halves.{is-job}
use Rattle.scans.specs.Progress.{WorksOrEnds}
use Rattle.hop.specs.declared.Decision.{Decision}
use Rattle.hop.specs.declared.Decision.TheVariants.{Deliver, Hop, Halted}
use Rattle.walk.specs.Walk.{stops}
use Rattle.blocks.specs.Board.{beyond, hop_list, hops_on, last_on, most_hops, number_at, numbered}
use Rattle.blocks.specs.Course.{phase, place, spot, turn}
use Rattle.blocks.specs.Phase.{after, channel_number, phase_of}
use Rattle.blocks.proofs.Board.{Walks, beyond_is, walks}
use Rattle.blocks.proofs.Calls.{away, enters}
use Rattle.blocks.proofs.Phases.{after_odd}
use Rattle.blocks.proofs.Rising.{Step, node_lt, spot_zero, step}
use Rattle.hop_networks.specs.Hopping.{hop_refusal_in, hopped_in, is_board, lacks}
use Rattle.walk_networks.specs.Crossing.{cross_refusal, crossing, ended_by, hops_after, hops_of}
use Rattle.walk_networks.proofs.Outcomes.{CrossGood, cross_good}
use Rattle.walk_networks.proofs.Refusals.{hops-of}
use Rattle.theorems.specs.Networks.{DecidesIn, Spot, across, along}

-- the byte of a hop taken apart
pub number_parts : (n p c i : ℕ) → n ≤ 12 → i < n → (channel_number p c i / 16 ≡ after p c i / 2) × (channel_number p c i % 16 ≡ i)
unfolding channel_number
number_parts n p c i small h = (omega arith, omega arith)

-- a decision that ends a walk needs no network
none_beyond : (N p c : ℕ) (x : Decision) → stops x ≡ true → beyond N p c x ≡ false
unfolding stops beyond
none_beyond N p c Deliver e = refl
none_beyond N p c (Hop i) e = absurd (clash e refl)
none_beyond N p c Halted e = refl

module _ (n N j s d m : ℕ) (lab : ℕ → ℕ) (before : List ℕ) (ok : cross_refusal n N j s d m (length before) lab ≡ 0) where
  abbrev G : CrossGood n N j s d m (length before) lab
  G = cross_good n N j s d m (length before) lab ok

  abbrev hs : s < 2 ^ n
  hs = G.placed.first

  abbrev small : n ≤ 12
  small = G.placed.halved.small

  abbrev K : ℕ
  K = hops_on n N lab d s

  abbrev W : Walks n lab d s hs N G.some
  W = walks n lab d s hs N G.some

  abbrev list : List ℕ
  list = hops_after n N j s d m lab before

  -- ---- the answer

  pub answer_is : crossing n N j s d m (length before) lab ≡ ended_by K (last_on n N lab d s)
  unfolding crossing
  answer_is = rw ok

  pub count_is : hops_of (crossing n N j s d m (length before) lab) ≡ K
  count_is = ap hops_of answer_is ∙ hops-of K (last_on n N lab d s) G.ends

  list_is : list ≡ front (number_at n lab d s) K before
  unfolding hops_after over hop_list front
  list_is = rw (ok, length_tab K (number_at n lab d s))

  pub byte : (k : ℕ) → k < K → get_or list k 0 ≡ number_at n lab d s k
  byte k h = ap (λ (l : List ℕ). get_or l k 0) list_is ∙ front_before (number_at n lab d s) K before k h

  pub byte_behind : (k : ℕ) → K ≤ k → get_or list k 0 ≡ get_or before k 0
  byte_behind k h = ap (λ (l : List ℕ). get_or l k 0) list_is ∙ front_after (number_at n lab d s) K before k h

  pub list_long : length list ≡ length before
  list_long = ap length list_is ∙ length_front (number_at n lab d s) K before (omega (arith, W.within, G.room_enough))

  -- ---- where the message is

  pub running : (k : ℕ) → k < K → stops (turn n lab d s k) ≡ false
  running = W.runs

  pub stepped : (k : ℕ) → k < K → Step n lab d s hs k
  stepped k h = step n lab d s hs k (W.runs k h)

  pub number_is : (k : ℕ) (h : k < K) → number_at n lab d s k ≡ channel_number (phase n lab d s k) (spot n lab d s k) (stepped k h).dim
  unfolding number_at numbered
  number_is k h = rw (stepped k h).decided

  pub few : K ≤ most_hops n N
  few = W.within

  pub inside : (k : ℕ) → k ≤ K → spot n lab d s k < 2 ^ n
  inside k h = node_lt n lab d s hs k (λ i l. W.runs i (omega arith))

  abbrev there : ℕ → Spot
  there k = record { node = spot n lab d s k; network = phase n lab d s k / 2; down = phase n lab d s k % 2 }

  pub along_is : (k : ℕ) → k ≤ K → along list s k ≡ there k
  unfolding along across place
  along_is zero h = refl
  along_is (suc k) h =
      let r = stepped k h in
      let p = phase n lab d s k in
      let c = spot n lab d s k in
      let e : get_or list k 0 ≡ channel_number p c r.dim = byte k h ∙ number_is k h in
      let q = number_parts n p c r.dim small r.dim_below in
      ap₂ across e (along_is k (omega arith)) ∙ rw (q.0, q.1, r.node_is, r.phase_is, after_odd p c r.dim)

  -- ---- the hop question there

  works : (k : ℕ) → k ≤ K → WorksOrEnds lab d (spot n lab d s k)
  works zero h = inl (omega (arith, ap lab (spot_zero n lab d s), G.source))
  works (suc k) h =
      let r = stepped k h in
      rw r.node_is (enters n lab d (phase n lab d s k) (spot n lab d s k) r.dim r.decided)

  -- before the last the node works, for no hop is made at the destination
  pub works_before : (k : ℕ) → k < K → lab (spot n lab d s k) ≤ 2
  works_before k h =
      let r = stepped k h in
      ⊎_elim (λ (l : lab (spot n lab d s k) ≤ 2). l)
      (λ (e : spot n lab d s k ≡ d). absurd (away n lab d (phase n lab d s k) (spot n lab d s k) r.dim r.decided e)) (works k (omega arith))

  pub works_last : WorksOrEnds lab d (spot n lab d s K)
  works_last = works K (omega arith)

  not_six : (k : ℕ) → k ≤ K → (eqb (lab (spot n lab d s k)) 3 ≡ false) × ((eqb (lab (spot n lab d s k)) 4 && not (eqb (spot n lab d s k) d)) ≡ false)
  not_six k h = go (works k h)
    where
      go : WorksOrEnds lab d (spot n lab d s k) → (eqb (lab (spot n lab d s k)) 3 ≡ false) × ((eqb (lab (spot n lab d s k)) 4 && not (eqb (spot n lab d s k) d)) ≡ false)
      go (inl l) = (ne_eqb (lab (spot n lab d s k)) 3 (λ e. omega arith), rw (ne_eqb (lab (spot n lab d s k)) 4 (λ e. omega arith)))
      go (inr e) = (ne_eqb (lab (spot n lab d s k)) 3 (λ q. G.target (ap lab (sym e) ∙ q)), rw (eq-eqb (spot n lab d s k) d e) (and-false (eqb (lab (spot n lab d s k)) 4)))

  -- the pair of network and direction as one number again
  pub pair_is : (k : ℕ) → phase_of (phase n lab d s k / 2) (phase n lab d s k % 2) ≡ phase n lab d s k
  pair_is k = omega arith

  accepted : (k : ℕ) → k ≤ K → beyond N (phase n lab d s k) (spot n lab d s k) (turn n lab d s k) ≡ false
      → hop_refusal_in n N j (spot n lab d s k) d (phase n lab d s k / 2) (phase n lab d s k % 2) m lab ≡ 0
  unfolding hop_refusal_in first lacks is_board
  accepted k h b =
      let l = W.phases k h in
      rw (
        G.dimension,
        le-leb 1 N G.some,
        le-leb N 5 G.few,
        lt-leb N (phase n lab d s k / 2) (omega arith),
        le-ltb 1 (phase n lab d s k % 2) (omega arith),
        is-job j G.placed.halved.job,
        eq-eqb m (label_bytes n) G.placed.halved.sized,
        lt-leb (2 ^ n) (spot n lab d s k) (inside k h),
        lt-leb (2 ^ n) d G.placed.second,
        le-ltb highest (lab (spot n lab d s k)) (G.low (spot n lab d s k) (inside k h)),
        some_none n (λ i. ltb highest (lab (flip i (spot n lab d s k))))
            (λ i q. le-ltb highest (lab (flip i (spot n lab d s k))) (G.low (flip i (spot n lab d s k)) (flip_lt n i (spot n lab d s k) q (inside k h)))),
        (not_six k h).0,
        (not_six k h).1,
        pair_is k,
        b,
      )

  answered : (k : ℕ) → k ≤ K → beyond N (phase n lab d s k) (spot n lab d s k) (turn n lab d s k) ≡ false
      → DecidesIn n N j d m lab (along list s k) (numbered (phase n lab d s k) (spot n lab d s k) (turn n lab d s k))
  unfolding hopped_in
  answered k h b = rw (along_is k h, accepted k h b, pair_is k)

  pub step_answered : (k : ℕ) → k < K → DecidesIn n N j d m lab (along list s k) (Hop (get_or list k 0))
  unfolding numbered
  step_answered k h =
      let r = stepped k h in
      let b = beyond_is n lab d s hs N k (W.runs k h) ∙ lt-leb (2 * N) (phase n lab d s (suc k)) (W.phases (suc k) h) in
      rw (byte k h ∙ number_is k h) (rw r.decided at (answered k (omega arith) b))

  pub last_answered : DecidesIn n N j d m lab (along list s K) (numbered (phase n lab d s K) (spot n lab d s K) (last_on n N lab d s))
  unfolding last_on
  last_answered = answered K (omega arith) (none_beyond N (phase n lab d s K) (spot n lab d s K) (turn n lab d s K) G.ends)
