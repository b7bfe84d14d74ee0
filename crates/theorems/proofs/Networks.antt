-- The order of the channels, which every hop raises, and theorem 7 with the labels of an accepted cabinet.
use mathlib.Core.Bool.{true}
use mathlib.Core.List.{List}
use mathlib.Core.Logic.{⊎_elim}
use mathlib.Core.Path.{◌≡◌, refl, sym, ap, ap₂, ◌∙◌}
use Prim.Native.Nat.{ℕ, ◌/◌, ◌%◌, ◌^◌, ◌≤◌, ◌<◌}
use native.Mathlib.Omega.{arith}
use lib.Dec.{ltb}
use lib.ListN.{length}
use borrow.Author.Tests.{eq-eqb, le-ltb, lt-leb, ne_eqb}
use Rattle.cube.specs.Cube.{flip}
use Rattle.cube.specs.Refusal.{first}
use Rattle.cube.specs.Tables.{highest}
use Rattle.cube.proofs.Search.{some_none}
use Rattle.jobs.specs.Jobs.{label_bytes}
use Rattle.rule.specs.Cabinet.{Cabinet}
use Rattle.rule.proofs.Cabinet.{label-bytes}
use Rattle.scans.specs.Hit.{Draining}
use Rattle.scans.specs.Progress.{Receives}
use Rattle.walk.specs.Walk.{stops}
use Rattle.blocks.specs.Blocks.{hop_in}
use Rattle.blocks.specs.Board.{hops_on, last_on, most_hops}
use Rattle.blocks.specs.Course.{spot}
use Rattle.blocks.specs.Laws.{FiveEnough}
use Rattle.blocks.specs.Phase.{after, channel, order, phase_of}
use Rattle.blocks.proofs.Laws.{theorem_7}
use Rattle.blocks.proofs.Phases.{after_odd}
use Rattle.blocks.proofs.Rising.{hop_rises}
use Rattle.hop_networks.specs.Hopping.{is_board}
use Rattle.hop_networks.proofs.Outcomes.{HopOf, hop_of}
use Rattle.walk_networks.specs.Crossing.{cross_refusal, crossing, ended_by, hops_after, too_short}
use Rattle.theorems.specs.Networks.{Delivers5, FiveDeliver, HopsRise, Spot, across, channel_of}
use Rattle.theorems.specs.Words.{SomeSafe, Takes, Works, label_at}
use Rattle.theorems.proofs.Along.{
  along_is,
  answer_is,
  count_is,
  inside,
  number_parts,
  works_before,
}
use Rattle.theorems.proofs.Crossings.{same_channel}
use Rattle.theorems.proofs.Demand3.{Table, table, works_at}

-- ---- the order of the channels

-- the hop's channel, and where it leads
channel_is : {n N c d p : ℕ} {lab : ℕ → ℕ} {h : ℕ} (r : HopOf n N c d p lab h) → channel_of c h ≡ channel p c r.dim
channel_is {n} {N} {c} {d} {p} {lab} {h} r =
    let q = number_parts n p c r.dim r.small r.below in
    let e : h / 16 ≡ after p c r.dim / 2 = ap (λ (z : ℕ). z / 16) r.number ∙ q.0 in
    let f : h % 16 ≡ r.dim = ap (λ (z : ℕ). z % 16) r.number ∙ q.1 in
    same_channel e refl f

leads : {n N d : ℕ} {lab : ℕ → ℕ} {h : ℕ} (q : Spot) (r : HopOf n N q.node d (phase_of q.network q.down) lab h)
    → ((across h q).node ≡ flip r.dim q.node)
    × (phase_of (across h q).network (across h q).down ≡ after (phase_of q.network q.down) q.node r.dim)
unfolding across
leads {n} {N} {d} {lab} {h} q r =
    let p = phase_of q.network q.down in
    let t = number_parts n p q.node r.dim r.small r.below in
    let e : h / 16 ≡ after p q.node r.dim / 2 = ap (λ (z : ℕ). z / 16) r.number ∙ t.0 in
    let f : h % 16 ≡ r.dim = ap (λ (z : ℕ). z % 16) r.number ∙ t.1 in
    (rw f, rw f (omega (arith, e, after_odd p q.node r.dim)))

pub hops_rise : HopsRise
hops_rise n N N' j j' d m m' lab lab' q h h' a b =
    let r = hop_of n N j q.node d q.network q.down m lab h a in
    let t = hop_of n N' j' (across h q).node d (across h q).network (across h q).down m' lab' h' b in
    let z = leads q r in
    let p = phase_of q.network q.down in
    let next = ap₂ (hop_in n lab' d) (sym z.1) (sym z.0) ∙ t.decided in
    omega (
      arith,
      ap (order n) (channel_is r),
      ap (order n) (channel_is t),
      ap₂ (λ (a c : ℕ). order n (channel a c t.dim)) z.1 z.0,
      hop_rises n lab lab' d p q.node r.dim t.dim r.inside r.decided next,
    )

-- ---- theorem 7

module _ (C : Cabinet) (j : ℕ) (T : Table C j) (safe : SomeSafe C.n (label_at C)) (s d : ℕ) (hs : Works C s) (hd : Takes C d) (before : List ℕ)
    (room : most_hops C.n 5 ≤ length before) where
  abbrev n : ℕ
  n = C.n

  abbrev lab : ℕ → ℕ
  lab = label_at C

  abbrev ws : lab s ≤ 2
  ws = T.working s hs.0 hs.1

  abbrev wd : Receives (lab d)
  wd = T.receives d hd.0 hd.1

  five : FiveEnough n lab s d
  five = theorem_7 n lab T.good safe.0 safe.1 safe.2 s d hs.0 ws hd.0 wd

  ended : stops (last_on n 5 lab d s) ≡ true
  unfolding stops
  ended = ap stops (five.delivers 5 (omega arith))

  accepted : cross_refusal n 5 j s d (label_bytes n) (length before) lab ≡ 0
  unfolding cross_refusal first is_board too_short
  accepted =
      rw (
        T.dimension,
        T.job,
        eq-eqb (label_bytes n) (label_bytes n) refl,
        le-ltb (length before) (most_hops n 5) room,
        lt-leb (2 ^ n) s hs.0,
        lt-leb (2 ^ n) d hd.0,
        some_none (2 ^ n) (λ y. ltb highest (lab y)) (λ y h. le-ltb highest (lab y) (label-bytes C y h)),
        lt-leb 3 (lab s) (omega (arith, ws)),
        ne_eqb (lab d) 3 (λ e. ⊎_elim (λ (l : lab d ≤ 2). omega arith) (λ (q : Draining (lab d)). omega arith) wd),
        ended,
      )

  delivers5 : Delivers5 C lab s d (crossing n 5 j s d (label_bytes n) (length before) lab) (hops_after n 5 j s d (label_bytes n) lab before)
  unfolding ended_by
  delivers5 =
      let c = count_is n 5 j s d (label_bytes n) lab before accepted in
      let h = five.same_hops 5 (omega arith) in
      let A = five.arrives in
      record {
        delivered = answer_is n 5 j s d (label_bytes n) lab before accepted ∙ rw (five.delivers 5 (omega arith), c);
        there = rw c (ap (λ (q : Spot). q.node) (along_is n 5 j s d (label_bytes n) lab before accepted (hops_on n 5 lab d s) (omega arith)) ∙ rw h A.there);
        works = λ k l.
            let q : k < hops_on n 5 lab d s = omega (arith, c) in
            rw (ap (λ (z : Spot). z.node) (along_is n 5 j s d (label_bytes n) lab before accepted k (omega arith)))
            (works_at C j T (spot n lab d s k) (inside n 5 j s d (label_bytes n) lab before accepted k (omega arith))
            (works_before n 5 j s d (label_bytes n) lab before accepted k q));
        even = (A.extra, A.few, omega (arith, c, h, A.exact));
        exact = λ e. omega (arith, c, h, A.exact, A.few);
      }

pub five_deliver : FiveDeliver
five_deliver K j ok = delivers5 K j (table K j ok)
