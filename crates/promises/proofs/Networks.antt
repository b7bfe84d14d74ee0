-- Walks by networks, of any library that is faithful to the definitions.
use Rattle.std.specs.Prelude.{Result, Ok, Err}
use mathlib.Core.List.{List}
use mathlib.Core.Logic.{⊎_elim, ◌≢◌}
use mathlib.Core.Path.{◌≡◌, refl, sym, ap, ap₂, subst, ◌∙◌}
use Prim.Native.Nat.{ℕ, zero, suc, ◌*◌, ◌≤◌, ◌<◌}
use native.Mathlib.Omega.{arith}
use lib.ListN.{get_or, length}
use borrow.Author.Tests.{ne_eqb}
use Rattle.cube.specs.Tables.{label_in}
use Rattle.cube.proofs.Count.{below_suc}
use Rattle.jobs.specs.Jobs.{label_bytes, label_for}
use Rattle.rule.specs.Cabinet.{Cabinet}
use Rattle.hop.specs.declared.Decision.TheVariants.{Hop}
use Rattle.blocks.specs.Figure.{Chosen}
use Rattle.blocks.specs.Phase.{Channel, order}
use Rattle.blocks.proofs.Figure.{hop_chosen}
use Rattle.hop_networks.specs.Hopping.{hopped_in}
use Rattle.hop_networks.proofs.Local.{hop_in_local}
use Rattle.hop_networks.proofs.Outcomes.{decision_of}
use Rattle.walk_networks.specs.Crossing as C
use Rattle.walk_networks.specs.declared.Crossed.{Crossed}
use Rattle.cube.proofs.Refused.{number_range}
use Rattle.theorems.specs.Networks.{Crosses, Delivers5, Spot, channel_of}
use Rattle.theorems.specs.Words.{SomeSafe, Takes, Works}
use Rattle.theorems.proofs.Crossings.{more_networks, walk_crosses}
use Rattle.theorems.proofs.Networks.{five_deliver, hops_rise}
use Rattle.promises.specs.Answers.{Answers}
use Rattle.promises.specs.Library.{Library, c, rattle}
use Rattle.promises.specs.NetworkRefusals.{HopNetworksGiven, WalkNetworksGiven}
use Rattle.promises.specs.Networks.{Networks, Waiting}
use Rattle.promises.proofs.Alike.{hop_networks_alike, walk_networks_alike}
use Rattle.promises.proofs.Answers.{c_answers, rattle_answers}
use Rattle.promises.proofs.Demands.{left, some_safe}
use Rattle.promises.proofs.Given.{job_below}
use Rattle.promises.proofs.Library.{Faithful, c_faithful, rattle_faithful}
use Rattle.promises.proofs.NetworkRefusals.{network_refusals, walk-number}
use Rattle.promises.proofs.Waiting.{waits}
use Rattle.cube.specs.declared.refusals.Refusal.{Refusal}
use Rattle.cube.specs.Refused.{refused}
use Rattle.hop.specs.declared.Decision.{Decision}

module _ (lib : Library) (F : Faithful lib) (A : Answers lib) where
  -- what is refused is so by its table, and writes nothing
  kept_at : (n N j s d m : ℕ) (lab : ℕ → ℕ) (before : List ℕ) (r : Refusal) → C.crossing n N j s d m (length before) lab ≡ Err r
      → C.hops_after n N j s d m lab before ≡ before
  unfolding C.hops_after
  kept_at n N j s d m lab before r e =
      rw (ne_eqb (C.cross_refusal n N j s d m (length before) lab) 0
      (λ z. omega (arith, (number_range r).0, ap refused e, walk-number n N j s d m (length before) lab, z)))

  module _ {n N j s d : ℕ} {buffer before after : List ℕ} {x : Result Crossed Refusal} (v : lib.walks_networks n N j s d buffer before x after) (e : refused x ≡ 0) where
    abbrev lab : ℕ → ℕ
    lab = label_for n j buffer

    accepted : C.cross_refusal n N j s d (length buffer) (length before) lab ≡ 0
    accepted = walk-number n N j s d (length buffer) (length before) lab ∙ ap refused (sym (F.walks_networks v).0) ∙ e

    crosses : Crosses n N j s d (length buffer) lab before x after
    crosses =
        let f = F.walks_networks v in
        subst (λ (y : Result Crossed Refusal). Crosses n N j s d (length buffer) lab before y after) (sym f.0)
        (subst (Crosses n N j s d (length buffer) lab before (C.crossing n N j s d (length buffer) (length before) lab)) (sym f.1)
        (walk_crosses n N j s d (length buffer) lab before accepted))

  -- ---- waiting

  module _ {n : ℕ} {held wanted : Channel} (q : Waiting lib n held wanted) where
    -- where the message was decided to go on, i hops on
    abbrev chan : ℕ → Channel
    chan i = channel_of (q.at i).node (q.h i)

    one_on : (i : ℕ) → i < q.last → order n (chan i) < order n (chan (suc i))
    one_on i l =
        let a = q.asked i (omega arith) in
        let b = q.asked (suc i) l in
        let to = q.moves i l in
        omega (
          arith,
          hops_rise n a.0 b.0 a.1 b.1 q.d (length a.2) (length b.2) (label_for n a.1 a.2) (label_for n b.1 b.2) (q.at i) (q.h i)
              (q.h (suc i)) (sym (F.hops_networks a.3))
              (subst (λ (z : Spot). hopped_in n b.0 b.1 z.node q.d z.network z.down (length b.2) (label_for n b.1 b.2)
              ≡ Ok (Hop (q.h (suc i)))) to (sym (F.hops_networks b.3))),
          ap (λ (z : Spot). order n (channel_of z.node (q.h (suc i)))) to,
        )

    climbs : (i k : ℕ) → i < k → k ≤ q.last → order n (chan i) < order n (chan k)
    climbs i zero h l = absurd (omega arith)
    climbs i (suc k) h l =
        ⊎_elim (λ (e : i ≡ k). omega (arith, one_on k l, ap (λ (t : ℕ). order n (chan t)) e))
        (λ (u : i < k). omega (arith, one_on k l, climbs i k u (omega arith))) (below_suc h)

    waits_rise : order n held < order n wanted
    waits_rise = omega (arith, climbs q.earlier q.last q.before (omega arith), ap (order n) q.holds, ap (order n) q.wants)

  no_circle : {n : ℕ} (held : ℕ → Channel) (m : ℕ) → ((k : ℕ) → k ≤ m → Waiting lib n (held k) (held (suc k))) → held (suc m) ≢ held 0
  no_circle {n} held m w same = omega (arith, climb m w, ap (order n) same)
    where
      climb : (m : ℕ) → ((k : ℕ) → k ≤ m → Waiting lib n (held k) (held (suc k))) → order n (held 0) < order n (held (suc m))
      climb zero w = waits_rise (w 0 (omega arith))
      climb (suc m) w = omega (arith, climb m (λ k l. w k (omega arith)), waits_rise (w (suc m) (omega arith)))

  -- ---- with the labels that labelling left

  five :
      {K : Cabinet} {j exchanges s d : ℕ} {before buffer list after : List ℕ} {x : Result Crossed Refusal} → lib.labels K j before (Ok exchanges) buffer
      → SomeSafe K.n (label_for K.n j buffer) → Works K s → Takes K d → 10 * K.n ≤ length list
      → lib.walks_networks K.n 5 j s d buffer list x after → Delivers5 K (label_for K.n j buffer) s d x after
  five {K} {j} {exchanges} {s} {d} {before} {buffer} {list} {after} {x} m safe hs hd room v =
      let L = left lib F m in
      let f = F.walks_networks v in
      let D =
      five_deliver K j L.accepted (subst (λ (t : List ℕ). SomeSafe K.n (label_in t)) (sym L.bytes) safe) s d hs hd list (omega arith) in
      subst (λ (y : Result Crossed Refusal). Delivers5 K (label_for K.n j buffer) s d y after) (sym f.0)
      (subst (Delivers5 K (label_for K.n j buffer) s d (C.crossing K.n 5 j s d (length buffer) (length list) (label_for K.n j buffer))) (sym f.1)
      (subst (λ (k : ℕ). Delivers5 K (label_for K.n j buffer) s d (C.crossing K.n 5 j s d k (length list) (label_for K.n j buffer))
      (C.hops_after K.n 5 j s d k (label_for K.n j buffer) list)) (sym L.long)
      (subst (λ (t : List ℕ). Delivers5 K (label_in t) s d (C.crossing K.n 5 j s d (label_bytes K.n) (length list) (label_in t))
      (C.hops_after K.n 5 j s d (label_bytes K.n) (label_in t) list)) L.bytes D)))

  pub networks : Networks lib
  networks =
      record {
        hop-refusal = λ {n} {N} {j} {c} {d} {w} {g} {buffer} m.
            subst (λ (x : Result Decision Refusal). HopNetworksGiven n N j c d w g (length buffer) (label_for n j buffer) (refused x)) (sym (F.hops_networks m))
            (network_refusals.hop n N j c d w g (length buffer) (label_for n j buffer));
        walk-refusal = λ {n} {N} {j} {s} {d} {buffer} {before} v.
            subst (λ (x : Result Crossed Refusal). WalkNetworksGiven n N j s d (length buffer) (length before) (label_for n j buffer) (refused x))
            (sym (F.walks_networks v).0) (network_refusals.walk n N j s d (length buffer) (length before) (label_for n j buffer));
        kept = λ {n} {N} {j} {s} {d} {r} {buffer} {before} v. let f = F.walks_networks v in
            f.1 ∙ kept_at n N j s d (length buffer) (label_for n j buffer) before r (sym f.0);
        chosen = λ {n} {N} {j} {c} {d} {w} {g} {buffer} {x} m.
            let r = decision_of n N j c d w g (length buffer) (label_for n j buffer) x (sym (F.hops_networks m)) in
            subst (Chosen n (label_for n j buffer) c d w g) r.1 ((hop_chosen n (label_for n j buffer) c d w g).chosen r.0);
        hop_local = λ {n} {N} {j} {c} {d} {w} {g} {buffer} {buffer'} m m' long own near.
            F.hops_networks m ∙ ap (λ (k : ℕ). hopped_in n N j c d w g k (label_for n j buffer)) long
            ∙ hop_in_local n N j c d w g (length buffer') (label_for n j buffer) (label_for n j buffer') own near ∙ sym (F.hops_networks m');
        hop_own = λ {n} {N} {j} {c} {d} {w} {g} m m' s.
            F.hops_networks m ∙ ap₂ (λ (k : ℕ) (t : List ℕ). hopped_in n N j c d w g k (label_in t)) s.long s.own ∙ sym (F.hops_networks m');
        walk_own = λ {n} {N} {j} {s} {d} {l} {l'} {before} v v' e long.
            let f = F.walks_networks v in
            let g = F.walks_networks v' in (
              f.0 ∙ ap₂ (λ (k : ℕ) (t : List ℕ). C.crossing n N j s d k (length before) (label_in t)) e.long e.own
                  ∙ ap (λ (k : ℕ). C.crossing n N j s d (length l') k (label_for n j l')) long ∙ sym g.0,
              λ same. f.1 ∙ ap₂ (λ (k : ℕ) (t : List ℕ). C.hops_after n N j s d k (label_in t) before) e.long e.own
                  ∙ ap (C.hops_after n N j s d (length l') (label_for n j l')) same ∙ sym g.1,
            );
        hop_alike = λ {n} {N} {i} {j} {c} {d} {w} {g} a b m m' long own.
            F.hops_networks m ∙ hop_networks_alike (job_below a) (job_below b) n N c d w g _ _
            ∙ ap₂ (λ (k : ℕ) (t : List ℕ). hopped_in n N j c d w g k (label_in t)) long own ∙ sym (F.hops_networks m');
        walk_alike = λ {n} {N} {i} {j} {s} {d} {l} {l'} {before} a b v v' long own.
            let f = F.walks_networks v in
            let g = F.walks_networks v' in
            let e = walk_networks_alike (job_below a) (job_below b) n N s d (length l) (label_for n i l) before in (
              f.0 ∙ e.0 ∙ ap₂ (λ (k : ℕ) (t : List ℕ). C.crossing n N j s d k (length before) (label_in t)) long own ∙ sym g.0,
              f.1 ∙ e.1 ∙ ap₂ (λ (k : ℕ) (t : List ℕ). C.hops_after n N j s d k (label_in t) before) long own ∙ sym g.1,
            );
        crosses = λ v e. crosses v e;
        steps = λ {n} {N} {j} {s} {d} {k} v e h m. F.hops_networks m ∙ (crosses v e).steps k h;
        delivered = λ v m.
            ⊎_elim (λ a. (F.hops_networks m ∙ a.0, a.2)) (λ a. absurd (let e = a.1 in let z : ◌≡◌ {A = ℕ} 0 1 = cc in omega arith)) (crosses v refl).ends;
        halted = λ v m.
            ⊎_elim (λ a. absurd (let e = a.1 in let z : ◌≡◌ {A = ℕ} 0 1 = cc in omega arith)) (λ a. F.hops_networks m ∙ a.0) (crosses v refl).ends;
        more = λ {n} {N} {M} {j} {s} {d} {buffer} {before} {before'} v e l top room v'.
            let f = F.walks_networks v in
            let g = F.walks_networks v' in
            let r = more_networks n N M j s d (length buffer) (label_for n j buffer) before before' (accepted v e) l top room in (
              g.0 ∙ r.0 ∙ sym f.0,
              λ k h. ap (λ (t : List ℕ). get_or t k 0) g.1 ∙ r.1 k (omega (arith, ap C.hops_of f.0)) ∙ ap (λ (t : List ℕ). get_or t k 0) (sym f.1),
            );
        rises = λ {n} {N} {N'} {j} {j'} {d} {h} {h'} {buffer} {buffer'} q a b.
            hops_rise n N N' j j' d (length buffer) (length buffer') (label_for n j buffer) (label_for n j' buffer') q h h' (sym (F.hops_networks a))
            (sym (F.hops_networks b));
        no_circle = no_circle;
        waits = waits lib F A;
        five = λ m safe hs hd room v. five m safe hs hd room v;
        few_out = λ m few hs hd room v. five m (some_safe lib F m few) hs hd room v;
      }

pub rattle_networks : Networks rattle
rattle_networks = networks rattle rattle_faithful rattle_answers

pub c_networks : Networks c
c_networks = networks c c_faithful c_answers
