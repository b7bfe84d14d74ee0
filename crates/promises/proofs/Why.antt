-- Why, of any library that is faithful to the definitions. An answer that is not refused is the definition's reason. A neighbour that a cause names is a node, so
-- it is answered too: that it does not work, or that its round is smaller; and so whoever follows causes from answer to answer comes down.
use Rattle.std.specs.Prelude.{Result, Ok, Err}
use mathlib.Core.List.{List}
use mathlib.Core.Logic.{◌⊎◌, inl, inr, ⊎_elim, ◌≢◌}
use mathlib.Core.Bool.{true, false, not}
use mathlib.Core.Path.{◌≡◌, refl, sym, ap, subst, ◌∙◌}
use Prim.Native.Nat.{ℕ, zero, suc, ◌^◌, ◌≤◌, ◌<◌}
use native.Mathlib.Omega.{arith}
use lib.ListN.{length}
use Rattle.cube.specs.Count.{count}
use Rattle.cube.specs.Cube.{flip}
use Rattle.cube.proofs.Bools.{either}
use Rattle.cube.proofs.Cube.{flip_lt}
use Rattle.cube.specs.Tables.{label_in}
use Rattle.cube.proofs.Refused as cube
use Rattle.jobs.specs.Jobs.{half, label_for}
use Rattle.rule.specs.Cabinet.{Cabinet, labels_of, out, out_byte}
use Rattle.rule.specs.Rule.{label, marked, rounds, safe}
use Rattle.rule.proofs.Rounds.{marks_work}
use Rattle.causes.specs.Cause.{cause_of, round_of}
use Rattle.causes.specs.Laws.{Marked, MarkedBefore, Names}
use Rattle.causes.specs.declared.Cause.{Cause}
use Rattle.causes.proofs.Down.{cause_laws}
use Rattle.labels.specs.Labelling.{label_refusal, labelled, labels_after}
use Rattle.labels.proofs.Refusal.{fitting, labels_written, of_refused}
use Rattle.hop.specs.Hop.{hop_refusal}
use Rattle.why.specs.HopReasons as X
use Rattle.why.specs.Laws.{HopExplained, NodeExplained}
use Rattle.why.specs.NodeReasons as Y
use Rattle.why.specs.declared.HopReason.{HopReason}
use Rattle.why.specs.declared.NodeReason.{NodeReason}
use Rattle.why.specs.declared.NodeReason.TheVariants.{Safe, Unsafe, Out}
use Rattle.why.proofs.Hops.{reason_same}
use Rattle.why.proofs.Laws.{why_laws}
use Rattle.why.proofs.Refusal.{accepted, refuses_first, refuses_none}
use Rattle.hcube.proofs.Parts.{refuses}
use Rattle.promises.specs.Library.{Library, c, rattle}
use Rattle.promises.specs.Why.{Earlier, Followed, Whys, not_working, smaller_round}
use Rattle.promises.proofs.Left.{left, left_kept}
use Rattle.promises.proofs.Library.{Faithful, c_faithful, rattle_faithful}
use Rattle.promises.proofs.Refusals.{refusals}
use Rattle.cube.specs.declared.refusals.Refusal.{Refusal}
use Rattle.cube.specs.Refused.{number}

-- ---- the reason of a node

module _ (K : Cabinet) (x : ℕ) where
  abbrev n : ℕ
  n = K.n

  reason_out : out K x ≡ true → Y.reason_of K x ≡ Out (out_byte K x)
  unfolding Y.reason_of
  reason_out a = rw a

  reason_marked : Marked n K.rule (out K) x
      → Y.reason_of K x ≡ Unsafe (label n K.rule (out K) (out_byte K) x) (round_of n K.rule (out K) x) (cause_of n K.rule (out K) x)
  unfolding Y.reason_of safe
  reason_marked M = rw (marks_work n K.rule (out K) (rounds n K.rule (out K)) x M, M)

  reason_safe : out K x ≡ false → marked n K.rule (out K) (rounds n K.rule (out K)) x ≡ false
      → Y.reason_of K x ≡ Safe (count n (λ i. out K (flip i x))) (count n (λ i. not (safe n K.rule (out K) (flip i x))))
  unfolding Y.reason_of safe
  reason_safe a b = rw (a, b)

  -- an unsafe node has a mark, and the answer its round and its cause
  of_unsafe : (l r : ℕ) (c : Cause) → Y.reason_of K x ≡ Unsafe l r c
      → Marked n K.rule (out K) x × (round_of n K.rule (out K) x ≡ r) × (cause_of n K.rule (out K) x ≡ c)
  unfolding Y.reason_of safe
  of_unsafe l r c e = go (either (out K x)) (either (marked n K.rule (out K) (rounds n K.rule (out K)) x))
    where
      go : (out K x ≡ true) ⊎ (out K x ≡ false)
          → (marked n K.rule (out K) (rounds n K.rule (out K)) x ≡ true) ⊎ (marked n K.rule (out K) (rounds n K.rule (out K)) x ≡ false)
          → Marked n K.rule (out K) x × (round_of n K.rule (out K) x ≡ r) × (cause_of n K.rule (out K) x ≡ c)
      go (inl a) _ = let q : Out (out_byte K x) ≡ Unsafe l r c = rw a at e in let z : ◌≡◌ {A = ℕ} 0 1 = cc in absurd (omega arith)
      go (inr a) (inl b) =
          let q : Unsafe (label n K.rule (out K) (out_byte K) x) (round_of n K.rule (out K) x) (cause_of n K.rule (out K) x) ≡ Unsafe l r c =
          sym (reason_marked b) ∙ e in
          (b, cc, cc)
      go (inr a) (inr b) = let q = sym (reason_safe a b) ∙ e in let z : ◌≡◌ {A = ℕ} 0 1 = cc in absurd (omega arith)

-- ---- its question

module _ (K : Cabinet) (j m x : ℕ) where
  answered : Y.node_refusal K j m x ≡ 0 → Y.node_reason K j m x ≡ Ok (Y.reason_of K x)
  unfolding Y.node_reason
  answered e = cube.accepts _ (Y.reason_of K x) e

  reasoned : (a : NodeReason) → Y.node_reason K j m x ≡ Ok a → (Y.node_refusal K j m x ≡ 0) × (Y.reason_of K x ≡ a)
  unfolding Y.node_reason
  reasoned a e = cube.accepted _ (Y.reason_of K x) a e

  of_refused_node : (r : Refusal) → Y.node_reason K j m x ≡ Err r → Y.node_refusal K j m x ≢ 0
  unfolding Y.node_reason
  of_refused_node r e = cube.refusing _ (Y.reason_of K x) r e

  refused_too : (r : Refusal) → labelled K j m ≡ Err r → Y.node_reason K j m x ≡ Err r
  unfolding Y.node_reason
  refused_too r e =
      let q = of_refused K j m r e in
      refuses _ (Y.reason_of K x) r (sym (refuses_first K j m x (number r) q.0 q.1))

-- ---- of a library

module _ (lib : Library) (F : Faithful lib) where
  module _ {K : Cabinet} {j x : ℕ} {before after : List ℕ} {a : NodeReason} (m : lib.why_nodes K j x before (Ok a) after) where
    -- one that is not refused is the reason, and labelling accepts
    is_reason : (Y.node_refusal K j (length before) x ≡ 0) × (Y.reason_of K x ≡ a)
    is_reason = reasoned K j (length before) x a (sym (F.why_nodes m).0)

    good : (label_refusal K j (length before) ≡ 0) × (x < 2 ^ K.n)
    good = accepted K j (length before) x is_reason.0

    is_left : after ≡ labels_after K j before
    is_left = (F.why_nodes m).1 ∙ left K j x before is_reason.0

    node : NodeExplained K (label_for K.n j after) x a
    node =
        let r = (fitting K j (length before) good.0).rule in
        let bytes : half j (2 ^ K.n) after ≡ labels_of K = ap (half j (2 ^ K.n)) is_left ∙ labels_written K j before good.0 in
        rw bytes (subst (NodeExplained K (label_in (labels_of K)) x) is_reason.1 (why_laws.node K r.0 r.1 x good.1))

  -- whoever asks about a node of the cube, with buffers of that length, is answered its reason
  reason_again : {K : Cabinet} {j y m : ℕ} {before after : List ℕ} {b : Result NodeReason Refusal} → lib.why_nodes K j y before b after → length before ≡ m
      → label_refusal K j m ≡ 0 → y < 2 ^ K.n → b ≡ Ok (Y.reason_of K y)
  reason_again {K} {j} {y} {m} {before} v e z h =
      (F.why_nodes v).0 ∙ answered K j (length before) y (sym (refuses_none K j (length before) y (ap (label_refusal K j) e ∙ z) h))

  module _ {K : Cabinet} {j x l r : ℕ} {c : Cause} {before after : List ℕ} (m : lib.why_nodes K j x before (Ok (Unsafe l r c)) after) where
    unsafe : Marked K.n K.rule (out K) x × (round_of K.n K.rule (out K) x ≡ r) × (cause_of K.n K.rule (out K) x ≡ c)
    unsafe = of_unsafe K x l r c (is_reason m).1

    one_at_least : 1 ≤ r
    one_at_least =
        let k = (fitting K j (length before) (good m).0).rule in
        omega (arith, unsafe.1, ((cause_laws K.n K.rule (out K) k.0 k.1).round x unsafe.0).one)

    named : {before' after' : List ℕ} {b : Result NodeReason Refusal} (i : ℕ) → Names c i → length before ≡ length before'
        → lib.why_nodes K j (flip i x) before' b after' → Earlier r b
    named {before'} {after'} {b} i t e v =
        let g = good m in
        let k = (fitting K j (length before) g.0).rule in
        let C = cause_laws K.n K.rule (out K) k.0 k.1 in
        let names = subst (λ (u : Cause). Names u i) (sym unsafe.2) t in
        let inside = flip_lt K.n i x (C.inside x unsafe.0 i names) g.1 in
        let is = reason_again v (sym e) g.0 inside in
        ⊎_elim
        (λ (o : out K (flip i x) ≡ true). rw (is ∙ ap Ok (reason_out K (flip i x) o)) not_working)
        (λ (p : MarkedBefore K.n K.rule (out K) x (flip i x)). rw (is ∙ ap Ok (reason_marked K (flip i x) p.0)) (smaller_round {r' = round_of K.n K.rule (out K) (flip i x)} (omega (arith, p.1, unsafe.1))))
        (C.leads x (flip i x) unsafe.0 (i, names, refl))

  -- from answer to answer: the round falls, and most bounds the first
  abbrev Comes : (r : ℕ) (a : ℕ → Result NodeReason Refusal) → Type 0
  Comes r a = (t : ℕ) × (t ≤ r) × ((l : ℕ) × (a t ≡ Ok (Out l))) × ((s : ℕ) → s < t → (l r : ℕ) × (c : Cause) × (a s ≡ Ok (Unsafe l r c)))

  comes_down : (most : ℕ) (K : Cabinet) (j l r m : ℕ) (c : Cause) (at : ℕ → ℕ) (a : ℕ → Result NodeReason Refusal) (before after : ℕ → List ℕ)
      → ((t : ℕ) → lib.why_nodes K j (at t) (before t) (a t) (after t)) → ((t : ℕ) → length (before t) ≡ m)
      → a 0 ≡ Ok (Unsafe l r c) → ((t : ℕ) → Followed (a t) (at t) (at (suc t))) → r ≤ most → Comes r a
  comes_down zero K j l r m c at a before after asked long e follow h =
      absurd (omega (arith, one_at_least (subst (λ (b : Result NodeReason Refusal). lib.why_nodes K j (at 0) (before 0) b (after 0)) e (asked 0))))
  comes_down (suc most) K j l r m c at a before after asked long e follow h =
      step
      (λ l' r' c' q o. comes_down most K j l' r' m c' (λ t. at (suc t)) (λ t. a (suc t)) (λ t. before (suc t)) (λ t. after (suc t)) (λ t. asked (suc t))
      (λ t. long (suc t)) q (λ t. follow (suc t)) o)
      (a 1) refl earlier
    where
      first : lib.why_nodes K j (at 0) (before 0) (Ok (Unsafe l r c)) (after 0)
      first = subst (λ (b : Result NodeReason Refusal). lib.why_nodes K j (at 0) (before 0) b (after 0)) e (asked 0)

      way : (i : ℕ) × Names c i × (at 1 ≡ flip i (at 0))
      way = follow 0 l r c e

      earlier : Earlier r (a 1)
      earlier =
          named first way.0 way.1 (long 0 ∙ sym (long 1))
          (subst (λ (y : ℕ). lib.why_nodes K j y (before 1) (a 1) (after 1)) way.2 (asked 1))

      before_it : (t s : ℕ) → ((s : ℕ) → s < t → (l r : ℕ) × (c : Cause) × (a (suc s) ≡ Ok (Unsafe l r c))) → s < suc t
          → (l r : ℕ) × (c : Cause) × (a s ≡ Ok (Unsafe l r c))
      before_it t zero f o = (l, r, c, e)
      before_it t (suc s) f o = f s (omega arith)

      on : {r' : ℕ} → r' < r → Comes r' (λ t. a (suc t)) → Comes r a
      on o k = (suc k.0, omega (arith, k.1), k.2, λ s. before_it k.0 s k.3)

      step : ((l' r' : ℕ) (c' : Cause) → a 1 ≡ Ok (Unsafe l' r' c') → r' ≤ most → Comes r' (λ t. a (suc t))) → (b : Result NodeReason Refusal) → a 1 ≡ b → Earlier r b → Comes r a
      step again _ q (not_working {l = l'}) = (1, one_at_least first, (l', q), λ s o. before_it 0 s (λ i p. absurd (omega arith)) o)
      step again _ q (smaller_round {l = l'} {r' = r'} {c = c'} o) = on o (again l' r' c' q (omega arith))

  -- ---- a hop

  hop : {n j c d : ℕ} {buffer : List ℕ} {a : HopReason} → lib.why_hops n j c d buffer (Ok a) → HopExplained n (label_for n j buffer) c d a
  unfolding X.hop_reason
  hop {n} {j} {c} {d} {buffer} {a} m =
      let lab : ℕ → ℕ = label_for n j buffer in
      let p = cube.accepted (hop_refusal n j c d (length buffer) lab) (X.explain n c d (lab c) (λ i. lab (flip i c))) a (sym (F.why_hops m)) in
      subst (HopExplained n lab c d) p.1 (why_laws.hop n lab c d)

  whys : Whys lib
  whys =
      record {
        node-refusal = λ {K} {j} {x} {before} m. rw (F.why_nodes m).0 (refusals.why-node K j (length before) x);
        labels_kept = λ {K} {j} {x} {r} {before} m.
            (F.why_nodes m).1 ∙ left_kept K j x before (of_refused_node K j (length before) x r (sym (F.why_nodes m).0));
        labels-left = λ m v. is_left m ∙ sym (F.labels v).1;
        refused_alike = λ {K} {j} {x} {r} {before} m v. (F.why_nodes m).0 ∙ refused_too K j (length before) x r (sym (F.labels v).0);
        node = λ m. node m;
        named = λ m. named m;
        down = λ {K} {j} {l} {r} {m} {c} at a before after asked long e follow.
            comes_down r K j l r m c at a before after asked long e follow (omega arith);
        hop-refusal = λ {n} {j} {c} {d} {buffer} m. rw (F.why_hops m) (refusals.why-hop n j c d (length buffer) (label_for n j buffer));
        same_hop = λ {n} {j} {c} {d} {buffer} m v.
            ap X.without_scan (F.why_hops m) ∙ why_laws.same_hop n j c d (length buffer) (label_for n j buffer) ∙ sym (F.hops v);
        hop = hop;
        hop_local = λ {n} {j} {c} {d} {buffer} {buffer'} m v e own near.
            F.why_hops m ∙ reason_same n j c d (length buffer) (label_for n j buffer) (label_for n j buffer') own near
            ∙ ap (λ (k : ℕ). X.hop_reason n j c d k (label_for n j buffer')) e ∙ sym (F.why_hops v);
      }

pub rattle_whys : Whys rattle
rattle_whys = whys rattle rattle_faithful

pub c_whys : Whys c
c_whys = whys c c_faithful
