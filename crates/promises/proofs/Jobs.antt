-- Two jobs, of any library that is faithful to the definitions. Each question is defined on the half of its job and the buffer's length, so buffers that
-- agree in these are answered alike; and what labelling leaves is the buffer with another half of its own job.
use Rattle.std.specs.Prelude.{Result, Ok}
use mathlib.Core.Bool.{Bool, cond, ◌||◌}
use mathlib.Core.List.{List}
use mathlib.Core.Logic.{◌≢◌}
use mathlib.Core.Path.{◌≡◌, refl, sym, ap, ap₂, fun_ext, subst, ◌∙◌}
use Prim.Native.Nat.{ℕ, ◌*◌, ◌^◌, ◌<◌}
use native.Mathlib.Decide.{ℕ_discrete}
use native.Mathlib.Omega.{arith}
use lib.ListN.{length}
use Rattle.cube.specs.Tables.{label_in, node_bit, tab}
use Rattle.jobs.specs.Jobs.{half, label_for, with_half}
use Rattle.jobs.proofs.Laws.{halves_alike}
use Rattle.rule.specs.Cabinet.{Cabinet, exchanges_of, faulty, labels_of, out, out_byte}
use Rattle.rule.specs.Rule.{exchanges, label}
use Rattle.labels.specs.Labelling.{labelled, labels_after}
use Rattle.labels.proofs.Refusal.{buffer_sized, fitting, length_kept, of_exchanges}
use Rattle.hop.specs.Hop.{hopped}
use Rattle.why.specs.HopReasons.{hop_reason}
use Rattle.why.specs.NodeReasons.{node_reason}
use Rattle.why.specs.declared.NodeReason.{NodeReason}
use Rattle.walk.specs.Walk.{row_bytes, walked}
use Rattle.walk.specs.declared.Walked.{Walked}
use Rattle.theorems.specs.Demand3.{Walks}
use Rattle.theorems.specs.Words.{Takes, Works}
use Rattle.promises.specs.Answers.{Answers}
use Rattle.promises.specs.Demands.{Demands}
use Rattle.promises.specs.Jobs.{Jobs, Meanwhile, SameTo, another, another_why, nothing}
use Rattle.promises.specs.Library.{Library, rattle, c}
use Rattle.promises.proofs.Alike.{hop_alike, label_alike, walk_alike, why_hop_alike, why_node_alike}
use Rattle.promises.proofs.Answers.{c_answers, rattle_answers}
use Rattle.promises.proofs.BothJobs.{BothHold, both_hold}
use Rattle.promises.proofs.Demands.{c_demands, rattle_demands}
use Rattle.promises.proofs.Given.{job_below}
use Rattle.promises.proofs.Left.{kept, left_other, left_same, other_same, own_same, same_after, written}
use Rattle.promises.proofs.Library.{Faithful, rattle_faithful, c_faithful}
use Rattle.cube.specs.declared.refusals.Refusal.{Refusal}
use Rattle.hop.specs.declared.Decision.{Decision}

-- ---- the labels go by which nodes do not work, and by which of these drain

module _
    (K K' : Cabinet) (en : K.n ≡ K'.n) (er : K.rule ≡ K'.rule) (ed : K.draining ≡ K'.draining) (same : (x : ℕ) → faulty K x ≡ faulty K' x)
  where
    out_same : out K ≡ out K'
    out_same = fun_ext (λ x. ap₂ (λ (a b : Bool). a || b) (same x) (ap (λ (t : List ℕ). node_bit t x) ed))

    byte_same : out_byte K ≡ out_byte K'
    byte_same = fun_ext (λ x. ap (λ (a : Bool). cond a 3 4) (same x))

    exchanges_same : exchanges_of K ≡ exchanges_of K'
    unfolding exchanges_of
    exchanges_same = ap₂ (λ (n k : ℕ). exchanges n k (out K)) en er ∙ ap (exchanges K'.n K'.rule) out_same

    labels_same : labels_of K ≡ labels_of K'
    unfolding labels_of
    labels_same =
        ap₂ (λ (n k : ℕ). tab (2 ^ n) (label n k (out K) (out_byte K))) en er
        ∙ ap₂ (λ (F : ℕ → Bool) (b : ℕ → ℕ). tab (2 ^ K'.n) (label K'.n K'.rule F b)) out_same byte_same

-- ---- one job after the other

module _ (K₀ K₁ : Cabinet) (e : K₀.n ≡ K₁.n) (l : List ℕ) where
  abbrev size : ℕ
  size = 2 ^ K₀.n

  -- job 0 first, and job 1 first
  abbrev first_0 : List ℕ
  first_0 = labels_after K₁ 1 (labels_after K₀ 0 l)

  abbrev first_1 : List ℕ
  first_1 = labels_after K₀ 0 (labels_after K₁ 1 l)

  -- what one leaves is the same to the other
  to_0 : (t : List ℕ) → SameTo K₀.n 0 t (labels_after K₁ 1 t)
  to_0 t = subst (λ (k : ℕ). SameTo k 0 t (labels_after K₁ 1 t)) (sym e) (other_same K₁ 1 0 (omega arith) (λ q. omega arith) t)

  to_1 : (t : List ℕ) → SameTo K₁.n 1 t (labels_after K₀ 0 t)
  to_1 t = subst (λ (k : ℕ). SameTo k 1 t (labels_after K₀ 0 t)) e (other_same K₀ 0 1 (omega arith) (λ q. omega arith) t)

  half_0 : half 0 size first_0 ≡ half 0 size first_1
  half_0 = sym (to_0 (labels_after K₀ 0 l)).own ∙ own_same K₀ 0 l (labels_after K₁ 1 l) (to_0 l)

  half_1 : half 1 size first_0 ≡ half 1 size first_1
  half_1 =
      ap (λ (k : ℕ). half 1 (2 ^ k) first_0) e ∙ sym (own_same K₁ 1 l (labels_after K₀ 0 l) (to_1 l)) ∙ (to_1 (labels_after K₁ 1 l)).own
      ∙ sym (ap (λ (k : ℕ). half 1 (2 ^ k) first_1) e)

  long_0 : length first_0 ≡ length l
  long_0 = length_kept K₁ 1 (labels_after K₀ 0 l) ∙ length_kept K₀ 0 l

  long_1 : length first_1 ≡ length l
  long_1 = length_kept K₀ 0 (labels_after K₁ 1 l) ∙ length_kept K₁ 1 l

  -- a buffer of another length is refused each time
  unwritten : (K : Cabinet) (j : ℕ) (t : List ℕ) → length t ≢ 2 * 2 ^ K.n → labels_after K j t ≡ t
  unwritten K j t d = kept K j t (λ z. d (buffer_sized K j t z))

  orders_same : first_0 ≡ first_1
  orders_same =
      elim (ℕ_discrete (length l) (2 * size)) [
        | yes z ↦ halves_alike size first_0 first_1 (long_0 ∙ z) (long_1 ∙ z) half_0 half_1
        | no z ↦ neither z ∙ sym (nor z)
      ]
    where
      one : length l ≢ 2 * size → labels_after K₁ 1 l ≡ l
      one z = unwritten K₁ 1 l (rw e at z)

      zero : length l ≢ 2 * size → labels_after K₀ 0 l ≡ l
      zero z = unwritten K₀ 0 l z

      neither : length l ≢ 2 * size → first_0 ≡ l
      neither z = ap (labels_after K₁ 1) (zero z) ∙ one z

      nor : length l ≢ 2 * size → first_1 ≡ l
      nor z = ap (labels_after K₀ 0) (one z) ∙ zero z

-- ---- of a library

module _ (lib : Library) (F : Faithful lib) (A : Answers lib) (D : Demands lib) where
  labels_own : {K : Cabinet} {j : ℕ} {l l' after after' : List ℕ} {x x' : Result ℕ Refusal} → lib.labels K j l x after → lib.labels K j l' x' after'
      → SameTo K.n j l l' → SameTo K.n j after after'
  labels_own {K} {j} {l} {l'} m m' s = rw ((F.labels m).1, (F.labels m').1) (same_after K j l l' s)

  hop_own : {n j c d : ℕ} {l l' : List ℕ} {x x' : Result Decision Refusal} → lib.hops n j c d l x → lib.hops n j c d l' x' → SameTo n j l l' → x ≡ x'
  hop_own {n} {j} {c} {d} m m' s =
      F.hops m ∙ ap₂ (λ (k : ℕ) (t : List ℕ). hopped n j c d k (label_in t)) s.long s.own ∙ sym (F.hops m')

  walk_own : {n j s d room : ℕ} {l l' : List ℕ} {w w' : Walked} → lib.walks n j s d l room w → lib.walks n j s d l' room w' → SameTo n j l l' → w ≡ w'
  walk_own {n} {j} {s} {d} {room} v v' e =
      F.walks v ∙ ap₂ (λ (k : ℕ) (t : List ℕ). walked n j s d k room (label_in t)) e.long e.own ∙ sym (F.walks v')

  closed_as_faulty : {K K' : Cabinet} {j e e' : ℕ} {l after after' : List ℕ} → K.n ≡ K'.n → K.rule ≡ K'.rule → K.draining ≡ K'.draining
      → ((x : ℕ) → (node_bit K.faults x || node_bit K.closed x) ≡ (node_bit K'.faults x || node_bit K'.closed x))
      → lib.labels K j l (Ok e) after → lib.labels K' j l (Ok e') after' → (e ≡ e') × (after ≡ after')
  closed_as_faulty {K} {K'} {j} {e} {e'} {l} en er ed same m m' =
      let f = F.labels m in
      let f' = F.labels m' in
      let o = of_exchanges K j (length l) e (sym f.0) in
      let o' = of_exchanges K' j (length l) e' (sym f'.0) in
      let labels = labels_same K K' en er ed same in (
        sym o.1 ∙ exchanges_same K K' en er ed same ∙ o'.1,
        f.1 ∙ written K j l o.0 ∙ ap₂ (λ (n : ℕ) (h : List ℕ). with_half j (2 ^ n) h l) en labels ∙ sym (f'.1 ∙ written K' j l o'.0),
      )

  -- one after the other
  then : {n j : ℕ} {l l₁ l' : List ℕ} → SameTo n j l l₁ → SameTo n j l₁ l' → SameTo n j l l'
  then s t = record { long = s.long ∙ t.long; own = s.own ∙ t.own }

  -- one labelling of another, and any number of them
  unmoved_by : {K : Cabinet} {i j : ℕ} {l l' : List ℕ} {x : Result ℕ Refusal} → j < 2 → i ≢ j → lib.labels K i l x l' → SameTo K.n j l l'
  unmoved_by {K} {i} {j} {l} h d m = rw (F.labels m).1 (other_same K i j h (λ q. d (sym q)) l)

  unmoved_why : {K : Cabinet} {i j x : ℕ} {l l' : List ℕ} {a : Result NodeReason Refusal} → j < 2 → i ≢ j → lib.why_nodes K i x l a l' → SameTo K.n j l l'
  unmoved_why {K} {i} {j} {x} {l} h d m = rw (F.why_nodes m).1 (left_other K i x j h (λ q. d (sym q)) l)

  unmoved : {n j : ℕ} {l l' : List ℕ} → j < 2 → Meanwhile lib n j l l' → SameTo n j l l'
  unmoved h nothing = record { long = refl; own = refl }
  unmoved h (another d e m rest) = then (rw e at (unmoved_by h d m)) (unmoved h rest)
  unmoved h (another_why d e m rest) = then (rw e at (unmoved_why h d m)) (unmoved h rest)

  -- the walk on the buffer as it is now is the walk on the buffer as labelling left it
  still_walks : {K : Cabinet} {j e s d : ℕ} {before l l' : List ℕ} {w : Walked} → lib.labels K j before (Ok e) l → Meanwhile lib K.n j l l'
      → Works K s → Takes K d → lib.walks K.n j s d l' row_bytes w → Walks K (label_for K.n j l') s d w
  still_walks {K} {j} {e} {s} {d} {before} {l} {l'} m meanwhile hs hd v =
      let o = of_exchanges K j (length before) e (sym (F.labels m).0) in
      let same = unmoved (fitting K j (length before) o.0).halved.job meanwhile in
      let v₀ = A.walks K.n j s d l row_bytes in
      rw (← same.own, ← walk_own v₀.1 v same) (D.walks m hs hd v₀.1)

  both : {K₀ K₁ : Cabinet} {e f : ℕ} {before l after : List ℕ} → K₀.n ≡ K₁.n → lib.labels K₀ 0 before (Ok e) l
      → lib.labels K₁ 1 l (Ok f) after → BothHold K₀ K₁ after
  both {K₀} {K₁} {l = l} {after = after} e m₀ m₁ =
      let s = subst (λ (k : ℕ). SameTo k 0 l after) (sym e) (unmoved_by {j = 0} (omega arith) (λ q. omega arith) m₁) in
      both_hold K₀ K₁ after (sym s.own ∙ D.labels_written m₀) (D.labels_written m₁)

  either_order : {K₀ K₁ : Cabinet} {before l l' after after' : List ℕ} {x x' y y' : Result ℕ Refusal} → K₀.n ≡ K₁.n
      → lib.labels K₀ 0 before x l → lib.labels K₁ 1 l y after → lib.labels K₁ 1 before y' l' → lib.labels K₀ 0 l' x' after'
      → (x ≡ x') × (y ≡ y') × (after ≡ after')
  either_order {K₀} {K₁} {before} e a b c d =
      let fa = F.labels a in
      let fb = F.labels b in
      let fc = F.labels c in
      let fd = F.labels d in (
        fa.0 ∙ ap (labelled K₀ 0) (sym (ap length fc.1 ∙ length_kept K₁ 1 before)) ∙ sym fd.0,
        fb.0 ∙ ap (labelled K₁ 1) (ap length fa.1 ∙ length_kept K₀ 0 before) ∙ sym fc.0,
        fb.1 ∙ ap (labels_after K₁ 1) fa.1 ∙ orders_same K₀ K₁ e before ∙ sym (fd.1 ∙ ap (labels_after K₀ 0) fc.1),
      )

  jobs : Jobs lib
  jobs =
      record {
        label_own = λ {K} {j} m m' e. (F.labels m).0 ∙ ap (labelled K j) e ∙ sym (F.labels m').0;
        labels_own = λ m m' s. labels_own m m' s;
        hop_own = λ m m' s. hop_own m m' s;
        why_node_own = λ {K} {j} {x} m m' e.
            (F.why_nodes m).0 ∙ ap (λ (k : ℕ). node_reason K j k x) e ∙ sym (F.why_nodes m').0;
        why_labels_own = λ {K} {j} {x} {l} {l'} m m' s. rw ((F.why_nodes m).1, (F.why_nodes m').1) (left_same K j x l l' s);
        why_hop_own = λ {n} {j} {c} {d} m m' s.
            F.why_hops m ∙ ap₂ (λ (k : ℕ) (t : List ℕ). hop_reason n j c d k (label_in t)) s.long s.own ∙ sym (F.why_hops m');
        walk_own = λ v v' e. walk_own v v' e;
        closed_as_faulty = λ en er ed same m m'. closed_as_faulty en er ed same m m';
        other_labelled = λ job d m. unmoved_by (job_below job) d m;
        other_explained = λ job d m. unmoved_why (job_below job) d m;
        unmoved = λ job m. unmoved (job_below job) m;
        still_walks = λ m meanwhile hs hd v. still_walks m meanwhile hs hd v;
        both = λ e m₀ m₁. both e m₀ m₁;
        either_order = λ e a b c d. either_order e a b c d;
        label_alike = λ {K} {i} {j} {l} {l'} hi hj m m' e.
            (F.labels m).0 ∙ label_alike (job_below hi) (job_below hj) K (length l) ∙ ap (labelled K j) e ∙ sym (F.labels m').0;
        hop_alike = λ {n} {i} {j} {c} {d} {l} {l'} hi hj m m' e o.
            F.hops m ∙ hop_alike (job_below hi) (job_below hj) n c d (length l) (label_for n i l)
            ∙ ap₂ (λ (k : ℕ) (t : List ℕ). hopped n j c d k (label_in t)) e o ∙ sym (F.hops m');
        why_node_alike = λ {K} {i} {j} {x} {l} hi hj m m' e.
            (F.why_nodes m).0 ∙ why_node_alike (job_below hi) (job_below hj) K (length l) x ∙ ap (λ (k : ℕ). node_reason K j k x) e ∙ sym (F.why_nodes m').0;
        why_hop_alike = λ {n} {i} {j} {c} {d} {l} {l'} hi hj m m' e o.
            F.why_hops m ∙ why_hop_alike (job_below hi) (job_below hj) n c d (length l) (label_for n i l)
            ∙ ap₂ (λ (k : ℕ) (t : List ℕ). hop_reason n j c d k (label_in t)) e o ∙ sym (F.why_hops m');
        walk_alike = λ {n} {i} {j} {s} {d} {room} {l} {l'} hi hj v v' e o.
            F.walks v ∙ walk_alike (job_below hi) (job_below hj) n s d (length l) room (label_for n i l)
            ∙ ap₂ (λ (k : ℕ) (t : List ℕ). walked n j s d k room (label_in t)) e o ∙ sym (F.walks v');
      }

pub rattle_jobs : Jobs rattle
rattle_jobs = jobs rattle rattle_faithful rattle_answers rattle_demands

pub c_jobs : Jobs c
c_jobs = jobs c c_faithful c_answers c_demands
