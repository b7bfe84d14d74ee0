-- A reason comes out of its number as it was put in. A node's label tells the cases apart, and of an unsafe node the number of its cause and the rule.
use mathlib.Core.Path.{◌≡◌, refl, ap, subst, ◌∙◌}
use Prim.Native.Nat.{ℕ, ◌+◌, ◌*◌, ◌≤◌, ◌<◌}
use native.Mathlib.Omega.{arith}
use borrow.Author.Tests.{le-leb, lt-leb, ne_eqb}
use Rattle.std.specs.Prelude.{Result, Ok, Err}
use Rattle.cube.specs.Refused.{number}
use Rattle.cube.specs.declared.refusals.Refusal.{Refusal}
use Rattle.cube.proofs.Refused as cube
use Rattle.rule.specs.Cabinet.{Cabinet}
use Rattle.causes.specs.Laws.{TrueCause, faulty, three, two}
use Rattle.causes.specs.declared.Cause.{Cause}
use Rattle.causes.specs.declared.Cause.TheVariants as cause
use Rattle.labels.proofs.Refusal.{fitting}
use Rattle.why.specs.HopReasons.{hop_reason}
use Rattle.why.specs.Laws.{NodeExplained, is-out, is_safe, is-unsafe}
use Rattle.why.specs.NodeReasons as Y
use Rattle.why.specs.declared.HopReason.{HopReason}
use Rattle.why.specs.declared.HopReason.TheVariants as reason
use Rattle.why.specs.declared.NodeReason.{NodeReason}
use Rattle.why.specs.declared.NodeReason.TheVariants as node
use Rattle.why.proofs.Laws.{why_laws}
use Rattle.why.proofs.Refusal as refusing
use Rattle.hcube.specs.Answers.{hop_reason_number, node_reason_number, packed}
use Rattle.hcube.specs.Decoded.{
  across_part,
  cause_from,
  cause_part,
  first_part,
  hop_reason_from,
  kind_part,
  node_reason_from,
  refusal_part,
  scan_part,
  second_part,
  third_part,
  value_part,
}
use Rattle.hcube.specs.Fits.{ScanFits}
use Rattle.hcube.proofs.Parts.{cause_is, few, first_is, kind_is, reads_err, reason_shows, refusal_is, second_is, third_is, value_is}
use Rattle.hcube.proofs.Reasons.{NodeFits, hop_reason_small, node_small}

-- ---- a hop

hop_back : (a : Result HopReason Refusal) → ((b : HopReason) → a ≡ Ok b → ScanFits b) → hop_reason_from (hop_reason_number a) ≡ a
unfolding hop_reason_from
hop_back (Ok reason.Deliver) f = refl
hop_back (Ok (reason.Hop s i)) f =
    let b = f (reason.Hop s i) refl in
    let v : s * 256 + i < 65536 = omega (arith, b.0, b.1) in
    let t : scan_part (packed 0 1 (s * 256 + i)) ≡ s = omega (arith, b.0, b.1) in
    let u : across_part (packed 0 1 (s * 256 + i)) ≡ i = omega (arith, b.0, b.1) in
    rw (refusal_is 0 1 (s * 256 + i) (omega arith) (omega arith) v, kind_is 0 1 (s * 256 + i) (omega arith) v, t, u)
hop_back (Ok reason.Halted) f = refl
hop_back (Err r) f = reads_err _ _ _ r (refusal_is (number r) 0 0 (few r) (omega arith) (omega arith))

pub hop_reason_decoded : (n j c d m : ℕ) (lab : ℕ → ℕ) → hop_reason_from (hop_reason_number (hop_reason n j c d m lab)) ≡ hop_reason n j c d m lab
hop_reason_decoded n j c d m lab = hop_back (hop_reason n j c d m lab) (hop_reason_small n j c d m lab)

-- ---- a node: what tells the cases apart

abbrev CauseShaped : (rule : ℕ) → Cause → Type 0
CauseShaped rule (cause.Faulty a b) = Unit {0}
CauseShaped rule (cause.Two a b) = rule ≡ 2
CauseShaped rule (cause.Three a b c) = rule ≡ 3

abbrev Shaped : (rule : ℕ) → NodeReason → Type 0
Shaped rule (node.Safe a b) = Unit {0}
Shaped rule (node.Unsafe l r c) = (1 ≤ l) × (l ≤ 2) × CauseShaped rule c
Shaped rule (node.Out l) = 3 ≤ l

cause_shaped : (n k : ℕ) (Out Earlier : ℕ → Type 0) (x : ℕ) (c : Cause) → TrueCause n k Out Earlier x c → CauseShaped k c
cause_shaped n k Out Earlier x _ (faulty L) = tt
cause_shaped n k Out Earlier x _ (two e _ L) = e
cause_shaped n k Out Earlier x _ (three e _ L) = e

explained_shaped : (K : Cabinet) (lab : ℕ → ℕ) (x : ℕ) (a : NodeReason) → NodeExplained K lab x a → Shaped K.rule a
explained_shaped K lab x _ (is-out o e h) = h
explained_shaped K lab x _ (is_safe z f b) = tt
explained_shaped K lab x _ (is-unsafe e h M r {c} t) = (h.0, h.1, cause_shaped K.n K.rule _ _ x c t)

node_shaped : (K : Cabinet) (j m x : ℕ) (a : NodeReason) → Y.node_reason K j m x ≡ Ok a → Shaped K.rule a
unfolding Y.node_reason
node_shaped K j m x a e =
    let p = cube.accepted (Y.node_refusal K j m x) (Y.reason_of K x) a e in
    let q = refusing.accepted K j m x p.0 in
    let r = (fitting K j m q.0).rule in
    subst (Shaped K.rule) p.1 (explained_shaped K _ x (Y.reason_of K x) (why_laws.node K r.0 r.1 x q.1))

-- its parts are those that were put in
record Back (a : NodeReason) : Type 0 where
  refusal : refusal_part (node_reason_number (Ok a)) ≡ 0
  kind : kind_part (node_reason_number (Ok a)) ≡ Y.kind_of (Ok a)
  value : value_part (node_reason_number (Ok a)) ≡ Y.value_of (Ok a)
  cause : cause_part (node_reason_number (Ok a)) ≡ Y.cause_in (Ok a)
  first : first_part (node_reason_number (Ok a)) ≡ Y.first_of (Ok a)
  second : second_part (node_reason_number (Ok a)) ≡ Y.second_of (Ok a)
  third : third_part (node_reason_number (Ok a)) ≡ Y.third_of (Ok a)

back : (b : NodeReason) → NodeFits b → Back b
back b f =
    let a : Result NodeReason Refusal = Ok b in
    let h : Y.kind_of a < 256 = omega (arith, f.kind) in
    let v : Y.value_of a < 65536 = omega (arith, f.value) in
    let l : packed 0 (Y.kind_of a) (Y.value_of a) < 4294967296 = omega arith in
    let c : Y.cause_in a < 256 = omega (arith, f.cause) in
    let t : Y.third_of a < 256 = omega (arith, f.third) in
    let s : Y.second_of a < 256 = omega (arith, f.second) in
    let i : Y.first_of a < 256 = omega (arith, f.first) in
    let shown = reason_shows (Y.cause_in a) (Y.third_of a) (Y.second_of a) (Y.first_of a) (packed 0 (Y.kind_of a) (Y.value_of a)) c t s i l in
    record {
      refusal = shown.refusal ∙ refusal_is 0 (Y.kind_of a) (Y.value_of a) (omega arith) h v;
      kind = shown.kind ∙ kind_is 0 (Y.kind_of a) (Y.value_of a) h v;
      value = shown.value ∙ value_is 0 (Y.kind_of a) (Y.value_of a) v;
      cause = cause_is (Y.cause_in a) (Y.third_of a) (Y.second_of a) (Y.first_of a) (packed 0 (Y.kind_of a) (Y.value_of a)) c t s i l;
      first = first_is (Y.cause_in a) (Y.third_of a) (Y.second_of a) (Y.first_of a) (packed 0 (Y.kind_of a) (Y.value_of a)) c t s i l;
      second = second_is (Y.cause_in a) (Y.third_of a) (Y.second_of a) (Y.first_of a) (packed 0 (Y.kind_of a) (Y.value_of a)) c t s i l;
      third = third_is (Y.cause_in a) (Y.third_of a) (Y.second_of a) (Y.first_of a) (packed 0 (Y.kind_of a) (Y.value_of a)) c t s i l;
    }

-- the cause, by the rule
cause_back : (rule : ℕ) (c : Cause) → CauseShaped rule c → cause_from rule (Y.cause_number c) (Y.first_named c) (Y.second_named c) (Y.third_named c) ≡ c
cause_back rule (cause.Faulty a b) h = refl
cause_back rule (cause.Two a b) h = rw h
cause_back rule (cause.Three a b c) h = rw h

reason_back : (rule : ℕ) (a : NodeReason) → NodeFits a → Shaped rule a → node_reason_from rule (node_reason_number (Ok a)) ≡ Ok a
unfolding node_reason_from
reason_back rule (node.Safe x y) f s = let B = back (node.Safe x y) f in rw (B.refusal, B.kind, B.first, B.second)
reason_back rule (node.Unsafe l r c) f s =
    let B = back (node.Unsafe l r c) f in
    rw (B.refusal, B.kind, ne_eqb l 0 (λ z. omega (arith, s.0)), lt-leb 3 l (omega (arith, s.1)), B.value, B.cause, B.first, B.second, B.third)
    (ap (λ (q : Cause). Ok (node.Unsafe l r q)) (cause_back rule c s.2))
reason_back rule (node.Out l) f s =
    let B = back (node.Out l) f in
    rw (B.refusal, B.kind, ne_eqb l 0 (λ z. omega arith), le-leb 3 l s)

-- a refusal has nothing above its number
refusal_alone : (rule : ℕ) (r : Refusal) → node_reason_from rule (node_reason_number (Err r)) ≡ Err r
unfolding node_reason_from
refusal_alone rule r =
    let e : node_reason_number (Err r) ≡ packed (number r) 0 0 = omega arith in
    reads_err _ _ _ r (ap refusal_part e ∙ refusal_is (number r) 0 0 (few r) (omega arith) (omega arith))

pub node_reason_decoded : (K : Cabinet) (j m x : ℕ) → node_reason_from K.rule (node_reason_number (Y.node_reason K j m x)) ≡ Y.node_reason K j m x
node_reason_decoded K j m x = go (Y.node_reason K j m x) refl
  where
    go : (a : Result NodeReason Refusal) → Y.node_reason K j m x ≡ a → node_reason_from K.rule (node_reason_number a) ≡ a
    go (Ok a) e = reason_back K.rule a (node_small K j m x a e) (node_shaped K j m x a e)
    go (Err r) e = refusal_alone K.rule r
