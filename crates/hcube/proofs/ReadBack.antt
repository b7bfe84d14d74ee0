-- A refusal that is read from a number has the number that stands in it: above 19 none is read.
use mathlib.Core.Bool.{true, false}
use mathlib.Core.List.{List}
use mathlib.Core.Path.{◌≡◌, refl, sym, ap, ◌∙◌}
use Prim.Native.Nat.{ℕ, zero, suc, ◌≤◌}
use native.Mathlib.Omega.{arith}
use lib.Dec.{eqb, leb}
use borrow.Author.Tests.{eqb-false, leb-true}
use Rattle.std.specs.Prelude.{Result, Ok, Err}
use Rattle.cube.specs.Refused.{number, refusal, refused}
use Rattle.cube.specs.declared.refusals.Refusal.{Refusal}
use Rattle.cube.proofs.Bools.{by_cases}
use Rattle.cube.proofs.Refused.{numbered}
use Rattle.notice.specs.Notice as N
use Rattle.walk.specs.Walk as W
use Rattle.walk.specs.declared.Ending.TheVariants as ending
use Rattle.walk.specs.declared.Walked.{Walked}
use Rattle.hcube.specs.Decoded.{
  crossed_from,
  ending_from,
  hop_reason_from,
  hopped_from,
  kind_part,
  labelled_from,
  last_refusal,
  node_reason_from,
  noticed_from,
  refusal_part,
  walked_from,
  wrote_from,
}
use Rattle.hcube.proofs.Parts.{read_back, some}

pub label_read : (r : ℕ) (q : Refusal) → labelled_from r ≡ Err q → refusal_part r ≡ number q
unfolding labelled_from
label_read r q = read_back _ _ _ q

pub hop_read : (r : ℕ) (q : Refusal) → hopped_from r ≡ Err q → refusal_part r ≡ number q
unfolding hopped_from
hop_read r q = read_back _ _ _ q

pub crossed_read : (r : ℕ) (q : Refusal) → crossed_from r ≡ Err q → refusal_part r ≡ number q
unfolding crossed_from
crossed_read r q = read_back _ _ _ q

pub node_read : (rule r : ℕ) (q : Refusal) → node_reason_from rule r ≡ Err q → refusal_part r ≡ number q
unfolding node_reason_from
node_read rule r q = read_back _ _ _ q

pub hop_reason_read : (r : ℕ) (q : Refusal) → hop_reason_from r ≡ Err q → refusal_part r ≡ number q
unfolding hop_reason_from
hop_reason_read r q = read_back _ _ _ q

pub written_read : (r : ℕ) (q : Refusal) → wrote_from r ≡ Err q → refusal_part r ≡ number q
unfolding wrote_from
written_read r q = read_back _ _ _ q

-- ---- a notice and a walk have their refusal within the answer

named : (k : ℕ) → (k ≡ 0 → ⊥) → k ≤ 19 → number (refusal k) ≡ k
named zero z h = absurd (z refl)
named (suc k) z h = numbered k (omega arith)

abbrev noticed_refusal : N.Noticed → ℕ
noticed_refusal a = N.on_noticed a (λ k at. number k) (λ n m taken. 0)

pub notice_read : (r at : ℕ) (q : Refusal) → noticed_from r ≡ Err (q, at) → refusal_part r ≡ number q
unfolding noticed_from
notice_read r at q =
    let p = refusal_part r in
    by_cases (λ (a : N.Noticed). a ≡ Err (q, at) → p ≡ number q) (eqb p 0) (λ _ e. let z : 0 ≡ number q = ap noticed_refusal e in absurd (some q (sym z)))
    (λ z. by_cases (λ (a : N.Noticed). a ≡ Err (q, at) → p ≡ number q) (leb p last_refusal)
    (λ t e. sym (named p (eqb-false p 0 z) (omega (arith, leb-true p last_refusal t))) ∙ ap noticed_refusal e)
    (λ _ e. let z : 0 ≡ number q = ap noticed_refusal e in absurd (some q (sym z))))

none_refused : (kind : ℕ) → W.refusal_of (ending_from kind) ≡ 0
none_refused kind = by_cases (λ e. W.refusal_of e ≡ 0) (eqb kind 0) (λ _. refl) (λ _. refl)

pub walk_read : (r : ℕ) (row : List ℕ) (q : Refusal) → (walked_from r row).ending ≡ ending.Refused q → refusal_part r ≡ number q
unfolding walked_from W.refused
walk_read r row q =
    let p = refusal_part r in
    by_cases (λ (w : Walked). w.ending ≡ ending.Refused q → p ≡ number q) (eqb p 0)
    (λ _ e. let z : 0 ≡ number q = sym (none_refused (kind_part r)) ∙ ap W.refusal_of e in absurd (some q (sym z)))
    (λ z. by_cases (λ (w : Walked). w.ending ≡ ending.Refused q → p ≡ number q) (leb p last_refusal)
    (λ t e. sym (named p (eqb-false p 0 z) (omega (arith, leb-true p last_refusal t))) ∙ ap W.refusal_of e)
    (λ _ e. let z : 0 ≡ number q = ap W.refusal_of e in absurd (some q (sym z))))
