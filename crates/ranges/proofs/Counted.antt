-- What the numbers of a text count for runs. A number counts its digits, and a comma or a dash: once for the run that begins at it, and once for one that ends
-- at it and has more nodes than this. Runs are apart, so a number does one of these at most; and so a text is as long as its numbers count.
use mathlib.Core.Path.{◌≡◌, refl, sym, ◌∙◌}
use mathlib.Core.Logic.{◌⊎◌, inl, inr}
use mathlib.Core.Bool.{true, false, cond}
use mathlib.Core.List.{List, [], ◌∷◌}
use Prim.Native.Nat.{ℕ, ◌+◌, ◌≤◌, ◌<◌}
use native.Mathlib.Omega.{arith}
use native.Mathlib.Decide.{ℕ_discrete}
use lib.Dec.{eqb}
use lib.ListN.{length, length-append}
use borrow.Author.Tests.{eqb-true, eq-eqb, ne_eqb}
use Rattle.cube.proofs.Bools.{either, by_cases}
use Rattle.ranges.specs.Grammar.{dash}
use Rattle.ranges.specs.Laws.{Entry, sound, spelled, runs_rise}
use Rattle.ranges.specs.Written.{decimal, behind}
use Rattle.ranges.proofs.Entries.{sound_cons, sound_one, text_one}
use Rattle.ranges.proofs.Runs.{FirstRun, first_run}

-- ---- of one number

-- a number's digits, and a comma or a dash
unfoldable pub counted : ℕ → ℕ
counted v = length (decimal v) + 1

-- where the run begins at x; and where it ends at y, but a run of one node has one number only
unfoldable pub begin : ℕ × ℕ → ℕ → ℕ
begin r x = cond (eqb x r.0) (counted x) 0

unfoldable pub end : ℕ × ℕ → ℕ → ℕ
end r y = cond (eqb r.0 r.1) 0 (cond (eqb y r.1) (counted y) 0)

-- of all runs
unfoldable pub begins : List (ℕ × ℕ) → ℕ → ℕ
begins [] x = 0
begins (r ∷ more) x = begin r x + begins more x

unfoldable pub ends : List (ℕ × ℕ) → ℕ → ℕ
ends [] y = 0
ends (r ∷ more) y = end r y + ends more y

pub begin_here : (r : ℕ × ℕ) (x : ℕ) → x ≡ r.0 → begin r x ≡ counted x
unfolding begin
begin_here r x e = rw (eq-eqb x r.0 e)

begin_other : (r : ℕ × ℕ) (x : ℕ) → (x ≡ r.0 → ⊥) → begin r x ≡ 0
unfolding begin
begin_other r x d = rw (ne_eqb x r.0 d)

end_lone : (r : ℕ × ℕ) (y : ℕ) → r.0 ≡ r.1 → end r y ≡ 0
unfolding end
end_lone r y e = rw (eq-eqb r.0 r.1 e)

pub end_here : (r : ℕ × ℕ) (y : ℕ) → (r.0 ≡ r.1 → ⊥) → y ≡ r.1 → end r y ≡ counted y
unfolding end
end_here r y d e = rw (ne_eqb r.0 r.1 d, eq-eqb y r.1 e)

end_other : (r : ℕ × ℕ) (y : ℕ) → (y ≡ r.1 → ⊥) → end r y ≡ 0
unfolding end
end_other r y d = rw (ne_eqb y r.1 d) (by_cases (λ (m : ℕ). m ≡ 0) (eqb r.0 r.1) (λ _. refl) (λ _. refl))

-- at the first node of a run, the run does not end, or does not count as ending
end_first : (r : ℕ × ℕ) (x : ℕ) → x ≡ r.0 → end r x ≡ 0
end_first r x e = elim (ℕ_discrete r.0 r.1) [
  | yes p ↦ end_lone r x p
  | no d ↦ end_other r x (λ q. d (sym e ∙ q))
]

module _ (size : ℕ) where
  none_there : (base : ℕ) (runs : List (ℕ × ℕ)) (x : ℕ) → runs_rise base size runs ≡ true → x < base → begins runs x + ends runs x ≡ 0
  unfolding begins ends
  none_there base [] x up h = refl
  none_there base (r ∷ more) x up h =
      let f = first_run base size r more up in
      let from = f.from in
      let ordered = f.ordered in
      omega (
        arith,
        begin_other r x (λ e. omega arith),
        end_other r x (λ e. omega arith),
        none_there (r.1 + 2) more x f.others (omega arith),
      )

  -- at one node, one run begins or one ends
  one_there : (base : ℕ) (runs : List (ℕ × ℕ)) (x : ℕ) → runs_rise base size runs ≡ true → begins runs x + ends runs x ≤ counted x
  unfolding begins ends
  one_there base [] x up = omega arith
  one_there base (r ∷ more) x up = go (first_run base size r more up) (one_there (r.1 + 2) more x) (ℕ_discrete x r.0) (ℕ_discrete x r.1)
    where
      go : FirstRun base size r more → (runs_rise (r.1 + 2) size more ≡ true → begins more x + ends more x ≤ counted x) → Dec (x ≡ r.0) → Dec (x ≡ r.1)
          → begin r x + begins more x + (end r x + ends more x) ≤ counted x
      go f less (yes p) _ =
          let ordered = f.ordered in
          omega (arith, begin_here r x p, end_first r x p, none_there (r.1 + 2) more x f.others (omega arith))
      go f less (no c) (yes q) =
          omega (arith, begin_other r x c, end_here r x (λ e. c (q ∙ sym e)) q, none_there (r.1 + 2) more x f.others (omega arith))
      go f less (no c) (no d) = omega (arith, begin_other r x c, end_other r x d, less f.others)

-- ---- the text of entries is as long as its numbers count

unfoldable pub sum_of : (Entry → ℕ) → List Entry → ℕ
sum_of f [] = 0
sum_of f (e ∷ es) = f e + sum_of f es

abbrev pub counts : List (ℕ × ℕ) → Entry → ℕ
counts runs e = begins runs e.low + ends runs e.high

module _ (size base : ℕ) (runs : List (ℕ × ℕ)) (up : runs_rise base size runs ≡ true) where
  entry_counts : (e : Entry) → sound_one e ≡ true → counts runs e ≤ length (text_one e) + 1
  unfolding counted
  entry_counts e s = go (either e.lone) s
    where
      there : (x : ℕ) → begins runs x + ends runs x ≤ length (decimal x) + 1
      there x = one_there size base runs x up

      go : (e.lone ≡ true) ⊎ (e.lone ≡ false) → sound_one e ≡ true → counts runs e ≤ length (text_one e) + 1
      go (inl t) s = let z = eqb-true e.low e.high (rw t at s) in rw (t, ← z) (there e.low)
      go (inr t) s =
          rw (t, length-append (decimal e.low) (dash ∷ decimal e.high)) (omega (arith, there e.low, there e.high))

  pub text_counts : (es : List Entry) → sound es ≡ true → sum_of (counts runs) es ≤ length (behind (spelled es))
  unfolding sum_of behind spelled
  text_counts [] s = omega arith
  text_counts (e ∷ es) s =
      let r = sound_cons e es s in
      omega (arith, entry_counts e r.0, text_counts es r.1, length-append (text_one e) (behind (spelled es)))
