-- The runs of a rising list: they rise, more than one node apart, and have the nodes of the list and no other. And runs that do are given by the nodes that
-- they have: the first begins at the least, and ends before the first that is missing.
use mathlib.Core.Path.{◌≡◌, refl, sym, ap₂, ◌∙◌}
use mathlib.Core.Logic.{◌⊎◌, inl, inr}
use mathlib.Core.Bool.{true, false, ◌&&◌, ◌||◌}
use mathlib.Core.List.{List, [], ◌∷◌}
use Prim.Native.Nat.{ℕ, ◌+◌, ◌≤◌, ◌<◌}
use native.Mathlib.Omega.{arith}
use native.Mathlib.Decide.{ℕ_discrete}
use lib.Dec.{eqb, leb, ltb}
use borrow.Author.Tests.{leb-true, leb-false, le-leb, lt-leb, ltb-true, ltb-false, lt-ltb, eq-eqb, ne_eqb}
use Rattle.cube.proofs.Bools.{either, and_true, and_both, clash, or_left}
use Rattle.notice.specs.Addresses.{rising, among}
use Rattle.notice.proofs.Rising.{rises}
use Rattle.ranges.specs.Laws.{runs_rise, in_runs}
use Rattle.ranges.specs.Written.{join_run, grouped}

-- ---- runs that rise

pub record FirstRun (base size : ℕ) (r : ℕ × ℕ) (more : List (ℕ × ℕ)) : Type 0 where
  pub from : base ≤ r.0
  pub ordered : r.0 ≤ r.1
  pub below : r.1 < size
  pub others : runs_rise (r.1 + 2) size more ≡ true

pub first_run : (base size : ℕ) (r : ℕ × ℕ) (more : List (ℕ × ℕ)) → runs_rise base size (r ∷ more) ≡ true → FirstRun base size r more
unfolding runs_rise
first_run base size r more e =
    let p = and_true (leb base r.0) (leb r.0 r.1 && (ltb r.1 size && runs_rise (r.1 + 2) size more)) e in
    let q = and_true (leb r.0 r.1) (ltb r.1 size && runs_rise (r.1 + 2) size more) p.1 in
    let w = and_true (ltb r.1 size) (runs_rise (r.1 + 2) size more) q.1 in
    record { from = leb-true base r.0 p.0; ordered = leb-true r.0 r.1 q.0; below = ltb-true r.1 size w.0; others = w.1 }

runs_cons : (base size : ℕ) (r : ℕ × ℕ) (more : List (ℕ × ℕ)) → FirstRun base size r more → runs_rise base size (r ∷ more) ≡ true
unfolding runs_rise
runs_cons base size r more f =
    and_both (le-leb base r.0 f.from) (and_both (le-leb r.0 r.1 f.ordered) (and_both (lt-ltb r.1 size f.below) f.others))

-- from any node on that is at most the first
pub runs_from : (base from size : ℕ) (r : ℕ × ℕ) (more : List (ℕ × ℕ)) → FirstRun base size r more → from ≤ r.0 → runs_rise from size (r ∷ more) ≡ true
runs_from base from size r more f h =
    runs_cons from size r more (record { from = h; ordered = f.ordered; below = f.below; others = f.others })

runs_none : (base size : ℕ) → runs_rise base size [] ≡ true
unfolding runs_rise
runs_none base size = refl

-- ---- one node in front

pub join_next : (x : ℕ) (r : ℕ × ℕ) (more : List (ℕ × ℕ)) → r.0 ≡ x + 1 → join_run x (r ∷ more) ≡ (x, r.1) ∷ more
unfolding join_run
join_next x r more e = rw (eq-eqb r.0 (x + 1) e)

pub join_apart : (x : ℕ) (r : ℕ × ℕ) (more : List (ℕ × ℕ)) → (r.0 ≡ x + 1 → ⊥) → join_run x (r ∷ more) ≡ (x, x) ∷ r ∷ more
unfolding join_run
join_apart x r more d = rw (ne_eqb r.0 (x + 1) d)

join_rises : (base size x : ℕ) (runs : List (ℕ × ℕ)) → base ≤ x → x < size → runs_rise (x + 1) size runs ≡ true → runs_rise base size (join_run x runs) ≡ true
unfolding join_run
join_rises base size x [] h l e = runs_cons base size (x, x) [] (record { from = h; ordered = omega arith; below = l; others = runs_none (x + 2) size })
join_rises base size x (r ∷ more) h l e = go (first_run (x + 1) size r more e) (ℕ_discrete r.0 (x + 1))
  where
    go : FirstRun (x + 1) size r more → Dec (r.0 ≡ x + 1) → runs_rise base size (join_run x (r ∷ more)) ≡ true
    go f (yes p) =
        rw (join_next x r more p)
        (runs_cons base size (x, r.1) more (record { from = h; ordered = omega (arith, f.ordered); below = f.below; others = f.others }))
    go f (no d) =
        let past : x + 2 ≤ r.0 = omega (arith, f.from) in
        rw (join_apart x r more d)
        (runs_cons base size (x, x) (r ∷ more)
        (record { from = h; ordered = omega arith; below = l; others = runs_from (x + 1) (x + 2) size r more f past }))

pub grouped_rises : (base size : ℕ) (l : List ℕ) → rising base size l ≡ true → runs_rise base size (grouped l) ≡ true
unfolding grouped runs_rise
grouped_rises base size [] e = refl
grouped_rises base size (x ∷ l) e =
    let r = rises base size x l e in
    join_rises base size x (grouped l) r.0 r.1 (grouped_rises (x + 1) size l r.2)

-- ---- the nodes that runs have

pub in_first : (r : ℕ × ℕ) (more : List (ℕ × ℕ)) (k : ℕ) → r.0 ≤ k → k ≤ r.1 → in_runs (r ∷ more) k ≡ true
unfolding in_runs
in_first r more k h l = or_left (in_runs more k) (and_both (le-leb r.0 k h) (le-leb k r.1 l))

pub in_before : (r : ℕ × ℕ) (more : List (ℕ × ℕ)) (k : ℕ) → k < r.0 → in_runs (r ∷ more) k ≡ in_runs more k
unfolding in_runs
in_before r more k h = rw (lt-leb r.0 k h)

pub in_behind : (r : ℕ × ℕ) (more : List (ℕ × ℕ)) (k : ℕ) → r.0 ≤ k → r.1 < k → in_runs (r ∷ more) k ≡ in_runs more k
unfolding in_runs
in_behind r more k h l = rw (le-leb r.0 k h, lt-leb k r.1 l)

-- none before their base
pub none_before : (base size : ℕ) (runs : List (ℕ × ℕ)) (k : ℕ) → runs_rise base size runs ≡ true → k < base → in_runs runs k ≡ false
unfolding in_runs
none_before base size [] k e h = refl
none_before base size (r ∷ more) k e h =
    let f = first_run base size r more e in
    let from = f.from in
    let ordered = f.ordered in
    in_before r more k (omega arith) ∙ none_before (r.1 + 2) size more k f.others (omega arith)

-- the node in front, and those behind it
join_first : (size x : ℕ) (runs : List (ℕ × ℕ)) → runs_rise (x + 1) size runs ≡ true → in_runs (join_run x runs) x ≡ true
unfolding join_run
join_first size x [] e = in_first (x, x) [] x (omega arith) (omega arith)
join_first size x (r ∷ more) e = go (first_run (x + 1) size r more e) (ℕ_discrete r.0 (x + 1))
  where
    go : FirstRun (x + 1) size r more → Dec (r.0 ≡ x + 1) → in_runs (join_run x (r ∷ more)) x ≡ true
    go f (yes p) = rw (join_next x r more p) (in_first (x, r.1) more x (omega arith) (omega (arith, f.ordered)))
    go f (no d) = rw (join_apart x r more d) (in_first (x, x) (r ∷ more) x (omega arith) (omega arith))

-- a run of one node has no other
lone_other : (x : ℕ) (runs : List (ℕ × ℕ)) (k : ℕ) → (k ≡ x → ⊥) → in_runs ((x, x) ∷ runs) k ≡ in_runs runs k
lone_other x runs k d = go (either (ltb k x))
  where
    go : (ltb k x ≡ true) ⊎ (ltb k x ≡ false) → in_runs ((x, x) ∷ runs) k ≡ in_runs runs k
    go (inl t) = in_before (x, x) runs k (ltb-true k x t)
    go (inr t) = let h = ltb-false k x t in in_behind (x, x) runs k h (omega arith)

-- a run that begins one node earlier has the others as before
longer_other : (x : ℕ) (r : ℕ × ℕ) (more : List (ℕ × ℕ)) (k : ℕ) → r.0 ≡ x + 1 → r.0 ≤ r.1 → (k ≡ x → ⊥) → in_runs ((x, r.1) ∷ more) k ≡ in_runs (r ∷ more) k
longer_other x r more k e o d = go (either (ltb k x)) (either (leb k r.1))
  where
    go : (ltb k x ≡ true) ⊎ (ltb k x ≡ false) → (leb k r.1 ≡ true) ⊎ (leb k r.1 ≡ false) → in_runs ((x, r.1) ∷ more) k ≡ in_runs (r ∷ more) k
    go (inl t) _ = let h = ltb-true k x t in in_before (x, r.1) more k h ∙ sym (in_before r more k (omega arith))
    go (inr t) (inl u) =
        let h = ltb-false k x t in
        let l = leb-true k r.1 u in
        in_first (x, r.1) more k h l ∙ sym (in_first r more k (omega arith) l)
    go (inr t) (inr u) =
        let h = ltb-false k x t in
        let l = leb-false k r.1 u in
        in_behind (x, r.1) more k h l ∙ sym (in_behind r more k (omega arith) l)

join_other : (size x : ℕ) (runs : List (ℕ × ℕ)) (k : ℕ) → runs_rise (x + 1) size runs ≡ true → (k ≡ x → ⊥) → in_runs (join_run x runs) k ≡ in_runs runs k
unfolding join_run
join_other size x [] k e d = lone_other x [] k d
join_other size x (r ∷ more) k e d = go (first_run (x + 1) size r more e) (ℕ_discrete r.0 (x + 1))
  where
    go : FirstRun (x + 1) size r more → Dec (r.0 ≡ x + 1) → in_runs (join_run x (r ∷ more)) k ≡ in_runs (r ∷ more) k
    go f (yes p) = rw (join_next x r more p) (longer_other x r more k p f.ordered d)
    go f (no c) = rw (join_apart x r more c) (lone_other x (r ∷ more) k d)

-- the runs of a rising list have its nodes
pub grouped_has : (base size : ℕ) (l : List ℕ) (k : ℕ) → rising base size l ≡ true → in_runs (grouped l) k ≡ among l k
unfolding grouped in_runs among
grouped_has base size [] k e = refl
grouped_has base size (x ∷ l) k e =
    let r = rises base size x l e in
    let up = grouped_rises (x + 1) size l r.2 in
    go up (grouped_has (x + 1) size l k r.2) (ℕ_discrete k x)
  where
    go : runs_rise (x + 1) size (grouped l) ≡ true → in_runs (grouped l) k ≡ among l k → Dec (k ≡ x) → in_runs (join_run x (grouped l)) k ≡ (eqb k x || among l k)
    go up same (yes p) = rw (p, eq-eqb x x refl) (join_first size x (grouped l) up)
    go up same (no d) = rw (ne_eqb k x d) (join_other size x (grouped l) k up d ∙ same)

-- ---- runs are given by their nodes

module _ (size : ℕ) where
  abbrev Alike : List (ℕ × ℕ) → List (ℕ × ℕ) → Type 0
  Alike a b = (k : ℕ) → k < size → in_runs a k ≡ in_runs b k

  module _ (base : ℕ) (r q : ℕ × ℕ) (a b : List (ℕ × ℕ)) (f : FirstRun base size r a) (g : FirstRun base size q b) (same : Alike (r ∷ a) (q ∷ b)) where
    -- the second begins no later, and, where they begin together, ends no earlier
    starts : q.0 ≤ r.0
    starts = go (either (leb q.0 r.0))
      where
        go : (leb q.0 r.0 ≡ true) ⊎ (leb q.0 r.0 ≡ false) → q.0 ≤ r.0
        go (inl t) = leb-true q.0 r.0 t
        go (inr t) =
            let h = leb-false q.0 r.0 t in
            absurd (clash (in_first r a r.0 (omega arith) f.ordered)
            (same r.0 (omega (arith, f.ordered, f.below)) ∙ in_before q b r.0 h
            ∙ none_before (q.1 + 2) size b r.0 g.others (omega (arith, g.ordered))))

    ends : r.0 ≡ q.0 → r.1 ≤ q.1
    ends e = go (either (leb r.1 q.1))
      where
        go : (leb r.1 q.1 ≡ true) ⊎ (leb r.1 q.1 ≡ false) → r.1 ≤ q.1
        go (inl t) = leb-true r.1 q.1 t
        go (inr t) =
            let h = leb-false r.1 q.1 t in
            absurd (clash (in_first r a (q.1 + 1) (omega (arith, g.ordered)) (omega arith))
            (same (q.1 + 1) (omega (arith, f.below)) ∙ in_behind q b (q.1 + 1) (omega (arith, g.ordered)) (omega arith)
            ∙ none_before (q.1 + 2) size b (q.1 + 1) g.others (omega arith)))

    tails : r.0 ≡ q.0 → r.1 ≡ q.1 → Alike a b
    tails e i k h = go (either (ltb k (r.1 + 2)))
      where
        go : (ltb k (r.1 + 2) ≡ true) ⊎ (ltb k (r.1 + 2) ≡ false) → in_runs a k ≡ in_runs b k
        go (inl t) =
            let l = ltb-true k (r.1 + 2) t in
            none_before (r.1 + 2) size a k f.others l ∙ sym (none_before (q.1 + 2) size b k g.others (omega arith))
        go (inr t) =
            let l = ltb-false k (r.1 + 2) t in
            sym (in_behind r a k (omega (arith, f.ordered)) (omega arith)) ∙ same k h ∙ in_behind q b k (omega (arith, g.ordered)) (omega arith)

  nothing : (base : ℕ) (r : ℕ × ℕ) (more : List (ℕ × ℕ)) → runs_rise base size (r ∷ more) ≡ true → Alike (r ∷ more) [] → ⊥
  unfolding in_runs
  nothing base r more up same =
      let f = first_run base size r more up in
      clash (in_first r more r.0 (omega arith) f.ordered) (same r.0 (omega (arith, f.ordered, f.below)))

  pub runs_same : (base : ℕ) (a b : List (ℕ × ℕ)) → runs_rise base size a ≡ true → runs_rise base size b ≡ true → Alike a b → a ≡ b
  unfolding in_runs
  runs_same base [] [] up rise same = refl
  runs_same base [] (q ∷ b) up rise same = absurd (nothing base q b rise (λ k h. sym (same k h)))
  runs_same base (r ∷ a) [] up rise same = absurd (nothing base r a up same)
  runs_same base (r ∷ a) (q ∷ b) up rise same =
      let f = first_run base size r a up in
      let g = first_run base size q b rise in
      let back : Alike (q ∷ b) (r ∷ a) = λ k h. sym (same k h) in
      let e : r.0 ≡ q.0 = omega (arith, starts base r q a b f g same, starts base q r b a g f back) in
      let i : r.1 ≡ q.1 = omega (arith, ends base r q a b f g same e, ends base q r b a g f back (sym e)) in
      ap₂ (λ (x : ℕ × ℕ) (l : List (ℕ × ℕ)). x ∷ l) (ap₂ (λ (x y : ℕ). (x, y)) e i)
      (runs_same (r.1 + 2) a b f.others (rw i g.others) (tails base r q a b f g same e i))
