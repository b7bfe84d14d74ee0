-- No text of a table is shorter than the written one. Each run begins where some entry begins and ends where some entry ends, for the node before it and the
-- one behind it are not named. So the first and the last number of each run stand in the text, and what they count is what the run is written in.
use mathlib.Core.Path.{◌≡◌, refl, sym, ap, ◌∙◌}
use mathlib.Core.Logic.{◌⊎◌, inl, inr}
use mathlib.Core.Bool.{Bool, true, false, ◌&&◌, ◌||◌}
use mathlib.Core.List.{List, [], ◌∷◌}
use Prim.Native.Nat.{ℕ, ◌+◌, ◌-◌, ◌^◌, ◌≤◌, ◌<◌}
use native.Mathlib.Omega.{arith}
use native.Mathlib.Decide.{ℕ_discrete}
use lib.Dec.{eqb, leb, ltb}
use lib.ListN.{length, length-append}
use borrow.Author.Tests.{leb-true, leb-false, le-leb, lt-leb, ltb-true, ltb-false, eqb-false}
use Rattle.cube.proofs.Bools.{either, and_true, and_both, clash, or_true, or_false, or_left, by_cases}
use Rattle.spelling.specs.Spelled.{faulty_nodes}
use Rattle.ranges.specs.Grammar.{dash, any, high, is_list, named, named_table, parts_of, reaches}
use Rattle.ranges.specs.Laws.{Entry, sound, spelled, holds, runs_rise, in_runs}
use Rattle.ranges.specs.Written.{decimal, entry_text, grouped, joined, list_text}
use Rattle.ranges.proofs.Counted.{begin, begin_here, begins, counted, counts, end, end_here, ends, sum_of, text_counts}
use Rattle.ranges.proofs.Entries.{grammar, parts_are, sound_cons, stands, text_one, union}
use Rattle.ranges.proofs.Length.{cost, cost_cons, cost_none, joined_length, text_cost}
use Rattle.ranges.proofs.Runs.{first_run, in_behind, in_before, in_first, none_before}
use Rattle.ranges.proofs.Tables.{runs_are, runs-rise, table_named}

-- ---- what is named

held_here : (e : Entry) (es : List Entry) (k : ℕ) → e.low ≤ k → k ≤ e.high → holds (e ∷ es) k ≡ true
unfolding holds
held_here e es k h l = or_left (holds es k) (and_both (le-leb e.low k h) (le-leb k e.high l))

held_by : (e : Entry) (es : List Entry) (k : ℕ) → holds (e ∷ es) k ≡ true → ((e.low ≤ k) × (k ≤ e.high)) ⊎ (holds es k ≡ true)
unfolding holds
held_by e es k h = go (or_true (leb e.low k && leb k e.high) (holds es k) h)
  where
    go : ((leb e.low k && leb k e.high) ≡ true) ⊎ (holds es k ≡ true) → ((e.low ≤ k) × (k ≤ e.high)) ⊎ (holds es k ≡ true)
    go (inl t) = let r = and_true (leb e.low k) (leb k e.high) t in inl (leb-true e.low k r.0, leb-true k e.high r.1)
    go (inr t) = inr t

not_held : (e : Entry) (es : List Entry) (k : ℕ) → holds (e ∷ es) k ≡ false → holds es k ≡ false
unfolding holds
not_held e es k h = (or_false (leb e.low k && leb k e.high) (holds es k) h).1

none_held : (k : ℕ) → holds [] k ≡ true → ⊥
unfolding holds
none_held k h = clash h refl

-- ---- each run has its numbers in the text

-- some entry begins at a node that is named behind one that is not, and some ends at a node that is named before one that is not
module _ (r : ℕ × ℕ) where
  begin_held : (es : List Entry) → holds es r.0 ≡ true → ((k : ℕ) → k + 1 ≡ r.0 → holds es k ≡ false)
      → counted r.0 ≤ sum_of (λ e. begin r e.low) es
  unfolding sum_of
  begin_held [] h out = absurd (none_held r.0 h)
  begin_held (e ∷ es) h out =
      go (λ more. begin_held es more (λ k p. not_held e es k (out k p))) (held_by e es r.0 h) (ℕ_discrete e.low r.0)
    where
      go : (holds es r.0 ≡ true → counted r.0 ≤ sum_of (λ a. begin r a.low) es)
          → ((e.low ≤ r.0) × (r.0 ≤ e.high)) ⊎ (holds es r.0 ≡ true) → Dec (e.low ≡ r.0)
          → counted r.0 ≤ begin r e.low + sum_of (λ a. begin r a.low) es
      go more _ (yes p) = omega (arith, begin_here r e.low p, ap counted p)
      go more (inl t) (no d) =
          let low = t.0 in
          let high = t.1 in
          absurd (clash (held_here e es (r.0 - 1) (omega arith) (omega arith)) (out (r.0 - 1) (omega arith)))
      go more (inr t) (no d) = omega (arith, more t)

  end_held : (es : List Entry) → (r.0 ≡ r.1 → ⊥) → holds es r.1 ≡ true → holds es (r.1 + 1) ≡ false
      → counted r.1 ≤ sum_of (λ e. end r e.high) es
  unfolding sum_of
  end_held [] two h out = absurd (none_held r.1 h)
  end_held (e ∷ es) two h out =
      go (λ more. end_held es two more (not_held e es (r.1 + 1) out)) (held_by e es r.1 h) (ℕ_discrete e.high r.1)
    where
      go : (holds es r.1 ≡ true → counted r.1 ≤ sum_of (λ a. end r a.high) es)
          → ((e.low ≤ r.1) × (r.1 ≤ e.high)) ⊎ (holds es r.1 ≡ true) → Dec (e.high ≡ r.1)
          → counted r.1 ≤ end r e.high + sum_of (λ a. end r a.high) es
      go more _ (yes p) = omega (arith, end_here r e.high two p, ap counted p)
      go more (inl t) (no d) =
          let low = t.0 in
          let high = t.1 in
          absurd (clash (held_here e es (r.1 + 1) (omega arith) (omega arith)) out)
      go more (inr t) (no d) = omega (arith, more t)

  sum_first : (more : List (ℕ × ℕ)) (es : List Entry)
      → sum_of (counts (r ∷ more)) es ≡ sum_of (λ e. begin r e.low) es + sum_of (λ e. end r e.high) es + sum_of (counts more) es
  unfolding sum_of begins ends
  sum_first more [] = refl
  sum_first more (e ∷ es) = omega (arith, sum_first more es)

  run_held : (es : List Entry) → holds es r.0 ≡ true → ((k : ℕ) → k + 1 ≡ r.0 → holds es k ≡ false)
      → holds es r.1 ≡ true → holds es (r.1 + 1) ≡ false
      → length (entry_text r.0 r.1) + 1 ≤ sum_of (λ e. begin r e.low) es + sum_of (λ e. end r e.high) es
  unfolding entry_text counted
  run_held es h out l past =
      by_cases (λ (p : List ℕ). length p + 1 ≤ sum_of (λ e. begin r e.low) es + sum_of (λ e. end r e.high) es) (eqb r.0 r.1)
      (λ _. omega (arith, begin_held es h out))
      (λ t. omega (arith, begin_held es h out, end_held es (eqb-false r.0 r.1 t) l past, length-append (decimal r.0) (dash ∷ decimal r.1)))

module _ (size : ℕ) (es : List Entry) where
  runs_held : (base : ℕ) (runs : List (ℕ × ℕ)) → runs_rise base size runs ≡ true → ((k : ℕ) → base ≤ k + 1 → holds es k ≡ in_runs runs k)
      → cost runs ≤ sum_of (counts runs) es
  runs_held base [] up same = omega (arith, cost_none)
  runs_held base (r ∷ more) up same =
      let f = first_run base size r more up in
      let from = f.from in
      let ordered = f.ordered in
      let first : holds es r.0 ≡ true = same r.0 (omega arith) ∙ in_first r more r.0 (omega arith) ordered in
      let last : holds es r.1 ≡ true = same r.1 (omega arith) ∙ in_first r more r.1 ordered (omega arith) in
      let out : (k : ℕ) → k + 1 ≡ r.0 → holds es k ≡ false =
      λ k e. same k (omega arith) ∙ in_before r more k (omega arith) ∙ none_before (r.1 + 2) size more k f.others (omega arith) in
      let past : holds es (r.1 + 1) ≡ false =
      same (r.1 + 1) (omega arith) ∙ in_behind r more (r.1 + 1) (omega arith) (omega arith)
      ∙ none_before (r.1 + 2) size more (r.1 + 1) f.others (omega arith) in
      let others : cost more ≤ sum_of (counts more) es =
      runs_held (r.1 + 2) more f.others (λ k h. same k (omega arith) ∙ in_behind r more k (omega arith) (omega arith)) in
      omega (arith, cost_cons r.0 r.1 more, sum_first r more es, run_held r es first out last past)

-- ---- a text that was read

-- runs have no node beyond the cube, nor have entries that do not reach it
none_beyond : (base size : ℕ) (runs : List (ℕ × ℕ)) (k : ℕ) → runs_rise base size runs ≡ true → size ≤ k → in_runs runs k ≡ false
unfolding in_runs
none_beyond base size [] k up h = refl
none_beyond base size (r ∷ more) k up h =
    let f = first_run base size r more up in
    let ordered = f.ordered in
    let below = f.below in
    in_behind r more k (omega arith) (omega arith) ∙ none_beyond (r.1 + 2) size more k f.others h

held_within : (size : ℕ) (es : List Entry) (k : ℕ) → sound es ≡ true → any (λ p. leb size (high p)) (spelled es) ≡ false → size ≤ k → holds es k ≡ false
unfolding any spelled holds
held_within size [] k s e h = refl
held_within size (a ∷ es) k s e h =
    let r = sound_cons a es s in
    let q = or_false (leb size (high (text_one a))) (any (λ p. leb size (high p)) (spelled es)) e in
    let below : a.high < size = leb-false size a.high (rw (stands a r.0).to at q.0) in
    rw (lt-leb k a.high (omega arith), held_within size es k r.1 q.1 h) (never (leb a.low k))
  where
    never : (b : Bool) → ((b && false) || false) ≡ false
    never true = refl
    never false = refl

module _ (n : ℕ) (s : List ℕ) (inside : reaches (2 ^ n) s ≡ false) (es : List Entry) (good : sound es ≡ true) (text : s ≡ joined (spelled es)) where
  entries_within : any (λ p. leb (2 ^ n) (high p)) (spelled es) ≡ false
  unfolding reaches
  entries_within = let e : parts_of s ≡ spelled es = ap parts_of text ∙ parts_are es good in rw e at inside

  same_nodes : (k : ℕ) → holds es k ≡ in_runs (grouped (faulty_nodes n (named_table n s))) k
  same_nodes k = go (either (ltb k (2 ^ n)))
    where
      go : (ltb k (2 ^ n) ≡ true) ⊎ (ltb k (2 ^ n) ≡ false) → holds es k ≡ in_runs (grouped (faulty_nodes n (named_table n s))) k
      go (inl t) =
          let h = ltb-true k (2 ^ n) t in
          sym (union es k good) ∙ ap (λ (l : List ℕ). named l k) (sym text) ∙ sym (table_named n s k h) ∙ sym (runs_are n (named_table n s) k h)
      go (inr t) =
          let h = ltb-false k (2 ^ n) t in
          held_within (2 ^ n) es k good entries_within h
          ∙ sym (none_beyond 0 (2 ^ n) (grouped (faulty_nodes n (named_table n s))) k (runs-rise n (named_table n s)) h)

  shorter : length (list_text n (named_table n s)) ≤ length s
  unfolding list_text
  shorter =
      let runs : List (ℕ × ℕ) = grouped (faulty_nodes n (named_table n s)) in
      let up = runs-rise n (named_table n s) in
      let least = runs_held (2 ^ n) es 0 runs up (λ k _. same_nodes k) in
      let most = text_counts (2 ^ n) 0 runs up es good in
      omega (arith, text_cost runs, joined_length (spelled es), ap length text)

pub shortest : (n : ℕ) (s : List ℕ) → is_list s ≡ true → reaches (2 ^ n) s ≡ false → length (list_text n (named_table n s)) ≤ length s
shortest n s taken inside = let r = (grammar s).0 taken in shorter n s inside r.0 r.1.0 r.1.1
