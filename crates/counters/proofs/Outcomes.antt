-- What `tally` answers and leaves, by the tests in their order: a refusal leaves the counters as they were, and where nothing is refused they are the tally.
use mathlib.Core.Bool.{true, false}
use mathlib.Core.List.{List}
use mathlib.Core.Logic.{◌⊎◌, inl, inr, ◌≢◌}
use mathlib.Core.Path.{◌≡◌, refl, sym, ap, ◌∙◌}
use Prim.Native.Nat.{ℕ, ◌≤◌}
use lib.Dec.{eqb, leb}
use lib.ListN.{length}
use borrow.Author.Tests.{eq-eqb, eqb-false, eqb-true, le-leb, leb-true, ne_eqb, not-false}
use Rattle.cube.specs.Refusal.{first}
use Rattle.cube.proofs.Bools.{and_true, either}
use Rattle.cube.proofs.Front.{length_tab}
use Rattle.cube.proofs.Refusal.{first_none}
use Rattle.figures.specs.Figures.{counters_of, tally_of}
use Rattle.counters.specs.Tally.{counters_after, is_tallied, tally_refusal, tally_tests}

pub tallied_is : (n : ℕ) → is_tallied n ≡ true → (1 ≤ n) × (n ≤ 4)
unfolding is_tallied
tallied_is n e = let r = and_true (leb 1 n) (leb n 4) e in (leb-true 1 n r.0, leb-true n 4 r.1)

module _ (n m : ℕ) where
  pub accepts : (1 ≤ n) × (n ≤ 4) → m ≡ counters_of n → tally_refusal n m ≡ 0
  unfolding is_tallied tally_refusal first
  accepts d h = rw (le-leb 1 n d.0, le-leb n 4 d.1, eq-eqb m (counters_of n) h)

  -- from the number
  pub taken : tally_refusal n m ≡ 0 → ((1 ≤ n) × (n ≤ 4)) × (m ≡ counters_of n)
  unfolding tally_refusal
  taken z =
      let t = first_none 2 (tally_tests n m) refl z in
      (tallied_is n (not-false _ t.0), eqb-true m (counters_of n) (not-false _ t.1.0))

pub tally_length : (n : ℕ) → length (tally_of n) ≡ counters_of n
unfolding tally_of
tally_length n = length_tab (counters_of n) _

module _ (n : ℕ) (before : List ℕ) where
  pub counters_kept : tally_refusal n (length before) ≢ 0 → before ≡ counters_after n before
  unfolding counters_after
  counters_kept h = rw (ne_eqb (tally_refusal n (length before)) 0 h)

  pub counters_made : tally_refusal n (length before) ≡ 0 → tally_of n ≡ counters_after n before
  unfolding counters_after
  counters_made e = rw e

  -- either way they are as many as they were
  pub counters_long : length (counters_after n before) ≡ length before
  counters_long = go (either (eqb (tally_refusal n (length before)) 0))
    where
      go : (eqb (tally_refusal n (length before)) 0 ≡ true) ⊎ (eqb (tally_refusal n (length before)) 0 ≡ false) → length (counters_after n before) ≡ length before
      go (inl e) =
          let z = eqb-true (tally_refusal n (length before)) 0 e in
          ap length (sym (counters_made z)) ∙ tally_length n ∙ sym (taken n (length before) z).1
      go (inr e) = ap length (sym (counters_kept (eqb-false (tally_refusal n (length before)) 0 e)))
