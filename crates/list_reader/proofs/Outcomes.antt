-- What reading answers and leaves, by the tests in their order: a refusal leaves the table as it was, and a text that is taken makes the table of the nodes
-- that it names.
use mathlib.Core.Bool.{true, false, not}
use mathlib.Core.List.{List, ◌∷◌}
use mathlib.Core.Logic.{◌≢◌}
use mathlib.Core.Path.{◌≡◌, refl, sym, ap, ◌∙◌}
use Prim.Native.Nat.{ℕ, ◌^◌, ◌≤◌}
use lib.Dec.{eqb}
use lib.ListN.{length, replicate}
use borrow.Author.Tests.{eq-eqb, eqb-true, le-leb, ne_eqb, not-false}
use Rattle.std.specs.Prelude.{Ok, Err}
use Rattle.cube.specs.declared.refusals.Refusal.{Refusal}
use Rattle.cube.specs.declared.refusals.Refusal.TheVariants.{Dimension, Length}
use Rattle.cube.specs.Refusal.{first, ◌⇒◌}
use Rattle.cube.specs.Refused.{answered}
use Rattle.cube.specs.Tables.{is_dimension, table_len}
use Rattle.cube.proofs.Refusal.{first_le, first_none}
use Rattle.cube.proofs.Refused.{accepts, refusing}
use Rattle.cube.proofs.Tables.{dimension_is}
use Rattle.list_reader.specs.Front.{with_parts}
use Rattle.list_reader.specs.Reading.{list_refusal, list_table, text_tests}
use Rattle.ranges.specs.Grammar.{is_list, named_table, parts_of, reaches}
use Rattle.list_reader.proofs.Tables.{parts_table}

-- a text that no test stops keeps the rules and stays within the cube
pub text_good : (size : ℕ) (text : List ℕ) → first (text_tests size text) ≡ 0 → (is_list text ≡ true) × (reaches size text ≡ false)
text_good size text z = let t = first_none 14 (text_tests size text) refl z in (not-false (is_list text) t.0, t.1.0)

module _ (n : ℕ) (text faults : List ℕ) where
  -- ---- the table, by the number

  pub table_kept : {k : ℕ} → list_refusal n text faults ≡ k → k ≢ 0 → faults ≡ list_table n text faults
  unfolding list_table
  table_kept {k} e h = rw (e, ne_eqb k 0 h)

  pub table_read : list_refusal n text faults ≡ 0 → named_table n text ≡ list_table n text faults
  unfolding list_table
  table_read e = rw e

  -- ---- the number, by the tests

  -- the answer r, and what is left
  abbrev Refused : Refusal → Type 0
  Refused r = (Err r ≡ answered {A = Unit} (list_refusal n text faults) tt) × (faults ≡ list_table n text faults)

  refused : (r : Refusal) → Err r ≡ answered {A = Unit} (list_refusal n text faults) tt → Refused r
  refused r e = (e, table_kept refl (refusing _ tt r (sym e)))

  pub wrong_dimension : is_dimension n ≡ false → Refused Dimension
  unfolding list_refusal first
  wrong_dimension e = refused Dimension (rw e)

  pub wrong_length : is_dimension n ≡ true → length faults ≢ table_len n → Refused Length
  unfolding list_refusal first
  wrong_length e d = refused Length (rw (e, ne_eqb (length faults) (table_len n) d))

  module _ (e : is_dimension n ≡ true) (sized : length faults ≡ table_len n) where
    text_decides : list_refusal n text faults ≡ first (text_tests (2 ^ n) text)
    unfolding list_refusal first
    text_decides = rw (e, eq-eqb (length faults) (table_len n) sized)

    pub wrong_text : (r : Refusal) → answered {A = Unit} (first (text_tests (2 ^ n) text)) tt ≡ Err r → Refused r
    wrong_text r e = refused r (sym (ap (λ (k : ℕ). answered {A = Unit} k tt) text_decides ∙ e))

    pub right_text : first (text_tests (2 ^ n) text) ≡ 0 → {cleared after : List ℕ} → cleared ≡ replicate (length faults) 0
        → after ≡ with_parts cleared (parts_of text)
        → (Ok tt ≡ answered {A = Unit} (list_refusal n text faults) tt) × (after ≡ list_table n text faults)
    right_text z {cleared} {after} c a =
        let g = text_good (2 ^ n) text z in
        let zero_is = text_decides ∙ z in (
          sym (accepts _ tt zero_is),
          a ∙ ap (λ (t : List ℕ). with_parts t (parts_of text)) (c ∙ ap (λ (m : ℕ). replicate m 0) sized) ∙ parts_table n text g.0 g.1 ∙ table_read zero_is,
        )

  -- no test holds
  pub nothing_wrong : (1 ≤ n) × (n ≤ 12) → length faults ≡ table_len n → is_list text ≡ true → reaches (2 ^ n) text ≡ false → list_refusal n text faults ≡ 0
  unfolding list_refusal first is_dimension
  nothing_wrong d sized rules near = rw (le-leb 1 n d.0, le-leb n 12 d.1, eq-eqb (length faults) (table_len n) sized, rules, near)

  -- ---- from the number

  -- nothing is refused
  pub record Accepted : Type 0 where
    pub dimension : (1 ≤ n) × (n ≤ 12)
    pub sized : length faults ≡ table_len n
    pub rules : is_list text ≡ true
    pub near : reaches (2 ^ n) text ≡ false

  pub accepted : list_refusal n text faults ≡ 0 → Accepted
  unfolding list_refusal
  accepted z =
      let t = first_none 14 (not (is_dimension n) ⇒ 1 ∷ not (eqb (length faults) (table_len n)) ⇒ 2 ∷ text_tests (2 ^ n) text) refl z in
      record {
        dimension = dimension_is n (not-false _ t.0);
        sized = eqb-true _ _ (not-false _ t.1.0);
        rules = not-false _ t.1.1.0;
        near = t.1.1.1.0;
      }

  pub refusal_few : list_refusal n text faults ≤ 14
  unfolding list_refusal
  refusal_few = first_le 14 (not (is_dimension n) ⇒ 1 ∷ not (eqb (length faults) (table_len n)) ⇒ 2 ∷ text_tests (2 ^ n) text) refl
