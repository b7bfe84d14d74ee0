-- The refusals of a hop, from those that the code finds one after the other: first what needs no label, then what the labels give. The question's table
-- is these parts in a row, so the first part that refuses gives the number of the whole.
use mathlib.Core.Path.{◌≡◌, refl, sym, ◌∙◌}
use mathlib.Core.Bool.{Bool, false}
use mathlib.Core.List.{List, [], ◌++◌}
use Prim.Native.Nat.{ℕ, ◌^◌}
use lib.Dec.{eqb, leb, ltb}
use borrow.Author.Tests.{eqb-true, leb-false, ltb-true, not-false}
use Rattle.std.specs.Prelude.{Result, Ok, Err}
use Rattle.cube.specs.declared.refusals.Refusal.{Refusal}
use Rattle.cube.specs.Count.{some}
use Rattle.cube.specs.Cube.{flip}
use Rattle.cube.specs.Refusal.{Test, first}
use Rattle.cube.specs.Refused.{answered}
use Rattle.cube.specs.Tables.{highest, is_dimension, label_in}
use Rattle.cube.proofs.Bools.{or_false}
use Rattle.cube.proofs.Refusal.{None, first_none, first_passes, first_stops}
use Rattle.cube.proofs.Refused.{accepted, passed_on, refusing}
use Rattle.cube.proofs.Tables.{dimension_is}
use Rattle.jobs.specs.Jobs.{Halved, is_job, label_bytes}
use Rattle.hop.specs.Helpers.{Asked, around, at_node, near_refusal, place_refusal, place_tests}
use Rattle.hop.specs.Hop.{hop, hop_refusal, hopped, near_tests}
use Rattle.hop.specs.declared.Decision.{Decision}

-- a table that refuses gives the refusal, whatever comes after it
pub refuses_first : {A B : Type 0} (ts us : List Test) (x : A) (y : B) (r : Refusal) → answered (first ts) x ≡ Err r → answered (first (ts ++ us)) y ≡ Err r
refuses_first ts us x y r e = rw (first_stops ts us (refusing (first ts) x r e)) (passed_on (first ts) x y r e)

-- ---- what needs no label, and what comes after it

module _ (n j a b m : ℕ) (other : Bool) (more : List Test) where
  halved : None (place_tests n j a b m other ++ more) → Halved n j m
  unfolding is_job
  halved t =
      record {
        small = (dimension_is n (not-false (is_dimension n) t.0)).1;
        job = ltb-true j 2 (not-false (is_job j) t.1.0);
        sized = eqb-true m (label_bytes n) (not-false (eqb m (label_bytes n)) t.1.1.0);
      }

  pub good_place : None (place_tests n j a b m other ++ more) → Asked n j a b m
  good_place t =
      let r = or_false (leb (2 ^ n) a) (leb (2 ^ n) b) t.1.1.1.1.0 in
      record {
        halved = halved t;
        first = leb-false (2 ^ n) a r.0;
        second = leb-false (2 ^ n) b r.1;
      }

  pub misplaced : {A B : Type 0} (x : A) (y : B) (r : Refusal) → answered (place_refusal n j a b m other) x ≡ Err r
      → answered (first (place_tests n j a b m other ++ more)) y ≡ Err r
  unfolding place_refusal
  misplaced x y r e = refuses_first (place_tests n j a b m other) more x y r e

  pub well_placed : place_refusal n j a b m other ≡ 0 → first (place_tests n j a b m other ++ more) ≡ first more
  unfolding place_refusal
  well_placed e = first_passes (place_tests n j a b m other) more (first_none 19 (place_tests n j a b m other) refl e)

pub placed : (n j a b m : ℕ) (other : Bool) → place_refusal n j a b m other ≡ 0 → Asked n j a b m
unfolding place_refusal
placed n j a b m other e = good_place n j a b m other [] (first_none 19 (place_tests n j a b m other) refl e)

-- ---- what is read at a node

module _ (n c d : ℕ) (lab : ℕ → ℕ) (high : Bool) (h : high ≡ some n (λ i. ltb highest (lab (flip i c)))) where
  pub node_refuses : {A : Type 0} (x : A) (r : Refusal) → answered (near_refusal c d (lab c) high) x ≡ Err r → at_node n c d lab ≡ Err r
  unfolding at_node
  node_refuses x r e = passed_on _ _ _ r (rw h at e)

  pub node_reads : (s : ℕ × ℕ × ℕ × ℕ × List ℕ) → s ≡ around n c d lab → {A : Type 0} (x y : A) → answered (near_refusal c d (lab c) high) x ≡ Ok y
      → Ok s ≡ at_node n c d lab
  unfolding at_node
  node_reads s g x y e = rw (g, (accepted _ _ _ (rw h at e)).0)

-- what is read in a job's half, h, by the numbers and bytes that the code has of it
module _ (n m : ℕ) (t h : List ℕ) (em : m ≡ n) (et : t ≡ h) (c d : ℕ) where
  pub half_read : (r : Result (ℕ × ℕ × ℕ × ℕ × List ℕ) Refusal) → r ≡ at_node m c d (label_in t) → at_node n c d (label_in h) ≡ r
  half_read r e = sym (rw (em, et) at e)

-- ---- the hop

module _ (n j c d m : ℕ) (lab : ℕ → ℕ) where
  abbrev near : List Test
  near = near_tests n c d (lab c) (λ i. lab (flip i c))

  pub hop_misplaced : {A B : Type 0} (x : A) (y : B) (r : Refusal) → answered (place_refusal n j c d m false) x ≡ Err r
      → answered (hop_refusal n j c d m lab) y ≡ Err r
  unfolding hop_refusal first
  hop_misplaced x y r e = misplaced n j c d m false near x y r e

  pub hop_placed : place_refusal n j c d m false ≡ 0 → hop_refusal n j c d m lab ≡ first near
  unfolding hop_refusal first
  hop_placed e = well_placed n j c d m false near e

  -- what the labels refuse, or do not
  module _ (e : place_refusal n j c d m false ≡ 0) where
    by_labels : hop_refusal n j c d m lab ≡ near_refusal c d (lab c) (some n (λ i. ltb highest (lab (flip i c))))
    unfolding near_refusal
    by_labels = hop_placed e

    pub hop_refuses : {A : Type 0} (x : A) (r : Refusal) → at_node n c d lab ≡ Err r → answered (hop_refusal n j c d m lab) x ≡ Err r
    unfolding at_node
    hop_refuses x r f = rw by_labels (passed_on _ _ x r f)

    pub hop_reads : (s : ℕ × ℕ × ℕ × ℕ × List ℕ) → at_node n c d lab ≡ Ok s → (hop_refusal n j c d m lab ≡ 0) × (s ≡ around n c d lab)
    unfolding at_node
    hop_reads s f = let r = accepted _ _ _ f in (by_labels ∙ r.0, sym r.1)

  -- where nothing is refused, the place is good
  pub hop_good : hop_refusal n j c d m lab ≡ 0 → Asked n j c d m
  unfolding hop_refusal first
  hop_good e = good_place n j c d m false near (first_none 19 (place_tests n j c d m false ++ near) refl e)

  pub hop_decides : (x : Decision) → hop_refusal n j c d m lab ≡ 0 → x ≡ hop n lab c d → Ok x ≡ hopped n j c d m lab
  unfolding hopped
  hop_decides x e ex = rw (e, ex)

  -- and what a decision says
  pub of_decided : (x : Decision) → hopped n j c d m lab ≡ Ok x → (hop_refusal n j c d m lab ≡ 0) × (hop n lab c d ≡ x)
  unfolding hopped
  of_decided x e = accepted _ _ _ e
