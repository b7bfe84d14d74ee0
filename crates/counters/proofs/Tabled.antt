-- One table: the bytes of its number are the table, labelling takes it, and the nodes with label 3 are its faults, so the six counters from that place on are
-- those of its line.
use mathlib.Core.Bool.{true, false, cond}
use mathlib.Core.List.{List, [], ◌∷◌, ◌++◌}
use mathlib.Core.Logic.{◌⊎◌, inl, inr, ⊎_elim}
use mathlib.Core.Path.{◌≡◌, refl, sym, ap, subst, ◌∙◌}
use Prim.Native.Nat.{ℕ, ◌+◌, ◌-◌, ◌*◌, ◌/◌, ◌%◌, ◌^◌, ◌≤◌, ◌<◌}
use native.Mathlib.Omega.{arith}
use lib.Dec.{eqb, leb}
use lib.ListN.{drop, length, take}
use lib.Pow.{pow_mono}
use lib.Seq.{length-take-le}
use borrow.Author.Tests.{eq-eqb, eqb-false, eqb-true, le-leb, leb-false, leb-true, le-ltb, lt-ltb, ne_eqb}
use Rattle.std.specs.Int.{to_le_bytes, w16}
use Rattle.cube.specs.Tables.{empty_table, label_count, table_len}
use Rattle.cube.proofs.Bools.{either, or_left}
use Rattle.cube.proofs.Count.{count_bound, count_same}
use Rattle.cube.proofs.Tables.{len_large, len_small}
use Rattle.jobs.specs.Jobs.{half, label_bytes}
use Rattle.rule.specs.Cabinet.{Cabinet, cabinet, faulty, out, out_byte, plain}
use Rattle.rule.proofs.Cabinet.{plain_faulty, plain_out}
use Rattle.labels.specs.Labelling.{label_refusal, labels_after}
use Rattle.labels.proofs.Refusal.{labels_written, length_kept}
use Rattle.theorems.specs.Words.{label_at}
use Rattle.theorems.proofs.Demand2.{out_label, works}
use Rattle.figures.specs.Figures.{bytes_of, columns, counters_of, cube_of, faults_of, figure, table_of, tables}
use Rattle.figures.proofs.Numbers.{all_tables}
use Rattle.counters.specs.Helpers.{Tallying, plus, table_adds}
use Rattle.counters.proofs.Adding.{in_part, plus_part, plus_same}
use Rattle.counters.proofs.Rows.{label-count}

-- the counters from 6 * a on, six of them, are those of line a
in_line : (a : ℕ) (f : ℕ → ℕ) (i : ℕ) → in_part (columns * a) columns f i ≡ cond (eqb a (i / columns)) (f (i % columns)) 0
in_line a f i = go (either (eqb a (i / columns)))
  where
    go : (eqb a (i / columns) ≡ true) ⊎ (eqb a (i / columns) ≡ false) → in_part (columns * a) columns f i ≡ cond (eqb a (i / columns)) (f (i % columns)) 0
    go (inl e) =
        let z = eqb-true a (i / columns) e in
        let r : i - columns * a ≡ i % columns = omega (arith, z) in
        rw (e, le-leb (columns * a) i (omega (arith, z)), lt-ltb i (columns * a + columns) (omega (arith, z)), r) refl
    go (inr e) = rw e (outside (either (leb (columns * a) i)))
      where
        outside : (leb (columns * a) i ≡ true) ⊎ (leb (columns * a) i ≡ false) → in_part (columns * a) columns f i ≡ 0
        outside (inl b) =
            let d = eqb-false a (i / columns) e in
            let x = leb-true (columns * a) i b in
            rw (b, le-ltb i (columns * a + columns) (omega (arith, d, x))) refl
        outside (inr b) = rw b refl

module _ (n : ℕ) (dim : (1 ≤ n) × (n ≤ 4)) where
  pub few_nodes : 2 ^ n ≤ 16
  few_nodes = pow_mono {i = n} {j = 4} dim.1

  pub few_tables : tables n ≤ 65536
  few_tables = pow_mono {i = 2 ^ n} {j = 16} few_nodes

  -- a table is one byte, or two at n = 4
  lengths : ((n ≤ 3) × (table_len n ≡ 1)) ⊎ ((n ≡ 4) × (table_len n ≡ 2))
  lengths = go (either (leb n 3))
    where
      go : (leb n 3 ≡ true) ⊎ (leb n 3 ≡ false) → ((n ≤ 3) × (table_len n ≡ 1)) ⊎ ((n ≡ 4) × (table_len n ≡ 2))
      go (inl e) = let l = leb-true n 3 e in inl (l, len_small n l)
      go (inr e) =
          let four : n ≡ 4 = omega (arith, leb-false n 3 e) in
          inr (four, ap table_len four ∙ len_large 4 (omega arith))

  pub len_few : table_len n ≤ 2
  len_few = ⊎_elim (λ r. omega (arith, r.1)) (λ r. omega (arith, r.1)) lengths

  module _ (len : ℕ) (is-len : len ≡ table_len n) where
    pub front_length : (two : List ℕ) → length two ≡ 2 → len ≡ length (take len two)
    front_length two e = sym (length-take-le len two (omega (arith, is-len, len_few)))

    zeros_are : take len (0 ∷ 0 ∷ []) ≡ empty_table n
    zeros_are = rw is-len (⊎_elim (λ r. rw r.1 refl) (λ r. rw r.1 refl) lengths)

  module _ (t : ℕ) (h : t < tables n) where
    abbrev K : Cabinet
    K = cube_of n t

    -- ---- its bytes and labels; `len` is its length and `two` are the bytes of its number, as the code has them

    module _ (len : ℕ) (is-len : len ≡ table_len n) (two : List ℕ) (are : two ≡ to_le_bytes w16 t) where
      abbrev bytes : List ℕ
      bytes = take len two

      pub bytes_are : bytes ≡ table_of n t
      unfolding bytes_of
      bytes_are = rw (are, is-len) (⊎_elim (λ r. rw r.1 refl) (λ r. rw r.1 refl) lengths)

      -- labelling takes the table, and leaves its labels
      module _ (labels after : List ℕ) (sized : length labels ≡ label_bytes n) where
        abbrev given : Cabinet
        given = cabinet n 3 bytes (take len (0 ∷ 0 ∷ [])) (take len (0 ∷ 0 ∷ []))

        given_is : given ≡ K
        given_is = rw (zeros_are len is-len, bytes_are) refl

        pub tallying : after ≡ labels_after given 0 labels → Tallying n bytes after
        tallying e =
            let f = e ∙ ap (λ (C : Cabinet). labels_after C 0 labels) given_is in
            let ok = (all_tables n (dim.0, omega (arith, dim.1))).accepted t h in
            subst (λ (s : List ℕ). Tallying n s after) (sym bytes_are)
            (record {
              small = dim;
              accepted = ok;
              sized = ap length f ∙ length_kept K 0 labels ∙ sized;
              labelled = ap (half 0 (2 ^ n)) f ∙ labels_written K 0 labels (ap (label_refusal K 0) sized ∙ ok);
            })

    -- ---- its line

    is_three : (x : ℕ) → x < 2 ^ n → eqb (label_at K x) 3 ≡ faulty K x
    is_three x l = go (either (faulty K x))
      where
        go : (faulty K x ≡ true) ⊎ (faulty K x ≡ false) → eqb (label_at K x) 3 ≡ faulty K x
        go (inl e) =
            let o : out K x ≡ true = or_left _ e in
            let byte : out_byte K x ≡ 3 = rw e refl in
            eq-eqb (label_at K x) 3 (out_label K x l o ∙ byte) ∙ sym e
        go (inr e) =
            let o : out K x ≡ false = plain_out n 3 (table_of n t) x ∙ sym (plain_faulty n 3 (table_of n t) x) ∙ e in
            ne_eqb (label_at K x) 3 (λ z. omega (arith, z, works K x l o)) ∙ sym e

    pub fault_count : (faults labels : List ℕ) → faults ≡ table_of n t → Tallying n faults labels → label_count (half 0 (2 ^ n) labels) 3 ≡ faults_of K
    fault_count faults labels e T =
        label-count n (table_of n t) labels (subst (λ (s : List ℕ). Tallying n s labels) e T) 3
        ∙ count_same (2 ^ n) (λ x. eqb (label_at K x) 3) (faulty K) is_three

    -- F is its number of faults, as the code has it
    module _ (F : ℕ) (is-F : F ≡ faults_of K) where
      pub faults_few : F ≤ 16
      faults_few = omega (arith, is-F, count_bound (2 ^ n) (faulty K), few_nodes)

      pub line_within : columns * F + columns ≤ counters_of n
      line_within = omega (arith, is-F, count_bound (2 ^ n) (faulty K))

      -- the part of the counters, as the code cuts it
      module _ (l : List ℕ) where
        six : columns * F + columns - columns * F ≡ columns
        six = omega arith

        pub line_done : (faults r : List ℕ) → length l ≡ counters_of n → faults ≡ table_of n t
            → r ≡ plus columns (λ c. figure c (plain n 3 faults)) (take (columns * F + columns - columns * F) (drop (columns * F) l))
            → take (columns * F) l ++ (r ++ drop (columns * F + columns - columns * F) (drop (columns * F) l)) ≡ plus (counters_of n) (table_adds n t) l
        line_done faults r sized e f =
            rw six
            (plus_part (counters_of n) l sized (columns * F) columns line_within (λ c. figure c K) r (rw (six, e) at f)
            ∙ plus_same (counters_of n) _ l (table_adds n t)
            (λ i _. in_line F (λ c. figure c K) i ∙ ap (λ (k : ℕ). cond (eqb k (i / columns)) (figure (i % columns) K) 0) is-F))
