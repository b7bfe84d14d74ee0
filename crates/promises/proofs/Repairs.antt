-- Asking the neighbours, of any library that is faithful to the definitions: result and row are those of the definitions, whose laws are the crate repair's,
-- and the repaired table is one that the writer and labelling take.
use mathlib.Core.Bool.{true, false}
use mathlib.Core.List.{List}
use mathlib.Core.Logic.{◌⊎◌, inl, inr, ◌≢◌, ◌↔◌}
use mathlib.Core.Path.{◌≡◌, refl, sym, ap, subst, ◌∙◌}
use Prim.Native.Nat.{ℕ, ◌^◌, ◌≤◌}
use native.Mathlib.Omega.{arith}
use lib.Dec.{ltb}
use lib.ListN.{get_or, length, replicate}
use borrow.Author.Tests.{ltb-false, ltb-true}
use Rattle.cube.specs.Tables.{node_bit}
use Rattle.cube.proofs.Bools.{clash, either, is_false, or_false}
use Rattle.jobs.specs.Jobs.{label_for}
use Rattle.rule.specs.Cabinet.{Cabinet, cabinet}
use Rattle.spelling.specs.Laws.{Bytes, IsTable}
use Rattle.spelling.specs.Spelled.{notice_bytes}
use Rattle.spelling.proofs.Laws.{spelling_laws}
use Rattle.writer.proofs.Outcomes.{notice_few}
use Rattle.writer.proofs.Refusal.{has_room, wrote_length}
use Rattle.repair.specs.Laws.{Holds, NamesNode}
use Rattle.repair.specs.Repaired.{namers, repaired}
use Rattle.repair.specs.Repairing.{repair_refusal}
use Rattle.repair.proofs.Laws.{repair_laws}
use Rattle.repair.proofs.Outcomes.{Accepted, accepted, result_kept, result_long, result_made, row_kept, row_long, row_made, taken}
use Rattle.walk.specs.declared.Walked.{Walked}
use Rattle.theorems.specs.Demand3.{Walks}
use Rattle.theorems.specs.Words.{Takes, Works, place}
use Rattle.promises.specs.Demands.{Demands}
use Rattle.promises.specs.Library.{Library, rattle, c}
use Rattle.promises.specs.Refusals.{RepairGiven, TableLength, here, later, none, repair_1, repair_3}
use Rattle.promises.specs.Repairs.{Repairs}
use Rattle.promises.proofs.Demands.{c_demands, rattle_demands, table_labels}
use Rattle.promises.proofs.Given.{table_length, unused_says}
use Rattle.promises.proofs.Library.{Faithful, rattle_faithful, c_faithful}
use Rattle.promises.proofs.Refusals.{refusals}

module _ (lib : Library) (F : Faithful lib) (D : Demands lib) where
  module _ {n : ℕ} {faults masks result row t r : List ℕ} (m : lib.repairs n faults masks result row 0 t r) where
    nothing : repair_refusal n faults masks (length result) (length row) ≡ 0
    nothing = sym (F.repairs m).0

    good : Accepted n faults masks (length result) (length row)
    good = accepted n faults masks (length result) (length row) nothing

    table_is : t ≡ repaired n faults masks
    table_is = (F.repairs m).1 ∙ sym (result_made n faults masks result row nothing)

    row_is : r ≡ namers n faults masks
    row_is = (F.repairs m).2 ∙ sym (row_made n faults masks result row nothing)

    is_table : IsTable n t
    is_table = subst (IsTable n) (sym table_is) (repair_laws.table n faults masks good.table)

    -- a node's bit, and its number in the row, as the definitions have them
    bit_is : (k : ℕ) → node_bit t k ≡ node_bit (repaired n faults masks) k
    bit_is k = ap (λ (s : List ℕ). node_bit s k) table_is

    number_is : (k : ℕ) → get_or r k 0 ≡ get_or (namers n faults masks) k 0
    number_is k = ap (λ (s : List ℕ). get_or s k 0) row_is

    node : (k : ℕ) → (node_bit t k ≡ true) ↔ ((node_bit faults k ≡ true) ⊎ ((w : ℕ) × NamesNode n faults masks w k))
    node k =
        let L = repair_laws.node n faults masks k good.table in
        (λ e. L.0 (sym (bit_is k) ∙ e), λ e. bit_is k ∙ L.1 e)

    no_more : (k : ℕ) → node_bit t k ≡ true → node_bit faults k ≡ false → (w : ℕ) × NamesNode n faults masks w k
    no_more k e old = repair_laws.no_more n faults masks k good.table (sym (bit_is k) ∙ e) old

    -- a node that the table does not have is no old fault, and nobody names it
    clear_of : (x : ℕ) → node_bit t x ≡ false → (node_bit faults x ≡ false) × ((u : ℕ) → ¬ (NamesNode n faults masks u x))
    clear_of x e = (is_false (λ f. clash ((node x).1 (inl f)) e), λ u N. clash ((node x).1 (inr (u, N))) e)

    others : (k : ℕ) → (node_bit faults k ≡ true) ⊎ ((w : ℕ) → ¬ (NamesNode n faults masks w k)) → get_or r k 0 ≡ 0
    others k e = number_is k ∙ repair_laws.others n faults masks k e

    tells : (k : ℕ) → (get_or r k 0 ≢ 0) ↔ ((node_bit t k ≡ true) × (node_bit faults k ≡ false))
    tells k = (λ d. (is_there d (either (node_bit t k)), is_false (λ e. d (others k (inl e)))), said)
      where
        is_there : get_or r k 0 ≢ 0 → (node_bit t k ≡ true) ⊎ (node_bit t k ≡ false) → node_bit t k ≡ true
        is_there d (inl a) = a
        is_there d (inr a) = absurd (d (others k (inr (clear_of k a).1)))

        said : (node_bit t k ≡ true) × (node_bit faults k ≡ false) → get_or r k 0 ≢ 0
        said p z =
            let (w, N) = no_more k p.0 p.1 in
            let (v, e, L) = repair_laws.row n faults masks w k p.1 N in
            omega (arith, z, e, number_is k)

    -- once more
    again : {k : ℕ} {result' row' t' r' : List ℕ} → Bytes faults → TableLength n (length result') → length row' ≡ 2 ^ n
        → lib.repairs n t masks result' row' k t' r' → (k ≡ 0) × (t' ≡ t) × (r' ≡ replicate (2 ^ n) 0)
    again {k} {result'} {row'} {t'} {r'} b tl rl m' =
        let f = F.repairs m' in
        let L = repair_laws.again n faults masks good.table b in
        let z : repair_refusal n t masks (length result') (length row') ≡ 0 =
        taken n t masks (length result') (length row')
        (record { table = is_table; masked = good.masked; resulting = table_length n (length result') tl; rowed = rl; none = good.none }) in (
          f.0 ∙ z,
          f.1 ∙ sym (result_made n t masks result' row' z) ∙ ap (λ (s : List ℕ). repaired n s masks) table_is ∙ L.0 ∙ sym table_is,
          f.2 ∙ sym (row_made n t masks result' row' z) ∙ ap (λ (s : List ℕ). namers n s masks) table_is ∙ L.1,
        )

  -- ---- the chain

  -- what an accepted notice left is a table, so of the refusals only those for the lengths and for the masks are left
  only_lent : {n k : ℕ} {faults masks : List ℕ} {result row : ℕ} → IsTable n faults → RepairGiven n faults masks result row k
      → (k ≡ 0) ⊎ (k ≡ 2) ⊎ (k ≡ 17)
  only_lent is (here (repair_1 d)) = absurd (d is.dimension)
  only_lent is (later _ (here _)) = inr (inl refl)
  only_lent {n} {k} {faults} is (later _ (later _ (here (repair_3 u)))) = absurd (clash ((unused_says n faults).1 u) is.unused)
  only_lent is (later _ (later _ (later _ (here _)))) = inr (inr refl)
  only_lent is (later _ (later _ (later _ (later _ none)))) = inl refl

  -- a node that works, or takes the frames addressed to it, is not in the fault table
  works_clear : (K : Cabinet) (x : ℕ) → Works K x → node_bit K.faults x ≡ false
  works_clear K x h = (or_false _ _ (or_false _ _ h.1).0).0

  takes_clear : (K : Cabinet) (x : ℕ) → Takes K x → node_bit K.faults x ≡ false
  takes_clear K x h = (or_false _ _ h.1).0

  on_the_way : (K : Cabinet) (lab : ℕ → ℕ) (s d : ℕ) (w : Walked) → Takes K d → Walks K lab s d w → (i : ℕ) → i ≤ w.hops
      → node_bit K.faults (place w i) ≡ false
  on_the_way K lab s d w hd W i h = go (either (ltb i w.hops))
    where
      last : Works K (place w w.hops) ⊎ (place w w.hops ≡ d) → node_bit K.faults (place w w.hops) ≡ false
      last (inl a) = works_clear K (place w w.hops) a
      last (inr e) = ap (node_bit K.faults) e ∙ takes_clear K d hd

      go : (ltb i w.hops ≡ true) ⊎ (ltb i w.hops ≡ false) → node_bit K.faults (place w i) ≡ false
      go (inl a) = works_clear K (place w i) (W.stepped.works i (ltb-true i w.hops a))
      go (inr a) =
          let e : i ≡ w.hops = omega (arith, h, ltb-false i w.hops a) in
          ap (λ (k : ℕ). node_bit K.faults (place w k)) e ∙ last W.stepped.last_works

  -- ---- all of it

  pub repairs : Repairs lib
  repairs =
      record {
        refusal = λ {n} {k} {faults} {masks} {result} {row} m.
            subst (RepairGiven n faults masks (length result) (length row)) (sym (F.repairs m).0)
            (refusals.repairing n faults masks (length result) (length row));
        kept = λ {n} {k} {faults} {masks} {result} {row} m d.
            let f = F.repairs m in
            let h : repair_refusal n faults masks (length result) (length row) ≢ 0 = λ z. d (f.0 ∙ z) in
            (f.1 ∙ sym (result_kept n faults masks result row h), f.2 ∙ sym (row_kept n faults masks result row h));
        node = λ m k. node m k;
        row = λ {n} {w} {k} {faults} {masks} m old N.
            let (v, e, L) = repair_laws.row n faults masks w k old N in
            (v, number_is m k ∙ e, L);
        others = λ m k. others m k;
        row_tells = λ m k. tells m k;
        sized = λ {n} {k} {faults} {masks} {result} {row} m.
            let f = F.repairs m in
            (ap length f.1 ∙ result_long n faults masks result row, ap length f.2 ∙ row_long n faults masks result row);
        overwritten = λ m m'. (table_is m ∙ sym (table_is m'), row_is m ∙ sym (row_is m'));
        unheard = λ {n} {faults} {masks} {masks'} m m' same.
            let L = repair_laws.unheard n faults masks masks' same in
            (table_is m ∙ L.0 ∙ sym (table_is m'), row_is m ∙ L.1 ∙ sym (row_is m'));
        again = λ m b tl rl m'. again m b tl rl m';
        holds = λ {n} {faults} {masks} m. subst (Holds n faults masks) (sym (table_is m)) (repair_laws.holds n faults masks (good m).table);
        least = λ {n} {faults} {masks} {result} {row} {t} {r} {u} m H k e.
            repair_laws.least n faults masks u (good m).table H k (sym (bit_is m k) ∙ e);
        no_more = λ m k. no_more m k;
        none = λ {n} {faults} {masks} m z. let L = repair_laws.none n faults masks z in (table_is m ∙ L.0, row_is m ∙ L.1);
        table = λ {n} {faults} {masks} m. (is_table m, λ b. subst Bytes (sym (table_is m)) (repair_laws.bytes n faults masks b));
        writes = λ {n} {faults} {masks} {result} {row} {t} {r} {before} m h w.
            let s : List ℕ = notice_bytes n t in
            let z = has_room n t s (length before) (is_table m) (omega (arith, notice_few n t (is_table m), h)) in
            (length s, (F.writes w).0 ∙ sym (wrote_length n t s (length before) z));
        labels = λ m. table_labels lib F (is_table m);
        notice_repairs = λ {n} {m} {taken} {k} {bytes} {old} {faults} {masks} {result} {row} a b.
            let f = F.reads a in
            only_lent (subst (IsTable n) (sym f.1) (spelling_laws.is_table bytes old n m taken (sym f.0)))
            (subst (RepairGiven n faults masks (length result) (length row)) (sym (F.repairs b).0)
            (refusals.repairing n faults masks (length result) (length row)));
        walks = λ {n} {m} {taken} {rule} {j} {exchanges} {s} {d} {bytes} {old} {faults} {masks} {result} {row} {t} {r} {draining} {closed} {before} {buffer} {w}
            a b l hs hd v.
            let K = cabinet n rule t draining closed in
            let W = D.walks l hs hd v in
            (W, λ i h. clear_of b (place w i) (on_the_way K (label_for n j buffer) s d w hd W i h));
      }

pub rattle_repairs : Repairs rattle
rattle_repairs = repairs rattle rattle_faithful rattle_demands

pub c_repairs : Repairs c
c_repairs = repairs c c_faithful c_demands
