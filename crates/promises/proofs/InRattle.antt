-- Each is what the contracts say, and the law of the definition that they cite.
use mathlib.Core.List.{List}
use mathlib.Core.Path.{◌≡◌, sym, ap, ap₂, subst, ◌∙◌}
use Prim.Native.Nat.{ℕ, zero, suc, ◌+◌}
use denote.Ref.{Bor}
use lib.ListN.{drop}
use Rattle.cube.specs.Allowed.{May}
use Rattle.cube.proofs.Contracts.{told}
use Rattle.groups.specs.Number.{number_at, refusal_in}
use Rattle.groups.specs.Number.{Number}
use Rattle.groups.proofs.Functions as groups
use Rattle.groups.proofs.Laws.{number_laws}
use Rattle.notice.proofs.Functions as notice
use Rattle.notice.proofs.Laws.{notice_laws}
use Rattle.reader.specs.Reader.{place_after}
use Rattle.reader.specs.Reading.{answers, places}
use Rattle.reader.specs.declared.Reader.{Reader}
use Rattle.reader.specs.declared.Step.{Step}
use Rattle.reader.proofs.Functions as reader
use Rattle.reader.proofs.Laws.{reader_laws}
use Rattle.cube.specs.Refused.{refusal}
use Rattle.cube.proofs.Refused.{refusal_back}
use Rattle.promises.specs.InRattle.{InRattle}
use Rattle.promises.specs.Refusals.{NumberGiven}
use Rattle.promises.proofs.Refusals.{refusals}

-- a reader asked again and again keeps its bytes, and is at the place that the answer before left
module _ {bytes : Bor (List ℕ)} {r : ℕ → Reader} {x : ℕ → Number} (first : May reader.new bytes (r 0) tt)
    (then : (k : ℕ) → May reader.next (r k) (x k) (r (suc k))) where
  stands : (k : ℕ) → r k ≡ record { bytes = bytes; at = places bytes.now k }
  unfolding places
  stands zero = (told reader.new_says first).0
  stands (suc k) =
      (told reader.next_says (then k)).1 ∙ ap (λ (r : Reader). record { bytes = r.bytes; at = place_after r.bytes.now r.at }) (stands k)

  through : (k : ℕ) → (x k ≡ answers bytes.now k) × ((r k).at ≡ places bytes.now k)
  unfolding answers
  through k = (
    (told reader.next_says (then k)).0 ∙ ap (λ (r : Reader). number_at r.bytes.now r.at) (stands k),
    ap (λ (r : Reader). r.at) (stands k),
  )

pub in_rattle : InRattle
in_rattle =
    record {
      tail_behind = λ {bytes} {before} {after} {n} {m} {taken} {block} {offset} r t. (told notice.tail_says t).0
          ∙ ap (λ (k : ℕ). (drop k bytes, (block, offset + k))) (notice_laws.tail_behind bytes before n m taken (sym (told notice.read_says r).0));
      tail_empty = λ {bytes} {before} {after} {at} {block} {offset} {r = k} r h t.
          let e = notice_laws.tail_empty bytes before k at (sym (told notice.read_says r).0) (λ z. h (sym (refusal_back k) ∙ ap refusal z)) in
          (told notice.tail_says t).0 ∙ ap₂ (λ (s : List ℕ) (j : ℕ). (s, (block, offset + j))) e.1 e.0;
      number_refusal = λ {bytes} {at} m. subst (λ (x : Number). NumberGiven bytes at (refusal_in x)) (sym (told groups.number_at_says m).0)
          (refusals.number bytes at);
      number_place = λ {bytes} {at} m. number_laws.refused_place bytes at _ _ (sym (told groups.number_at_says m).0);
      new = λ m. let e = (told reader.new_says m).0 in (ap (λ (r : Reader). r.bytes) e, ap (λ (r : Reader). r.at) e);
      next = λ m y. (told reader.next_says m).0 ∙ sym (told groups.number_at_says y).0;
      next_keeps = λ m. ap (λ (r : Reader). r.bytes) (told reader.next_says m).1;
      next_moves = λ {r} m. let t = told reader.next_says m in ap (λ (r : Reader). r.at) t.1 ∙ reader_laws.moves r.bytes.now r.at _ _ (sym t.0);
      next_stays = λ {r} m. let t = told reader.next_says m in ap (λ (r : Reader). r.at) t.1 ∙ reader_laws.stays r.bytes.now r.at _ _ (sym t.0);
      next_place = λ {r} m. let t = told reader.next_says m in
          reader_laws.keeps r.bytes.now r.at _ _ (sym t.0) ∙ sym (ap (λ (r : Reader). r.at) t.1);
      through = λ m f. through m f;
      notice-refused = λ {bytes} {before} {after} {r = k} {at} m. reader_laws.refused bytes before k at (sym (told notice.read_says m).0);
      notice_read = λ {bytes} {before} {after} {n} {m} {taken} r. reader_laws.whole bytes before n m taken (sym (told notice.read_says r).0);
      next-at = λ m y. ap (λ (x : Step). x.number) (told reader.next_at_says m).0 ∙ sym (told groups.number_at_says y).0;
      next_at_moves = λ {bytes} {at} m e. let t = (told reader.next_at_says m).0 in
          ap (λ (x : Step). x.at) t ∙ reader_laws.moves bytes at _ _ (ap (λ (x : Step). x.number) (sym t) ∙ e);
      next_at_stays = λ {bytes} {at} m e. let t = (told reader.next_at_says m).0 in
          let n = ap (λ (x : Step). x.number) (sym t) ∙ e in
          (ap (λ (x : Step). x.at) t ∙ reader_laws.stays bytes at _ _ n, number_laws.refused_place bytes at _ _ n);
    }
