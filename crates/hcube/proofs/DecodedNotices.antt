-- A notice, its dimension by itself, what writing one answers, and what reading and writing a list text and repairing a table answer, come out of their
-- numbers as they were put in.
use mathlib.Core.List.{List}
use mathlib.Core.Path.{◌≡◌, refl, ◌∙◌}
use Prim.Native.Nat.{ℕ, ◌≤◌, ◌<◌}
use native.Mathlib.Omega.{arith}
use borrow.Author.Tests.{ne_eqb}
use lib.ListN.{length}
use Rattle.std.specs.Prelude.{Ok, Err}
use Rattle.cube.specs.Refused.{number}
use Rattle.groups.specs.Number.{Number, refusal_in}
use Rattle.notice.specs.Notice as N
use Rattle.notice.proofs.Agree.{parts}
use Rattle.notice.proofs.Refusals.{refused_notice}
use Rattle.spelling.specs.Laws.{IsTable}
use Rattle.spelling.specs.Spelled.{notice_bytes}
use Rattle.writer.specs.Writing as T
use Rattle.writer.proofs.Outcomes.{length_few, notice_few}
use Rattle.ranges.specs.Written.{list_text}
use Rattle.ranges.proofs.Laws.{ranges_laws}
use Rattle.list_reader.specs.Reading.{list_refusal}
use Rattle.list_reader.proofs.Outcomes.{refusal_few}
use Rattle.list_writer.specs.Lists.{wrote_list}
use Rattle.repair.specs.Repairing.{repair_refusal}
use Rattle.repair.proofs.Outcomes as repairing
use Rattle.hcube.specs.Answers.{dimension_number, done_number, notice_number, packed, packed_notice, written_number}
use Rattle.hcube.specs.Decoded.{noticed_from, refusal_part, value_part, wrote_from}
use Rattle.cube.proofs.Refused.{refusal_back}
use Rattle.hcube.proofs.Parts.{above, count_is, dimension_is, few, named, reads_err, reads_ok, refusal_is, some, value_is}
use Rattle.hcube.proofs.Small.{LabelFits, dimension_small}

pub dimension_decoded : (bytes : List ℕ)
    → N.Told (N.dimension_at bytes) (refusal_part (dimension_number (N.dimension_at bytes))) (value_part (dimension_number (N.dimension_at bytes)))
dimension_decoded bytes =
    let f = dimension_small bytes (N.dimension_at bytes) refl in
    record {
      refusal = refusal_is (refusal_in (N.dimension_at bytes)) 0 (N.dimension_value (N.dimension_at bytes)) (told (N.dimension_at bytes)) (omega arith) f;
      value = value_is (refusal_in (N.dimension_at bytes)) 0 (N.dimension_value (N.dimension_at bytes)) f;
    }
  where
    told : (x : Number) → refusal_in x < 256
    told (Ok x) = omega arith
    told (Err x) = few x.0

pub notice_decoded : (bytes before : List ℕ) → noticed_from (notice_number (N.noticed bytes before)) ≡ N.noticed bytes before
unfolding noticed_from
notice_decoded bytes before = go (N.noticed bytes before) refl
  where
    go : (a : N.Noticed) → N.noticed bytes before ≡ a → noticed_from (notice_number a) ≡ a
    go (Ok x) e =
        let p = parts bytes before x.n x.count x.taken e in
        let low = above x.n x.count (packed 0 0 x.taken) in
        let r : refusal_part (packed_notice x.n x.count (packed 0 0 x.taken)) ≡ 0 =
        low.refusal ∙ refusal_is 0 0 x.taken (omega arith) (omega arith) (omega (arith, p.short)) in
        let a = dimension_is x.n x.count x.taken p.dimension p.count p.short in
        let b = count_is x.n x.count x.taken p.count p.short in
        let c : value_part (packed_notice x.n x.count (packed 0 0 x.taken)) ≡ x.taken = low.value ∙ value_is 0 0 x.taken (omega (arith, p.short)) in
        rw (r, a, b, c)
    go (Err (k, at)) e =
        let p = refused_notice bytes before k at e in
        let n = few k in
        let r : refusal_part (packed_notice 0 0 (packed (number k) 0 at)) ≡ number k = omega (arith, p.near) in
        let c : value_part (packed_notice 0 0 (packed (number k) 0 at)) ≡ at = omega (arith, p.near) in
        rw (r, c, ne_eqb (number k) 0 (some k), named (number k) k refl, refusal_back k)

-- what writing answers
wrote_back : (a : T.Wrote) → LabelFits a → wrote_from (written_number a) ≡ a
unfolding wrote_from
wrote_back (Ok v) f = reads_ok _ _ (refusal_is 0 0 v (omega arith) (omega arith) f) (value_is 0 0 v f)
wrote_back (Err r) f = reads_err _ _ _ r (refusal_is (number r) 0 0 (few r) (omega arith) (omega arith))

-- of writing the bytes w, where they are few
written_fits : (n : ℕ) (faults w : List ℕ) (room : ℕ) → (IsTable n faults → length w ≤ 65535) → LabelFits (T.wrote_bytes n faults w room)
written_fits n faults w room few = go (T.wrote_bytes n faults w room) refl
  where
    go : (a : T.Wrote) → T.wrote_bytes n faults w room ≡ a → LabelFits a
    go (Ok len) e = omega (arith, length_few n faults w room e few)
    go (Err r) e = omega arith

-- of a notice, and of a list text
module _ (n : ℕ) (faults : List ℕ) (room : ℕ) where
  pub notice_fits : LabelFits (T.wrote n faults room)
  notice_fits = written_fits n faults (notice_bytes n faults) room (λ t. omega (arith, notice_few n faults t))

  pub written_decoded : wrote_from (written_number (T.wrote n faults room)) ≡ T.wrote n faults room
  written_decoded = wrote_back (T.wrote n faults room) notice_fits

  pub list_fits : LabelFits (wrote_list n faults room)
  list_fits = written_fits n faults (list_text n faults) room (λ t. omega (arith, ranges_laws.short n faults t.dimension.1))

  pub list_decoded : wrote_from (written_number (wrote_list n faults room)) ≡ wrote_list n faults room
  list_decoded = wrote_back (wrote_list n faults room) list_fits

-- of an answer that is nothing but its refusal
done_refused : (k : ℕ) → k < 256 → refusal_part (done_number k) ≡ k
done_refused k h = refusal_is k 0 0 h (omega arith) (omega arith)

pub list_refused : (n : ℕ) (text faults : List ℕ) → refusal_part (done_number (list_refusal n text faults)) ≡ list_refusal n text faults
list_refused n text faults = done_refused (list_refusal n text faults) (omega (arith, refusal_few n text faults))

pub repair_refused : (n : ℕ) (faults masks : List ℕ) (result row : ℕ)
    → refusal_part (done_number (repair_refusal n faults masks result row)) ≡ repair_refusal n faults masks result row
repair_refused n faults masks result row =
    done_refused (repair_refusal n faults masks result row) (omega (arith, repairing.refusal_few n faults masks result row))
