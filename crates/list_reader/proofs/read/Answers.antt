-- `read` makes the tests in their order, and writes only where none holds.
use mathlib.Core.Bool.{true}
use mathlib.Core.Path.{◌≡◌, sym, ap, subst, ◌∙◌}
use Prim.Native.Nat.{ℕ, ◌^◌}
use native.Mathlib.Omega.{arith}
use lib.ListN.{length, length-replicate}
use Rattle.std.specs.Prelude.{Err}
use Rattle.cube.specs.Refusal.{first}
use Rattle.cube.specs.Refused.{answered}
use Rattle.cube.specs.Tables.{is_dimension, table_len}
use Rattle.cube.proofs.Refused.{accepted, passes}
use Rattle.cube.proofs.Tables.{dimension_is, nodes_few, table_few, table_room}
use Rattle.spelling.specs.Laws.{Bytes}
use Rattle.spelling.proofs.Tables.{bytes_zeros}
use Rattle.list_reader.specs.Reading.{text_tests}
use Rattle.list_reader.proofs.Outcomes.{right_text, text_good, wrong_dimension, wrong_length, wrong_text}
use Rattle.list_reader.proofs.Tables.{reaches_wider}
use Rattle.list_reader.proofs.read.Goals as goal
use Rattle.list_reader.proofs.read.Goals.{Else-faults-table_len, Else-not-is_dimension, In_err-check, In_ok-check}

-- past the first test n is a dimension, and past the second the table has its length
dimension : (c : Else-not-is_dimension) → is_dimension c.args.n ≡ true
dimension c = sym c.is_dimension.ensures ∙ c.if-not-is_dimension.false

sized : (c : Else-faults-table_len) → let a = c.args in length a.faults.now ≡ table_len a.n
sized c = c.if-faults-table_len.false ∙ c.table_len.ensures

-- what the text's tests gave, and where they gave nothing
judged : (c : In_err-check) → let a = c.args in answered {A = Unit} (first (text_tests (2 ^ a.n) a.text.now)) tt ≡ Err c.in_err-check.field-0.0
judged c =
    let a = c.args in
    rw (sym c.nodes.ensures) (sym c.check.ensures ∙ c.in_err-check.was)

none : (c : In_ok-check) → let a = c.args in first (text_tests (2 ^ a.n) a.text.now) ≡ 0
none c =
    let a = c.args in
    rw (sym c.nodes.ensures) (accepted _ tt _ (sym c.check.ensures ∙ c.in_ok-check.was)).0

pub returns-then-not-is_dimension : goal.returns-then-not-is_dimension
returns-then-not-is_dimension c =
    let a = c.args in
    let r = wrong_dimension a.n a.text.now a.faults.now (sym c.is_dimension.ensures ∙ c.if-not-is_dimension.true) in
    record { answer = r.0; table = r.1 }

pub table_len-requires : goal.table_len-requires
table_len-requires c = omega (arith, (dimension_is _ (dimension (goal.at.table_len-requires c).Else-not-is_dimension)).1)

pub returns-then-faults-table_len : goal.returns-then-faults-table_len
returns-then-faults-table_len c =
    let a = c.args in
    let r = wrong_length a.n a.text.now a.faults.now (dimension (goal.at.returns-then-faults-table_len c).Else-not-is_dimension)
    (λ e. c.if-faults-table_len.true (e ∙ sym c.table_len.ensures)) in
    record { answer = r.0; table = r.1 }

pub nodes-requires : goal.nodes-requires
nodes-requires c = omega (arith, (dimension_is _ (dimension (goal.at.nodes-requires c).Else-not-is_dimension)).1)

pub check-requires : goal.check-requires
check-requires c = omega (arith, c.nodes.ensures, nodes_few _ (dimension_is _ (dimension (goal.at.check-requires c).Else-not-is_dimension)).1)

pub returns-in_err-check : goal.returns-in_err-check
returns-in_err-check c =
    let p = goal.at.returns-in_err-check c in
    let a = c.args in
    let t = wrong_text a.n a.text.now a.faults.now (dimension p.Else-not-is_dimension) (sized p.Else-faults-table_len) _ (judged p.In_err-check) in
    record { answer = passes _ c.from_residual.ensures ∙ t.0; table = t.1 }

pub put_entries-requires : goal.put_entries-requires
put_entries-requires c =
    let a = c.args in
    let p = goal.at.put_entries-requires c in
    let g = text_good (2 ^ a.n) a.text.now (none p.In_ok-check) in
    let z = c.clear.ensures in
    let long : length c.clear.new.faults ≡ table_len a.n =
    ap length z ∙ length-replicate {A = ℕ} (length a.faults.now) 0 ∙ sized p.Else-faults-table_len in
    record {
      faults_len_bound = (
        omega (arith, long, table_few a.n (dimension_is _ (dimension p.Else-not-is_dimension)).1),
        subst Bytes (sym z) (bytes_zeros (length a.faults.now)),
      );
      text_judged = (g.0, reaches_wider (2 ^ a.n) _ a.text.now (omega (arith, long, table_room a.n)) g.1);
    }

pub returns : goal.returns
returns c =
    let a = c.args in
    let p = goal.at.returns c in
    let r = right_text a.n a.text.now a.faults.now (dimension p.Else-not-is_dimension) (sized p.Else-faults-table_len) (none p.In_ok-check)
    c.clear.ensures c.put_entries.ensures in
    record { answer = r.0; table = r.1 }
