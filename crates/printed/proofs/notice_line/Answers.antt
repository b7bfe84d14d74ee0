-- `notice_line`: the refusal of the notice, or the first line with the labels of its cube, which fit their table.
use mathlib.Core.Path.{◌≡◌, sym, ap, ◌∙◌}
use Prim.Native.Nat.{ℕ, ◌≤◌}
use native.Mathlib.Omega.{arith}
use lib.ListN.{length, length-replicate, length-take, replicate, take}
use Rattle.cube.proofs.Tables.{zeros_front}
use Rattle.jobs.specs.Jobs.{label_bytes}
use Rattle.printed.proofs.Heads.{cube_head, few_nodes, labels_fit, refused_head}
use Rattle.printed.proofs.notice_line.Goals as goal
use Rattle.printed.proofs.notice_line.Goals.{After-label_bytes-bytes}

pub label_bytes-bytes-requires : goal.label_bytes-bytes-requires
label_bytes-bytes-requires c = omega (arith, few_nodes _ _ c.requires.faults_len (sym c.read.ensures.answer ∙ c.in-Ok.is))

whole : (c : After-label_bytes-bytes) → length c.args.labels.now ≡ 8192
whole c = ap length c.requires.labels_value ∙ length-replicate {A = ℕ} 8192 0

fits : (c : After-label_bytes-bytes) → c.label_bytes-bytes.result ≤ 8192
unfolding label_bytes
fits c = omega (arith, few_nodes _ _ c.requires.faults_len (sym c.read.ensures.answer ∙ c.in-Ok.is), c.label_bytes-bytes.ensures)

zeros : (c : After-label_bytes-bytes) → take c.label_bytes-bytes.result c.args.labels.now ≡ replicate c.label_bytes-bytes.result 0
zeros c = ap (take c.label_bytes-bytes.result) c.requires.labels_value ∙ zeros_front c.label_bytes-bytes.result 8192 (fits c)

pub slice_bounds-first_line-end : goal.slice_bounds-first_line-end
slice_bounds-first_line-end c = let s = (goal.at.slice_bounds-first_line-end c).After-label_bytes-bytes in omega (arith, fits s, whole s)

pub first_line-requires : goal.first_line-requires
first_line-requires c =
    let s = (goal.at.first_line-requires c).After-label_bytes-bytes in
    let fit = labels_fit _ _ c.requires.faults_len (sym c.read.ensures.answer ∙ c.in-Ok.is) c.read.ensures.table in
    fit (simp length-take (omega (arith, fits s, whole s, c.label_bytes-bytes.ensures)))

pub returns-in-Err : goal.returns-in-Err
returns-in-Err c = refused_head _ _ c.requires.faults_len _ (sym c.read.ensures.answer ∙ c.in-Err.is) (rw c.from.ensures at c.refused_line.ensures)

pub returns-in-Ok : goal.returns-in-Ok
returns-in-Ok c =
    let l = c.first_line.ensures in
    cube_head _ _ c.requires.faults_len (sym c.read.ensures.answer ∙ c.in-Ok.is) c.read.ensures.table _ _ _ c.label_bytes-bytes.ensures
    (zeros (goal.at.returns-in-Ok c).After-label_bytes-bytes ∙ ap (λ (k : ℕ). replicate k 0) c.label_bytes-bytes.ensures) l.line l.labels
