use mathlib.Core.Path.{◌≡◌, sym, ap, ◌∙◌}
use Prim.Native.Nat.{ℕ}
use native.Mathlib.Omega.{arith}
use borrow.Author.Tests.{lt-ltb, le-ltb}
use lib.Dec.{ltb}
use lib.ListN.{replicate}
use Rattle.cube.specs.Cube.{flip}
use Rattle.cube.specs.Tables.{highest, label_in}
use Rattle.cube.proofs.Cube.{flip_lt}
use Rattle.cube.proofs.Search.{some_none, some_same}
use Rattle.cube.proofs.Front.{front, front_zero, front_zeros, front_write}
use Rattle.hop.specs.Helpers.{gathered}
use Rattle.hop.proofs.Gathered.{near_at}
use Rattle.hop.proofs.Joined.{joined_next}
use Rattle.hop.proofs.gather.Goals as goal
use Rattle.hop.proofs.gather.Goals.{After-loop-i}

pub loop-i-init : goal.loop-i-init
loop-i-init c = (c.requires.1 ∙ front_zero _ _, λ k h. absurd (omega arith))

pub at-label-requires : goal.at-label-requires
at-label-requires c =
    omega (arith, c.neighbour.ensures, flip_lt c.args.labels.n c.loop-i.i c.args.c c.loop-i-test.true c.requires.0)

pub loop-i-preserved : goal.loop-i-preserved
unfolding label_in
loop-i-preserved c =
    let l = c.loop-i in
    let a = c.args in
    let f : ℕ → ℕ = λ k. label_in a.labels.bytes.now (flip k a.c) in
    let e = c.at-label.ensures ∙ ap (label_in a.labels.bytes.now) c.neighbour.ensures in
    (front_write f l.i (replicate 12 0) l.near _ (omega arith) l.invariant.0 e, joined_next f l.joined _ l.i l.invariant.1 e)

-- behind the loop the places hold the labels of all neighbours
all : (c : After-loop-i)
    → let a = c.args in c.loop-i.near ≡ gathered a.labels.n (label_in a.labels.bytes.now) a.c
unfolding gathered
all c =
    let n = c.args.labels.n in
    let l = c.loop-i in
    let f : ℕ → ℕ = λ k. label_in c.args.labels.bytes.now (flip k c.args.c) in
    let e : l.i ≡ n = omega arith in
    l.invariant.0 ∙ ap (λ (i : ℕ). front f i (replicate 12 0)) e ∙ front_zeros f (λ i. ltb i n) n 12 c.args.labels.small (λ i h. lt-ltb i n h) (λ i h. le-ltb i n h)

pub returns-then-joined-gt-HIGHEST-clause-near : goal.returns-then-joined-gt-HIGHEST-clause-near
returns-then-joined-gt-HIGHEST-clause-near c = all (goal.at.returns-then-joined-gt-HIGHEST-clause-near c).After-loop-i

pub returns-then-joined-gt-HIGHEST-clause-high : goal.returns-then-joined-gt-HIGHEST-clause-high
returns-then-joined-gt-HIGHEST-clause-high c =
    let e = all (goal.at.returns-then-joined-gt-HIGHEST-clause-high c).After-loop-i in
    c.some_above.ensures ∙ some_same _ _ _ (λ i h. ap (ltb highest) (near_at _ _ _ _ c.args.labels.small e i h))

pub returns-else-joined-gt-HIGHEST-clause-near : goal.returns-else-joined-gt-HIGHEST-clause-near
returns-else-joined-gt-HIGHEST-clause-near c = all (goal.at.returns-else-joined-gt-HIGHEST-clause-near c).After-loop-i

pub returns-else-joined-gt-HIGHEST-clause-high : goal.returns-else-joined-gt-HIGHEST-clause-high
returns-else-joined-gt-HIGHEST-clause-high c =
    let a = c.args in
    let f : ℕ → ℕ = λ k. label_in a.labels.bytes.now (flip k a.c) in
    le-ltb highest c.loop-i.joined c.if-joined-gt-HIGHEST.false ∙ sym (some_none a.labels.n (λ k. ltb highest (f k))
    (λ k h. le-ltb highest (f k) (omega (arith, c.loop-i.invariant.1 k (omega arith), c.if-joined-gt-HIGHEST.false))))
