use Prim.Native.Nat.{◌^◌, ◌≤◌}
use native.Mathlib.Omega.{arith}
use Rattle.repair.proofs.Asking.{ask_next, ask_row, ask_start, ask_table}
use Rattle.repair.proofs.Asked.hear_all.Goals as goal

pub loop-w-init : goal.loop-w-init
loop-w-init c = rw (c.requires.table, c.requires.row) (ask_start _ _ _)

pub loop-w-preserved : goal.loop-w-preserved
loop-w-preserved c = ask_next c.loop-w.invariant (omega (arith, c.args.self.now.masked)) c.hear.ensures

pub returns : goal.returns
returns c =
    let asked = c.args.self.now in
    let all : 2 ^ asked.n ≤ c.loop-w.w = omega (arith, asked.masked) in
    record {
      table = ask_table c.loop-w.invariant all asked.table asked.bytes;
      row = ask_row c.loop-w.invariant all;
    }
