-- The worked decisions, each by computing it.
use mathlib.Core.Bool.{xor}
use mathlib.Core.Path.{refl}
use native.Mathlib.Omega.{arith}
use lib.Count.{ones, ones_in}
use Rattle.cube.specs.Count.{least}
use Rattle.cube.specs.Cube.{bit, flip, apart, dist}
use Rattle.cube.specs.Tables.{label_in, tab}
use Rattle.scans.specs.Scans.{suits, takes}
use Rattle.scans.specs.Scans as scans
use Rattle.walk.specs.Walk.{stops}
use Rattle.blocks.specs.Phase.{after, channel_number, down, turns}
use Rattle.blocks.specs.Blocks.{call, decide_in, eager, first_block, fits, hop_in, lowest, may_fourth, may_sixth, pick}
use Rattle.blocks.specs.Board.{beyond, ends_on, hop_list, hops_on, number_at, numbered}
use Rattle.blocks.specs.Course.{moved, place}
use Rattle.blocks.specs.Worked.{WorkedBlocks}

pub worked_blocks : WorkedBlocks
unfolding hop_in decide_in pick scans.lowest takes suits call first_block lowest fits eager may_fourth may_sixth turns down after apart dist bit flip least label_in xor ones ones_in beyond ends_on hops_on stops moved place channel_number numbered number_at hop_list tab
worked_blocks =
    record {
      deliver = refl;
      draining = refl;
      block_1 = refl;
      block_2 = refl;
      block_2_up = refl;
      block_3 = refl;
      block_4 = refl;
      block_4_up = refl;
      block_5 = refl;
      block_5_far = refl;
      block_6 = refl;
      block_6_up = refl;
      spare_1 = refl;
      spare_2 = refl;
      ended_4 = refl;
      ended_6 = refl;
      before_2 = refl;
      before_3 = refl;
      spare_5 = refl;
      safe_far = refl;
      spare_6 = refl;
      ended_4_early = refl;
      halted = refl;
      halted_far = refl;
      halted_6 = refl;
      halted_4 = refl;
      longest = refl;
      longest_list = refl;
      phase-of = λ p. omega arith;
    }
