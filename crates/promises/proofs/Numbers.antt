-- The numbers of the questions by networks, case by case.
use Rattle.std.specs.Prelude.{Result, Ok, Err}
use mathlib.Core.Path.{◌≡◌}
use native.Mathlib.Omega.{arith}
use Rattle.hop.specs.declared.Decision.TheVariants.{Deliver, Hop, Halted}
use Rattle.walk_networks.specs.declared.Crossed.{Crossed}
use Rattle.walk_networks.specs.declared.Crossed.TheVariants as crossed
use Rattle.hcube.specs.Answers.{crossed_number, hop_number}
use Rattle.promises.specs.InC.{crossed_in_number, hop_in_number}
use Rattle.cube.specs.declared.refusals.Refusal.{Refusal}
use Rattle.hop.specs.declared.Decision.{Decision}

pub hop-in-number : (x : Result Decision Refusal) → hop_number x ≡ hop_in_number x
hop-in-number (Ok Deliver) = omega arith
hop-in-number (Ok (Hop h)) = omega arith
hop-in-number (Ok Halted) = omega arith
hop-in-number (Err k) = omega arith

pub crossed-in-number : (x : Result Crossed Refusal) → crossed_number x ≡ crossed_in_number x
crossed-in-number (Ok (crossed.Delivered hops)) = omega arith
crossed-in-number (Ok (crossed.Halted hops)) = omega arith
crossed-in-number (Err k) = omega arith
