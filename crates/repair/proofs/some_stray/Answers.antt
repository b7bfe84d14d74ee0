use Rattle.std.proofs.Common.{◌≡◌, ◌/◌, ◌^◌, rules, arith}
use mathlib.Core.Logic.{◌≢◌}
use borrow.Author.Tests.{tests}
use Rattle.std.proofs.lemmas.Iterator.{cases_from_any, YieldsList-from_slice}
use Rattle.repair.proofs.Strays.{strays_are}
use Rattle.repair.proofs.some_stray.Goals as goal

pub returns : goal.returns
returns c =
    let n = c.args.n in
    let masks = c.args.masks.now in
    strays_are n masks (omega (arith, c.requires)) (λ w. omega (arith, c.type_inv.masks w)) c.any.result
    (cases_from_any _ _ _ (λ m. m / 2 ^ n ≢ 0) (λ m. m / 2 ^ n ≡ 0) c.any.ensures.ran (YieldsList-from_slice masks cc) (λ x q k. search (rules, tests))
    (λ x q k. search (rules, tests)))
