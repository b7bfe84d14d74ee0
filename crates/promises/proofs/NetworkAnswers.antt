-- The answers by networks that the contracts give are allowed (proofs/Answers.antt has the others).
use Rattle.std.specs.Prelude.{Result}
use mathlib.Core.List.{List}
use mathlib.Core.Path.{refl}
use Prim.Native.Nat.{ℕ}
use lib.ListN.{length}
use Rattle.cube.specs.Allowed.{May}
use Rattle.cube.proofs.Contracts.{may}
use Rattle.jobs.specs.Jobs.{label_for}
use Rattle.hop_networks.specs.Hopping.{hopped_in}
use Rattle.hop_networks.proofs.Functions as hop_networks
use Rattle.walk_networks.specs.Crossing.{crossing, hops_after}
use Rattle.walk_networks.specs.declared.Crossed.{Crossed}
use Rattle.walk_networks.proofs.Functions as walk_networks
use Rattle.hcube.specs.Answers.{crossed_number, hop_number}
use Rattle.hcube.proofs.Functions as hcube
use Rattle.promises.proofs.Lent.{lend, lend_mut, one, two}
use Rattle.cube.specs.declared.refusals.Refusal.{Refusal}
use Rattle.hop.specs.declared.Decision.{Decision}

module _ (n N j c d w g : ℕ) (l : List ℕ) where
  abbrev decided : Result Decision Refusal
  decided = hopped_in n N j c d w g (length l) (label_for n j l)

  pub hops : May hop_networks.hop-networks (n, N, j, c, d, w, g, l) decided tt
  hops =
      may hop_networks.hop-networks one (n, (N, (j, (c, (d, (w, (g, (lend l, tt)))))))) decided (n, (N, (j, (c, (d, (w, (g, (lend l, tt)))))))) refl

  pub c_hops : May hcube.hop-networks (n, N, j, c, d, w, g, l) (hop_number decided) tt
  c_hops =
      may hcube.hop-networks one (n, (N, (j, (c, (d, (w, (g, (lend l, tt)))))))) (hop_number decided) (n, (N, (j, (c, (d, (w, (g, (lend l, tt)))))))) refl

module _ (n N j s d : ℕ) (l before : List ℕ) where
  abbrev crossed : Result Crossed Refusal
  crossed = crossing n N j s d (length l) (length before) (label_for n j l)

  abbrev after : List ℕ
  after = hops_after n N j s d (length l) (label_for n j l) before

  pub walks : May walk_networks.walk-networks (n, N, j, s, d, l, before) crossed after
  walks =
      may walk_networks.walk-networks two (n, (N, (j, (s, (d, (lend l, (lend_mut before, tt))))))) crossed
      (n, (N, (j, (s, (d, (lend l, (lend_mut after, tt))))))) (refl, refl)

  pub c_walks : May hcube.walk-networks (n, N, j, s, d, l, before) (crossed_number crossed) after
  c_walks =
      may hcube.walk-networks two (n, (N, (j, (s, (d, (lend l, (lend_mut before, tt))))))) (crossed_number crossed)
      (n, (N, (j, (s, (d, (lend l, (lend_mut after, tt))))))) (refl, refl)
