-- What is picked, by the hop to a draining destination and the two calls; and that it depends on the labels of c's n neighbours alone.
use mathlib.Core.Path.{◌≡◌}
use mathlib.Core.Bool.{Bool}
use Prim.Native.Nat.{ℕ, ◌≤◌, ◌<◌}
use lib.Dec.{ltb}
use borrow.Author.Tests.{le-ltb, lt-ltb}
use Rattle.cube.specs.Cube.{dist}
use Rattle.cube.proofs.Search.{least_same}
use Rattle.scans.specs.Scans.{forward, spare}
use Rattle.scans.proofs.Local as scans
use Rattle.blocks.specs.Blocks.{block_at, call, decide_in, first_block, fits, home, lowest, no_block, pick}

module _ (n c d p own : ℕ) (near : ℕ → ℕ) where
  abbrev homed : ℕ
  homed = home n c d near

  abbrev called : Bool → ℕ
  called = call n c d p own near

  pub pick_home : homed < n → pick n c d p own near ≡ homed
  unfolding pick
  pick_home h = rw (lt-ltb homed n h)

  pub pick_forward : n ≤ homed → called forward < n → pick n c d p own near ≡ called forward
  unfolding pick
  pick_forward h r = rw (le-ltb homed n h, lt-ltb (called forward) n r)

  pub pick_spare : n ≤ homed → n ≤ called forward → pick n c d p own near ≡ called spare
  unfolding pick
  pick_spare h q = rw (le-ltb homed n h, le-ltb (called forward) n q)

module _ (n c d p own : ℕ) (near near' : ℕ → ℕ) (same : (i : ℕ) → i < n → near i ≡ near' i) where
  lowest_same : (side : Bool) (s : ℕ) → lowest n c d p own near side s ≡ lowest n c d p own near' side s
  unfolding lowest fits
  lowest_same side s =
      least_same n (fits c d p near side (block_at own (dist c d) p s)) (fits c d p near' side (block_at own (dist c d) p s)) (λ i h. rw (same i h))

  first_same : (side : Bool) → first_block n c d p own near side ≡ first_block n c d p own near' side
  unfolding first_block
  first_same side =
      least_same no_block (λ s. ltb (lowest n c d p own near side s) n) (λ s. ltb (lowest n c d p own near' side s) n) (λ s _. rw (lowest_same side s))

  call_same : (side : Bool) → call n c d p own near side ≡ call n c d p own near' side
  unfolding call
  call_same side = rw (first_same side, lowest_same side (first_block n c d p own near' side))

  pub pick_same : pick n c d p own near ≡ pick n c d p own near'
  unfolding pick
  pick_same = rw (scans.lowest_same n c d 0 near near' same 0, call_same forward, call_same spare)

  pub decide_same : decide_in n c d p own near ≡ decide_in n c d p own near'
  unfolding decide_in
  decide_same = rw pick_same
