-- The decision at c on a board, from what is picked.
use mathlib.Core.Path.{◌≡◌, refl, ap, ◌∙◌}
use mathlib.Core.Logic.{◌≢◌}
use mathlib.Core.Bool.{false}
use mathlib.Core.List.{List}
use Prim.Native.Nat.{ℕ, ◌+◌, ◌*◌, ◌/◌, ◌^◌, ◌≤◌, ◌<◌}
use lib.Dec.{eqb}
use lib.ListN.{get_or}
use borrow.Author.Tests.{le-leb, le-ltb, lt-leb, lt-ltb, ne_eqb}
use Rattle.std.specs.Prelude.{Option, Some, None, Result, Ok, Err}
use Rattle.cube.specs.declared.refusals.Refusal.{Refusal}
use Rattle.cube.specs.declared.refusals.Refusal.TheVariants.{Network}
use Rattle.cube.specs.Cube.{dist, flip}
use Rattle.cube.proofs.Cube.{dist_self, dist_zero}
use Rattle.hop.specs.Helpers.{around, found, gathered}
use Rattle.hop.proofs.Gathered.{near_at}
use Rattle.hop.proofs.Sets.{none_found, some_found}
use Rattle.hop.specs.declared.Decision.{Decision}
use Rattle.hop.specs.declared.Decision.TheVariants.{Deliver, Hop, Halted}
use Rattle.blocks.specs.Blocks.{decide_in, pick}
use Rattle.blocks.specs.Board.{beyond, numbered}
use Rattle.blocks.specs.Phase.{after, channel_number}
use Rattle.blocks.proofs.Picks.{decide_same, pick_same}
use Rattle.hop_networks.specs.Helpers.{decided_on}

module _ (n N c d p own : ℕ) (near : ℕ → ℕ) where
  abbrev decision : Decision
  decision = decide_in n c d p own near

  abbrev answer : Result Decision Refusal
  answer = decided_on n N c d p own near

  pub arrived : c ≡ d → Ok Deliver ≡ answer
  unfolding decided_on decide_in beyond numbered
  arrived e = rw (e, dist_self)

  module _ (hc : c < 2 ^ n) (hd : d < 2 ^ n) (far : c ≢ d) where
    apart : eqb (dist c d) 0 ≡ false
    apart = ne_eqb (dist c d) 0 (λ z. far (dist_zero n c d hc hd z))

    pub halts : None ≡ found n (pick n c d p own near) → decision ≡ Halted
    unfolding decide_in
    halts e = rw (apart, le-ltb (pick n c d p own near) n (none_found n (pick n c d p own near) e))

    pub halted : None ≡ found n (pick n c d p own near) → Ok Halted ≡ answer
    unfolding decided_on beyond numbered
    halted e = rw (halts e)

    module _ (i : ℕ) (e : Some i ≡ found n (pick n c d p own near)) where
      pub hops : decision ≡ Hop i
      unfolding decide_in
      hops = let f = some_found n i (pick n c d p own near) e in rw (apart, lt-ltb (pick n c d p own near) n f.1, ← f.0)

      module _ (q : ℕ) (eq : q ≡ after p c i) where
        pub refused : 2 * N ≤ q → Err Network ≡ answer
        unfolding decided_on beyond
        refused h = rw (hops, ← eq, le-leb (2 * N) q h)

        pub hopped : q < 2 * N → Ok (Hop (q / 2 * 16 + i)) ≡ answer
        unfolding decided_on beyond numbered channel_number
        hopped h = rw (hops, ← eq, lt-leb (2 * N) q h)

-- it depends on the labels of c's n neighbours alone
pub decided_same : (n N c d p own : ℕ) (near near' : ℕ → ℕ) → ((i : ℕ) → i < n → near i ≡ near' i) → decided_on n N c d p own near ≡ decided_on n N c d p own near'
unfolding decided_on
decided_same n N c d p own near near' same = rw (decide_same n c d p own near near' same)

-- what is picked and decided by what c knows of a message to d, which is what the labels give
module _ (n c d p : ℕ) (lab : ℕ → ℕ) (small : n ≤ 12) (h : ℕ × ℕ × ℕ × ℕ × List ℕ) (e : h ≡ around n c d lab) where
  near_is : (i : ℕ) → i < n → get_or (gathered n lab c) i 0 ≡ lab (flip i c)
  near_is = near_at n lab c (gathered n lab c) small refl

  pub picked_by : (r : Option ℕ) → r ≡ found h.0 (pick h.0 h.1 h.2 p h.3 (λ i. get_or h.4 i 0)) → r ≡ found n (pick n c d p (lab c) (λ i. lab (flip i c)))
  unfolding around
  picked_by r f = (rw e at f) ∙ ap (found n) (pick_same _ _ _ _ _ _ (λ i. lab (flip i c)) near_is)

  pub decided_by : (N : ℕ) (r : Result Decision Refusal) → r ≡ decided_on h.0 N h.1 h.2 p h.3 (λ i. get_or h.4 i 0)
      → r ≡ decided_on n N c d p (lab c) (λ i. lab (flip i c))
  unfolding around
  decided_by N r f = (rw e at f) ∙ decided_same _ _ _ _ _ _ _ _ near_is
