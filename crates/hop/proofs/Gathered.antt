-- A decision by the labels gathered is that by the table: the copy holds each neighbour's label at its dimension. At the destination no label counts.
use mathlib.Core.Path.{◌≡◌, refl, ap, ◌∙◌}
use mathlib.Core.Logic.{◌≢◌}
use mathlib.Core.Bool.{cond}
use mathlib.Core.List.{List}
use Prim.Native.Nat.{ℕ, ◌^◌, ◌≤◌, ◌<◌}
use native.Mathlib.Omega.{arith}
use borrow.Author.Tests.{lt-ltb}
use lib.Dec.{ltb}
use lib.ListN.{get_or}
use Rattle.std.specs.Prelude.{Option}
use Rattle.cube.specs.Cube.{flip}
use Rattle.cube.proofs.Front.{get_d_tab}
use Rattle.scans.proofs.Local.{first_same, lowest_same}
use Rattle.hop.specs.Helpers.{across, around, chosen, gathered}
use Rattle.hop.specs.Hop.{hop}
use Rattle.hop.specs.declared.Decision.TheVariants.{Deliver}
use Rattle.hop.proofs.Scanning.{deliver, decided}

-- away from the destination the decision is by what the scans pick,
pub picks : (n : ℕ) (lab : ℕ → ℕ) (c d : ℕ) (p : Option (ℕ × ℕ)) → n ≤ 12 → c < 2 ^ n → d < 2 ^ n → c ≢ d → p ≡ chosen n c d (lab c) (λ i. lab (flip i c))
    → across p ≡ hop n lab c d
unfolding hop
picks n lab c d p small hc hd far e = ap across e ∙ decided n c d (lab c) (λ i. lab (flip i c)) hc hd far

module _ (n : ℕ) (lab : ℕ → ℕ) (c : ℕ) (near : List ℕ) (small : n ≤ 12) (copied : near ≡ gathered n lab c) where
  pub near_at : (i : ℕ) → i < n → get_or near i 0 ≡ lab (flip i c)
  unfolding gathered
  near_at i h = rw copied (get_d_tab 12 (λ k. cond (ltb k n) (lab (flip k c)) 0) i (omega arith) ∙ rw (lt-ltb i n h))

  -- and by the copy they pick what they pick by the table
  pub chosen_is : (d : ℕ) → chosen n c d (lab c) (λ i. get_or near i 0) ≡ chosen n c d (lab c) (λ i. lab (flip i c))
  unfolding chosen
  chosen_is d =
      rw (
        first_same n c d (lab c) (λ i. get_or near i 0) (λ i. lab (flip i c)) near_at,
        lowest_same n c d (lab c) (λ i. get_or near i 0) (λ i. lab (flip i c)) near_at,
      )

  pub goes : (d : ℕ) (p : Option (ℕ × ℕ)) → c < 2 ^ n → d < 2 ^ n → c ≢ d → p ≡ chosen n c d (lab c) (λ i. get_or near i 0) → across p ≡ hop n lab c d
  goes d p hc hd far e = picks n lab c d p small hc hd far (e ∙ chosen_is d)

-- so by what c knows of a message to d
pub goes_by : (n : ℕ) (lab : ℕ → ℕ) (c d : ℕ) (h : ℕ × ℕ × ℕ × ℕ × List ℕ) (p : Option (ℕ × ℕ)) → n ≤ 12 → c < 2 ^ n → d < 2 ^ n → c ≢ d
    → h ≡ around n c d lab → p ≡ chosen h.0 h.1 h.2 h.3 (λ i. get_or h.4 i 0) → across p ≡ hop n lab c d
unfolding around
goes_by n lab c d h p small hc hd far e ep = goes n lab c (gathered n lab c) small refl d p hc hd far (rw e at ep)

pub apart_by : (n : ℕ) (lab : ℕ → ℕ) (c d : ℕ) (h : ℕ × ℕ × ℕ × ℕ × List ℕ) → h ≡ around n c d lab → c ≢ d → h.1 ≢ h.2
unfolding around
apart_by n lab c d h e far = rw e far

-- and at it
pub arrives : (n : ℕ) (lab : ℕ → ℕ) (c d : ℕ) → c ≡ d → Deliver ≡ hop n lab c d
unfolding hop
arrives n lab c d e = deliver n c d (lab c) (λ i. lab (flip i c)) e
