-- What the node after each hop and the hop count are; and the walk as a loop takes it. What holds each time round is one record: the message stands where the
-- walk is after its hops, no decision so far ended it, and the row holds the nodes up to here. The laws: it holds at the start, a hop keeps it, and each way
-- out of the loop gives the walk's answer.
use mathlib.Core.Path.{◌≡◌, refl, sym, ap, ap₂, ◌∙◌}
use mathlib.Core.Bool.{true, false, cond}
use mathlib.Core.List.{List}
use Prim.Native.Nat.{ℕ, ◌+◌, ◌^◌, ◌≤◌, ◌<◌}
use native.Mathlib.Numerals.{add-one}
use native.Mathlib.Omega.{arith}
use borrow.Author.Count.{below_more}
use borrow.Author.Tests.{le-leb, lt-leb}
use lib.Dec.{leb}
use lib.ListN.{replicate, set}
use Rattle.std.specs.Prelude.{Ok, Err}
use Rattle.cube.specs.Cube.{flip}
use Rattle.cube.specs.Refusal.{first}
use Rattle.cube.specs.declared.refusals.Refusal.TheVariants.{Hops}
use Rattle.cube.specs.Tables.{tab}
use Rattle.cube.proofs.Bools.{clash}
use Rattle.cube.proofs.Search.{Least, least_is, the_least}
use Rattle.cube.proofs.Cube.{flip_lt}
use Rattle.cube.proofs.Front.{front, front_zero, front_zeros, front_write}
use Rattle.walk.specs.Helpers.{walk_or_refusal}
use Rattle.hop.specs.Hop.{hop}
use Rattle.walk.specs.Walk.{ending_of, onto, stops, spot, turn, hops, last, route, row, walk_from, moved}
use Rattle.hop.specs.declared.Decision.{Decision}
use Rattle.hop.specs.declared.Decision.TheVariants.{Deliver, Hop, Halted}
use Rattle.walk.specs.declared.Message.{Message}
use Rattle.hop.proofs.Local.{hop_dim}

pub record Walking (n : ℕ) (lab : ℕ → ℕ) (d s : ℕ) (places : List ℕ) (m : Message) : Type 0 where
  pub few : m.hops ≤ n + 4
  pub inside : m.at < 2 ^ n
  pub towards : m.to ≡ d
  pub here : spot (route n lab d) s m.hops ≡ m.at
  pub going : (j : ℕ) → j < m.hops → stops (turn (route n lab d) s j) ≡ false
  pub written : places ≡ front (spot (route n lab d) s) (m.hops + 1) (replicate 17 0)

module _ (go : ℕ → Decision) (s : ℕ) where
  pub spot_zero : spot go s 0 ≡ s
  unfolding spot
  spot_zero = refl

  -- the node one hop on
  pub spot_next : (k i : ℕ) → turn go s k ≡ Hop i → spot go s (k + 1) ≡ flip i (spot go s k)
  unfolding spot turn onto
  spot_next k i e = ap (spot go s) (add-one k) ∙ ap (λ x. onto x (spot go s k)) e

-- a decision that does not end the walk is a hop
pub is_hop : (x : Decision) → stops x ≡ false → (i : ℕ) × (x ≡ Hop i)
unfolding stops
is_hop Deliver e = absurd (clash refl e)
is_hop (Hop i) e = (i, refl)
is_hop Halted e = absurd (clash refl e)

-- the hop count: at most n + 4, each decision before it is a hop, and the one after it is none unless n + 4 hops are done
module _ (n : ℕ) (go : ℕ → Decision) (s : ℕ) where
  the_hops : Least (n + 4) (λ k. stops (turn go s k))
  the_hops = the_least (n + 4) (λ k. stops (turn go s k))

  pub hops_within : hops n go s ≤ n + 4
  unfolding hops
  hops_within = omega (arith, the_hops.within)

  pub hops-on : (k : ℕ) → k < hops n go s → stops (turn go s k) ≡ false
  unfolding hops
  hops-on k h = the_hops.before k (omega (arith, h))

  pub hops_end : hops n go s < n + 4 → stops (last n go s) ≡ true
  unfolding hops last
  hops_end = the_hops.hit

module _ (n : ℕ) (lab : ℕ → ℕ) (d s : ℕ) where
  pub start : s < 2 ^ n → Walking n lab d s (set (replicate 17 0) 0 s) (record { at = s; to = d; hops = 0 })
  start h =
      record {
        few = omega arith;
        inside = h;
        towards = refl;
        here = spot_zero (route n lab d) s;
        going = λ j l. absurd (omega arith);
        written =
            front_write (spot (route n lab d) s) 0 (replicate 17 0) (replicate 17 0) s (omega arith) (front_zero (spot (route n lab d) s) (replicate 17 0))
            (sym (spot_zero (route n lab d) s));
      }

  module _ (places : List ℕ) (m : Message) (w : Walking n lab d s places m) where
    -- the walk's decision here
    turn_is : (x : Decision) → x ≡ hop n lab m.at m.to → turn (route n lab d) s m.hops ≡ x
    unfolding turn
    turn_is x e = ap₂ (λ (y z : ℕ). hop n lab y z) w.here (sym w.towards) ∙ sym e

    hops_is : (m.hops < n + 4 → stops (turn (route n lab d) s m.hops) ≡ true) → hops n (route n lab d) s ≡ m.hops
    unfolding hops
    hops_is = least_is (n + 4) (λ j. stops (turn (route n lab d) s j)) m.hops w.few w.going

    module _ (i : ℕ) (e : Hop i ≡ hop n lab m.at m.to) where
      pub dimension : i < n
      dimension = hop_dim n lab m.at m.to i (sym e)

      pub counted : (m' : Message) → m' ≡ moved m i → m'.hops ≡ m.hops + 1
      unfolding moved
      counted m' em = ap (λ (q : Message). q.hops) em

      next_spot : spot (route n lab d) s (m.hops + 1) ≡ flip i m.at
      next_spot = spot_next (route n lab d) s m.hops i (turn_is (Hop i) e) ∙ ap (flip i) w.here

      goes_on : stops (turn (route n lab d) s m.hops) ≡ false
      unfolding stops
      goes_on = ap stops (turn_is (Hop i) e)

      pub on : (m' : Message) → n ≤ 12 → m.hops < n + 4 → m' ≡ moved m i → Walking n lab d s (set places (m.hops + 1) m'.at) m'
      unfolding moved
      on m' small l em =
          rw em
          (record {
            few = omega (arith, w.few);
            inside = flip_lt n i m.at dimension w.inside;
            towards = w.towards;
            here = next_spot;
            going = below_more _ m.hops w.going goes_on;
            written = front_write (spot (route n lab d) s) (m.hops + 1) (replicate 17 0) places (flip i m.at) (omega arith) w.written (sym next_spot);
          })

      -- n + 4 hops are done, and the decision is another
      pub too_long : n + 4 ≤ m.hops → Err Hops ≡ walk_or_refusal n lab d s
      unfolding walk_or_refusal first last stops
      too_long l =
          let e8 = hops_is (λ h. absurd (omega arith)) in
          rw (e8, turn_is (Hop i) e)

    -- the decision is no hop
    pub ends : (x : Decision) → n ≤ 12 → x ≡ hop n lab m.at m.to → stops x ≡ true
        → Ok (record { row = places; hops = m.hops; ending = ending_of x }) ≡ walk_or_refusal n lab d s
    unfolding walk_or_refusal walk_from first last row
    ends x small e h =
        let z = hops_is (λ _. ap stops (turn_is x e) ∙ h) in
        rw (z, turn_is x e, h) (ap (λ (r : List ℕ). Ok (record { row = r; hops = m.hops; ending = ending_of x })) (w.written ∙ rest))
      where
        rest : front (spot (route n lab d) s) (m.hops + 1) (replicate 17 0) ≡ tab 17 (λ k. cond (leb k m.hops) (spot (route n lab d) s k) 0)
        rest =
            front_zeros (spot (route n lab d) s) (λ k. leb k m.hops) (m.hops + 1) 17 (omega (arith, w.few)) (λ k l. le-leb k m.hops (omega arith))
            (λ k l. lt-leb k m.hops (omega arith))
