-- The exchange count is the number of exchanges up to and with the first that brings nothing new. It is one more than the rounds, and `Rested` says of these
-- that each marks something new and no later one does. No other number is so: of two, the last exchange of the smaller would bring nothing new and, as an
-- earlier one of the larger, something.
use mathlib.Core.Path.{◌≡◌, ap, ◌∙◌}
use mathlib.Core.Logic.{inl, inr}
use mathlib.Core.Bool.{Bool, true, false, not}
use Prim.Native.Nat.{ℕ, ◌-◌, ◌^◌, ◌≤◌, ◌<◌}
use native.Mathlib.Omega.{arith}
use borrow.Author.Tests.{eq-eqb}
use Rattle.cube.specs.Count.{count}
use Rattle.cube.specs.Cube.{flip}
use Rattle.cube.proofs.Bools.{clash, is_false}
use Rattle.cube.proofs.Count.{count_none}
use Rattle.cube.proofs.Cube.{flip_lt}
use Rattle.rule.specs.Exchanges.{Exchanged, Exchanges}
use Rattle.rule.specs.Rounds.{BringsNew, BringsNothing, Rested, Unsafe}
use Rattle.rule.specs.Rule.{exchanges, marked, newly, quiet, working}
use Rattle.rule.proofs.Ceilings.{first, rounds_below, rounds_late, unmarked}
use Rattle.rule.proofs.Rounds.{meets_says, newly_says, rested, rounds_is}

module _ (n k : ℕ) (F : ℕ → Bool) where
  abbrev R : Rested n k F
  R = rested n k F

  counted : Exchanged n k F (exchanges n k F)
  unfolding exchanges
  counted =
      record {
        one = omega arith;
        earlier = λ r h. R.loud r (omega arith);
        last = λ r e. R.still r (omega arith);
      }

  not_both : (r : ℕ) → BringsNew n k F r → BringsNothing n k F r → ⊥
  not_both r new none = clash new.3 (none new.0 new.1 ∙ new.2)

  not_less : (c d : ℕ) → Exchanged n k F c → Exchanged n k F d → c < d → ⊥
  not_less c d a b h =
      let one = a.one in
      not_both (c - 1) (b.earlier (c - 1) (omega arith)) (a.last (c - 1) (omega arith))

  alone : (c : ℕ) → Exchanged n k F c → c ≡ exchanges n k F
  alone c a =
      let low = not_less c (exchanges n k F) a counted in
      let high = not_less (exchanges n k F) c counted a in
      omega (arith, low, high)

  -- where every node works, none is marked in round 1
  quiet_first : 1 ≤ k → ((x : ℕ) → x < 2 ^ n → F x ≡ false) → quiet n k F 0 ≡ true
  unfolding quiet
  quiet_first one f = eq-eqb _ 0 (count_none (2 ^ n) (newly n k F (marked n k F 0)) none)
    where
      none : (x : ℕ) → x < 2 ^ n → newly n k F (marked n k F 0) x ≡ false
      none x h = is_false (λ t. unmet ((meets_says n k F (marked n k F 0) x).0 (newly_says n k F (marked n k F 0) x t).2))
        where
          out : count n (λ i. F (flip i x)) ≡ 0
          out = count_none n (λ i. F (flip i x)) (λ i l. f (flip i x) (flip_lt n i x l h))

          unmet : Unsafe n k F (marked n k F 0) x → ⊥
          unmet (inl h) = omega (arith, out)
          unmet (inr h) = omega (arith, out, unmarked n k F x)

  none_work : ((x : ℕ) → x < 2 ^ n → F x ≡ true) → working n F ≡ 0
  unfolding working
  none_work f = count_none (2 ^ n) (λ x. not (F x)) (λ x h. ap not (f x h))

  pub exchanged : Exchanges n k F
  unfolding exchanges
  exchanged =
      record {
        counted = counted;
        alone = alone;
        still = λ r h. R.still r (omega arith);
        no_faults = λ one f. omega (arith, rounds_is n k F 0 (λ j h. absurd (omega arith)) (quiet_first one f));
        none_works = λ f. omega (arith, R.ceiling, none_work f);
        ceiling = omega (arith, R.ceiling);
        first = first n k F;
        fewer = omega (arith, rounds_late n k F);
        below_nodes = λ one h. omega (arith, rounds_below n k F one h);
      }
