-- The exchanges that the cards count (RULES, Exchanges): which number it is, and how large it can be (How many exchanges there can be). The cards exchange
-- states, and exchange r + 1 does what round r + 1 does: so the exchanges are the rounds that marked something new and the quiet one after them. Proved in
-- proofs/Exchanges.antt, the ceilings in proofs/Ceilings.antt.
use Rattle.std.specs.Prelude.{Bool, true, false, ◌&&◌, ◌↔◌, ◌≡◌, ℕ, ◌+◌, ◌^◌, ◌≤◌, ◌<◌, leb}
use Rattle.cube.specs.Count.{count}
use Rattle.cube.specs.Cube.{flip}
use Rattle.rule.specs.Rounds.{BringsNew, BringsNothing}
use Rattle.rule.specs.Rule.{exchanges, marked, working}

-- "until an exchange brings nothing new, and that quiet exchange is on their counters too": so many are the exchanges up to and with the first that
-- brings nothing new
pub record Exchanged (n k : ℕ) (F : ℕ → Bool) (counted : ℕ) : Type 0 where
  -- there is one at least,
  pub one : 1 ≤ counted
  -- each before the last brings something new,
  pub earlier : (r : ℕ) → r + 1 < counted → BringsNew n k F r
  -- and the last does not
  pub last : (r : ℕ) → r + 1 ≡ counted → BringsNothing n k F r

-- how many nodes of U have at most one neighbour in F. Where U are the unsafe nodes and F those that do not work, these are the nodes that the first exchange
-- leaves to later ones (`first`)
unfoldable pub late : (n : ℕ) (U F : ℕ → Bool) → ℕ
late n U F = count (2 ^ n) (λ x. U x && leb (count n (λ i. F (flip i x))) 1)

pub record Exchanges (n k : ℕ) (F : ℕ → Bool) : Type 0 where
  -- the count is that number, and no other is
  pub counted : Exchanged n k F (exchanges n k F)
  pub alone : (c : ℕ) → Exchanged n k F c → c ≡ exchanges n k F
  -- no later exchange would bring anything new
  pub still : (r : ℕ) → exchanges n k F ≤ r → BringsNothing n k F r
  -- it is 1 where every node works, and so it is where none does
  pub no_faults : 1 ≤ k → ((x : ℕ) → x < 2 ^ n → F x ≡ false) → exchanges n k F ≡ 1
  pub none_works : ((x : ℕ) → x < 2 ^ n → F x ≡ true) → exchanges n k F ≡ 1
  -- ---- how many there can be (A11)

  -- at most "the number of working nodes plus one". By itself it would say no more than where `rounds` looks for a quiet round. It says how many exchanges
  -- there are beside `counted`: a quiet one is found there, and each before it marked a node
  pub ceiling : exchanges n k F ≤ working n F + 1
  -- the first marks the working nodes that have two or more neighbours that do not work,
  pub first : 2 ≤ k → (x : ℕ) → (marked n k F 1 x ≡ true) ↔ ((F x ≡ false) × (2 ≤ count n (λ i. F (flip i x))))
  -- and each one after it, but for the last, marks at least one other node: so there are at most as many as unsafe nodes that have at most one neighbour
  -- that does not work, and two more
  pub fewer : exchanges n k F ≤ late n (marked n k F (exchanges n k F)) F + 2
  -- and whichever nodes work, there are fewer exchanges than nodes
  pub below_nodes : 1 ≤ n → 2 ≤ k → exchanges n k F < 2 ^ n
