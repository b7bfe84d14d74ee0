-- What a contract allows (RULES, What the contracts settle), said of plain contents. The check makes of each function two claims from the text of its own
-- clauses: `Asked` of its `requires` and `Post` of its `ensures`. Each crate gathers its public functions with these claims in proofs/Functions.antt, and the
-- promises speak of them and of no copy: a contract that is weakened takes its promises with it.
use Rattle.std.specs.Prelude.{◌≡◌}
use base.Logic.{emp}
use borrow.Fn.World.{World}
use contract.Lifetimes.{Lfts}
use denote.Triple.Clauses.{AtExit, Clauses, Ended}
use denote.Triple.Entry.{Args, Res}

-- a function: its signature T, its clauses, the two claims, and how it is seen from outside: the contents A of what it is handed, X of its answer, and B of
-- what it leaves in the buffers that it was lent
pub record Function (T : Ended) (A X B : Type 0) : Type 2 where
  pub clauses : (w : World) → Clauses w.𝓤 T
  pub asked : (κs : Lfts T.signature.lifetimes) → Args T.signature κs → Type 0
  pub post : (κs : Lfts T.signature.lifetimes) → Args T.signature κs → Res T.signature κs → AtExit T κs → Type 0
  pub handed : (κs : Lfts T.signature.lifetimes) → Args T.signature κs → A
  pub answered : (κs : Lfts T.signature.lifetimes) → Res T.signature κs → X
  pub left : (κs : Lfts T.signature.lifetimes) → AtExit T κs → B

-- the clauses at every model, from how the check writes them
abbrev pub Written : Ended → Type 2
Written T = (w : World) → Clauses w.𝓤 T

-- where nothing is lent to be written
abbrev pub Nothing : Type 0
Nothing = Unit {0}

module _ {T : Ended} {A X B : Type 0} (f : Function T A X B) where
  -- handed i, the function may answer x and leave o: its contract allows it
  pub record May (i : A) (x : X) (o : B) : Type 0 where
    pub κs : Lfts T.signature.lifetimes
    pub args : Args T.signature κs
    pub result : Res T.signature κs
    pub exit : AtExit T κs
    pub handed : f.handed κs args ≡ i
    pub answered : f.answered κs result ≡ x
    pub left : f.left κs exit ≡ o
    pub allowed : f.post κs args result exit

  -- two answers that it may give are equal, and so is what it leaves
  abbrev pub Settles : Type 0
  Settles = (i : A) (x x' : X) (o o' : B) → May i x o → May i x' o' → (x ≡ x') × (o ≡ o')

  -- whoever calls it has to show this of what is handed
  abbrev pub AsksFor : (A → Type 0) → Type 0
  AsksFor P = (κs : Lfts T.signature.lifetimes) (a : Args T.signature κs) → f.asked κs a → P (f.handed κs a)

  -- what the contract says of what is handed, answered and left
  abbrev pub Ensures : (A → X → B → Type 0) → Type 0
  Ensures P = (i : A) (x : X) (o : B) → May i x o → P i x o

  -- nothing is asked of its caller: the claim holds of everything that is handed, and the `requires` that it was made of is empty
  pub record AsksNothing : Type 2 where
    pub asked : (κs : Lfts T.signature.lifetimes) (a : Args T.signature κs) → f.asked κs a
    pub empty : (w : World) (κs : Lfts T.signature.lifetimes) (a : Args T.signature κs)
        → (g : (f.clauses w κs a).ghost) × ((f.clauses w κs a).requires g ≡ emp w.𝓤)

  -- these are its clauses, and these its claims: so it is the function of the code that they are taken from, and no copy of it
  pub record Tied
      (written : Written T) (asks : (κs : Lfts T.signature.lifetimes) → Args T.signature κs → Type 0)
      (says : (κs : Lfts T.signature.lifetimes) → Args T.signature κs → Res T.signature κs → AtExit T κs → Type 0) : Type 2 where
    pub clauses : (w : World) → f.clauses w ≡ written w
    pub asked : f.asked ≡ asks
    pub post : f.post ≡ says
