-- Few nodes out of work leave a safe one, and demand 3 says what a walk does where some node is safe.
use Prim.Native.Nat.{ℕ}
use Rattle.rule.specs.Cabinet.{Cabinet}
use Rattle.enough.proofs.Enough.{few_out_safe}
use Rattle.walk.specs.declared.Walked.{Walked}
use Rattle.theorems.specs.Delivers.{Delivers, FewOutDelivers}
use Rattle.theorems.specs.Demand3.{Walks}
use Rattle.theorems.specs.Words.{SomeSafe, label_at, walk_of}
use Rattle.theorems.proofs.Demand3.{demand3}

pub delivers : (K : Cabinet) (lab : ℕ → ℕ) (s d : ℕ) (w : Walked) → Walks K lab s d w → SomeSafe K.n lab → Delivers K lab s d w
delivers K lab s d w W some = record { arrives = W.arrives some; exact = W.exact; ordinary = W.ordinary some; strong = W.strong some }

pub few_out_delivers : FewOutDelivers
few_out_delivers K j ok few s d hs hd = delivers K (label_at K) s d (walk_of K j s d) (demand3 K j ok s d hs hd) (few_out_safe K few)
