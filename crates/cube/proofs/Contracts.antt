-- A contract that gives the answer and what is left as functions of what is handed: so it says of every call that it allows, and two calls agree.
use mathlib.Core.Path.{◌≡◌, refl, sym, ap, ◌∙◌}
use contract.Lifetimes.{Lfts}
use denote.Triple.Clauses.{AtExit, Ended}
use denote.Triple.Entry.{Args, Res}
use Rattle.cube.specs.Allowed.{Ensures, Function, May, Settles}

-- handed i, the function answers `answer i` and leaves `leaves i`
pub record Says {T : Ended} {A X B : Type 0} (f : Function T A X B) (answer : A → X) (leaves : A → B) : Type 0 where
  pub says :
      (κs : Lfts T.signature.lifetimes) (a : Args T.signature κs) (r : Res T.signature κs) (e : AtExit T κs) → f.post κs a r e
      → (f.answered κs r ≡ answer (f.handed κs a)) × (f.left κs e ≡ leaves (f.handed κs a))

module _ {T : Ended} {A X B : Type 0} {f : Function T A X B} {answer : A → X} {leaves : A → B} (s : Says f answer leaves) where
  pub told : {i : A} {x : X} {o : B} → May f i x o → (x ≡ answer i) × (o ≡ leaves i)
  told {i} {x} {o} m =
      let t = s.says m.κs m.args m.result m.exit m.allowed in
      (sym m.answered ∙ t.0 ∙ ap answer m.handed, sym m.left ∙ t.1 ∙ ap leaves m.handed)

  pub settles : Settles f
  settles i x x' o o' m m' =
      let t = told m in
      let t' = told m' in
      (t.0 ∙ sym t'.0, t.1 ∙ sym t'.1)

-- a contract that says less than all, for what is handed, answered and left
module _ {T : Ended} {A X B : Type 0} (f : Function T A X B) (P : A → X → B → Type 0) where
  pub ensures :
      ((κs : Lfts T.signature.lifetimes) (a : Args T.signature κs) (r : Res T.signature κs) (e : AtExit T κs) → f.post κs a r e
      → P (f.handed κs a) (f.answered κs r) (f.left κs e)) → Ensures f P
  ensures s i x o m = rw (← m.handed, ← m.answered, ← m.left) (s m.κs m.args m.result m.exit m.allowed)

-- a call that the contract allows
module _ {T : Ended} {A X B : Type 0} (f : Function T A X B) where
  pub may :
      (κs : Lfts T.signature.lifetimes) (a : Args T.signature κs) (r : Res T.signature κs) (e : AtExit T κs) → f.post κs a r e
      → May f (f.handed κs a) (f.answered κs r) (f.left κs e)
  may κs a r e p =
      record { κs = κs; args = a; result = r; exit = e; handed = refl; answered = refl; left = refl; allowed = p }
