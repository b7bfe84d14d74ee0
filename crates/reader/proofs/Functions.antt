-- The crate's public functions as they are seen from outside, each with the claims of its clauses, and what its contract says: the answer, and what is
-- left of what was lent, for whatever is handed; and that an entry point asks nothing of its caller. What the clauses of the methods `new` and `next`
-- claim is taken here from those clauses, by the kit's reading of a clause, which gives the facts that it states.
use mathlib.Core.List.{List}
use mathlib.Core.Path.{refl, ap₂}
use Prim.Native.Nat.{ℕ}
use base.Logic.{emp}
use borrow.Fn.Claims.{AllOf}
use borrow.Fn.Read.{ReadAt, no_know, reads}
use borrow.Fn.World.{Pr, World, w₀}
use contract.Lifetimes.{Lfts}
use denote.Ref.{Bor}
use denote.Triple.Clauses.{AtExit, Clauses}
use denote.Triple.Entry.{Args, Res}
use Rattle.cube.specs.Allowed.{AsksNothing, Function, Nothing}
use Rattle.cube.proofs.Contracts.{Says}
use Rattle.groups.specs.Number.{Number, number_at}
use Rattle.reader.specs.Reader.{place_after}
use Rattle.reader.specs.declared.Reader.{Reader}
use Rattle.reader.specs.declared.Step.{Step}
use Rattle.reader.specs.contracts.Reader.new as new-claims
use Rattle.reader.specs.contracts.Reader.next as next-claims
use Rattle.reader.specs.contracts.next_at
use Rattle.reader.proofs.next_at.Reads as next_at-reads

-- a clause, read where nothing is known besides
abbrev Reads : (w : World) → Pr w → Type 2
Reads w = ReadAt w (λ w. emp w.𝓤) no_know

-- ---- a new reader, which has the caller's own reference and not only equal bytes

abbrev new_clauses : (w : World) → Clauses w.𝓤 new-claims.ended
new_clauses w = new-claims.clauses w.𝓛 w.𝓜.mem w.𝓡.returns

abbrev new_requires : (w : World) (κs : Lfts 1) (a : Args new-claims.signature κs) → Reads w ((new_clauses w κs a).requires tt)
new_requires w κs a = search reads

abbrev pub new_ensures :
    (w : World) (κs : Lfts 1) (a : Args new-claims.signature κs) (r : Res new-claims.signature κs) (e : AtExit new-claims.ended κs)
    → Reads w ((new_clauses w κs a).ensures tt r e)
new_ensures w κs a r e = search reads

abbrev pub new : Function new-claims.ended (Bor (List ℕ)) Reader Nothing
new =
    record {
      clauses = new_clauses;
      asked = λ κs a. AllOf (new_requires w₀ κs a).owes;
      post = λ κs a r e. AllOf (new_ensures w₀ κs a r e).tells;
      handed = λ κs a. a.0;
      answered = λ κs r. r;
      left = λ κs e. tt;
    }

pub new_asks : AsksNothing new
new_asks = record { asked = λ κs a. tt; empty = λ w κs a. (tt, refl) }

pub new_says : Says new (λ i. record { bytes = i; at = 0 }) (λ i. tt)
new_says = record { says = λ κs a r e p. (ap₂ (λ b t. record { bytes = b; at = t }) p.0 p.1, refl) }

-- ---- the next number of a reader

abbrev next_clauses : (w : World) → Clauses w.𝓤 next-claims.ended
next_clauses w = next-claims.clauses w.𝓛 w.𝓜.mem w.𝓡.returns

abbrev next_requires : (w : World) (κs : Lfts 2) (a : Args next-claims.signature κs) → Reads w ((next_clauses w κs a).requires tt)
next_requires w κs a = search reads

abbrev pub next_ensures :
    (w : World) (κs : Lfts 2) (a : Args next-claims.signature κs) (r : Res next-claims.signature κs) (e : AtExit next-claims.ended κs)
    → Reads w ((next_clauses w κs a).ensures tt r e)
next_ensures w κs a r e = search reads

abbrev pub next : Function next-claims.ended Reader Number Reader
next =
    record {
      clauses = next_clauses;
      asked = λ κs a. AllOf (next_requires w₀ κs a).owes;
      post = λ κs a r e. AllOf (next_ensures w₀ κs a r e).tells;
      handed = λ κs a. a.0.now;
      answered = λ κs r. r;
      left = λ κs e. e.0.now;
    }

pub next_asks : AsksNothing next
next_asks = record { asked = λ κs a. tt; empty = λ w κs a. (tt, refl) }

pub next_says : Says next (λ i. number_at i.bytes.now i.at) (λ i. record { bytes = i.bytes; at = place_after i.bytes.now i.at })
next_says = record { says = λ κs a r e p. (p.0, ap₂ (λ b t. record { bytes = b; at = t }) p.1.0 p.1.1) }

-- ---- one number through a reader

abbrev pub next-at : Function next_at.ended (List ℕ × ℕ) Step Nothing
next-at =
    record {
      clauses = λ w. next_at.clauses w.𝓛 w.𝓜.mem w.𝓡.returns;
      asked = next_at-reads.Asked;
      post = next_at-reads.Post;
      handed = λ κs a. (a.0.now, a.1.0);
      answered = λ κs r. r;
      left = λ κs e. tt;
    }

pub next_at_asks : AsksNothing next-at
next_at_asks = record { asked = λ κs a. tt; empty = λ w κs a. (tt, refl) }

pub next_at_says : Says next-at (λ i. record { number = number_at i.0 i.1; at = place_after i.0 i.1 }) (λ i. tt)
next_at_says = record { says = λ κs a r e p. (ap₂ (λ b t. record { number = b; at = t }) p.0 p.1, refl) }
