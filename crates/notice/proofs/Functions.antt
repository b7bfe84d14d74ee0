-- The crate's public functions as they are seen from outside, each with the claims that the check makes of its clauses, and what its contract says: the
-- answer, and what is left of what was lent, for whatever is handed; and that an entry point asks nothing of its caller.
use mathlib.Core.List.{List}
use mathlib.Core.Path.{refl, ap₂}
use Prim.Native.Nat.{ℕ, ◌+◌}
use lib.ListN.{drop, length, replicate}
use Rattle.cube.specs.Allowed.{AsksNothing, Function, Nothing}
use Rattle.cube.proofs.Contracts.{Says}
use Rattle.groups.specs.Number.{Number}
use Rattle.notice.specs.Addresses.{with_bit}
use Rattle.notice.specs.Notice.{Noticed, dimension_at, noticed, table_after, tail_at}
use Rattle.notice.specs.contracts.clear as clear-claims
use Rattle.notice.proofs.clear.Reads as clear-claims-reads
use Rattle.notice.specs.contracts.dimension as dimension-claims
use Rattle.notice.proofs.dimension.Reads as dimension-claims-reads
use Rattle.notice.specs.contracts.read as read-claims
use Rattle.notice.proofs.read.Reads as read-claims-reads
use Rattle.notice.specs.contracts.set_bit
use Rattle.notice.proofs.set_bit.Reads as set_bit-reads
use Rattle.notice.specs.contracts.tail as tail-claims
use Rattle.notice.proofs.tail.Reads as tail-claims-reads

abbrev pub dimension : Function dimension-claims.ended (List ℕ) Number Nothing
dimension =
    record {
      clauses = λ w. dimension-claims.clauses w.𝓛 w.𝓜.mem w.𝓡.returns;
      asked = dimension-claims-reads.Asked;
      post = dimension-claims-reads.Post;
      handed = λ κs a. a.0.now;
      answered = λ κs r. r;
      left = λ κs e. tt;
    }

pub dimension_asks : AsksNothing dimension
dimension_asks = record { asked = λ κs a. tt; empty = λ w κs a. (tt, refl) }

pub dimension_says : Says dimension dimension_at (λ i. tt)
dimension_says = record { says = λ κs a r e p. (p, refl) }

abbrev pub read : Function read-claims.ended (List ℕ × List ℕ) Noticed (List ℕ)
read =
    record {
      clauses = λ w. read-claims.clauses w.𝓛 w.𝓜.mem w.𝓡.returns;
      asked = read-claims-reads.Asked;
      post = read-claims-reads.Post;
      handed = λ κs a. (a.0.now, a.1.0.now);
      answered = λ κs r. r;
      left = λ κs e. e.1.0.now;
    }

pub read_asks : AsksNothing read
read_asks = record { asked = λ κs a. tt; empty = λ w κs a. (tt, refl) }

pub read_says : Says read (λ i. noticed i.0 i.1) (λ i. table_after i.0 i.1)
read_says = record { says = λ κs a r e p. (p.0, p.1) }

-- the bytes and their place in memory: so the returned part is settled as a part of the caller's own bytes
abbrev pub tail : Function tail-claims.ended (List ℕ × (ℕ × ℕ)) (List ℕ × (ℕ × ℕ)) Nothing
tail =
    record {
      clauses = λ w. tail-claims.clauses w.𝓛 w.𝓜.mem w.𝓡.returns;
      asked = tail-claims-reads.Asked;
      post = tail-claims-reads.Post;
      handed = λ κs a. (a.0.now, a.0.ref_ptr);
      answered = λ κs r. (r.now, r.ref_ptr);
      left = λ κs e. tt;
    }

pub tail_asks : AsksNothing tail
tail_asks = record { asked = λ κs a. tt; empty = λ w κs a. (tt, refl) }

pub tail_says : Says tail (λ i. (drop (tail_at i.0) i.0, (i.1.0, i.1.1 + tail_at i.0))) (λ i. tt)
tail_says = record { says = λ κs a r e p. (ap₂ (λ (s : List ℕ) (q : ℕ × ℕ). (s, q)) p.0 p.1, refl) }

abbrev pub clear : Function clear-claims.ended (List ℕ) Nothing (List ℕ)
clear =
    record {
      clauses = λ w. clear-claims.clauses w.𝓛 w.𝓜.mem w.𝓡.returns;
      asked = clear-claims-reads.Asked;
      post = clear-claims-reads.Post;
      handed = λ κs a. a.0.now;
      answered = λ κs r. tt;
      left = λ κs e. e.0.now;
    }

pub clear_asks : AsksNothing clear
clear_asks = record { asked = λ κs a. tt; empty = λ w κs a. (tt, refl) }

pub clear_says : Says clear (λ i. tt) (λ i. replicate (length i) 0)
clear_says = record { says = λ κs a r e p. (refl, p) }

abbrev pub set-bit : Function set_bit.ended (List ℕ × ℕ) Nothing (List ℕ)
set-bit =
    record {
      clauses = λ w. set_bit.clauses w.𝓛 w.𝓜.mem w.𝓡.returns;
      asked = set_bit-reads.Asked;
      post = set_bit-reads.Post;
      handed = λ κs a. (a.0.now, a.1.0);
      answered = λ κs r. tt;
      left = λ κs e. e.0.now;
    }

pub set_bit_says : Says set-bit (λ i. tt) (λ i. with_bit i.0 i.1)
set_bit_says = record { says = λ κs a r e p. (refl, p) }
