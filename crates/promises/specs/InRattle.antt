-- What only a caller in Rattle asks (RULES, Tables and the notice), of whatever the contracts allow: the bytes after a notice, one number, the reader that
-- keeps its place, and a notice read through it.
use Rattle.std.specs.Prelude.{List, [], ◌≢◌, ◌≡◌, ℕ, suc, ◌+◌, drop, length, Ok, Err}
use Rattle.std.specs.Borrow.{Bor}
use Rattle.cube.specs.Allowed.{May}
use Rattle.groups.specs.Number.{refusal_in}
use Rattle.groups.specs.Number.{Number}
use Rattle.groups.proofs.Functions as groups
use Rattle.notice.proofs.Functions as notice
use Rattle.reader.specs.Laws.{ReadThrough, RefusedThrough}
use Rattle.reader.specs.Reading.{answers, places}
use Rattle.reader.specs.declared.Reader.{Reader}
use Rattle.reader.specs.declared.Step.{Step}
use Rattle.reader.proofs.Functions as reader
use Rattle.promises.specs.Refusals.{NumberGiven}
use Rattle.cube.specs.declared.refusals.Refusal.{Refusal}
use Rattle.cube.specs.declared.refusals.Refusal.TheVariants.{Length}
use Rattle.notice.specs.Notice.{a_notice}

pub record InRattle : Type 0 where
  -- "one question gives the bytes after the first notice as a part of the caller's own bytes": these bytes, at their place in the caller's memory
  pub tail_behind :
      {bytes before after : List ℕ} {n m taken block offset : ℕ} {x : List ℕ × (ℕ × ℕ)} → May notice.read (bytes, before) (a_notice n m taken) after
      → May notice.tail (bytes, (block, offset)) x tt → x ≡ (drop taken bytes, (block, offset + taken))
  -- "if the notice is refused for anything but the table's length, it gives the empty part at their end"
  pub tail_empty :
      {bytes before after : List ℕ} {at block offset : ℕ} {r : Refusal} {x : List ℕ × (ℕ × ℕ)} → May notice.read (bytes, before) (Err (r, at)) after
      → r ≢ Length
      → May notice.tail (bytes, (block, offset)) x tt → x ≡ ([], (block, offset + length bytes))
  -- a number is refused with 9 or 10, then and not otherwise, and "the byte place where that number begins" is answered
  pub number_refusal : {bytes : List ℕ} {at : ℕ} {x : Number} → May groups.number-at (bytes, at) x tt → NumberGiven bytes at (refusal_in x)
  pub number_place : {bytes : List ℕ} {at place : ℕ} {r : Refusal} → May groups.number-at (bytes, at) (Err (r, place)) tt → place ≡ at
  -- "a notice reader that keeps the lent bytes and its place", which begins at their start,
  pub new : {bytes : Bor (List ℕ)} {r : Reader} → May reader.new bytes r tt → (r.bytes ≡ bytes) × (r.at ≡ 0)
  -- "with one action: the next number. A refusal leaves its place as it stood"
  pub next : {r after : Reader} {x y : Number} → May reader.next r x after → May groups.number-at (r.bytes.now, r.at) y tt → x ≡ y
  pub next_keeps : {r after : Reader} {x : Number} → May reader.next r x after → after.bytes ≡ r.bytes
  pub next_moves : {r after : Reader} {v next : ℕ} → May reader.next r (Ok (v, next)) after → after.at ≡ next
  pub next_stays : {r after : Reader} {k : Refusal} {at : ℕ} → May reader.next r (Err (k, at)) after → after.at ≡ r.at
  -- and so the place that is answered is the place that is kept
  pub next_place : {r after : Reader} {k : Refusal} {at : ℕ} → May reader.next r (Err (k, at)) after → at ≡ after.at
  -- a reader asked again and again, r k after k answers and x k the answer that follows: so what is said of `answers` and `places` is said of it
  pub through :
      {bytes : Bor (List ℕ)} {r : ℕ → Reader} {x : ℕ → Number} → May reader.new bytes (r 0) tt → ((k : ℕ) → May reader.next (r k) (x k) (r (suc k)))
      → (k : ℕ) → (x k ≡ answers bytes.now k) × ((r k).at ≡ places bytes.now k)
  -- who counts the bytes by hand comes to the same: a reader that goes through a notice comes to the place that its refusal answers, and stands before the
  -- number that the refusal is about; through an accepted notice it comes to its end
  pub notice-refused :
      {bytes before after : List ℕ} {r : Refusal} {at : ℕ} → May notice.read (bytes, before) (Err (r, at)) after → RefusedThrough bytes before r at
  pub notice_read :
      {bytes before after : List ℕ} {n m taken : ℕ} → May notice.read (bytes, before) (a_notice n m taken) after → ReadThrough bytes n m taken
  -- and so through a reader that stands at a place
  pub next-at : {bytes : List ℕ} {at : ℕ} {x : Step} {y : Number} → May reader.next-at (bytes, at) x tt → May groups.number-at (bytes, at) y tt → x.number ≡ y
  pub next_at_moves :
      {bytes : List ℕ} {at v next : ℕ} {x : Step} → May reader.next-at (bytes, at) x tt → x.number ≡ Ok (v, next) → x.at ≡ next
  pub next_at_stays :
      {bytes : List ℕ} {at place : ℕ} {r : Refusal} {x : Step} → May reader.next-at (bytes, at) x tt → x.number ≡ Err (r, place)
      → (x.at ≡ at) × (place ≡ at)
