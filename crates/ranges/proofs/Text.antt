-- The text of rising runs: that of sound entries, one for each run. So it keeps the rules, names the nodes of the runs, and goes no further than they do; and
-- all of it are bytes.
use mathlib.Core.Path.{◌≡◌, refl, ap, ◌∙◌}
use mathlib.Core.Bool.{Bool, true, false, cond}
use mathlib.Core.List.{List, [], ◌∷◌, ◌++◌}
use Prim.Native.Nat.{ℕ, ◌+◌}
use native.Mathlib.Omega.{arith}
use lib.Dec.{eqb, leb}
use borrow.Author.Tests.{le-leb, lt-leb}
use Rattle.cube.proofs.Bools.{by_cases, and_both}
use Rattle.spelling.specs.Laws.{Bytes}
use Rattle.spelling.proofs.Bytes.{bytes_none, bytes_cons, bytes_both}
use Rattle.ranges.specs.Grammar.{comma, dash, any, all_digits, high, is_list, named, reaches}
use Rattle.ranges.specs.Laws.{Entry, sound, spelled, holds, runs_rise, in_runs}
use Rattle.ranges.specs.Written.{decimal, entry_text, entry_texts, behind, joined}
use Rattle.ranges.proofs.Decimal.{decimal_digits, digits_cons, digit_is}
use Rattle.ranges.proofs.Entries.{parts_are, stands, sound_cons, text_listed, union}
use Rattle.ranges.proofs.Runs.{first_run}

-- ---- the entries of runs

abbrev entry_for : ℕ × ℕ → Entry
entry_for r = record { lone = eqb r.0 r.1; low = r.0; high = r.1 }

unfoldable entries_for : List (ℕ × ℕ) → List Entry
entries_for [] = []
entries_for (r ∷ more) = entry_for r ∷ entries_for more

texts_spelled : (runs : List (ℕ × ℕ)) → entry_texts runs ≡ spelled (entries_for runs)
unfolding entries_for entry_texts entry_text spelled
texts_spelled [] = refl
texts_spelled (r ∷ more) = ap (λ (l : List (List ℕ)). entry_text r.0 r.1 ∷ l) (texts_spelled more)

sound_run : (b c : Bool) → c ≡ true → cond b b c ≡ true
sound_run true c e = refl
sound_run false c e = e

runs_sound : (base size : ℕ) (runs : List (ℕ × ℕ)) → runs_rise base size runs ≡ true → sound (entries_for runs) ≡ true
unfolding entries_for sound
runs_sound base size [] up = refl
runs_sound base size (r ∷ more) up =
    let f = first_run base size r more up in
    and_both (sound_run (eqb r.0 r.1) (leb r.0 r.1) (le-leb r.0 r.1 f.ordered)) (runs_sound (r.1 + 2) size more f.others)

runs_hold : (runs : List (ℕ × ℕ)) (k : ℕ) → holds (entries_for runs) k ≡ in_runs runs k
unfolding entries_for holds in_runs
runs_hold [] k = refl
runs_hold (r ∷ more) k = rw (runs_hold more k)

runs_within : (base size : ℕ) (runs : List (ℕ × ℕ)) → runs_rise base size runs ≡ true → any (λ p. leb size (high p)) (spelled (entries_for runs)) ≡ false
unfolding entries_for any spelled
runs_within base size [] up = refl
runs_within base size (r ∷ more) up =
    let f = first_run base size r more up in
    let one = sound_cons (entry_for r) (entries_for more) (runs_sound base size (r ∷ more) up) in
    let s = stands (entry_for r) one.0 in
    rw (s.to, lt-leb size r.1 f.below) (runs_within (r.1 + 2) size more f.others)

-- ---- their text

module _ (size : ℕ) (runs : List (ℕ × ℕ)) (up : runs_rise 0 size runs ≡ true) where
  pub text_keeps : is_list (joined (entry_texts runs)) ≡ true
  text_keeps = rw (texts_spelled runs) (text_listed (entries_for runs) (runs_sound 0 size runs up))

  pub text_within : reaches size (joined (entry_texts runs)) ≡ false
  unfolding reaches
  text_within = rw (texts_spelled runs, parts_are (entries_for runs) (runs_sound 0 size runs up)) (runs_within 0 size runs up)

  pub text_names : (k : ℕ) → named (joined (entry_texts runs)) k ≡ in_runs runs k
  text_names k = rw (texts_spelled runs) (union (entries_for runs) k (runs_sound 0 size runs up) ∙ runs_hold runs k)

-- ---- its bytes

digits_bytes : (s : List ℕ) → all_digits s ≡ true → Bytes s
digits_bytes [] e = bytes_none
digits_bytes (x ∷ s) e =
    let r = digits_cons x s e in
    bytes_cons x s (omega (arith, (digit_is x r.0).1)) (digits_bytes s r.1)

number_bytes : (v : ℕ) → Bytes (decimal v)
number_bytes v = digits_bytes (decimal v) (decimal_digits v)

entry_bytes : (a b : ℕ) → Bytes (entry_text a b)
unfolding entry_text
entry_bytes a b =
    by_cases Bytes (eqb a b) (λ _. number_bytes a)
    (λ _. bytes_both (decimal a) (dash ∷ decimal b) (number_bytes a) (bytes_cons dash (decimal b) (omega arith) (number_bytes b)))

behind_bytes : (runs : List (ℕ × ℕ)) → Bytes (behind (entry_texts runs))
unfolding behind entry_texts
behind_bytes [] = bytes_none
behind_bytes (r ∷ more) =
    bytes_cons comma (entry_text r.0 r.1 ++ behind (entry_texts more)) (omega arith)
    (bytes_both (entry_text r.0 r.1) (behind (entry_texts more)) (entry_bytes r.0 r.1) (behind_bytes more))

pub text_bytes : (runs : List (ℕ × ℕ)) → Bytes (joined (entry_texts runs))
unfolding joined entry_texts
text_bytes [] = bytes_none
text_bytes (r ∷ more) = bytes_both (entry_text r.0 r.1) (behind (entry_texts more)) (entry_bytes r.0 r.1) (behind_bytes more)
