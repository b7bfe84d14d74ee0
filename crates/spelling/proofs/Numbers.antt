-- A number as it stands among other bytes: its groups at a place are read as it, and end where the next number begins; and the groups of a number that was read
-- are the bytes that it took, for a byte is given by its low seven bits and its high bit, and a second group is not zero.
use mathlib.Core.Path.{◌≡◌, sym, ap, ◌∙◌}
use mathlib.Core.Bool.{false, ◌||◌}
use mathlib.Core.List.{List, [], ◌∷◌, ◌++◌}
use Prim.Native.Nat.{ℕ, ◌+◌, ◌*◌, ◌/◌, ◌%◌, ◌≤◌, ◌<◌}
use native.Mathlib.Omega.{arith}
use native.Mathlib.Numerals.{add-one}
use lib.Dec.{eqb, ltb, leb}
use lib.ListN.{length, get_or, drop}
use lib.Seq.{drop-append_seam, drop-cons, drop-drop}
use borrow.Author.Tests.{leb-false, ltb-true, ltb-false, lt-ltb, le-ltb, eqb-false}
use Rattle.cube.proofs.Bools.{by_cases, or_false}
use Rattle.std.specs.Prelude.{Ok}
use Rattle.groups.specs.Number.{Number, further, groups_of, number_at, two_groups}
use Rattle.groups.proofs.Groups.{no_value, same_value}
use Rattle.groups.proofs.Laws.{number_laws}
use Rattle.spelling.specs.Laws.{Bytes}

-- ---- a number that stands at a place, whatever is behind it

module _ (s : List ℕ) (at v : ℕ) (rest : List ℕ) (here : drop at s ≡ groups_of v ++ rest) where
  pub number_here : v < 16384 → number_at s at ≡ Ok (v, at + length (groups_of v))
  unfolding further
  number_here h =
      let z : at ≡ at + 0 = omega arith in
      ap (number_at s) z ∙ number_laws.handed_on s at 0 ∙ rw (here, number_laws.back v rest h)

  pub behind_here : drop (at + length (groups_of v)) s ≡ rest
  behind_here = sym (drop-drop (length (groups_of v)) at s) ∙ ap (drop (length (groups_of v))) here ∙ drop-append_seam (groups_of v) rest

-- ---- a number that was read

one_group : (v : ℕ) → v < 128 → groups_of v ≡ v ∷ []
unfolding groups_of
one_group v h = rw (lt-ltb v 128 h)

two-groups : (low high : ℕ) → 128 ≤ low → low < 256 → 1 ≤ high → groups_of (low % 128 + high * 128) ≡ low ∷ high ∷ []
unfolding groups_of
two-groups low high h l more =
    let p : 128 + (low % 128 + high * 128) % 128 ≡ low = omega arith in
    let q : (low % 128 + high * 128) / 128 ≡ high = omega arith in
    rw (le-ltb (low % 128 + high * 128) 128 (omega arith), p, q)

positive : (x : ℕ) → eqb x 0 ≡ false → 1 ≤ x
positive x e = let d = eqb-false x 0 e in omega arith

next_byte : (s : List ℕ) (at : ℕ) → at < length s → drop at s ≡ get_or s at 0 ∷ drop (at + 1) s
next_byte s at h = rw add-one (drop-cons s at 0 h)

-- its groups are the bytes from its place to the next
module _ (s : List ℕ) (at v next : ℕ) (bytes : Bytes s) where
  abbrev Spelled : Number → Type 0
  Spelled x = x ≡ Ok (v, next) → drop at s ≡ groups_of v ++ drop next s

  single : at < length s → get_or s at 0 < 128 → Spelled (Ok (get_or s at 0, at + 1))
  single h l e =
      let p = (same_value e).0 in
      let q = (same_value e).1 in
      rw (← p, ← q, one_group (get_or s at 0) l) (next_byte s at h)

  double : at + 1 < length s → 128 ≤ get_or s at 0 → 1 ≤ get_or s (at + 1) 0
      → Spelled (Ok (get_or s at 0 % 128 + get_or s (at + 1) 0 * 128, at + 2))
  double h l more e =
      let p = (same_value e).0 in
      let w = (same_value e).1 in
      let q : at + 1 + 1 ≡ next = omega arith in
      rw (← p, ← q, two-groups (get_or s at 0) (get_or s (at + 1) 0) l (bytes at) more)
      (next_byte s at (omega arith) ∙ ap (λ (t : List ℕ). get_or s at 0 ∷ t) (next_byte s (at + 1) h))

  pub number_spelled : number_at s at ≡ Ok (v, next) → drop at s ≡ groups_of v ++ drop next s
  unfolding number_at two_groups
  number_spelled =
      by_cases Spelled (leb (length s) at) (λ _ e. absurd (no_value e))
      (λ here. by_cases Spelled (ltb (get_or s at 0) 128) (λ one. single (leb-false _ _ here) (ltb-true _ _ one))
      (λ two. by_cases Spelled (leb (length s) (at + 1)) (λ _ e. absurd (no_value e))
      (λ there. by_cases Spelled (eqb (get_or s (at + 1) 0) 0 || leb 128 (get_or s (at + 1) 0)) (λ _ e. absurd (no_value e))
      (λ good. double (leb-false _ _ there) (ltb-false _ _ two) (positive _ (or_false _ _ good).0)))))
