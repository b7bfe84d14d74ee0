-- The laws of spelling that specs/Laws.antt states. Two accepted notices that gave one table are both spelled as its notice; and the notice of a table is
-- accepted, so it is as short as those are.
use mathlib.Core.Path.{◌≡◌, refl, sym, ap, ◌∙◌}
use mathlib.Core.List.{List, []}
use Prim.Native.Nat.{ℕ, ◌+◌, ◌^◌, ◌≤◌}
use native.Mathlib.Omega.{arith}
use lib.ListN.{length, take}
use Rattle.notice.specs.Notice.{a_notice, noticed, table_after}
use Rattle.notice.proofs.Laws.{notice_laws}
use Rattle.spelling.specs.Spelled.{notice_bytes}
use Rattle.spelling.specs.Laws.{Bytes, IsTable, SpellingLaws}
use Rattle.spelling.proofs.Bytes.{notice-bytes}
use Rattle.spelling.proofs.Notice.{reads_back, is_table, spelled, table_bytes}
use Rattle.spelling.proofs.Worked.{listing, none, far, longest}

one_notice : (s s' before before' : List ℕ) (n m m' taken taken' : ℕ) → Bytes s → Bytes s' → noticed s before ≡ a_notice n m taken
    → noticed s' before' ≡ a_notice n m' taken' → table_after s before ≡ table_after s' before' → take taken s ≡ take taken' s'
one_notice s s' before before' n m m' taken taken' b b' e e' same =
    sym (spelled s before n m taken e b) ∙ ap (notice_bytes n) same ∙ spelled s' before' n m' taken' e' b'

short : (n : ℕ) (faults : List ℕ) → IsTable n faults → length (notice_bytes n faults) ≤ 2 ^ n + 3
short n faults is = omega (arith, (notice_laws.accepted _ faults n _ _ ((reads_back n faults [] is).answer faults refl)).short)

pub spelling_laws : SpellingLaws
spelling_laws = record {
  reads_back = reads_back;
  is_table = is_table;
  table_bytes = table_bytes;
  notice-bytes = notice-bytes;
  spelled = λ s before n m taken bytes e. spelled s before n m taken e bytes;
  one_notice = one_notice;
  short = short;
  longest = longest;
  listing = listing;
  none = none;
  far = far;
}
