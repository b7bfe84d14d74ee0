-- A notice of fewer faulty nodes than dimensions leaves a safe node: the listing's first line never says `safe 0` of it.
use mathlib.Core.Path.{◌≡◌, refl, sym, subst, ◌∙◌}
use mathlib.Core.List.{List}
use Prim.Native.Nat.{ℕ, ◌<◌}
use native.Mathlib.Omega.{arith}
use lib.ListN.{length, length-replicate}
use Rattle.cube.specs.Tables.{empty_table, label_count, table_len}
use Rattle.notice.specs.Notice.{a_notice, dimension_at, notice_of, noticed}
use Rattle.notice.proofs.Opened.{opened_notice}
use Rattle.rule.specs.Cabinet.{Cabinet, labels_of}
use Rattle.printed.specs.Printed.{cabinet_of, wanted_len}
use Rattle.printed.proofs.Heads.{out_count, safe_left, same, same_cabinet, table_wanted}

-- an accepted notice is read into an empty table as into any other
pub no_alarm : (s : List ℕ) (n m taken : ℕ) → notice_of s ≡ a_notice n m taken → m < n → 0 < label_count (labels_of (cabinet_of s n)) 0
unfolding notice_of
no_alarm s n m taken e h =
    subst (λ (K : Cabinet). 0 < label_count (labels_of K) 0) (same_cabinet s t sized read refl) (safe_left s t sized read refl (omega (arith, h, out_count s t sized read refl)))
  where
    t : List ℕ
    t = empty_table n

    sized : length t ≡ wanted_len s
    sized = length-replicate (table_len n) 0 ∙ table_wanted s (sym (opened_notice (dimension_at s) s n m taken e).dimension)

    read : noticed s t ≡ a_notice n m taken
    read = same s t sized ∙ e
