-- The refusals of writing bytes are those that the words give, test by test.
use mathlib.Core.Path.{◌≡◌}
use mathlib.Core.Bool.{true, not}
use mathlib.Core.List.{List}
use Prim.Native.Nat.{ℕ}
use lib.Dec.{eqb, ltb}
use lib.ListN.{length}
use borrow.Author.Tests.{lt-ltb, ltb-true}
use Rattle.cube.specs.Refusal.{first}
use Rattle.cube.specs.Tables.{is_dimension, table_len, unused_set}
use Rattle.writer.specs.Writing as T
use Rattle.promises.specs.Refusals.{BytesGiven, WriteWhen, none, write_1, write_13, write_2, write_3}
use Rattle.promises.proofs.Given.{one_test, unused_says, wrong_dimension, wrong_table}

module _ (n : ℕ) (faults w : List ℕ) (room : ℕ) where
  pub given : BytesGiven n faults w room (T.room_refusal n faults w room)
  unfolding T.room_refusal first
  given =
      one_test _ (λ e. write_1 ((wrong_dimension n).0 e)) said_1
      (one_test _ (λ e. write_2 ((wrong_table n (length faults)).0 e)) said_2
      (one_test _ (λ e. write_3 ((unused_says n faults).0 e)) said_3
      (one_test _ (λ e. write_13 (ltb-true room (length w) e)) said_13 none)))
    where
      said_1 : WriteWhen n faults w room 1 → not (is_dimension n) ≡ true
      said_1 (write_1 d) = (wrong_dimension n).1 d

      said_2 : WriteWhen n faults w room 2 → not (eqb (length faults) (table_len n)) ≡ true
      said_2 (write_2 l) = (wrong_table n (length faults)).1 l

      said_3 : WriteWhen n faults w room 3 → unused_set n faults ≡ true
      said_3 (write_3 u) = (unused_says n faults).1 u

      said_13 : WriteWhen n faults w room 13 → ltb room (length w) ≡ true
      said_13 (write_13 l) = lt-ltb room (length w) l
