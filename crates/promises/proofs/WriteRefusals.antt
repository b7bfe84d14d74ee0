-- The refusals of writing a notice or a list text, and of reading a list text, are those that the words give, test by test.
use mathlib.Core.Path.{◌≡◌, sym, ap, ◌∙◌}
use mathlib.Core.Bool.{true, not}
use mathlib.Core.List.{List}
use Prim.Native.Nat.{ℕ, ◌^◌}
use lib.Dec.{eqb}
use lib.ListN.{length}
use borrow.Author.Tests.{not-false}
use Rattle.cube.specs.Refusal.{first}
use Rattle.cube.specs.Tables.{is_dimension, table_len}
use Rattle.ranges.specs.Grammar.{is_list, named, reaches}
use Rattle.ranges.specs.Laws.{Entries, Entry, holds}
use Rattle.ranges.proofs.Laws.{ranges_laws}
use Rattle.spelling.specs.Spelled.{notice_bytes}
use Rattle.ranges.specs.Written.{list_text}
use Rattle.writer.specs.Writing as T
use Rattle.writer.proofs.Outcomes.{refusal_is}
use Rattle.list_reader.specs.Reading.{list_refusal}
use Rattle.list_writer.specs.Lists.{wrote_list}
use Rattle.promises.specs.Refusals.{BytesGiven, ReadListGiven, ReadListWhen, WriteGiven, WriteListGiven, list_1, list_12, list_14, list_2}
use Rattle.promises.specs.Refusals.{none}
use Rattle.promises.proofs.BytesGiven.{given}
use Rattle.promises.proofs.Given.{not_says, one_test, test_then, wrong_dimension, wrong_table}
use Rattle.cube.specs.Refused.{refused}

-- ---- writing the bytes w

module _ (n : ℕ) (faults w : List ℕ) (room : ℕ) where
  bytes_given : BytesGiven n faults w room (refused (T.wrote_bytes n faults w room))
  bytes_given = rw (refusal_is n faults w room) (given n faults w room)

pub write_given : (n : ℕ) (faults : List ℕ) (room : ℕ) → WriteGiven n faults room (refused (T.wrote n faults room))
write_given n faults room = bytes_given n faults (notice_bytes n faults) room

pub write_list_given : (n : ℕ) (faults : List ℕ) (room : ℕ) → WriteListGiven n faults room (refused (wrote_list n faults room))
write_list_given n faults room = bytes_given n faults (list_text n faults) room

-- ---- reading a list text: 12 is looked at where the text keeps the rules

-- a node beyond the cube is one of some entry, which the text names
module _ (n : ℕ) (text faults : List ℕ) where
  holds_named : (es : List Entry) (k : ℕ) → Entries es text → named text k ≡ holds es k
  holds_named es k e = ap (λ (s : List ℕ). named s k) e.1 ∙ ranges_laws.union es k e.0

  says_12 : is_list text ≡ true → reaches (2 ^ n) text ≡ true → ReadListWhen n text (length faults) 12
  says_12 good far =
      let (es, e) = (ranges_laws.grammar text).0 good in
      let (k, l, named-is) = (ranges_laws.beyond (2 ^ n) text good).0 far in
      list_12 es k e l (sym (holds_named es k e) ∙ named-is)

  said_12 : is_list text ≡ true → ReadListWhen n text (length faults) 12 → reaches (2 ^ n) text ≡ true
  said_12 good (list_12 es k e l held) = (ranges_laws.beyond (2 ^ n) text good).1 (k, l, holds_named es k e ∙ held)

  pub read_list_given : ReadListGiven n text (length faults) (list_refusal n text faults)
  unfolding list_refusal first
  read_list_given =
      one_test _ (λ e. list_1 ((wrong_dimension n).0 e)) said_1
      (one_test _ (λ e. list_2 ((wrong_table n (length faults)).0 e)) said_2
      (test_then _ (λ e. list_14 ((not_says (is_list text) (ranges_laws.grammar text)).0 e)) said_14
      (λ e. let good = not-false (is_list text) e in one_test _ (says_12 good) (said_12 good) none)))
    where
      said_1 : ReadListWhen n text (length faults) 1 → not (is_dimension n) ≡ true
      said_1 (list_1 d) = (wrong_dimension n).1 d

      said_2 : ReadListWhen n text (length faults) 2 → not (eqb (length faults) (table_len n)) ≡ true
      said_2 (list_2 l) = (wrong_table n (length faults)).1 l

      said_14 : ReadListWhen n text (length faults) 14 → not (is_list text) ≡ true
      said_14 (list_14 b) = (not_says (is_list text) (ranges_laws.grammar text)).1 b
