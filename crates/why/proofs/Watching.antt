-- How the node x is watched while the rounds go on. Before each sweep what was seen of it is what is to be seen after r rounds (`watched_after`). The sweep of
-- round r + 1 writes 128 at the nodes that it marks and changes no other byte: so it marked x exactly where x has 128, and the neighbours that do not work
-- or were marked by an earlier round are still told by 3 and 2. These are the marks that the cause of x goes by.
use mathlib.Core.Path.{◌≡◌, refl, sym, ap, ◌∙◌}
use mathlib.Core.Logic.{⊎_elim}
use mathlib.Core.Bool.{Bool, true, false, ◌||◌}
use mathlib.Core.List.{List}
use Prim.Native.Nat.{ℕ, zero, suc, ◌+◌, ◌^◌, ◌≤◌, ◌<◌}
use native.Mathlib.Numerals.{add-one}
use native.Mathlib.Omega.{arith}
use lib.Dec.{eqb}
use borrow.Author.Tests.{eq-eqb, eqb-false, ne_eqb}
use Rattle.cube.specs.Count.{count}
use Rattle.cube.specs.Cube.{flip}
use Rattle.cube.specs.Tables.{label_in, tab}
use Rattle.cube.proofs.Bools.{clash, either, or_none, or_right}
use Rattle.cube.proofs.Cube.{flip_lt}
use Rattle.rule.specs.Cabinet.{Cabinet, out}
use Rattle.rule.specs.Rule.{quiet, rounds}
use Rattle.rule.proofs.Rounds.{marked_suc, marked_zero, rest, rounds_first}
use Rattle.causes.specs.Cause.{cause_of, cause_with, earlier, round_of}
use Rattle.causes.proofs.Causes.{cause_same, earlier_is}
use Rattle.passes.specs.Passes.{fresh, held, mark_in, out_in, swept}
use Rattle.passes.proofs.Marking.{swept_alike, swept_new, swept_old}
use Rattle.passes.proofs.Standing.{Kind, Stands, fresh_is, is_mark, is-out, is_plain, kind, mark_is, marks, marks_are, new, out_is}
use Rattle.labels.specs.Watched.{looked, round_table}
use Rattle.labels.proofs.Loop.{still_loud, swept_byte}
use Rattle.std.specs.Prelude.{Some, None}
use Rattle.why.specs.Helpers.{Watched, watched_after, watched_of, watched_on}
use Rattle.why.specs.declared.Watcher.{Watcher}

-- no more rounds were loud than mark something new
loud_few : (n k : ℕ) (F : ℕ → Bool) (r : ℕ) → ((j : ℕ) → j < r → quiet n k F j ≡ false) → r ≤ rounds n k F
loud_few n k F r f =
    let late : ¬ (rounds n k F < r) = λ l. clash (rest n k F) (f (rounds n k F) l) in
    omega (arith, late)

pub watched_first : (K : Cabinet) (x : ℕ) → None ≡ watched_after K x 0
unfolding watched_after
watched_first K x = rw (marked_zero K.n K.rule (out K) x)

module _ (K : Cabinet) (l : List ℕ) (r : ℕ) (T : Stands K l r) where
  abbrev n : ℕ
  n = K.n

  abbrev F : ℕ → Bool
  F = out K

  -- the sweep answered m and left the table l₁
  module _ (m : ℕ) (l₁ : List ℕ) (em : m ≡ count (2 ^ n) (fresh n K.rule l)) (e₁ : l₁ ≡ tab (2 ^ n) (swept n K.rule l)) where
    byte_after : (y : ℕ) → y < 2 ^ n → label_in l₁ y ≡ swept n K.rule l y
    byte_after = swept_byte K l r T m l₁ em e₁

    out_after : (y : ℕ) → y < 2 ^ n → out_in l₁ y ≡ out K y
    unfolding out_in
    out_after y h = ap (λ b. eqb b 3) (byte_after y h) ∙ swept_alike n K.rule l (λ b. eqb b 3) refl y ∙ out_is K l r T y h

    mark_after : (y : ℕ) → y < 2 ^ n → mark_in l₁ y ≡ marks K r y
    unfolding mark_in
    mark_after y h = ap (λ b. eqb b 2) (byte_after y h) ∙ swept_alike n K.rule l (λ b. eqb b 2) refl y ∙ mark_is K l r T y h

    module _ (x : ℕ) (hx : x < 2 ^ n) where
      marked_now : new K r x ≡ true → label_in l₁ x ≡ 128
      marked_now t = byte_after x hx ∙ swept_new n K.rule l x (fresh_is K l r T x hx ∙ t)

      not_now : new K r x ≡ false → label_in l₁ x ≡ 128 → ⊥
      not_now t e = go (kind K l r T x hx)
        where
          old : label_in l x ≡ 128
          old = sym (byte_after x hx ∙ swept_old n K.rule l x (fresh_is K l r T x hx ∙ t)) ∙ e

          go : Kind K l r T x → ⊥
          go (is-out a b q) = omega (arith, old)
          go (is_mark a b q) = omega (arith, old)
          go (is_plain a b q) = omega (arith, old)

      cause_now : cause_with n K.rule (out_in l₁) (mark_in l₁) x ≡ cause_with n K.rule F (marks K r) x
      cause_now =
          cause_same n K.rule (out_in l₁) F (mark_in l₁) (marks K r) x (λ i h. out_after (flip i x) (flip_lt n i x h hx))
          (λ i h. mark_after (flip i x) (flip_lt n i x h hx))

      module _ (some-new : m ≡ 0 → ⊥) where
        is_earlier : new K r x ≡ true → earlier n K.rule F x ≡ r
        is_earlier t =
            earlier_is n K.rule F r x (omega (arith, loud_few n K.rule F (r + 1) (still_loud K l r T m l₁ em e₁ some-new))) t

        marks_on : marks K (r + 1) x ≡ (marks K r x || new K r x)
        marks_on = rw (add-one r) (marked_suc n K.rule F r x)

        -- the round marked it
        seen_now : new K r x ≡ true → (w : Watched) → watched_on n K.rule l₁ x (r + 1) w ≡ Some (r + 1, cause_with n K.rule F (marks K r) x)
        unfolding watched_on
        seen_now t w = rw (eq-eqb (label_in l₁ x) 128 (marked_now t), cause_now)

        to_see : new K r x ≡ true → watched_after K x (r + 1) ≡ Some (r + 1, cause_with n K.rule F (marks K r) x)
        unfolding watched_after round_of cause_of
        to_see t =
            rw (marks_on ∙ or_right (marks K r x) t) (ap (λ (e : ℕ). Some (e + 1, cause_with n K.rule F (marks K e) x)) (is_earlier t))

        -- or did not
        not_seen : new K r x ≡ false → (w : Watched) → watched_on n K.rule l₁ x (r + 1) w ≡ w
        unfolding watched_on
        not_seen t w = rw (ne_eqb (label_in l₁ x) 128 (not_now t))

        as_before : new K r x ≡ false → watched_after K x (r + 1) ≡ watched_after K x r
        unfolding watched_after
        as_before t = rw (marks_on, or_none (marks K r x) t)

        pub watched_next : (round : ℕ) (w v : Watched) → round ≡ r + 1 → w ≡ watched_after K x r → v ≡ watched_on n K.rule l₁ x round w
            → v ≡ watched_after K x (r + 1)
        watched_next round w v er ew ev =
            let at : v ≡ watched_on n K.rule l₁ x (r + 1) w = ev ∙ ap (λ (t : ℕ). watched_on n K.rule l₁ x t w) er in
            ⊎_elim (λ (t : new K r x ≡ true). at ∙ seen_now t w ∙ sym (to_see t)) (λ (t : new K r x ≡ false). at ∙ not_seen t w ∙ ew ∙ sym (as_before t))
            (either (new K r x))

-- ---- the watcher

-- what it is once it has looked at a table, and after r rounds
abbrev after : (w : Watcher) (l : List ℕ) (round : ℕ) → Watcher
after w l round = record { n = w.n; rule = w.rule; x = w.x; seen = watched_on w.n w.rule l w.x round w.seen }

abbrev watching : (n rule x : ℕ) (seen : Watched) → Watcher
watching n rule x seen = record { n = n; rule = rule; x = x; seen = seen }

module _ (K : Cabinet) (x : ℕ) (hx : x < 2 ^ K.n) where
  abbrev last : ℕ
  last = rounds K.n K.rule (out K)

  abbrev table : ℕ → List ℕ
  table r = tab (2 ^ K.n) (held K r)

  stands : (r : ℕ) → r ≤ last → Stands K (table r) r
  stands r h = record { table = refl; loud = λ j m. rounds_first K.n K.rule (out K) j (omega arith) }

  marks_some : (r : ℕ) → r < last → count (2 ^ K.n) (fresh K.n K.rule (table r)) ≡ 0 → ⊥
  unfolding quiet
  marks_some r h z =
      let T : Stands K (table r) r = stands r (omega arith) in
      eqb-false _ 0 (rounds_first K.n K.rule (out K) r h) (sym (marks_are K (table r) r T) ∙ z)

  watches_next : (r : ℕ) → r < last → watched_on K.n K.rule (round_table K r) x (r + 1) (watched_after K x r) ≡ watched_after K x (r + 1)
  unfolding round_table
  watches_next r h =
      watched_next K (table r) r (stands r (omega arith)) _ (round_table K r) refl refl x hx (marks_some r h) (r + 1) (watched_after K x r) _ refl refl refl

  watches : (r : ℕ) → r ≤ last → looked after K (watching K.n K.rule x None) r ≡ watching K.n K.rule x (watched_after K x r)
  unfolding looked
  watches zero h = ap (watching K.n K.rule x) (watched_first K x)
  watches (suc r) h =
      ap (λ (w : Watcher). after w (round_table K r) (r + 1)) (watches r (omega arith))
      ∙ ap (watching K.n K.rule x) (watches_next r (omega arith) ∙ ap (watched_after K x) (add-one r))

  -- after all of them it has seen all
  pub watches_all : looked after K (watching K.n K.rule x None) last ≡ watching K.n K.rule x (watched_of K x)
  unfolding watched_of
  watches_all = watches last (omega arith)
