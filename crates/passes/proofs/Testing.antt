-- The test of the rule as it goes through the neighbours of x in the table l: what the first `looked` of them weigh, which is not enough, and one neighbour
-- on.
--
-- A bad neighbour, one that does not work or is marked, weighs 2, and one that does not work 1 more. With rule 2 or 3 the neighbours are enough exactly where
-- they weigh twice the rule: two that do not work weigh 6, and less than that is neither two that do not work nor so many bad ones.
use mathlib.Core.Path.{◌≡◌, refl, sym}
use mathlib.Core.Logic.{◌⊎◌, inl, inr}
use mathlib.Core.Bool.{Bool, true, false, ◌||◌}
use mathlib.Core.List.{List}
use Prim.Native.Nat.{ℕ, ◌+◌, ◌-◌, ◌*◌, ◌%◌, ◌≤◌, ◌<◌}
use native.Mathlib.Omega.{arith}
use lib.Dec.{eqb, leb}
use lib.Pow.{low}
use borrow.Author.Tests.{leb-true, leb-false}
use Rattle.cube.specs.Count.{count}
use Rattle.cube.specs.Cube.{flip}
use Rattle.cube.specs.Tables.{label_in}
use Rattle.cube.proofs.Bools.{either, or_left}
use Rattle.cube.proofs.Count.{count_bound, count_zero, count-in, count_out, count_le}
use Rattle.rule.specs.Looks.{Looked}
use Rattle.rule.specs.Rounds.{Unsafe}
use Rattle.rule.proofs.Looks.{passed, stopped, unsafe_rises}
use Rattle.passes.specs.Passes.{KeptByte, kept_plain, kept_mark, kept_out, kept_new, out_in, mark_in}

-- what weighs so much is enough, for rule 2 and 3: of `bad` neighbours `outs` do not work
enough_weighs : (k outs bad : ℕ) → 2 ≤ k → k ≤ 3 → outs ≤ bad → (2 ≤ outs) ⊎ (k ≤ bad) → 2 * k ≤ 2 * bad + outs
enough_weighs k outs bad two three sub (inl h) = omega arith
enough_weighs k outs bad two three sub (inr h) = omega arith

weighs_enough : (k outs bad : ℕ) → 2 ≤ k → k ≤ 3 → outs ≤ bad → 2 * k ≤ 2 * bad + outs → (2 ≤ outs) ⊎ (k ≤ bad)
weighs_enough k outs bad two three sub h = go (either (leb 2 outs))
  where
    go : (leb 2 outs ≡ true) ⊎ (leb 2 outs ≡ false) → (2 ≤ outs) ⊎ (k ≤ bad)
    go (inl a) = inl (leb-true 2 outs a)
    go (inr a) = inr (omega (arith, leb-false 2 outs a))

module _ (n k : ℕ) (l : List ℕ) (x : ℕ) where
  -- the neighbour across i does not work; does not work or is marked; was marked by this round
  abbrev is-out : ℕ → Bool
  is-out i = out_in l (flip i x)

  abbrev is_bad : ℕ → Bool
  is_bad i = out_in l (flip i x) || mark_in l (flip i x)

  abbrev is_new : ℕ → Bool
  is_new i = eqb (label_in l (flip i x)) 128

  -- so many of the first j
  abbrev outs : ℕ → ℕ
  outs j = count j is-out

  abbrev bad : ℕ → ℕ
  bad j = count j is_bad

  abbrev news : ℕ → ℕ
  news j = count j is_new

  abbrev weighs : ℕ → ℕ
  weighs j = 2 * bad j + outs j

  abbrev Enough : ℕ → Type 0
  Enough j = Unsafe j k (out_in l) (mark_in l) x

  outs_bad : (j : ℕ) → outs j ≤ bad j
  outs_bad j = count_le j is-out is_bad (λ i _ e. or_left (mark_in l (flip i x)) e)

  -- one neighbour on
  adds : (j b : ℕ) → label_in l (flip j x) ≡ b → KeptByte b
      → (weighs (j + 1) + 128 * news (j + 1) ≡ weighs j + 128 * news j + b) × (weighs (j + 1) ≤ weighs j + 3)
  unfolding out_in mark_in
  adds j b e kept_plain = omega (arith, count_out j is-out (rw e), count_out j is_bad (rw e), count_out j is_new (rw e))
  adds j b e kept_mark = omega (arith, count_out j is-out (rw e), count-in j is_bad (rw e), count_out j is_new (rw e))
  adds j b e kept_out = omega (arith, count-in j is-out (rw e), count-in j is_bad (rw e), count_out j is_new (rw e))
  adds j b e kept_new = omega (arith, count_out j is-out (rw e), count_out j is_bad (rw e), count-in j is_new (rw e))

  pub record Seen (weight looked : ℕ) : Type 0 where
    pub weighed : weight + 2 * k ≡ 64 + weighs looked + 128 * news looked
    pub short : weighs looked < 2 * k

  module _ (two : 2 ≤ k) (three : k ≤ 3) where
    pub seen_none : Seen (64 - 2 * k) 0
    seen_none =
        record {
          weighed = omega (arith, count_zero is-out, count_zero is_bad, count_zero is_new);
          short = omega (arith, count_zero is-out, count_zero is_bad);
        }

    not_yet : (j : ℕ) → weighs j < 2 * k → Enough j → ⊥
    not_yet j h e = omega (arith, enough_weighs k (outs j) (bad j) two three (outs_bad j) e)

    module _ (weight looked : ℕ) (S : Seen weight looked) where
      pub weight_few : looked ≤ 12 → weight ≤ 2000
      weight_few h = omega (arith, S.weighed, S.short, count_bound looked is_new)

      -- all were seen
      pub seen_all : looked ≡ n → Looked n Enough false n
      seen_all e = passed n Enough (unsafe_rises k (out_in l) (mark_in l) x) n refl (not_yet n (rw e at S.short))

      -- the next one has the byte b
      module _ (b : ℕ) (more : looked < n) (e : b ≡ label_in l (flip looked x)) (kept : KeptByte (label_in l (flip looked x))) where
        abbrev next : ℕ
        next = weighs (looked + 1)

        added : (next + 128 * news (looked + 1) ≡ weighs looked + 128 * news looked + b) × (next ≤ weighs looked + 3)
        added = adds looked b (sym e) (rw e kept)

        -- the bit of 64 tells
        tells : (weight + b) % 128 + 2 * k ≡ 64 + next
        tells =
            let lo : ℕ = 64 + next - 2 * k in
            let small : lo < 128 = omega (arith, added, S.short) in
            let whole : weight + b ≡ news (looked + 1) * 128 + lo = omega (arith, added, S.weighed) in
            omega (arith, whole, low (news (looked + 1)) 7 {lo = lo} small)

        pub seen_enough : 64 ≤ (weight + b) % 128 → Looked n Enough true (looked + 1)
        seen_enough h =
            stopped n Enough (unsafe_rises k (out_in l) (mark_in l) x) looked more (not_yet looked S.short)
            (weighs_enough k (outs (looked + 1)) (bad (looked + 1)) two three (outs_bad (looked + 1)) (omega (arith, tells)))

        pub seen_next : (weight + b) % 128 < 64 → Seen (weight + b) (looked + 1)
        seen_next h = record { weighed = omega (arith, added, S.weighed); short = omega (arith, tells) }
