-- A call of FORWARD as the code makes it, block by block: a block looks at one set of dimensions, as the bits of a number; one that finds nothing is passed,
-- and the first that finds a dimension makes its hop or ends the call.
use mathlib.Core.Path.{◌≡◌, refl, sym, ap, ◌∙◌}
use mathlib.Core.Logic.{⊎_elim}
use mathlib.Core.Bool.{Bool, true, false, beq, cond, not, xor, ◌&&◌}
use Prim.Native.Nat.{ℕ, suc, ◌-◌, ◌^◌, ◌≤◌, ◌<◌}
use native.Mathlib.Omega.{arith}
use lib.Bits.{bit_and, bit_xor, and_le_l, xor_lt}
use lib.Dec.{leb, ltb}
use lib.Pow.{ones_lt}
use borrow.Author.Tests.{lt-ltb, le-ltb}
use Rattle.std.specs.Prelude.{Some, None}
use Rattle.std.specs.Bool.{then_some}
use Rattle.std.proofs.lemmas.Bool.{cases_lt}
use Rattle.cube.specs.Count.{least}
use Rattle.cube.specs.Cube.{apart, bit, dist}
use Rattle.cube.proofs.Bools.{beq_no, beq_yes, by_cases, xor_not}
use Rattle.cube.proofs.Count.{below_suc}
use Rattle.cube.proofs.Cube.{bit-and, bit-xor}
use Rattle.cube.proofs.Search.{least_is, least_none, least_same, the_least}
use Rattle.hop.specs.Helpers.{found, in_set}
use Rattle.hop.proofs.Sets.{found_none, full, some_found}
use Rattle.blocks.specs.Blocks.{Block, block_at, block_of, call, eager, first_block, fits, lowest, may_fourth, may_sixth, no_block, on, turning}
use Rattle.blocks.specs.Phase.{down, turns}
use Rattle.hop_networks.specs.Helpers.{on_set, side_set}

-- ---- the sets

-- the bits that a number has not, below n
others : (n x i : ℕ) → i < n → bit i (bit_xor x (2 ^ n - 1)) ≡ not (bit i x)
others n x i h = bit-xor i x (2 ^ n - 1) ∙ rw (full n i h) (xor_not (bit i x))

module _ (n c d p : ℕ) (side : Bool) where
  side_bit : (i : ℕ) → i < n → bit i (side_set n c d side) ≡ beq (apart i c d) side
  unfolding side_set apart
  side_bit i h = go side
    where
      go : (side : Bool) → bit i (cond side (bit_xor c d) (bit_xor (bit_xor c d) (2 ^ n - 1))) ≡ beq (bit i (bit_xor c d)) side
      go true = sym (beq_yes (bit i (bit_xor c d)))
      go false = others n (bit_xor c d) i h ∙ sym (beq_no (bit i (bit_xor c d)))

  on_bit : (i : ℕ) → i < n → bit i (on_set n c p) ≡ beq (turns p c i) false
  unfolding on_set turns xor
  on_bit i h = go (down p)
    where
      twice : (b : Bool) → b ≡ beq (xor b true) false
      twice true = refl
      twice false = refl

      once : (b : Bool) → not b ≡ beq (xor b false) false
      once true = refl
      once false = refl

      go : (g : Bool) → bit i (cond g c (bit_xor c (2 ^ n - 1))) ≡ beq (xor (bit i c) g) false
      go true = twice (bit i c)
      go false = others n c i h ∙ once (bit i c)

  abbrev pub onward : ℕ
  onward = bit_and (side_set n c d side) (on_set n c p)

  abbrev pub turned : ℕ
  turned = bit_xor (side_set n c d side) onward

  onward_bit : (i : ℕ) → i < n → bit i onward ≡ (beq (apart i c d) side && beq (turns p c i) false)
  onward_bit i h = bit-and i (side_set n c d side) (on_set n c p) ∙ rw (side_bit i h, on_bit i h)

  turned_bit : (i : ℕ) → i < n → bit i turned ≡ (beq (apart i c d) side && beq (turns p c i) true)
  unfolding xor
  turned_bit i h = bit-xor i (side_set n c d side) onward ∙ rw (side_bit i h, onward_bit i h) (rest (beq (apart i c d) side) (turns p c i))
    where
      rest : (a t : Bool) → xor a (a && beq t false) ≡ (a && beq t true)
      rest true true = refl
      rest true false = refl
      rest false t = refl

  -- both are sets of the n dimensions
  pub side_lt : c < 2 ^ n → d < 2 ^ n → side_set n c d side < 2 ^ n
  unfolding side_set
  side_lt hc hd = by_cases (λ (x : ℕ). x < 2 ^ n) side (λ _. xor_lt n c d hc hd) (λ _. xor_lt n (bit_xor c d) (2 ^ n - 1) (xor_lt n c d hc hd) (ones_lt n))

  pub onward_lt : c < 2 ^ n → d < 2 ^ n → onward < 2 ^ n
  onward_lt hc hd = omega (arith, and_le_l (side_set n c d side) (on_set n c p), side_lt hc hd)

  pub turned_lt : c < 2 ^ n → d < 2 ^ n → turned < 2 ^ n
  turned_lt hc hd = xor_lt n (side_set n c d side) onward (side_lt hc hd) (onward_lt hc hd)

-- ---- the blocks

module _ (n c d p own : ℕ) (near : ℕ → ℕ) (side : Bool) where
  abbrev low : ℕ → ℕ
  low = lowest n c d p own near side

  abbrev row_at : ℕ → Block
  row_at = block_at own (dist c d) p

  kept : (a : Bool) → a ≡ (a && true)
  kept true = refl
  kept false = refl

  -- block s by its line: it is tried, and the set is that of its direction
  pub on_block : (s t : ℕ) (may : Bool) → row_at s ≡ block_of on t true may → least n (in_set (onward n c d p side) near t) ≡ low s
  unfolding lowest fits in_set
  on_block s t may e =
      least_same n (in_set (onward n c d p side) near t) (fits c d p near side (block_of on t true may))
      (λ i h. rw (onward_bit n c d p side i h) (ap (λ (b : Bool). (beq (apart i c d) side && beq (turns p c i) false) && b) (kept (leb (near i) t))))
      ∙ ap (λ (b : Block). least n (fits c d p near side b)) (sym e)

  pub turning_block : (s t : ℕ) (may : Bool) → row_at s ≡ block_of turning t true may → least n (in_set (turned n c d p side) near t) ≡ low s
  unfolding lowest fits in_set
  turning_block s t may e =
      least_same n (in_set (turned n c d p side) near t) (fits c d p near side (block_of turning t true may))
      (λ i h. rw (turned_bit n c d p side i h) (ap (λ (b : Bool). (beq (apart i c d) side && beq (turns p c i) true) && b) (kept (leb (near i) t))))
      ∙ ap (λ (b : Block). least n (fits c d p near side b)) (sym e)

  -- one that is not tried
  shut : (s : ℕ) → (row_at s).tried ≡ false → low s ≡ n
  unfolding lowest fits
  shut s e = least_none n (fits c d p near side (row_at s)) (λ i _. rw e (never (beq (apart i c d) side && beq (turns p c i) (row_at s).turning) (leb (near i) (row_at s).top)))
    where
      never : (a b : Bool) → (a && (b && false)) ≡ false
      never true true = refl
      never true false = refl
      never false b = refl

  -- the blocks before s find nothing
  abbrev pub Past : ℕ → Type 0
  Past s = (t : ℕ) → t < s → n ≤ low t

  pub past_none : Past 0
  past_none t h = absurd (omega arith)

  pub pass : (s : ℕ) → Past s → n ≤ low s → Past (suc s)
  pass s q l t h = ⊎_elim (λ (k : t ≡ s). omega (arith, ap low k)) (λ (k : t < s). q t k) (below_suc h)

  first_at : (s : ℕ) → s ≤ no_block → Past s → (s < no_block → low s < n) → first_block n c d p own near side ≡ s
  unfolding first_block
  first_at s h q g = least_is no_block (λ t. ltb (low t) n) s h (λ t l. le-ltb (low t) n (q t l)) (λ l. lt-ltb (low s) n (g l))

  abbrev called : ℕ
  called = call n c d p own near side

  -- block s finds a dimension, and makes the hop,
  hops : (s : ℕ) → s < no_block → Past s → low s < n → (row_at s).may ≡ true → called ≡ low s
  unfolding call
  hops s h q l m = rw (first_at s (omega arith) q (λ _. l), m)

  pub take : (s i : ℕ) → s < no_block → Past s → Some i ≡ found n (low s) → (row_at s).may ≡ true → Some i ≡ found n called
  take s i h q e m = e ∙ ap (found n) (sym (hops s h q (some_found n i (low s) e).1 m))

  -- or ends the call
  stop : (s : ℕ) → s < no_block → Past s → low s < n → (row_at s).may ≡ false → called ≡ n
  unfolding call
  stop s h q l m = rw (first_at s (omega arith) q (λ _. l), m)

  -- all of them find nothing
  none : Past no_block → called ≡ n
  unfolding call
  none q = rw (first_at no_block (omega arith) q (λ l. absurd (omega arith)))

  nothing : called ≡ n → None ≡ found n called
  nothing e = found_none n called (sym e)

  low_within : (s : ℕ) → low s ≤ n
  unfolding lowest
  low_within s = (the_least n (fits c d p near side (row_at s))).within

  -- the fourth block finds a dimension
  pub fourth : (i : ℕ) → Past 3 → Some i ≡ found n (low 3) → then_some (may_fourth (dist c d) p) i ≡ found n called
  fourth i q e = go (may_fourth (dist c d) p) refl
    where
      go : (b : Bool) → may_fourth (dist c d) p ≡ b → then_some b i ≡ found n called
      go true m = take 3 i (omega arith) q e m
      go false m = nothing (stop 3 (omega arith) q (some_found n i (low 3) e).1 m)

  -- four blocks find nothing, and no others are tried
  pub shy : Past 4 → eager own (dist c d) ≡ false → None ≡ found n called
  shy q e = nothing (none (pass 5 (pass 4 q (omega (arith, shut 4 e))) (omega (arith, shut 5 e))))

  -- the sixth block, found or not
  pub last : Past 5 → may_sixth (dist c d) p ≡ true → found n (low 5) ≡ found n called
  last q m =
      ap (found n)
      (⊎_elim (λ (l : low 5 < n). sym (hops 5 (omega arith) q l m)) (λ (l : n ≤ low 5). omega (arith, low_within 5, none (pass 5 q l))) (cases_lt (low 5) n))

  pub last_not : Past 5 → may_sixth (dist c d) p ≡ false → None ≡ found n called
  last_not q m =
      nothing (⊎_elim (λ (l : low 5 < n). stop 5 (omega arith) q l m) (λ (l : n ≤ low 5). none (pass 5 q l)) (cases_lt (low 5) n))
