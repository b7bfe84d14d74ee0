-- The numbers of fault tables: a number below 2 ^ (2 ^ n) and the table of its bytes give each other back, and bit x of the number is node x.
use mathlib.Core.Bool.{true, false, not}
use mathlib.Core.List.{List, [], ◌∷◌}
use mathlib.Core.Logic.{◌⊎◌, inl, inr}
use mathlib.Core.Path.{◌≡◌, refl, sym, ap, ap₂, subst, ◌∙◌}
use Prim.Native.Nat.{ℕ, zero, suc, ◌+◌, ◌-◌, ◌*◌, ◌/◌, ◌%◌, ◌^◌, ◌≤◌, ◌<◌}
use native.Mathlib.Nat.{div-eq_of_lt, div-lt_iff_lt-mul, pow-suc}
use native.Mathlib.Omega.{arith}
use lib.Dec.{eqb, ltb}
use lib.ListN.{get_or, length, length-replicate}
use lib.Pow.{field, mod-mod-pow, pow-add, pow_mono, pow_pos}
use borrow.Author.Tests.{eq-eqb, eqb-true, ltb-false, ltb-true, not-false}
use Rattle.cube.specs.Cube.{bit}
use Rattle.cube.specs.Tables.{node_bit, table_len, unused_set}
use Rattle.cube.proofs.Bools.{either}
use Rattle.cube.proofs.Cube.{bit_shift}
use Rattle.cube.proofs.Refusal.{first_none}
use Rattle.cube.proofs.Tables.{len_small, node_room, table_full, table_room, unused_byte, unused_none, zeros_unused}
use Rattle.jobs.specs.Jobs.{label_bytes}
use Rattle.rule.specs.Cabinet.{Cabinet, plain}
use Rattle.rule.proofs.Cabinet.{plain_faulty}
use Rattle.labels.specs.Labelling.{label_refusal, label_tests}
use Rattle.labels.proofs.Refusal.{fits, fitting}
use Rattle.figures.specs.Figures.{bytes_of, cube_of, table_of, tables}
use Rattle.figures.specs.Laws.{AllTables}

-- ---- the bytes of a number

-- the number of a table
abbrev number_of : List ℕ → ℕ
number_of [] = 0
number_of (b ∷ s) = b + 256 * number_of s

pub bytes_length : (k t : ℕ) → length (bytes_of k t) ≡ k
unfolding bytes_of
bytes_length zero t = refl
bytes_length (suc k) t = ap suc (bytes_length k (t / 256))

number_back : (k t : ℕ) → t < 256 ^ k → number_of (bytes_of k t) ≡ t
unfolding bytes_of
number_back zero t h = omega arith
number_back (suc k) t h =
    let e = number_back k (t / 256) (omega (arith, pow-suc 256 k)) in
    omega (arith, e)

bytes_back : (s : List ℕ) → ((i : ℕ) → get_or s i 0 < 256) → bytes_of (length s) (number_of s) ≡ s
unfolding bytes_of
bytes_back [] h = refl
bytes_back (b ∷ s) h =
    let l : b < 256 = h 0 in
    let low : (b + 256 * number_of s) % 256 ≡ b = omega arith in
    let high : (b + 256 * number_of s) / 256 ≡ number_of s = omega arith in
    ap₂ (λ (x : ℕ) (y : List ℕ). x ∷ y) low (ap (bytes_of (length s)) high ∙ bytes_back s (λ i. h (suc i)))

number_lt : (s : List ℕ) → ((i : ℕ) → get_or s i 0 < 256) → number_of s < 256 ^ length s
number_lt [] h = omega arith
number_lt (b ∷ s) h =
    let l : b < 256 = h 0 in
    omega (arith, number_lt s (λ i. h (suc i)), pow-suc 256 (length s))

-- ---- its bits

pub bit_low_part : (m i x : ℕ) → i < m → bit i (x % 2 ^ m) ≡ bit i x
unfolding bit
bit_low_part m i x h =
    let z : m - i - 1 + 1 + i ≡ m = omega arith in
    let a = ap (λ (k : ℕ). x % 2 ^ k / 2 ^ i) (sym z) ∙ field x (m - i - 1 + 1) i in
    ap (λ (y : ℕ). eqb (y % 2) 1) a ∙ ap (λ (y : ℕ). eqb y 1) (mod-mod-pow (x / 2 ^ i) (m - i - 1) 1)

pub node-bit : (k t x : ℕ) → x / 8 < k → node_bit (bytes_of k t) x ≡ bit x t
unfolding node_bit bytes_of
node-bit zero t x h = absurd (omega arith)
node-bit (suc k) t x h = go (either (ltb x 8)) (node-bit k (t / 256) (x - 8))
  where
    go : (ltb x 8 ≡ true) ⊎ (ltb x 8 ≡ false) → ((x - 8) / 8 < k → bit ((x - 8) % 8) (get_or (bytes_of k (t / 256)) ((x - 8) / 8) 0) ≡ bit (x - 8) (t / 256))
        → bit (x % 8) (get_or (t % 256 ∷ bytes_of k (t / 256)) (x / 8) 0) ≡ bit x t
    go (inl e) _ =
        let l = ltb-true x 8 e in
        let q : x / 8 ≡ 0 = omega arith in
        let r : x % 8 ≡ x = omega arith in
        rw (q, r) (bit_low_part 8 x t l)
    go (inr e) further =
        let l = ltb-false x 8 e in
        let q : x / 8 ≡ suc ((x - 8) / 8) = omega arith in
        let r : x % 8 ≡ (x - 8) % 8 = omega arith in
        let z : 8 + (x - 8) ≡ x = omega arith in
        rw (q, r) (further (omega arith) ∙ bit_shift 8 (x - 8) t ∙ ap (λ (i : ℕ). bit i t) z)

-- ---- the tables of a cube

byte_bits : (k : ℕ) → 2 ^ (8 * k) ≡ 256 ^ k
byte_bits zero = refl
byte_bits (suc k) =
    let z : 8 * suc k ≡ 8 * k + 8 = omega arith in
    ap (λ (j : ℕ). 2 ^ j) z ∙ pow-add 2 (8 * k) 8 ∙ ap (λ (x : ℕ). x * 256) (byte_bits k) ∙ sym (pow-suc 256 k)

module _ (n : ℕ) where
  -- as many bytes as a table has give enough numbers, and from dimension 3 on just so many
  enough_numbers : tables n ≤ 256 ^ table_len n
  enough_numbers = subst (λ (x : ℕ). tables n ≤ x) (byte_bits (table_len n)) (pow_mono (table_room n))

  all_numbers : 3 ≤ n → 256 ^ table_len n ≡ tables n
  all_numbers h = sym (byte_bits (table_len n)) ∙ ap (λ (k : ℕ). 2 ^ k) (table_full n h)

  -- below dimension 3 a table's number is its one byte, and its unused bits are clear where that is below 2 ^ (2 ^ n)
  first_byte : (t : ℕ) → n < 3 → t < tables n → get_or (table_of n t) 0 0 ≡ t
  unfolding bytes_of
  first_byte t small h =
      let e = len_small n (omega arith) in
      let l : tables n ≤ 2 ^ 8 = pow_mono (pow_mono {i = n} {j = 3} (omega arith)) in
      rw e (omega arith)

  unused_clear : (t : ℕ) → t < tables n → unused_set n (table_of n t) ≡ false
  unused_clear t h = go (either (ltb n 3))
    where
      go : (ltb n 3 ≡ true) ⊎ (ltb n 3 ≡ false) → unused_set n (table_of n t) ≡ false
      go (inl e) =
          let small = ltb-true n 3 e in
          let f = first_byte t small h in
          let l : tables n ≤ 2 ^ 8 = pow_mono (pow_mono {i = n} {j = 3} (omega arith)) in
          let z : get_or (table_of n t) 0 0 / tables n ≡ 0 = rw f (div-eq_of_lt h) in
          sym (unused_byte n (table_of n t) small (bytes_length (table_len n) t) (omega arith)) ∙ ap not (eq-eqb _ 0 z)
      go (inr e) = unused_none n (table_of n t) (ltb-false n 3 e) (bytes_length (table_len n) t)

  number_below : (faults : List ℕ) → length faults ≡ table_len n → ((i : ℕ) → get_or faults i 0 < 256) → unused_set n faults ≡ false
      → number_of faults < tables n
  number_below faults sized bytes clear = go (either (ltb n 3))
    where
      alone : (s : List ℕ) → length s ≡ 1 → number_of s ≡ get_or s 0 0
      alone [] e = refl
      alone (b ∷ []) e = omega arith
      alone (b ∷ c ∷ s) e = absurd (omega arith)

      go : (ltb n 3 ≡ true) ⊎ (ltb n 3 ≡ false) → number_of faults < tables n
      go (inl e) =
          let small = ltb-true n 3 e in
          let u = unused_byte n faults small sized (bytes 0) ∙ clear in
          let z = eqb-true (get_or faults 0 0 / tables n) 0 (not-false _ u) in
          let one = alone faults (omega (arith, sized, len_small n (omega arith))) in
          let l = (div-lt_iff_lt-mul {k = tables n} {x = get_or faults 0 0} {y = 1} (pow_pos (2 ^ n))).0 (omega (arith, z)) in
          omega (arith, one, l)
      go (inr e) = omega (arith, number_lt faults bytes, ap (λ (k : ℕ). 256 ^ k) sized, all_numbers (ltb-false n 3 e))

-- labelling tests the unused bits of the fault table eighth
unused_tested : (K : Cabinet) (m : ℕ) → label_refusal K 0 m ≡ 0 → unused_set K.n K.faults ≡ false
unfolding label_refusal
unused_tested K m ok = (first_none 19 (label_tests K 0 m) refl ok).1.1.1.1.1.1.1.0

pub all_tables : (n : ℕ) → (1 ≤ n) × (n ≤ 12) → AllTables n
all_tables n dim =
    record {
      accepted = λ t h.
          fits (cube_of n t) 0 (label_bytes n) dim (omega arith, omega arith) (omega arith) (bytes_length (table_len n) t) (length-replicate (table_len n) 0)
          (length-replicate (table_len n) 0) (unused_clear n t h) (zeros_unused n (table_len n)) (zeros_unused n (table_len n)) refl;
      every = λ faults bytes ok.
          let f = fitting (plain n 3 faults) 0 (label_bytes n) ok in
          let clear = unused_tested (plain n 3 faults) (label_bytes n) ok in (
            number_of faults,
            number_below n faults f.faults bytes clear,
            ap (λ (k : ℕ). bytes_of k (number_of faults)) (sym f.faults) ∙ bytes_back faults bytes,
          );
      once = λ t u ht hu e.
          sym (number_back (table_len n) t (omega (arith, enough_numbers n))) ∙ ap number_of e ∙ number_back (table_len n) u (omega (arith, enough_numbers n));
      node = λ t x h. plain_faulty n 3 (table_of n t) x ∙ node-bit (table_len n) t x (node_room n x (table_len n) refl h);
    }
