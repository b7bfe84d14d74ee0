-- How the table stands after r rounds: a node that does not work has 3, a marked one 2, any other 0. These bytes tell the three kinds
-- apart, so a sweep of the table marks what the next round of the definition marks.
use mathlib.Core.Path.{◌≡◌, refl, sym, ap, ap₂, ◌∙◌, subst}
use mathlib.Core.Logic.{◌⊎◌, inl, inr}
use mathlib.Core.Bool.{Bool, true, false, not, ◌&&◌, ◌||◌}
use mathlib.Core.List.{List}
use Prim.Native.Nat.{ℕ, ◌^◌, ◌<◌}
use native.Mathlib.Omega.{arith}
use lib.Dec.{eqb}
use lib.ListN.{length, get_or}
use Rattle.cube.specs.Count.{count}
use Rattle.cube.specs.Cube.{flip}
use Rattle.cube.specs.Tables.{tab, label_in}
use Rattle.cube.proofs.Bools.{either, clash}
use Rattle.cube.proofs.Count.{count_same}
use Rattle.cube.proofs.Cube.{flip_lt}
use Rattle.cube.proofs.Front.{length_tab, get_d_tab, tab_cong}
use Rattle.rule.specs.Cabinet.{Cabinet, out}
use Rattle.rule.specs.Rule.{meets, newly, marked, quiet}
use Rattle.rule.proofs.Rounds.{meets_same, marked_zero, marks_work}
use Rattle.passes.specs.Passes.{Kept, KeptByte, kept_plain, kept_mark, kept_out, out_in, mark_in, plain_in, fresh, held, started}

-- the marks after r rounds, and what the next round adds
abbrev pub marks : (K : Cabinet) (r x : ℕ) → Bool
marks K = marked K.n K.rule (out K)

abbrev pub new : (K : Cabinet) (r x : ℕ) → Bool
new K r = newly K.n K.rule (out K) (marks K r)

pub record Stands (K : Cabinet) (l : List ℕ) (r : ℕ) : Type 0 where
  pub table : l ≡ tab (2 ^ K.n) (held K r)
  -- each of the r rounds marked something new
  pub loud : (j : ℕ) → j < r → quiet K.n K.rule (out K) j ≡ false

neither : (a b c : Bool) → (not (a || b) && c) ≡ (not a && (not b && c))
neither true b c = refl
neither false b c = refl

module _ (K : Cabinet) where
  abbrev n : ℕ
  n = K.n

  pub held_out : (r x : ℕ) → out K x ≡ true → held K r x ≡ 3
  unfolding held
  held_out r x a = rw a

  pub held_mark : (r x : ℕ) → out K x ≡ false → marks K r x ≡ true → held K r x ≡ 2
  unfolding held
  held_mark r x a b = rw (a, b)

  pub held_plain : (r x : ℕ) → out K x ≡ false → marks K r x ≡ false → held K r x ≡ 0
  unfolding held
  held_plain r x a b = rw (a, b)

  pub stands_first : (l : List ℕ) → l ≡ tab (2 ^ n) (started (out K)) → Stands K l 0
  unfolding started held
  stands_first l e =
      record {
        table = e ∙ tab_cong (2 ^ n) (started (out K)) (held K 0) (λ x _. rw (marked_zero n K.rule (out K) x));
        loud = λ j h. absurd (omega arith);
      }

  module _ (l : List ℕ) (r : ℕ) (T : Stands K l r) where
    pub stands_length : length l ≡ 2 ^ n
    stands_length = ap length T.table ∙ length_tab (2 ^ n) (held K r)

    pub byte : (x : ℕ) → x < 2 ^ n → label_in l x ≡ held K r x
    unfolding label_in
    byte x h = ap (λ (m : List ℕ). get_or m x 0) T.table ∙ get_d_tab (2 ^ n) (held K r) x h

    -- a node does not work, is marked, or is neither
    pub data Kind (x : ℕ) : Type 0 where
      is-out : out K x ≡ true → marks K r x ≡ false → label_in l x ≡ 3 → Kind x
      is_mark : out K x ≡ false → marks K r x ≡ true → label_in l x ≡ 2 → Kind x
      is_plain : out K x ≡ false → marks K r x ≡ false → label_in l x ≡ 0 → Kind x

    pub kind : (x : ℕ) → x < 2 ^ n → Kind x
    kind x h = go (either (out K x)) (either (marks K r x))
      where
        go : (out K x ≡ true) ⊎ (out K x ≡ false) → (marks K r x ≡ true) ⊎ (marks K r x ≡ false) → Kind x
        go (inl a) (inl b) = absurd (clash a (marks_work n K.rule (out K) r x b))
        go (inl a) (inr b) = is-out a b (byte x h ∙ held_out r x a)
        go (inr a) (inl b) = is_mark a b (byte x h ∙ held_mark r x a b)
        go (inr a) (inr b) = is_plain a b (byte x h ∙ held_plain r x a b)

    pub stands_kept : Kept l
    stands_kept x h = go (kind x (rw stands_length at h))
      where
        go : Kind x → KeptByte (label_in l x)
        go (is-out a b e) = subst KeptByte (sym e) kept_out
        go (is_mark a b e) = subst KeptByte (sym e) kept_mark
        go (is_plain a b e) = subst KeptByte (sym e) kept_plain

    pub out_is : (x : ℕ) → x < 2 ^ n → out_in l x ≡ out K x
    unfolding out_in
    out_is x h = go (kind x h)
      where
        go : Kind x → eqb (label_in l x) 3 ≡ out K x
        go (is-out a b e) = rw e (sym a)
        go (is_mark a b e) = rw e (sym a)
        go (is_plain a b e) = rw e (sym a)

    pub mark_is : (x : ℕ) → x < 2 ^ n → mark_in l x ≡ marks K r x
    unfolding mark_in
    mark_is x h = go (kind x h)
      where
        go : Kind x → eqb (label_in l x) 2 ≡ marks K r x
        go (is-out a b e) = rw e (sym b)
        go (is_mark a b e) = rw e (sym b)
        go (is_plain a b e) = rw e (sym b)

    pub plain_is : (x : ℕ) → x < 2 ^ n → plain_in l x ≡ not (out K x || marks K r x)
    unfolding plain_in
    plain_is x h = go (kind x h)
      where
        go : Kind x → eqb (label_in l x) 0 ≡ not (out K x || marks K r x)
        go (is-out a b e) = rw (a, e)
        go (is_mark a b e) = rw (a, b, e)
        go (is_plain a b e) = rw (a, b, e)

    -- the sweep marks what the round marks
    pub fresh_is : (x : ℕ) → x < 2 ^ n → fresh n K.rule l x ≡ new K r x
    unfolding fresh newly
    fresh_is x h =
        ap₂ ◌&&◌ (plain_is x h)
        (meets_same n K.rule (out_in l) (out K) (mark_in l) (marks K r) x (λ i m. out_is (flip i x) (flip_lt n i x m h))
        (λ i m. mark_is (flip i x) (flip_lt n i x m h)))
        ∙ neither (out K x) (marks K r x) (meets n K.rule (out K) (marks K r) x)

    pub marks_are : count (2 ^ n) (fresh n K.rule l) ≡ count (2 ^ n) (new K r)
    marks_are = count_same (2 ^ n) (fresh n K.rule l) (new K r) fresh_is
