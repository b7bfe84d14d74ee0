-- The pass over the nodes: at node k the addresses that are left are those of `having (size - k) k`, counted from the base. So all that stands before them
-- has been put.
use mathlib.Core.Bool.{Bool, true, false}
use mathlib.Core.List.{List, [], ◌∷◌, ◌++◌, append_assoc, append-nil}
use mathlib.Core.Path.{◌≡◌, sym, ap, subst, ◌∙◌}
use Prim.Native.Nat.{ℕ, suc, ◌+◌, ◌-◌, ◌/◌, ◌%◌, ◌≤◌, ◌<◌}
use native.Mathlib.Omega.{arith}
use lib.Dec.{ltb}
use lib.ListN.{length, length-append}
use borrow.Author.Tests.{le-ltb, lt-ltb}
use Rattle.cube.proofs.Bools.{by_cases}
use Rattle.groups.specs.Number.{groups_of}
use Rattle.spelling.specs.Spelled.{address_bytes, having}

-- ---- the groups of a number

pub one_group : {v : ℕ} → v < 128 → groups_of v ≡ v ∷ []
unfolding groups_of
one_group {v} h = rw (lt-ltb v 128 h)

pub two-groups : {v : ℕ} → 128 ≤ v → groups_of v ≡ (128 + v % 128) ∷ v / 128 ∷ []
unfolding groups_of
two-groups {v} h = rw (le-ltb v 128 h)

pub few_groups : (v : ℕ) → length (groups_of v) ≤ 2
unfolding groups_of
few_groups v = by_cases (λ (g : List ℕ). length g ≤ 2) (ltb v 128) (λ e. omega arith) (λ e. omega arith)

pub some_group : (v : ℕ) → 1 ≤ length (groups_of v)
unfolding groups_of
some_group v = by_cases (λ (g : List ℕ). 1 ≤ length g) (ltb v 128) (λ e. omega arith) (λ e. omega arith)

-- ---- the nodes that are left

module _ (p : ℕ → Bool) (size k : ℕ) where
  -- of a node that is left, and those behind it
  left_one : k < size → size - k ≡ suc (size - (k + 1))
  left_one h = omega arith

  pub left_here : k < size → p k ≡ true → having (size - k) k p ≡ k ∷ having (size - (k + 1)) (k + 1) p
  unfolding having
  left_here h e = rw (left_one h, e)

  pub left_not : k < size → p k ≡ false → having (size - k) k p ≡ having (size - (k + 1)) (k + 1) p
  unfolding having
  left_not h e = rw (left_one h, e)

  pub left_none : size ≤ k → having (size - k) k p ≡ []
  unfolding having
  left_none h = let e : size - k ≡ 0 = omega arith in rw e

left_all : (p : ℕ → Bool) (size : ℕ) → having (size - 0) 0 p ≡ having size 0 p
left_all p size = let e : size - 0 ≡ size = omega arith in ap (λ (n : ℕ). having n 0 p) e

-- ---- a pass over them: the bytes w were put into a sink, which is what it was and what it is now

pub record Putting {X : Type 0} (puts : X → List ℕ → X → Type 0) (p : ℕ → Bool) (size : ℕ) (old now : X) (count base k : ℕ) : Type 0 where
  pub w : List ℕ
  pub put : puts old w now
  pub upto : k ≤ size
  pub low : base ≤ k
  pub few : count ≤ k
  pub counted : count + length (having (size - k) k p) ≡ length (having size 0 p)
  pub whole : w ++ address_bytes base (having (size - k) k p) ≡ address_bytes 0 (having size 0 p)

pub put_start : {X : Type 0} {puts : X → List ℕ → X → Type 0} (p : ℕ → Bool) (size : ℕ) (old : X) → puts old [] old → Putting puts p size old old 0 0 0
put_start p size old h =
    record {
      w = [];
      put = h;
      upto = omega arith;
      low = omega arith;
      few = omega arith;
      counted = omega (arith, ap length (left_all p size));
      whole = ap (address_bytes 0) (left_all p size);
    }

module _
    {X : Type 0} {puts : X → List ℕ → X → Type 0} {p : ℕ → Bool} {size : ℕ} {old now : X} {count base k : ℕ} (P : Putting puts p size old now count base k)
  where
    module _ (h : k < size) (e : p k ≡ true) where
      whole_then : (P.w ++ groups_of (k - base)) ++ address_bytes (k + 1) (having (size - (k + 1)) (k + 1) p) ≡ address_bytes 0 (having size 0 p)
      unfolding address_bytes
      whole_then =
          append_assoc P.w (groups_of (k - base)) (address_bytes (k + 1) (having (size - (k + 1)) (k + 1) p))
          ∙ ap (λ (l : List ℕ). P.w ++ address_bytes base l) (sym (left_here p size k h e))
          ∙ P.whole

      -- a number that is put now has room, where all addresses have
      pub put_room : {before after : ℕ} → length (address_bytes 0 (having size 0 p)) ≤ before → before ≡ length P.w + after
          → length (groups_of (k - base)) ≤ after
      put_room room left =
          let g : List ℕ = groups_of (k - base) in
          omega (
            arith,
            room,
            left,
            ap length whole_then,
            length-append P.w g,
            length-append (P.w ++ g) (address_bytes (k + 1) (having (size - (k + 1)) (k + 1) p)),
          )

      -- and is one more of the addresses
      pub put_here : {after : X} → puts old (P.w ++ groups_of (k - base)) after → Putting puts p size old after (count + 1) (k + 1) (k + 1)
      put_here q =
          record {
            w = P.w ++ groups_of (k - base);
            put = q;
            upto = omega arith;
            low = omega arith;
            few = omega (arith, P.few);
            counted = omega (arith, P.counted, ap length (left_here p size k h e));
            whole = whole_then;
          }

    pub put_not : k < size → p k ≡ false → Putting puts p size old now count base (k + 1)
    put_not h e =
        record {
          w = P.w;
          put = P.put;
          upto = omega arith;
          low = omega (arith, P.low);
          few = omega (arith, P.few);
          counted = omega (arith, P.counted, ap length (left_not p size k h e));
          whole = ap (λ (l : List ℕ). P.w ++ address_bytes base l) (sym (left_not p size k h e)) ∙ P.whole;
        }

    module _ (h : size ≤ k) where
      pub put_count : count ≡ length (having size 0 p)
      put_count = omega (arith, P.counted, ap length (left_none p size k h))

      pub put_end : puts old (address_bytes 0 (having size 0 p)) now
      unfolding address_bytes
      put_end =
          subst (λ (v : List ℕ). puts old v now)
          (sym (append-nil P.w) ∙ ap (λ (l : List ℕ). P.w ++ address_bytes base l) (sym (left_none p size k h)) ∙ P.whole) P.put
