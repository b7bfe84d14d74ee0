-- The walks of one table: a walk raises the counter of its one kind, so after the destinations below d, or the sources below s, each counter has what the
-- definition counts so far.
use mathlib.Core.Bool.{Bool, true, false, cond, not, ◌&&◌}
use mathlib.Core.List.{List}
use mathlib.Core.Path.{◌≡◌, refl, sym, ap, ap₂, subst, ◌∙◌}
use Prim.Native.Nat.{ℕ, ◌+◌, ◌*◌, ◌/◌, ◌^◌, ◌≤◌, ◌<◌}
use native.Mathlib.Nat.{add-mul, mul-le-mul_right, one-mul}
use native.Mathlib.Omega.{arith}
use lib.Dec.{eqb}
use lib.ListN.{get_or, length, set}
use Rattle.cube.specs.Count.{count}
use Rattle.cube.specs.Cube.{dist}
use Rattle.cube.specs.Tables.{label_in, node_bit}
use Rattle.cube.proofs.Bools.{by_cases}
use Rattle.cube.proofs.Count.{count_bound, count-in, count_out, count_zero}
use Rattle.cube.proofs.Tables.{node_room}
use Rattle.rule.specs.Cabinet.{Cabinet, out, plain}
use Rattle.rule.proofs.Cabinet.{plain_out}
use Rattle.labels.proofs.Refusal.{fitting}
use Rattle.walk.specs.Walk.{row_bytes, walked}
use Rattle.walk.specs.declared.Walked.{Walked}
use Rattle.theorems.specs.Words.{Works, walk_of}
use Rattle.figures.specs.Figures.{goes, is_kind}
use Rattle.figures.specs.Laws.{OneKind}
use Rattle.figures.proofs.Four.{of_four}
use Rattle.figures.proofs.Sum.{sum_bound, sum_next, sum_zero}
use Rattle.counters.specs.Helpers.{Room, Tallying, kind_of, plus, walk_in, walks_from, walks_to}
use Rattle.counters.proofs.Adding.{plus_at, plus_length, plus_none, plus_one, plus_room, plus_same, plus_then}
use Rattle.counters.proofs.Kinded.{kind_below, kind_only}

count_next : (d : ℕ) (p : ℕ → Bool) (b : Bool) → p d ≡ b → count (d + 1) p ≡ count d p + cond b 1 0
count_next d p true e = count-in d p e
count_next d p false e = omega (arith, count_out d p e)

module _ (n : ℕ) (faults labels : List ℕ) (T : Tallying n faults labels) where
  abbrev K : Cabinet
  K = plain n 3 faults

  pub at_work : (x : ℕ) → x < 2 ^ n → node_bit faults x ≡ false → Works K x
  at_work x h e = (h, plain_out n 3 faults x ∙ e)

  pub in_table : (x : ℕ) → x < 2 ^ n → x / 8 < length faults
  in_table x h = node_room n x (length faults) (fitting K 0 _ T.accepted).faults h

  -- the walk with the lent labels is the table's
  same_walk : (s d : ℕ) → walk_in n s d labels ≡ walk_of K 0 s d
  same_walk s d =
      ap₂ (λ (m : ℕ) (l : List ℕ). walked n 0 s d m row_bytes (label_in l)) T.sized T.labelled

  pub has_kind : (s d : ℕ) → Works K s → Works K d → OneKind (walk_in n s d labels) (dist s d)
  has_kind s d hs hd = rw (same_walk s d) (of_four K 0 T.accepted s d hs hd)

  -- ---- from one source

  module _ (s : ℕ) (hs : Works K s) (l : List ℕ) (R : Room 4 (2 ^ n) l) where
    pub from_start : l ≡ plus 4 (walks_to K s 0) l
    from_start = plus_none 4 l R.sized ∙ plus_same 4 (λ _. 0) l (walks_to K s 0) (λ k _. sym (count_zero (λ e. not (out K e) && goes K k s e)))

    module _ (d : ℕ) (h : d < 2 ^ n) (now : List ℕ) (e : now ≡ plus 4 (walks_to K s d) l) where
      pub to_faulty : node_bit faults d ≡ true → now ≡ plus 4 (walks_to K s (d + 1)) l
      to_faulty b =
          let o = plain_out n 3 faults d ∙ b in
          e ∙ plus_same 4 (walks_to K s d) l (walks_to K s (d + 1)) (λ k _. sym (count_out d (λ e. not (out K e) && goes K k s e) (rw o refl)))

      -- the counter of the walk's kind has room, and is raised by one
      module _ (b : node_bit faults d ≡ false) (k : ℕ) (f : k ≡ kind_of (walk_in n s d labels) (dist s d)) where
        one : OneKind (walk_in n s d labels) (dist s d)
        one = has_kind s d hs (at_work d h b)

        pub kind_place : k < 4
        kind_place = omega (arith, f, kind_below _ _ one)

        pub kind_room : get_or now k 0 + 1 < 2 ^ 32
        kind_room =
            omega (
              arith,
              ap (λ (r : List ℕ). get_or r k 0) e,
              plus_at 4 (walks_to K s d) l k kind_place,
              count_bound d (λ e. not (out K e) && goes K k s e),
              R.below k,
            )

        pub to_working : set now k (get_or now k 0 + 1) ≡ plus 4 (walks_to K s (d + 1)) l
        to_working =
            plus_one 4 now (ap length e ∙ plus_length 4 (walks_to K s d) l) k 1 kind_place ∙ ap (plus 4 (λ i. cond (eqb i k) 1 0)) e
            ∙ plus_then 4 (walks_to K s d) l (λ i. cond (eqb i k) 1 0) ∙ plus_same 4 _ l (walks_to K s (d + 1)) next
          where
            next : (i : ℕ) → i < 4 → walks_to K s d i + cond (eqb i k) 1 0 ≡ walks_to K s (d + 1) i
            next i j =
                let o = plain_out n 3 faults d ∙ b in
                let t : goes K i s d ≡ eqb i k = ap (λ (w : Walked). is_kind i w (dist s d)) (sym (same_walk s d)) ∙ kind_only _ _ one i j ∙ ap (eqb i) (sym f) in
                sym (count_next d (λ e. not (out K e) && goes K i s e) (eqb i k) (rw o t))

  -- ---- from all of them

  module _ (l : List ℕ) (R : Room 4 (2 ^ n * 2 ^ n) l) where
    pub all_start : l ≡ plus 4 (walks_from K 0) l
    all_start = plus_none 4 l R.sized ∙ plus_same 4 (λ _. 0) l (walks_from K 0) (λ k _. sym (sum_zero (λ s. cond (out K s) 0 (walks_to K s (2 ^ n) k))))

    module _ (s : ℕ) (h : s < 2 ^ n) (now : List ℕ) (e : now ≡ plus 4 (walks_from K s) l) where
      pub from_faulty : node_bit faults s ≡ true → now ≡ plus 4 (walks_from K (s + 1)) l
      from_faulty b =
          let o = plain_out n 3 faults s ∙ b in
          e ∙ plus_same 4 (walks_from K s) l (walks_from K (s + 1)) (λ k _. sym (sum_next s (λ x. cond (out K x) 0 (walks_to K x (2 ^ n) k)) ∙ rw o (omega arith)))

      pub from_working : (after : List ℕ) → node_bit faults s ≡ false → after ≡ plus 4 (walks_to K s (2 ^ n)) now → after ≡ plus 4 (walks_from K (s + 1)) l
      from_working after b f =
          let o = plain_out n 3 faults s ∙ b in
          f ∙ ap (plus 4 (walks_to K s (2 ^ n))) e ∙ plus_then 4 (walks_from K s) l (walks_to K s (2 ^ n))
          ∙ plus_same 4 _ l (walks_from K (s + 1)) (λ k _. sym (sum_next s (λ x. cond (out K x) 0 (walks_to K x (2 ^ n) k)) ∙ rw o refl))

      -- a source has at most as many walks as there are nodes
      source_few : (x k : ℕ) → cond (out K x) 0 (walks_to K x (2 ^ n) k) ≤ 2 ^ n
      source_few x k =
          by_cases (λ (m : ℕ). m ≤ 2 ^ n) (out K x) (λ _. omega arith) (λ _. count_bound (2 ^ n) (λ d. not (out K d) && goes K k x d))

      pub room_left : Room 4 (2 ^ n) now
      room_left =
          let rows : (s + 1) * 2 ^ n ≤ 2 ^ n * 2 ^ n = mul-le-mul_right (2 ^ n) (omega arith) in
          let one : (s + 1) * 2 ^ n ≡ s * 2 ^ n + 2 ^ n = add-mul s 1 (2 ^ n) ∙ ap (λ (x : ℕ). s * 2 ^ n + x) (one-mul (2 ^ n)) in
          subst (Room 4 (2 ^ n)) (sym e)
          (plus_room 4 (walks_from K s) l (2 ^ n * 2 ^ n) (2 ^ n) R
          (λ k _. omega (arith, sum_bound s (2 ^ n) (λ x. cond (out K x) 0 (walks_to K x (2 ^ n) k)) (λ x _. source_few x k), rows, one))
          (omega (arith, rows, one)))
