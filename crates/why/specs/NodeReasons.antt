-- Why a node has its label (RULES, Why a node has its label, Refusal numbers), for any cabinet K, job j and node x: m is the length of the lent label buffer,
-- `before` the buffer itself.
use Rattle.std.specs.Prelude.{cond, not, List, [], ◌∷◌, ◌++◌, ℕ, ◌^◌, eqb, leb, length, Result, Ok, Err}
use Rattle.cube.specs.Count.{count}
use Rattle.cube.specs.Cube.{flip}
use Rattle.cube.specs.declared.refusals.Refusal.{Refusal}
use Rattle.cube.specs.Refusal.{Test, first, ◌⇒◌}
use Rattle.cube.specs.Refused.{answered}
use Rattle.rule.specs.Cabinet.{Cabinet, out, out_byte}
use Rattle.rule.specs.Rule.{label, safe}
use Rattle.causes.specs.Cause.{cause_of, round_of}
use Rattle.causes.specs.declared.Cause.{Cause}
use Rattle.causes.specs.declared.Cause.TheVariants as cause
use Rattle.labels.specs.Labelling.{label_tests, labels_after}
use Rattle.why.specs.declared.NodeReason.{NodeReason}
use Rattle.why.specs.declared.NodeReason.TheVariants.{Safe, Unsafe, Out}

-- the refusals: those of labelling, then 5 for the node
abbrev pub node_tests : (K : Cabinet) (j m x : ℕ) → List Test
node_tests K j m x = label_tests K j m ++ (leb (2 ^ K.n) x ⇒ 5 ∷ [])

unfoldable pub node_refusal : (K : Cabinet) (j m x : ℕ) → ℕ
node_refusal K j m x = first (node_tests K j m x)

-- of a node that does not work, its label alone; of a safe one, how many neighbours do not work and how many are not safe; of an unsafe one, its label, the
-- round that marked it, and its cause
unfoldable pub reason_of : (K : Cabinet) (x : ℕ) → NodeReason
reason_of K x =
    cond (out K x)
    (Out (out_byte K x))
    (cond (safe K.n K.rule (out K) x)
    (Safe (count K.n (λ i. out K (flip i x))) (count K.n (λ i. not (safe K.n K.rule (out K) (flip i x)))))
    (Unsafe (label K.n K.rule (out K) (out_byte K) x) (round_of K.n K.rule (out K) x) (cause_of K.n K.rule (out K) x)))

-- the answer
unfoldable pub node_reason : (K : Cabinet) (j m x : ℕ) → Result NodeReason Refusal
node_reason K j m x = answered (node_refusal K j m x) (reason_of K x)

-- the label buffer afterwards: what labelling leaves there, or every byte kept
unfoldable pub labels_left : (K : Cabinet) (j x : ℕ) (before : List ℕ) → List ℕ
labels_left K j x before = cond (eqb (node_refusal K j (length before) x) 0) (labels_after K j before) before

-- the numbers for the cases (RULES, To C), beside the refusal number: the kind is the label, the value the round; a field that a case has not is 0
abbrev pub kind_of : Result NodeReason Refusal → ℕ
kind_of (Ok (Safe a b)) = 0
kind_of (Ok (Unsafe l r c)) = l
kind_of (Ok (Out l)) = l
kind_of (Err r) = 0

abbrev pub value_of : Result NodeReason Refusal → ℕ
value_of (Ok (Safe a b)) = 0
value_of (Ok (Unsafe l r c)) = r
value_of (Ok (Out l)) = 0
value_of (Err r) = 0

-- of a cause: its number, and the dimensions that it names
abbrev pub cause_number : Cause → ℕ
cause_number (cause.Faulty a b) = 1
cause_number (cause.Two a b) = 2
cause_number (cause.Three a b c) = 2

abbrev pub first_named : Cause → ℕ
first_named (cause.Faulty a b) = a
first_named (cause.Two a b) = a
first_named (cause.Three a b c) = a

abbrev pub second_named : Cause → ℕ
second_named (cause.Faulty a b) = b
second_named (cause.Two a b) = b
second_named (cause.Three a b c) = b

abbrev pub third_named : Cause → ℕ
third_named (cause.Faulty a b) = 0
third_named (cause.Two a b) = 0
third_named (cause.Three a b c) = c

-- and of a reason: first counts a safe node's neighbours that do not work, second those that are not safe
abbrev pub cause_in : Result NodeReason Refusal → ℕ
cause_in (Ok (Safe a b)) = 0
cause_in (Ok (Unsafe l r c)) = cause_number c
cause_in (Ok (Out l)) = 0
cause_in (Err r) = 0

abbrev pub first_of : Result NodeReason Refusal → ℕ
first_of (Ok (Safe a b)) = a
first_of (Ok (Unsafe l r c)) = first_named c
first_of (Ok (Out l)) = 0
first_of (Err r) = 0

abbrev pub second_of : Result NodeReason Refusal → ℕ
second_of (Ok (Safe a b)) = b
second_of (Ok (Unsafe l r c)) = second_named c
second_of (Ok (Out l)) = 0
second_of (Err r) = 0

abbrev pub third_of : Result NodeReason Refusal → ℕ
third_of (Ok (Safe a b)) = 0
third_of (Ok (Unsafe l r c)) = third_named c
third_of (Ok (Out l)) = 0
third_of (Err r) = 0
