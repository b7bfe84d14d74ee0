-- The pass that judges: it knows of the text what it has seen so far and what is left. So at the end it knows all of it.
use mathlib.Core.Bool.{Bool, true, false, cond, ◌||◌}
use mathlib.Core.List.{List}
use mathlib.Core.Path.{◌≡◌, refl, ap, ◌∙◌}
use Prim.Native.Nat.{ℕ, ◌≤◌, ◌<◌}
use lib.Dec.{leb}
use lib.ListN.{length, drop}
use Rattle.std.specs.Prelude.{Result, Ok, Err, None}
use Rattle.cube.specs.declared.refusals.Refusal.{Refusal}
use Rattle.cube.specs.declared.refusals.Refusal.TheVariants.{Address, Text}
use Rattle.cube.specs.Refusal.{first}
use Rattle.cube.specs.Refused.{answered}
use Rattle.cube.proofs.Bools.{or_none}
use Rattle.list_reader.specs.Front.{a_run, entry_at}
use Rattle.list_reader.specs.Reading.{text_tests}
use Rattle.ranges.specs.Grammar.{is_list, reaches}
use Rattle.list_reader.proofs.Left.{bad_at, beyond_on, none_beyond, none_rules, nothing_left, rules_on, taken_at}

pub record Judging (text : List ℕ) (size : ℕ) (far : Bool) (rest : List ℕ) : Type 0 where
  pub rules : is_list text ≡ is_list rest
  pub beyond : reaches size text ≡ (far || reaches size rest)

pub judge_start : (text : List ℕ) (size : ℕ) → Judging text size false text
judge_start text size = record { rules = refl; beyond = refl }

-- the refusals of a text, from what is known of it
abbrev Answers : (x : Result Unit Refusal) (size : ℕ) (text : List ℕ) → Type 0
Answers x size text = x ≡ answered (first (text_tests size text)) tt

tests_bad : (size : ℕ) (text : List ℕ) → is_list text ≡ false → Answers (Err Text) size text
unfolding first
tests_bad size text e = rw e

tests_good : (size : ℕ) (text : List ℕ) → is_list text ≡ true → first (text_tests size text) ≡ cond (reaches size text) 12 0
unfolding first
tests_good size text e = rw e

or_assoc : (a b c : Bool) → (a || (b || c)) ≡ ((a || b) || c)
or_assoc true b c = refl
or_assoc false b c = refl

module _ {text : List ℕ} {size : ℕ} {far : Bool} {rest : List ℕ} (P : Judging text size far rest) where
  module _ (h : 0 < length rest) where
    pub judge_bad : None ≡ entry_at rest → Answers (Err Text) size text
    judge_bad e = tests_bad size text (P.rules ∙ bad_at rest h e)

    pub judge_on : size ≤ 4096 → {lo hi next : ℕ} → a_run lo hi next ≡ entry_at rest → Judging text size (far || leb size hi) (drop next rest)
    judge_on small {lo} {hi} {next} e =
        let t = taken_at rest h e in
        record {
          rules = P.rules ∙ rules_on t;
          beyond = P.beyond ∙ ap (λ (b : Bool). far || b) (beyond_on t size small) ∙ or_assoc far (leb size hi) (reaches size (drop next rest));
        }

  module _ (h : length rest ≡ 0) where
    judge_good : is_list text ≡ true
    judge_good = P.rules ∙ ap is_list (nothing_left rest h) ∙ none_rules

    judge_far : reaches size text ≡ far
    judge_far = P.beyond ∙ or_none far (ap (reaches size) (nothing_left rest h) ∙ none_beyond size)

    pub judge_beyond : far ≡ true → Answers (Err Address) size text
    judge_beyond e = rw (tests_good size text judge_good, judge_far ∙ e)

    pub judge_within : far ≡ false → Answers (Ok tt) size text
    judge_within e = rw (tests_good size text judge_good, judge_far ∙ e)
