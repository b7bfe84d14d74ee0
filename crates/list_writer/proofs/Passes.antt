-- The pass over the runs: at node k the runs that are left are those of `having (size - k) k`. With w the text of the runs before them, the rest of the text
-- is their entries: joined by commas where there was none before, each behind a comma where there was.
use mathlib.Core.Bool.{Bool, true, false}
use mathlib.Core.List.{List, [], ◌∷◌, ◌++◌, append_assoc, append-nil}
use mathlib.Core.Path.{◌≡◌, refl, sym, ap, subst, ◌∙◌}
use Prim.Native.Nat.{ℕ, ◌+◌, ◌-◌, ◌≤◌, ◌<◌}
use native.Mathlib.Omega.{arith}
use lib.ListN.{length, length-append}
use Rattle.ranges.specs.Grammar.{comma}
use Rattle.ranges.specs.Written.{behind, entry_text, entry_texts, grouped, joined, text_of}
use Rattle.spelling.specs.Spelled.{having}
use Rattle.writer.proofs.Passes.{left_none, left_not}
use Rattle.list_writer.specs.Lists.{gap, run_end}
use Rattle.list_writer.proofs.Runs.{first_run, run_some, run_upto}

-- ---- the entries that are left, the first of all among them or not

unfoldable pub rest : (first : Bool) → List (List ℕ) → List ℕ
rest true parts = joined parts
rest false parts = behind parts

pub gap_none : (first : Bool) → first ≡ true → gap first ≡ []
unfolding gap
gap_none first e = rw e

pub gap_some : (first : Bool) → first ≡ false → gap first ≡ comma ∷ []
unfolding gap
gap_some first e = rw e

rest_none : (first : Bool) → rest first [] ≡ []
unfolding rest joined behind
rest_none true = refl
rest_none false = refl

-- the first of them comes behind the gap there, and the others behind commas
rest_more : (first : Bool) (part : List ℕ) (more : List (List ℕ)) → rest first (part ∷ more) ≡ gap first ++ part ++ behind more
unfolding rest gap joined behind
rest_more true part more = refl
rest_more false part more = refl

rest_behind : (parts : List (List ℕ)) → rest false parts ≡ behind parts
unfolding rest
rest_behind parts = refl

-- ---- the text so far

module _ (p : ℕ → Bool) (size : ℕ) where
  -- a run is one of nodes of the cube
  pub run_nodes : {k e : ℕ} → k < size → e ≡ run_end (size - k) k p → size ≤ 4096 → (k < 4096) × (e - 1 < 4096)
  run_nodes {k} {e} h q few = (omega arith, omega (arith, run_upto p size k e h q))

  pub run_begins : {k e : ℕ} → k < size → e ≡ run_end (size - k) k p → p k ≡ true → 1 ≤ e
  run_begins {k} {e} h q t = omega (arith, run_some p size k e h q t)

  abbrev text : List ℕ
  text = text_of (having size 0 p)

  abbrev left : ℕ → List (List ℕ)
  left k = entry_texts (grouped (having (size - k) k p))

  -- behind the text w, at node k
  pub record Text (w : List ℕ) (first : Bool) (k : ℕ) : Type 0 where
    pub upto : k ≤ size
    pub whole : w ++ rest first (left k) ≡ text

  text_start : Text [] true 0
  unfolding rest
  text_start =
      let e : size - 0 ≡ size = omega arith in
      record { upto = omega arith; whole = ap (λ (n : ℕ). text_of (having n 0 p)) e }

  module _ {w : List ℕ} {first : Bool} {k : ℕ} (T : Text w first k) where
    text_end : size ≤ k → w ≡ text
    unfolding grouped entry_texts
    text_end h =
        sym (append-nil w)
        ∙ ap (λ (l : List ℕ). w ++ l) (sym (rest_none first))
        ∙ ap (λ (l : List ℕ). w ++ rest first (entry_texts (grouped l))) (sym (left_none p size k h))
        ∙ T.whole

    module _ (h : k < size) where
      -- node k is not faulty
      text_not : p k ≡ false → Text w first (k + 1)
      text_not t =
          record {
            upto = omega arith;
            whole = ap (λ (l : List ℕ). w ++ rest first (entry_texts (grouped l))) (sym (left_not p size k h t)) ∙ T.whole;
          }

      -- it is, and the entry of its run comes next
      module _ (e : ℕ) (q : e ≡ run_end (size - k) k p) (t : p k ≡ true) where
        whole_then : (w ++ gap first ++ entry_text k (e - 1)) ++ behind (left e) ≡ text
        unfolding entry_texts
        whole_then =
            let regroup : (w ++ gap first ++ entry_text k (e - 1)) ++ behind (left e) ≡ w ++ (gap first ++ entry_text k (e - 1) ++ behind (left e)) =
            simp append_assoc in
            regroup
            ∙ ap (λ (l : List ℕ). w ++ l) (sym (rest_more first (entry_text k (e - 1)) (left e)))
            ∙ ap (λ (rs : List (ℕ × ℕ)). w ++ rest first (entry_texts rs)) (sym (first_run p size k e h q t))
            ∙ T.whole

        text_run : Text (w ++ gap first ++ entry_text k (e - 1)) false e
        text_run =
            record {
              upto = run_upto p size k e h q;
              whole = ap (λ (l : List ℕ). (w ++ gap first ++ entry_text k (e - 1)) ++ l) (rest_behind (left e)) ∙ whole_then;
            }

        -- what comes next is part of the text
        text_long : length w + length (gap first) + length (entry_text k (e - 1)) ≤ length text
        text_long =
            omega (arith, simp length-append at (ap length whole_then))

  -- ---- the pass: the text so far was put into a sink, which is what it was and what it is now

  pub record Putting {X : Type 0} (puts : X → List ℕ → X → Type 0) (old now : X) (first : Bool) (k : ℕ) : Type 0 where
    pub w : List ℕ
    pub far : Text w first k
    pub put : puts old w now

  pub put_start : {X : Type 0} {puts : X → List ℕ → X → Type 0} (old : X) → puts old [] old → Putting puts old old true 0
  put_start old h = record { w = []; far = text_start; put = h }

  module _ {X : Type 0} {puts : X → List ℕ → X → Type 0} {old now : X} {first : Bool} {k : ℕ} (P : Putting puts old now first k) where
    pub put_end : size ≤ k → puts old text now
    put_end h = subst (λ (w : List ℕ). puts old w now) (text_end P.far h) P.put

    module _ (h : k < size) where
      pub put_not : p k ≡ false → Putting puts old now first (k + 1)
      put_not t = record { w = P.w; far = text_not P.far h t; put = P.put }

      module _ (e : ℕ) (q : e ≡ run_end (size - k) k p) (t : p k ≡ true) where
        -- where the text has room, the gap has, and the entry behind it
        pub run_room : {before after : ℕ} → length text ≤ before → before ≡ length P.w + after
            → length (gap first) + length (entry_text k (e - 1)) ≤ after
        run_room room left = omega (arith, room, left, text_long P.far h e q t)

        pub put_run : {after : X} → puts old (P.w ++ gap first ++ entry_text k (e - 1)) after → Putting puts old after false e
        put_run r = record { w = P.w ++ gap first ++ entry_text k (e - 1); far = text_run P.far h e q t; put = r }
