-- The numbers that are proved of the definitions. RULES (Numbers on both sides) says what each name stands for: k4 and q3; k4, c3 and c4 by the older rule; for
-- draining nodes k4-drains, k4-both and k4-nine; for two jobs k4-closes and k4-closes-both; for the ceilings of the exchanges l2 and d2; for how many nodes may be
-- out of work m3, q3-each and p2; and the labels r3, by which a frame goes round.
use Rattle.std.specs.Prelude.{Bool, true, false, cond, List, [], ◌∷◌, ◌++◌, ◌≡◌, ℕ, zero, suc, ◌^◌, ◌<◌, eqb, replicate, Ok, Err}
use Rattle.cube.specs.Tables.{label_in, node_bit}
use Rattle.rule.specs.Cabinet.{Cabinet, cabinet, labels_of, out}
use Rattle.rule.specs.Exchanges.{late}
use Rattle.rule.specs.Rule.{marked, safe, working}
use Rattle.enough.specs.Enough.{FewOut, out_of_work}
use Rattle.labels.specs.Labelling.{label_refusal, labelled, labels_after}
use Rattle.hop.specs.Hop.{hopped}
use Rattle.hop.specs.declared.Decision.TheVariants.{Deliver, Hop}
use Rattle.walk.specs.Walk.{refused, row_bytes, walked}
use Rattle.walk.specs.declared.Ending.{Ending}
use Rattle.walk.specs.declared.Ending.TheVariants.{Delivered, Halted}
use Rattle.walk.specs.declared.Walked.{Walked}
use Rattle.causes.specs.declared.Cause.TheVariants.{Faulty, Two, Three}
use Rattle.why.specs.HopReasons.{hop_reason}
use Rattle.why.specs.NodeReasons.{reason_of}
use Rattle.why.specs.declared.HopReason.TheVariants as why
use Rattle.why.specs.declared.NodeReason.TheVariants.{Safe, Unsafe, Out}
use Rattle.theorems.specs.HowLong.{is_out, is_unsafe}
use Rattle.theorems.specs.Words.{label_at, walk_of}
use Rattle.cube.specs.declared.refusals.Refusal.TheVariants.{Source}

abbrev pub k4_by : (rule : ℕ) → Cabinet
k4_by rule = cabinet 4 rule (20 ∷ 129 ∷ []) (0 ∷ 0 ∷ []) (0 ∷ 0 ∷ [])

abbrev pub k4 : Cabinet
k4 = k4_by 3

abbrev pub q3 : Cabinet
q3 = cabinet 3 3 (22 ∷ []) (0 ∷ []) (0 ∷ [])

abbrev pub c3_by : (rule : ℕ) → Cabinet
c3_by rule = cabinet 3 rule (25 ∷ []) (0 ∷ []) (0 ∷ [])

abbrev pub c4_by : (rule : ℕ) → Cabinet
c4_by rule = cabinet 4 rule (25 ∷ 0 ∷ []) (0 ∷ 0 ∷ []) (0 ∷ 0 ∷ [])

abbrev pub k4_drains : Cabinet
k4_drains = cabinet 4 3 (20 ∷ 1 ∷ []) (0 ∷ 128 ∷ []) (0 ∷ 0 ∷ [])

abbrev pub k4_both : Cabinet
k4_both = cabinet 4 3 (20 ∷ 129 ∷ []) (0 ∷ 128 ∷ []) (0 ∷ 0 ∷ [])

abbrev pub k4_nine : Cabinet
k4_nine = cabinet 4 3 (20 ∷ 129 ∷ []) (0 ∷ 2 ∷ []) (0 ∷ 0 ∷ [])

-- k4 with 15 draining, as a job has it that closes 9, and as one has it that closes 9 and 15
abbrev pub k4_closes : Cabinet
k4_closes = cabinet 4 3 (20 ∷ 1 ∷ []) (0 ∷ 128 ∷ []) (0 ∷ 2 ∷ [])

abbrev pub k4_closes_both : Cabinet
k4_closes_both = cabinet 4 3 (20 ∷ 1 ∷ []) (0 ∷ 128 ∷ []) (0 ∷ 130 ∷ [])

abbrev pub l2 : Cabinet
l2 = cabinet 2 3 (11 ∷ []) (0 ∷ []) (0 ∷ [])

abbrev pub d2 : Cabinet
d2 = cabinet 2 3 (6 ∷ []) (0 ∷ []) (0 ∷ [])

abbrev pub m3_by : (rule : ℕ) → Cabinet
m3_by rule = cabinet 3 rule (2 ∷ []) (4 ∷ []) (0 ∷ [])

abbrev pub q3_each : Cabinet
q3_each = cabinet 3 3 (2 ∷ []) (4 ∷ []) (16 ∷ [])

abbrev pub p2 : Cabinet
p2 = cabinet 2 2 (9 ∷ []) (0 ∷ []) (0 ∷ [])

abbrev pub r3 : List ℕ
r3 = 0 ∷ 0 ∷ 0 ∷ 3 ∷ 0 ∷ 3 ∷ 0 ∷ 0 ∷ []

-- the numbers below n that have p, rising
unfoldable pub those : ℕ → (ℕ → Bool) → List ℕ
those zero p = []
those (suc n) p = those n p ++ cond (p n) (n ∷ []) []

-- the answer that visited these nodes, with so many places left, and ended so
unfoldable pub visited : (nodes : List ℕ) (hops left : ℕ) → Ending → Walked
visited nodes hops left e = record { row = nodes ++ replicate left 0; hops = hops; ending = e }

pub record Worked : Type 0 where
  -- "node k in byte k/8 at bit k mod 8 (bit 0 lowest)"
  pub table_bytes : those 32 (node_bit (1 ∷ 2 ∷ 4 ∷ 8 ∷ [])) ≡ 0 ∷ 9 ∷ 18 ∷ 27 ∷ []
  pub table_bits : those 8 (node_bit (0x68 ∷ [])) ≡ 3 ∷ 5 ∷ 6 ∷ []
  pub k4_faulty : those 16 (out k4) ≡ 2 ∷ 4 ∷ 8 ∷ 15 ∷ []
  pub k4_round1 : those 16 (marked 4 3 (out k4) 1) ≡ 0 ∷ 6 ∷ 10 ∷ 12 ∷ []
  pub k4_round2 : those 16 (marked 4 3 (out k4) 2) ≡ 0 ∷ 6 ∷ 10 ∷ 12 ∷ 14 ∷ []
  pub k4_exchanges : labelled k4 0 32 ≡ Ok 3
  -- its label table, byte by byte
  pub k4_labels : labels_of k4 ≡ 1 ∷ 0 ∷ 3 ∷ 0 ∷ 3 ∷ 0 ∷ 1 ∷ 0 ∷ 3 ∷ 0 ∷ 1 ∷ 0 ∷ 1 ∷ 0 ∷ 2 ∷ 3 ∷ []
  pub k4_strong : those 16 (λ x. eqb (label_at k4 x) 2) ≡ 14 ∷ []
  pub k4_13_0 : walk_of k4 0 13 0 ≡ visited (13 ∷ 9 ∷ 1 ∷ 0 ∷ []) 3 13 Delivered
  pub k4_6_0 : walk_of k4 0 6 0 ≡ visited (6 ∷ 7 ∷ 5 ∷ 1 ∷ 0 ∷ []) 4 12 Delivered
  pub k4_14_0 : walk_of k4 0 14 0 ≡ visited (14 ∷ 12 ∷ 13 ∷ 9 ∷ 1 ∷ 0 ∷ []) 5 11 Delivered
  pub k4_0_14 : walk_of k4 0 0 14 ≡ visited (0 ∷ 1 ∷ 3 ∷ 7 ∷ 6 ∷ 14 ∷ []) 5 11 Delivered
  pub k4_10_10 : walk_of k4 0 10 10 ≡ visited (10 ∷ []) 0 16 Delivered
  pub q3_faulty : those 8 (out q3) ≡ 1 ∷ 2 ∷ 4 ∷ []
  pub q3_safe : those 8 (safe 3 3 (out q3)) ≡ []
  pub q3_exchanges : labelled q3 0 16 ≡ Ok 3
  pub q3_0_7 : walk_of q3 0 0 7 ≡ visited (0 ∷ []) 0 16 Halted
  pub q3_7_0 : walk_of q3 0 7 0 ≡ visited (7 ∷ 6 ∷ []) 1 15 Halted
  pub q3_7_3 : walk_of q3 0 7 3 ≡ visited (7 ∷ 3 ∷ []) 1 15 Delivered
  -- one exchange, the quiet one, where no node is faulty and where every node is
  pub no_faults :
      (K : Cabinet) (j m : ℕ) → label_refusal K j m ≡ 0 → ((x : ℕ) → x < 2 ^ K.n → out K x ≡ false) → labelled K j m ≡ Ok 1
  pub all_faulty :
      (K : Cabinet) (j m : ℕ) → label_refusal K j m ≡ 0 → ((x : ℕ) → x < 2 ^ K.n → out K x ≡ true) → labelled K j m ≡ Ok 1
  pub one_safe : safe 1 3 (out (cabinet 1 3 (1 ∷ []) (0 ∷ []) (0 ∷ []))) 1 ≡ true
  -- ---- the older rule

  -- k4 by rule 2: no node is safe, and a walk that rule 3 delivers halts
  pub k4_older_exchanges : labelled (k4_by 2) 0 32 ≡ Ok 5
  pub k4_older_labels : labels_of (k4_by 2) ≡ 2 ∷ 2 ∷ 3 ∷ 2 ∷ 3 ∷ 2 ∷ 2 ∷ 2 ∷ 3 ∷ 2 ∷ 2 ∷ 2 ∷ 2 ∷ 2 ∷ 2 ∷ 3 ∷ []
  pub k4_older_13_0 : walk_of (k4_by 2) 0 13 0 ≡ visited (13 ∷ 12 ∷ []) 1 15 Halted
  -- c3: by rule 2 no node is safe, by rule 3 three are
  pub c3_faulty : those 8 (out (c3_by 3)) ≡ 0 ∷ 3 ∷ 4 ∷ []
  pub c3_older_exchanges : labelled (c3_by 2) 0 16 ≡ Ok 4
  pub c3_older_labels : labels_of (c3_by 2) ≡ 3 ∷ 2 ∷ 2 ∷ 3 ∷ 3 ∷ 2 ∷ 2 ∷ 2 ∷ []
  pub c3_labels : labels_of (c3_by 3) ≡ 3 ∷ 1 ∷ 1 ∷ 3 ∷ 3 ∷ 0 ∷ 0 ∷ 0 ∷ []
  -- c4: both leave safe nodes, and rule 3 leaves more
  pub c4_older_labels : labels_of (c4_by 2) ≡ (3 ∷ 1 ∷ 1 ∷ 3 ∷ 3 ∷ 1 ∷ 1 ∷ 1 ∷ []) ++ replicate 8 0
  pub c4_labels : labels_of (c4_by 3) ≡ (3 ∷ 1 ∷ 1 ∷ 3 ∷ 3 ∷ 0 ∷ 0 ∷ 0 ∷ []) ++ replicate 8 0
  -- ---- draining nodes

  -- k4 with 15 draining: every other label is k4's, and a frame that k4 loses is delivered; it forwards nothing, and takes what is addressed to it
  pub k4_drains_exchanges : labelled k4_drains 0 32 ≡ Ok 3
  pub k4_drains_labels : labels_of k4_drains ≡ 1 ∷ 0 ∷ 3 ∷ 0 ∷ 3 ∷ 0 ∷ 1 ∷ 0 ∷ 3 ∷ 0 ∷ 1 ∷ 0 ∷ 1 ∷ 0 ∷ 2 ∷ 4 ∷ []
  pub k4_0_15 : walk_of k4 0 0 15 ≡ refused 7
  pub k4_drains_0_15 : walk_of k4_drains 0 0 15 ≡ visited (0 ∷ 1 ∷ 3 ∷ 7 ∷ 15 ∷ []) 4 12 Delivered
  pub k4_drains_15_15 : walk_of k4_drains 0 15 15 ≡ refused 6
  pub k4_drains_15_14 : hopped 4 0 15 14 32 (label_at k4_drains) ≡ Err Source
  pub k4_drains_at_15 : hopped 4 0 15 15 32 (label_at k4_drains) ≡ Ok Deliver
  -- "a node in both is faulty"
  pub k4_both_labels : labels_of k4_both ≡ labels_of k4
  -- k4 with 9 draining besides: 13 to 0, which went through 9, is passed around it, and 13 to 9 arrives
  pub k4_nine_labels : labels_of k4_nine ≡ 1 ∷ 0 ∷ 3 ∷ 0 ∷ 3 ∷ 0 ∷ 1 ∷ 0 ∷ 3 ∷ 4 ∷ 2 ∷ 1 ∷ 2 ∷ 1 ∷ 2 ∷ 3 ∷ []
  pub k4_nine_13_0 : walk_of k4_nine 0 13 0 ≡ visited (13 ∷ 5 ∷ 1 ∷ 0 ∷ []) 3 13 Delivered
  pub k4_nine_13_9 : walk_of k4_nine 0 13 9 ≡ visited (13 ∷ 9 ∷ []) 1 15 Delivered
  -- ---- two jobs

  -- job 0 closes nothing and job 1 closes 9: each has its labels in its own half, whichever is labelled last
  pub k4_jobs_labels :
      labels_after k4_closes 1 (labels_after k4_drains 0 (replicate 32 7))
      ≡ (1 ∷ 0 ∷ 3 ∷ 0 ∷ 3 ∷ 0 ∷ 1 ∷ 0 ∷ 3 ∷ 0 ∷ 1 ∷ 0 ∷ 1 ∷ 0 ∷ 2 ∷ 4 ∷ []) ++ (1 ∷ 0 ∷ 3 ∷ 0 ∷ 3 ∷ 0 ∷ 1 ∷ 0 ∷ 3 ∷ 3 ∷ 2 ∷ 1 ∷ 2 ∷ 1 ∷ 2 ∷ 4 ∷ [])
  pub k4_jobs_back : labels_after k4_drains 0 (labels_after k4_closes 1 (replicate 32 7)) ≡ labels_after k4_closes 1 (labels_after k4_drains 0 (replicate 32 7))
  -- closed over draining: 15 is faulty to a job that closes it, and nothing else changes
  pub k4_shut_labels : labels_of k4_closes_both ≡ 1 ∷ 0 ∷ 3 ∷ 0 ∷ 3 ∷ 0 ∷ 1 ∷ 0 ∷ 3 ∷ 3 ∷ 2 ∷ 1 ∷ 2 ∷ 1 ∷ 2 ∷ 3 ∷ []
  -- 13 to 0 goes through 9 for job 0 and around it for job 1, on the same cabinet
  pub k4_job_0 : walk_of k4_drains 0 13 0 ≡ visited (13 ∷ 9 ∷ 1 ∷ 0 ∷ []) 3 13 Delivered
  pub k4_job_1 : walk_of k4_closes 1 13 0 ≡ visited (13 ∷ 5 ∷ 1 ∷ 0 ∷ []) 3 13 Delivered
  pub k4_job_1_15 : walk_of k4_closes 1 0 15 ≡ visited (0 ∷ 1 ∷ 3 ∷ 7 ∷ 15 ∷ []) 4 12 Delivered
  pub k4_shut_15 : walk_of k4_closes_both 1 0 15 ≡ refused 7
  -- ---- ceilings that are reached, so that what they add cannot be less

  -- working nodes and one more: by l2, and by a cube without a working node (`all_faulty`)
  pub l2_exchanges : labelled l2 0 8 ≡ Ok 2
  pub l2_working : working 2 (out l2) ≡ 1
  -- late nodes and two more: by k4, whose one late node is 14, and by d2, where the first exchange marks both unsafe nodes
  pub k4_late : late 4 (λ x. is_unsafe (label_at k4 x)) (λ x. is_out (label_at k4 x)) ≡ 1
  pub d2_exchanges : labelled d2 0 8 ≡ Ok 2
  pub d2_labels : labels_of d2 ≡ 2 ∷ 3 ∷ 3 ∷ 2 ∷ []
  pub d2_late : late 2 (λ x. is_unsafe (label_at d2 x)) (λ x. is_out (label_at d2 x)) ≡ 0
  -- ---- as many nodes out of work as leave a safe one for certain, and one more

  -- two of a 3-cube, by either rule
  pub m3_few : FewOut (m3_by 3)
  pub m3_older_few : FewOut (m3_by 2)
  pub m3_labels : labels_of (m3_by 3) ≡ 1 ∷ 3 ∷ 4 ∷ 1 ∷ 0 ∷ 0 ∷ 0 ∷ 0 ∷ []
  -- three of it, by rule 3, whichever table names them, and none is safe (q3-safe, and walks of q3 halt)
  pub q3_out : out_of_work q3 ≡ 3
  pub q3_each_out : out_of_work q3_each ≡ 3
  pub q3_each_labels : labels_of q3_each ≡ 2 ∷ 3 ∷ 4 ∷ 2 ∷ 3 ∷ 2 ∷ 2 ∷ 2 ∷ []
  -- by rule 2, two of a 2-cube
  pub p2_out : out_of_work p2 ≡ 2
  pub p2_labels : labels_of p2 ≡ 3 ∷ 2 ∷ 2 ∷ 3 ∷ []
  pub p2_1_2 : walk_of p2 0 1 2 ≡ visited (1 ∷ []) 0 16 Halted
  -- ---- why

  -- k4's node 14 met the rule in round 2: of its neighbours 15 is faulty, and 12 and 10 were marked in round 1, as was 6, which is not named
  pub k4_why_14 : reason_of k4 14 ≡ Unsafe 2 2 (Three 0 1 2)
  -- 0 has three faulty neighbours, of which the two lowest are named; 1 is safe, with one neighbour that is not, and so is 7, with two, of which one is
  -- faulty; and 2 is faulty
  pub k4_why_0 : reason_of k4 0 ≡ Unsafe 1 1 (Faulty 1 2)
  pub k4_why_1 : reason_of k4 1 ≡ Safe 0 1
  pub k4_why_7 : reason_of k4 7 ≡ Safe 1 2
  pub k4_why_2 : reason_of k4 2 ≡ Out 3
  -- by rule 2 two are enough: 14 is marked in round 2 by 15 and 12, and 3 in round 3 by 2 and 7. Its neighbour 1, across dimension 1, was marked later
  pub k4_older_why_14 : reason_of (k4_by 2) 14 ≡ Unsafe 2 2 (Two 0 1)
  pub k4_older_why_3 : reason_of (k4_by 2) 3 ≡ Unsafe 2 3 (Two 0 2)
  -- a draining neighbour and a closed one count as faulty, in a cause and in a count
  pub k4_drains_why_15 : reason_of k4_drains 15 ≡ Out 4
  pub k4_drains_why_14 : reason_of k4_drains 14 ≡ Unsafe 2 2 (Three 0 1 2)
  pub k4_drains_why_7 : reason_of k4_drains 7 ≡ Safe 1 2
  pub k4_closes_why_11 : reason_of k4_closes 11 ≡ Unsafe 1 1 (Faulty 1 2)
  pub k4_closes_why_1 : reason_of k4_closes 1 ≡ Safe 1 2
  -- 13 to 0 begins with a forward hop to a safe node, 6 to 0 with a spare one, and 7 to 15, which drains, is before the scans
  pub k4_why_13_0 : hop_reason 4 0 13 0 32 (label_at k4) ≡ Ok (why.Hop 1 2)
  pub k4_why_6_0 : hop_reason 4 0 6 0 32 (label_at k4) ≡ Ok (why.Hop 4 0)
  pub k4_drains_why_7_15 : hop_reason 4 0 7 15 32 (label_at k4_drains) ≡ Ok (why.Hop 0 3)
  -- ---- labels that no tables give

  -- a frame goes round: from 1 to 0, from 0 to 1, and never comes to 7; the walk is refused
  pub r3_at_1 : hopped 3 0 1 7 16 (label_in r3) ≡ Ok (Hop 0)
  pub r3_at_0 : hopped 3 0 0 7 16 (label_in r3) ≡ Ok (Hop 0)
  pub r3_1_7 : walked 3 0 1 7 16 row_bytes (label_in r3) ≡ refused 8
