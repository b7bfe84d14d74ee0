-- All that is promised of the library, in one record: if this is proved, each statement that it names is.
use denote.Param.Laws.{Laws}
use denote.RattleType.{RattleType}
use mir.Syntax.{Dict}
use Rattle.std.specs.Prelude.{Bool, ℕ, ◌^◌, ◌≤◌, ◌<◌}
use Rattle.cube.specs.Laws.{CubeLaws}
use Rattle.jobs.specs.Laws.{JobLaws}
use Rattle.groups.specs.Laws.{NumberLaws}
use Rattle.notice.specs.Laws.{NoticeLaws}
use Rattle.reader.specs.Laws.{ReaderLaws}
use Rattle.spelling.specs.Laws.{SpellingLaws}
use Rattle.ranges.specs.Laws.{RangesLaws}
use Rattle.repair.specs.Laws.{RepairLaws}
use Rattle.labels.specs.declared.Watch.{Ghosts}
use Rattle.rule.specs.Cabinet.{Cabinet, exchanges_of}
use Rattle.rule.specs.Closed.{Largest}
use Rattle.rule.specs.Exchanges.{Exchanges}
use Rattle.rule.specs.Good.{LabelsGood}
use Rattle.rule.specs.Nodes.{Nodes}
use Rattle.rule.specs.Rounds.{Marks, Rested}
use Rattle.rule.specs.Rules.{Rules}
use Rattle.causes.specs.Laws.{CauseLaws}
use Rattle.enough.specs.Enough.{Enough, FewOutSafe, NotEnough}
use Rattle.scans.specs.Hit.{TableHits}
use Rattle.scans.specs.Progress.{ScansProgress}
use Rattle.hop.specs.Local.{HopLocal}
use Rattle.hop.specs.declared.Decision.{Decision}
use Rattle.walk.specs.Laws.{MessageLaws}
use Rattle.walk.specs.Local.{WalkLocal}
use Rattle.walk.specs.Once.{Once}
use Rattle.blocks.specs.Figure.{HopChosen}
use Rattle.blocks.specs.Laws.{EveryWalk, Theorem7, Unblocked}
use Rattle.blocks.specs.Worked.{WorkedBlocks}
use Rattle.hop_networks.specs.Local.{HopInLocal}
use Rattle.walk_networks.specs.Local.{CrossingLocal}
use Rattle.why.specs.Laws.{WhyLaws}
use Rattle.theorems.specs.Before.{AsBefore}
use Rattle.theorems.specs.Delivers.{FewOutDelivers}
use Rattle.theorems.specs.Demand2.{Demand2}
use Rattle.theorems.specs.Demand3.{Demand3}
use Rattle.theorems.specs.HowLong.{HowLong}
use Rattle.theorems.specs.Networks.{FiveDeliver, HopsRise, MoreNetworks, WalkCrosses}
use Rattle.theorems.specs.Picked.{HopPicked}
use Rattle.theorems.specs.Repeats.{WalkRepeats}
use Rattle.theorems.specs.TwoRules.{TwoRules}
use Rattle.theorems.specs.Words.{Accepted, label_at}
use Rattle.figures.specs.Laws.{AllTables, Sums}
use Rattle.figures.specs.Worked.{WorkedFigures}
use Rattle.hcube.specs.Decoded.{Decodes}
use Rattle.promises.specs.Answers.{Answers}
use Rattle.promises.specs.Demands.{Demands}
use Rattle.promises.specs.InC.{InC}
use Rattle.promises.specs.InRattle.{InRattle}
use Rattle.promises.specs.Jobs.{Jobs}
use Rattle.promises.specs.Library as library
use Rattle.promises.specs.Refusals.{Refusals}
use Rattle.promises.specs.Seen.{AsSeen}
use Rattle.promises.specs.Settled.{Settled, Unasked, Watched}
use Rattle.promises.specs.Handed.{InOrder}
use Rattle.promises.specs.Tied.{AllTied, TiedWatched}
use Rattle.promises.specs.Why.{Whys}
use Rattle.promises.specs.Worked.{Worked}
use Rattle.promises.specs.Writes.{Writes}
use Rattle.promises.specs.Lists.{Lists}
use Rattle.promises.specs.Repairs.{Repairs}
use Rattle.promises.specs.Tallies.{FourKinds, Tallies}
use Rattle.promises.specs.Networks.{Networks}
use Rattle.promises.specs.NetworkRefusals.{NetworkRefusals}

pub record Promises : Type 2 where
  -- the contracts are the code's own, settle everything, ask nothing, and always allow an answer
  pub tied : AllTied
  pub in_order : InOrder
  pub as_seen : AsSeen
  pub tied_watched : (W : RattleType) (laws : Laws W) (G : Ghosts W.Denot) (dict : Dict) → TiedWatched W laws G dict
  pub settled : Settled
  pub watched : (W : RattleType) (laws : Laws W) (G : Ghosts W.Denot) (dict : Dict) → Watched W laws G dict
  pub unasked : Unasked
  pub rattle_answers : Answers library.rattle
  pub c_answers : Answers library.c
  -- the three demands
  pub rattle_demands : Demands library.rattle
  pub c_demands : Demands library.c
  -- two jobs: neither sees anything of the other
  pub rattle_jobs : Jobs library.rattle
  pub c_jobs : Jobs library.c
  -- why a node has its label, and why a hop is taken
  pub rattle_whys : Whys library.rattle
  pub c_whys : Whys library.c
  -- notices that are written
  pub rattle_writes : Writes library.rattle
  pub c_writes : Writes library.c
  -- list text, read and written
  pub rattle_lists : Lists library.rattle
  pub c_lists : Lists library.c
  -- tables repaired by what the neighbours say
  pub rattle_repairs : Repairs library.rattle
  pub c_repairs : Repairs library.c
  -- walks by networks
  pub rattle_networks : Networks library.rattle
  pub c_networks : Networks library.c
  -- the tally of whole cubes
  pub tallies : Tallies
  pub rattle_kinds : FourKinds library.rattle
  pub c_kinds : FourKinds library.c
  -- what C and a caller in Rattle have in hand
  pub in_c : InC
  pub in_rattle : InRattle
  pub decodes : Decodes
  -- demands 2 and 3 of the definitions, and what they rest on
  pub demand2 : (K : Cabinet) → Demand2 K (label_at K) (exchanges_of K)
  pub demand3 : Demand3
  pub how_long : (K : Cabinet) (j : ℕ) → Accepted K j → HowLong K (label_at K) (exchanges_of K)
  pub largest : (n k : ℕ) (F : ℕ → Bool) → Largest n k F
  pub rested : (n k : ℕ) (F : ℕ → Bool) → Rested n k F
  pub exchanged : (n k : ℕ) (F : ℕ → Bool) → Exchanges n k F
  pub good : LabelsGood
  pub rules : (n : ℕ) (F : ℕ → Bool) → Rules n F
  pub two_rules : TwoRules
  pub causes : CauseLaws
  pub why : WhyLaws
  pub enough : (n : ℕ) (F : ℕ → Bool) → Enough n F
  pub not_enough : (n : ℕ) → NotEnough n
  pub few_out_safe : FewOutSafe
  pub few_out_delivers : FewOutDelivers
  pub as_before : (j : ℕ) → j < 2 → AsBefore j
  pub progress : ScansProgress
  -- Algorithm ROUTE_C of the definitions
  pub every_walk : (n : ℕ) (lab : ℕ → ℕ) (d s : ℕ) → s < 2 ^ n → EveryWalk n lab d s
  pub unblocked : (n : ℕ) → Unblocked n
  pub theorem_7 : Theorem7
  pub crosses : WalkCrosses
  pub more_networks : MoreNetworks
  pub hops_rise : HopsRise
  pub five_deliver : FiveDeliver
  -- the tally's figures, of the definitions
  pub all_tables : (n : ℕ) → (1 ≤ n) × (n ≤ 12) → AllTables n
  pub sums : (n : ℕ) → (1 ≤ n) × (n ≤ 12) → Sums n
  -- the words of RULES, section by section
  pub refusals : Refusals
  pub network_refusals : NetworkRefusals
  pub nodes : (K : Cabinet) → Nodes K
  pub marks : (n k : ℕ) (F : ℕ → Bool) → Marks n k F
  pub hits : TableHits
  pub picked : (n : ℕ) (lab : ℕ → ℕ) (c d : ℕ) → HopPicked n lab c d
  pub chosen : (n : ℕ) (lab : ℕ → ℕ) (c d w g : ℕ) → HopChosen n lab c d w g
  pub repeats : WalkRepeats
  pub once : (go : ℕ → Decision) → Once go
  pub hop_local : HopLocal
  pub walk_local : WalkLocal
  pub hop_in_local : HopInLocal
  pub crossing_local : CrossingLocal
  pub cube : CubeLaws
  pub halves : JobLaws
  pub number : NumberLaws
  pub notice : NoticeLaws
  pub reader : ReaderLaws
  pub spelling : SpellingLaws
  pub ranges : RangesLaws
  pub repair : RepairLaws
  pub message : MessageLaws
  pub worked : Worked
  pub worked_blocks : WorkedBlocks
  pub worked_figures : WorkedFigures
