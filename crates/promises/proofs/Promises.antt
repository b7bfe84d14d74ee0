-- Each is proved where it belongs.
use Rattle.cube.proofs.Laws.{cube_laws}
use Rattle.jobs.proofs.Laws.{job_laws}
use Rattle.groups.proofs.Laws.{number_laws}
use Rattle.notice.proofs.Laws.{notice_laws}
use Rattle.reader.proofs.Laws.{reader_laws}
use Rattle.spelling.proofs.Laws.{spelling_laws}
use Rattle.ranges.proofs.Laws.{ranges_laws}
use Rattle.repair.proofs.Laws.{repair_laws}
use Rattle.rule.proofs.Exchanges.{exchanged}
use Rattle.rule.proofs.Good.{labels_good}
use Rattle.rule.proofs.Largest.{safe_largest}
use Rattle.rule.proofs.Nodes.{nodes}
use Rattle.rule.proofs.Rounds.{marks, rested}
use Rattle.rule.proofs.Rules.{rules}
use Rattle.causes.proofs.Down.{cause_laws}
use Rattle.enough.proofs.Enough.{enough, few_out_safe}
use Rattle.enough.proofs.NotEnough.{not_enough}
use Rattle.scans.proofs.Hit.{table_hits}
use Rattle.scans.proofs.Progress.{scans_progress}
use Rattle.hop.proofs.Local.{hop_local}
use Rattle.walk.proofs.Laws.{message_laws}
use Rattle.walk.proofs.Local.{walk_local}
use Rattle.walk.proofs.Once.{once}
use Rattle.blocks.proofs.Figure.{hop_chosen}
use Rattle.blocks.proofs.Laws.{every_walk, theorem_7, unblocked}
use Rattle.blocks.proofs.Worked.{worked_blocks}
use Rattle.hop_networks.proofs.Local.{hop_in_local}
use Rattle.walk_networks.proofs.Local.{crossing_local}
use Rattle.why.proofs.Laws.{why_laws}
use Rattle.theorems.proofs.Before.{as_before}
use Rattle.theorems.proofs.Decision.{hop_picked}
use Rattle.theorems.proofs.Delivers.{few_out_delivers}
use Rattle.theorems.proofs.Demand2.{demand2}
use Rattle.theorems.proofs.Demand3.{demand3}
use Rattle.theorems.proofs.HowLong.{how_long}
use Rattle.theorems.proofs.Crossings.{more_networks, walk_crosses}
use Rattle.theorems.proofs.Networks.{five_deliver, hops_rise}
use Rattle.theorems.proofs.Repeats.{walk_repeats}
use Rattle.theorems.proofs.TwoRules.{two_rules}
use Rattle.figures.proofs.Laws.{sums}
use Rattle.figures.proofs.Numbers.{all_tables}
use Rattle.figures.proofs.Worked.{worked_figures}
use Rattle.hcube.proofs.Decoded.{decodes}
use Rattle.promises.specs.Promises.{Promises}
use Rattle.promises.proofs.Answers.{c_answers, rattle_answers}
use Rattle.promises.proofs.Demands.{c_demands, rattle_demands}
use Rattle.promises.proofs.InC.{in_c}
use Rattle.promises.proofs.InRattle.{in_rattle}
use Rattle.promises.proofs.Jobs.{c_jobs, rattle_jobs}
use Rattle.promises.proofs.Refusals.{refusals}
use Rattle.promises.proofs.Seen.{as_seen}
use Rattle.promises.proofs.Settled.{settled, unasked, watched}
use Rattle.promises.proofs.Tied.{all_tied, in_order, tied_watched}
use Rattle.promises.proofs.Why.{c_whys, rattle_whys}
use Rattle.promises.proofs.Worked.{worked}
use Rattle.promises.proofs.Writes.{c_writes, rattle_writes}
use Rattle.promises.proofs.Lists.{c_lists, rattle_lists}
use Rattle.promises.proofs.Repairs.{c_repairs, rattle_repairs}
use Rattle.promises.proofs.Tallies.{c_kinds, rattle_kinds, tallies}
use Rattle.promises.proofs.Networks.{c_networks, rattle_networks}
use Rattle.promises.proofs.NetworkRefusals.{network_refusals}

pub promises : Promises
promises =
    record {
      tied = all_tied;
      in_order = in_order;
      as_seen = as_seen;
      tied_watched = tied_watched;
      settled = settled;
      watched = watched;
      unasked = unasked;
      rattle_answers = rattle_answers;
      c_answers = c_answers;
      rattle_demands = rattle_demands;
      c_demands = c_demands;
      rattle_jobs = rattle_jobs;
      c_jobs = c_jobs;
      rattle_whys = rattle_whys;
      c_whys = c_whys;
      rattle_writes = rattle_writes;
      c_writes = c_writes;
      rattle_lists = rattle_lists;
      c_lists = c_lists;
      rattle_repairs = rattle_repairs;
      c_repairs = c_repairs;
      rattle_networks = rattle_networks;
      c_networks = c_networks;
      tallies = tallies;
      rattle_kinds = rattle_kinds;
      c_kinds = c_kinds;
      in_c = in_c;
      in_rattle = in_rattle;
      decodes = decodes;
      demand2 = demand2;
      demand3 = demand3;
      how_long = how_long;
      largest = safe_largest;
      rested = rested;
      exchanged = exchanged;
      good = labels_good;
      rules = rules;
      two_rules = two_rules;
      causes = cause_laws;
      why = why_laws;
      enough = enough;
      not_enough = not_enough;
      few_out_safe = few_out_safe;
      few_out_delivers = few_out_delivers;
      as_before = as_before;
      progress = scans_progress;
      every_walk = every_walk;
      unblocked = unblocked;
      theorem_7 = theorem_7;
      crosses = walk_crosses;
      more_networks = more_networks;
      hops_rise = hops_rise;
      five_deliver = five_deliver;
      all_tables = all_tables;
      sums = sums;
      refusals = refusals;
      network_refusals = network_refusals;
      nodes = nodes;
      marks = marks;
      hits = table_hits;
      picked = hop_picked;
      chosen = hop_chosen;
      repeats = walk_repeats;
      once = once;
      hop_local = hop_local;
      walk_local = walk_local;
      hop_in_local = hop_in_local;
      crossing_local = crossing_local;
      cube = cube_laws;
      halves = job_laws;
      number = number_laws;
      notice = notice_laws;
      reader = reader_laws;
      spelling = spelling_laws;
      ranges = ranges_laws;
      repair = repair_laws;
      message = message_laws;
      worked = worked;
      worked_blocks = worked_blocks;
      worked_figures = worked_figures;
    }
