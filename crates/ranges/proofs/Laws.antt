-- The laws of list text that specs/Laws.antt states.
use Rattle.ranges.specs.Laws.{RangesLaws}
use Rattle.ranges.proofs.Beyond.{beyond}
use Rattle.ranges.proofs.Entries.{grammar, union}
use Rattle.ranges.proofs.Length.{short}
use Rattle.ranges.proofs.Shortest.{shortest}
use Rattle.ranges.proofs.Tables.{table_named, is_table, table_bytes, runs-rise, runs_are, one_text, keeps_rules, within, reads_back, text_bytes}
use Rattle.ranges.proofs.Worked.{longest, as_in_rules, two_nodes, none, falls}

pub ranges_laws : RangesLaws
ranges_laws = record {
  grammar = grammar;
  union = union;
  beyond = beyond;
  table_named = table_named;
  is_table = is_table;
  table_bytes = table_bytes;
  runs-rise = runs-rise;
  runs_are = runs_are;
  one_text = one_text;
  keeps_rules = keeps_rules;
  within = within;
  reads_back = reads_back;
  text_bytes = text_bytes;
  short = short;
  longest = longest;
  shortest = shortest;
  as_in_rules = as_in_rules;
  two_nodes = two_nodes;
  none = none;
  falls = falls;
}
