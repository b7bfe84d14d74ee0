-- The worked figures, by computation.
use mathlib.Core.Path.{refl}
use lib.Count.{ones}
use Rattle.cube.specs.Count.{count, least, some}
use Rattle.cube.specs.Cube.{apart, bit, dist, flip}
use Rattle.cube.specs.Refusal.{first}
use Rattle.cube.specs.Tables.{is_dimension, label_in, node_bit, tab, table_len}
use Rattle.jobs.specs.Jobs.{is_job, label_bytes}
use Rattle.rule.specs.Cabinet.{labels_of}
use Rattle.rule.specs.Rule.{label, label_of, marked, meets, newly, quiet, rounds, safe, working}
use Rattle.hop.specs.Hop.{answer, decide, hop}
use Rattle.scans.specs.Scans.{first_scan, lowest, suits, takes}
use Rattle.walk.specs.Walk.{hops, last, onto, refused, row, spot, stops, turn, walk_from, walk_refusal, walked}
use Rattle.figures.specs.Figures.{bytes_of, figures, is_kind, pairs, tally_of, total}
use Rattle.figures.specs.Sum.{sum}
use Rattle.figures.specs.Worked.{WorkedFigures}

pub worked_figures : WorkedFigures
unfolding tally_of total figures pairs sum is_kind bytes_of table_len walked walk_refusal walk_from refused first row last hops turn spot stops onto hop decide answer
    first_scan lowest takes suits apart dist ones label_in labels_of label label_of safe rounds working quiet newly meets marked is_dimension is_job label_bytes some
    count least bit flip node_bit tab
worked_figures =
    record {
      cube_1 = refl;
      cube_2 = refl;
      five_faulty = refl;
      five_work = refl;
      four_extra = refl;
      k4 = refl;
      two_extra = refl;
      none_extra = refl;
      halts = refl;
    }
