-- The laws of a number that specs/Laws.antt states. The worked numbers are computed.
use mathlib.Core.Path.{refl}
use Rattle.groups.specs.Number.{number_at, two_groups}
use Rattle.groups.specs.Laws.{NumberLaws}
use Rattle.groups.proofs.Groups.{read_number, refused_number, refused_place}
use Rattle.groups.proofs.HandedOn.{handed_on}
use Rattle.groups.proofs.Back.{back}

pub number_laws : NumberLaws
unfolding number_at two_groups
number_laws = record {
  value = read_number;
  refused = refused_number;
  refused_place = refused_place;
  back = back;
  handed_on = handed_on;
  two-groups = refl;
  zero_group = refl;
  high_bit = refl;
  cut_short = refl;
  second_bad = refl;
  missing = refl;
}
