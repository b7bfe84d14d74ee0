-- The worked examples, by computing.
use mathlib.Core.List.{[], ◌∷◌}
use mathlib.Core.Path.{◌≡◌, refl}
use Rattle.cube.specs.Count.{least, some}
use Rattle.cube.specs.Cube.{bit, flip}
use Rattle.cube.specs.Tables.{node_bit, tab}
use Rattle.notice.specs.Addresses.{with_bit, with_bits}
use Rattle.spelling.specs.Spelled.{having}
use Rattle.repair.specs.Laws.{sample}
use Rattle.repair.specs.Repaired.{named, named_by, namer_of, namers, names, repaired}

pub listing : repaired 4 (0x14 ∷ 0x81 ∷ []) sample ≡ 0x14 ∷ 0x83 ∷ []
unfolding repaired named named_by names with_bits having some least node_bit bit flip with_bit
listing = refl

pub listing_row : namers 4 (0x14 ∷ 0x81 ∷ []) sample ≡ 0 ∷ 0 ∷ 0 ∷ 0 ∷ 0 ∷ 0 ∷ 0 ∷ 0 ∷ 0 ∷ 2 ∷ 0 ∷ 0 ∷ 0 ∷ 0 ∷ 0 ∷ 0 ∷ []
unfolding namers namer_of named named_by names some least node_bit bit flip tab
listing_row = refl

pub both : repaired 1 (0 ∷ []) (1 ∷ 1 ∷ []) ≡ 3 ∷ []
unfolding repaired named named_by names with_bits having some least node_bit bit flip with_bit
both = refl

pub first_only : repaired 1 (1 ∷ []) (1 ∷ 1 ∷ []) ≡ 1 ∷ []
unfolding repaired named named_by names with_bits having some least node_bit bit flip with_bit
first_only = refl

pub second_only : repaired 1 (2 ∷ []) (1 ∷ 1 ∷ []) ≡ 2 ∷ []
unfolding repaired named named_by names with_bits having some least node_bit bit flip with_bit
second_only = refl
