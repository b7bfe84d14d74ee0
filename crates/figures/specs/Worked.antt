-- Worked figures: those of the whole cubes of dimensions 1 and 2, of two tables of dimension 4, and walks of each kind.
use Rattle.std.specs.Prelude.{true, [], ◌∷◌, ◌≡◌}
use Rattle.figures.specs.Figures.{cube_of, figures, goes, table_of, tally_of}

pub record WorkedFigures : Type 0 where
  -- "0 1 0 4 0 0 0", "1 2 0 2 0 0 0", "2 1 1 0 0 0 0"
  pub cube_1 : tally_of 1 ≡ 1 ∷ 0 ∷ 4 ∷ 0 ∷ 0 ∷ 0 ∷ 2 ∷ 0 ∷ 2 ∷ 0 ∷ 0 ∷ 0 ∷ 1 ∷ 1 ∷ 0 ∷ 0 ∷ 0 ∷ 0 ∷ []
  -- "0 1 0 16 0 0 0", "1 4 0 36 0 0 0", "2 6 2 20 0 0 4", "3 4 4 4 0 0 0", "4 1 1 0 0 0 0"
  pub cube_2 :
      tally_of 2
      ≡ 1 ∷ 0 ∷ 16 ∷ 0 ∷ 0 ∷ 0 ∷ 4 ∷ 0 ∷ 36 ∷ 0 ∷ 0 ∷ 0 ∷ 6 ∷ 2 ∷ 20 ∷ 0 ∷ 0 ∷ 4 ∷ 4 ∷ 4 ∷ 4 ∷ 0 ∷ 0 ∷ 0 ∷ 1 ∷ 1 ∷ 0 ∷ 0 ∷ 0 ∷ 0 ∷ []
  -- n = 4, where 2, 3, 4, 5 and 8 are faulty, and where 8, 10, 13, 14 and 15 alone work
  pub five_faulty : figures (cube_of 4 316) ≡ 1 ∷ 0 ∷ 107 ∷ 12 ∷ 2 ∷ 0 ∷ []
  pub five_work : figures (cube_of 4 6911) ≡ 1 ∷ 1 ∷ 22 ∷ 0 ∷ 0 ∷ 3 ∷ []
  -- in the first of these 0 to 6, 2 apart, takes 6 hops; in K4, where 2, 4, 8 and 15 are faulty, 6 to 0 takes 4, and 13 to 0 the distance, 3
  pub four_extra : goes (cube_of 4 316) 2 0 6 ≡ true
  pub k4 : table_of 4 33044 ≡ 20 ∷ 129 ∷ []
  pub two_extra : goes (cube_of 4 33044) 1 6 0 ≡ true
  pub none_extra : goes (cube_of 4 33044) 0 13 0 ≡ true
  -- n = 3, where 1, 2 and 4 are faulty: 0 to 7 halts
  pub halts : goes (cube_of 3 22) 3 0 7 ≡ true
