-- Chosen ends gone on with, computed: three blocks without equal growers, at most two partitions of at most two blocks; and the lines of two blocks' layouts.
use Rattle.std.specs.Prelude.{ℕ, ◌+◌, ◌^◌, ◌≡◌, Bool, true, false, List, [], ◌∷◌, ◌++◌}
use Rattle.model.specs.Fields.{number_field}
use Rattle.model.specs.Text.{bytes_of}
use Rattle.layout_lines.specs.Rests.{rest_ok, ok_by, rests, line_after, lines_after}

abbrev flags : List Bool
flags = true ∷ true ∷ true ∷ []

-- the second and the third block hold one grower
abbrev parted : List Bool
parted = true ∷ false ∷ true ∷ []

-- the running sums of two blocks: a find and an insert, then two finds and the ends of three moves forward, under the factory card
abbrev sums : List ℕ
sums = 0 ∷ 0 ∷ 0 ∷ 0 ∷ 0 ∷ 0 ∷ 0 ∷ 8 ∷ 1 ∷ 0 ∷ 1 ∷ 0 ∷ 5 ∷ 0 ∷ 14 ∷ 3 ∷ 2 ∷ 3 ∷ 2 ∷ 5 ∷ 15 ∷ []

pub record RestExamples : Type 0 where
  pub two : rest_ok (ok_by flags 2) 2 0 0 (0 ∷ 2 ∷ []) ≡ true
  pub one_too_many : rest_ok (ok_by flags 2) 2 1 1 (1 ∷ 2 ∷ []) ≡ false
  pub too_long : rest_ok (ok_by flags 2) 2 0 0 (2 ∷ []) ≡ false
  pub whole : rests (ok_by flags 2) 2 3 0 0 0 ≡ (0 ∷ 2 ∷ []) ∷ (1 ∷ 2 ∷ []) ∷ []
  -- one end is chosen, block 0; one grower is not parted; nothing is left to choose
  pub behind : rests (ok_by flags 2) 2 3 1 1 1 ≡ (2 ∷ []) ∷ []
  pub not-parted : rests (ok_by parted 2) 2 3 0 0 0 ≡ (0 ∷ 2 ∷ []) ∷ []
  pub none_left : rests (ok_by flags 2) 2 3 2 2 2 ≡ []
  -- the layout of one partition; that of two, once its first end is chosen, which adds 13
  pub one_line : line_after sums 0 0 (2 ^ 60) [] (1 ∷ []) ≡ bytes_of "          1                   7          1" ++ 10 ∷ []
  pub carried_on : line_after sums 1 1 (2 ^ 60 + 13) (number_field 0) (1 ∷ []) ≡ bytes_of "          2                   9          0          1" ++ 10 ∷ []
  pub no_lines : lines_after sums 0 0 (2 ^ 60) [] [] ≡ []
