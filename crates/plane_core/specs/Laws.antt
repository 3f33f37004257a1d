-- What the definitions are meant to say: each statement is proved by a function of the same name.
use Rattle.std.specs.Prelude.{◌≡◌, List, [], ◌∷◌}
use Rattle.worlds.specs.World.{World, blank}
use Rattle.worlds.specs.Range.{AllBelow, HasMargin}
use Rattle.plane_core.specs.declared.row.SquareRow.{SquareRow}
use Rattle.plane_core.specs.Rows.{AreSquaresOf, empty_row}
use Rattle.plane_core.specs.WorldRows.{rows_of}

-- each world in the range of planes, with states below 256, has rows
abbrev pub WorldsHaveRows : Type 0
WorldsHaveRows = (w : World) → HasMargin 0 w → AllBelow 256 w → AreSquaresOf w (rows_of w)

-- and it has no others
abbrev pub WorldsHaveOneListOfRows : Type 0
WorldsHaveOneListOfRows =
    (w : World) (rows : List SquareRow) → AreSquaresOf w rows → rows_of w ≡ rows

-- the rows of the empty world are one, of the empty square of level 1
abbrev pub EmptyWorldHasOneRow : Type 0
EmptyWorldHasOneRow = rows_of blank ≡ empty_row ∷ []
