-- The history of a board: the snapshots that were published, in order.
use Rattle.std.specs.Prelude.{◌≡◌, ◌<◌, List, [], ◌∷◌, ◌++◌, length}
use mathlib.Core.List.{IsPrefix}
use Rattle.logbook.specs.Pages.{Book}
use Rattle.dependency_book.specs.BookState.{BookState}
use Rattle.desk_board.specs.Picture.{Picture, IsRightPicture, picture_of}

-- a board, and its history as far as it is known
pub record BoardHistory : Type 0 where
  pub board : Book
  pub pictures : List Picture

abbrev pub history : Book → List Picture → BoardHistory
history board pictures = record { board = board; pictures = pictures }

-- nothing of it
abbrev pub unseen : Book → BoardHistory
unseen board = history board []

-- it, and one snapshot more
abbrev pub and_then : BoardHistory → Picture → BoardHistory
and_then h s = history h.board (h.pictures ++ s ∷ [])

-- the picture of the desk, whose texts are right, is put behind it
abbrev pub ShowsNext : BoardHistory → BookState → BoardHistory → Type 0
ShowsNext old d new = IsRightPicture (picture_of d) × (new ≡ and_then old (picture_of d))

-- the last snapshot is s
abbrev pub EndsWith : BoardHistory → Picture → Type 0
EndsWith h s = (before : List Picture) × (h.pictures ≡ before ++ s ∷ [])

-- both are of one board, and the second goes on from the first
pub record Begins (h k : BoardHistory) : Type 0 where
  pub board : k.board ≡ h.board
  pub goes_on : IsPrefix h.pictures k.pictures

-- the same, and the second has more
pub record Precedes (h k : BoardHistory) : Type 0 where
  pub begins : Begins h k
  pub more : length h.pictures < length k.pictures
