-- The word that counts a history.
use Rattle.std.specs.Prelude.{ℕ, ◌≡◌, true, List, [], ◌∷◌, ◌++◌, length}
use Rattle.logbook.specs.Pages.{Cell, Step, View, Book, Named}
use Rattle.desk_board.specs.Picture.{Picture}

-- the first word is how long the history is; a book has two words, of which the second stays 0
pub record IsCountedBook (cells : List Cell) (log : List Picture) : Type 0 where
  pub words : cells ≡ (length log, true) ∷ (0, true) ∷ []

-- the first word of a book
abbrev pub head_of : Book → Named
head_of board = record { tracked = true; key = 0; book = board }

-- where the word was as expected, the snapshot stands behind all that was known
abbrev pub AddsSnapshot : Step Picture → View Picture ℕ → ℕ → View Picture ℕ → Type 0
AddsSnapshot s v found w = found ≡ s.old → w.0 ≡ v.0 ++ s.ask ∷ []
