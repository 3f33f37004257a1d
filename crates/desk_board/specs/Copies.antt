-- The two copies, and what threads know of their board.
use Rattle.std.specs.Prelude.{◌≡◌, ℕ, List, Option, Some, IfSome, Result, MatchResult}
use mathlib.Core.Option.{some}
use lib.ListN.{get_elem?}
use Rattle.logbook.specs.Pages.{Book}
use Rattle.desk_board.specs.BoardHistory.{BoardHistory}

-- something is known, of this board
abbrev pub Knows : Option BoardHistory → Book → Type 0
Knows known board = (h : BoardHistory) × (known ≡ Some h) × (h.board ≡ board)

-- whatever a thread knows is of the board whose history the copies have
abbrev pub KeepsToOneBoard : BoardHistory → List (Option BoardHistory) → Type 0
KeepsToOneBoard x views =
    (seat : ℕ) (v : Option BoardHistory) → get_elem? views seat ≡ some v
    → IfSome v (λ h. h.board ≡ x.board)

-- afterwards the thread knows the history, which is of the board that it knew
abbrev pub Sees : Option BoardHistory → BoardHistory → BoardHistory → Option BoardHistory → Type 0
Sees v x y w = (w ≡ Some y) × ((board : Book) → Knows v board → y.board ≡ board)

-- what is seen, and what the thread knows, is the history that the copy has
pub record ShowsHistory (known : Option BoardHistory) (copy seen : BoardHistory) : Type 0 where
  pub knows : known ≡ Some copy
  pub shows : seen ≡ copy

-- afterwards the history is the next, or as it was where that was refused
abbrev pub GoesOn : {T E : Type 0} → BoardHistory → BoardHistory → BoardHistory → Result T E → Type 0
GoesOn next old new result = MatchResult result (λ _. new ≡ next) (λ _. new ≡ old)
