-- Rows, by rising ranks of their keys.
use Rattle.std.specs.Prelude.{ℕ, List, [], ◌∷◌, map, if◌then◌else◌, ◌==◌}
use Rattle.worlds.specs.World.{World}
use Rattle.schedule.specs.declared.document.Bookmark.{Bookmark}
use Rattle.schedule.specs.Ids.{IdsRise}
use Rattle.dependency_book.specs.declared.row.RowState.{RowState}
use Rattle.dependency_book.specs.declared.row.RowState.TheVariants.{Empty}
use Rattle.dependency_book.specs.declared.row.Row.{Row}
use Rattle.desk_events.specs.declared.mark.Mark.{Mark}

-- bookmarks stand by their ids
abbrev pub bookmark_rank : Bookmark → ℕ
bookmark_rank b = b.id

-- the keys of rows
abbrev pub keys : {K V : Type 0} → List (Row K V) → List K
keys rows = map (λ r. r.key) rows

-- the rank of a row is that of its key
abbrev pub by_key : {K V : Type 0} → (K → ℕ) → Row K V → ℕ
by_key rank r = rank r.key

-- the ranks of the keys rise
abbrev pub IsRanked : {K V : Type 0} → (K → ℕ) → List (Row K V) → Type 0
IsRanked rank rows = IdsRise (by_key rank) rows

-- what stands in the first row of a rank, and nothing where there is none
abbrev pub state_at : {K V : Type 0} → (K → ℕ) → ℕ → List (Row K V) → RowState V
state_at rank n [] = Empty
state_at rank n (r ∷ rs) = if rank r.key == n then r.state else state_at rank n rs

-- the rows with this standing in the first of a rank
abbrev pub put : {K V : Type 0} → (K → ℕ) → ℕ → RowState V → List (Row K V) → List (Row K V)
put rank n state [] = []
put rank n state (r ∷ rs) =
    if rank r.key == n then record { key = r.key; state = state } ∷ rs else r ∷ put rank n state rs

-- a mark with the world that arrives there, or the job that is out for it
abbrev pub ArrivalRow : Type 0
ArrivalRow = Row Mark World

-- a bookmark with its text, or the job that is out for it
abbrev pub TextRow : Type 0
TextRow = Row Bookmark (List ℕ)
