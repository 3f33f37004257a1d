-- The cells that are set at a mark after an edit, as they are gathered.
use Rattle.std.specs.Prelude.{ℕ, ◌&&◌, List, [], ◌++◌, if◌then◌else◌, ◌==◌, flat_map}
use Rattle.worlds.specs.declared.cell.CellSet.{CellSet}
use Rattle.schedule.specs.declared.acts.Acts.{Acts}
use Rattle.schedule.specs.declared.document.Intervention.{Intervention}
use Rattle.schedule.specs.Acts.{acts_on}
use Rattle.schedule.specs.Asked.{Asked, Insert, Change, RemoveIntervention}
use Rattle.schedule.specs.Change.{acting}
use Rattle.schedule.specs.Scratch.{own_cells}
use Rattle.desk_events.specs.declared.mark.Mark.{Mark}

-- the cells that an intervention sets at a mark
abbrev pub own_cells_of : Intervention → Mark → List CellSet
own_cells_of i m = own_cells i m.branch m.generation

-- the cells that an intervention of the document before an edit sets at a mark after it
abbrev pub own_cells_after : Asked → Intervention → Mark → List CellSet
own_cells_after (Change id acts cells) i m =
    own_cells_of (if i.id == id then acting acts cells i else i) m
own_cells_after (RemoveIntervention id) i m = if i.id == id then [] else own_cells_of i m
own_cells_after _ i m = own_cells_of i m

-- these cells at a mark of a branch at which something acts, else none
abbrev pub cells_if_at : ℕ → Acts → List CellSet → Mark → List CellSet
cells_if_at branch acts cells m =
    if branch == m.branch && acts_on acts m.generation then cells else []

-- the cells that an intervention that an edit inserts sets there
abbrev pub inserted_cells : Asked → Mark → List CellSet
inserted_cells (Insert branch acts cells) m = cells_if_at branch acts cells m
inserted_cells _ m = []

-- the cells that the interventions of a document before an edit, and one that it inserts, set there
-- after it, by rising id
abbrev pub cells_after : Asked → List Intervention → Mark → List CellSet
cells_after asked interventions m =
    flat_map (λ i. own_cells_after asked i m) interventions ++ inserted_cells asked m
