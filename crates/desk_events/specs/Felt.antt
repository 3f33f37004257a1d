-- From where an edit is felt.
use Rattle.std.specs.Prelude.{◌≡◌, ◌⊎◌, ℕ, ◌≤◌, min, Bool, true, false, List, Option, None, Some, if◌then◌else◌}
use Rattle.std.specs.Option.{option_map}
use Rattle.worlds.specs.declared.cell.CellSet.{CellSet}
use Rattle.worlds.specs.World.{World}
use Rattle.worlds.specs.Lay.{lay}
use Rattle.schedule.specs.declared.acts.Acts.{Acts}
use Rattle.schedule.specs.declared.document.Intervention.{Intervention}
use Rattle.schedule.specs.Acts.{acts_on, first_of}
use Rattle.schedule.specs.Branches.{element_at, reach}
use Rattle.schedule.specs.Ids.{intervention_id}
use Rattle.schedule.specs.Plan.{Plan}
use Rattle.schedule.specs.Asked.{Asked, Insert, Change, RemoveIntervention, SetCells, ReplaceStart, ReplaceRule}
use Rattle.schedule.specs.Scratch.{cells_at}
use Rattle.desk_events.specs.declared.mark.Mark.{Mark}
use Rattle.desk_events.specs.declared.touched.Touched.{Touched}
use Rattle.desk_events.specs.Marks.{mark_at}

-- an intervention that an edit adds to a branch, changes or removes
abbrev pub added : ℕ → Acts → Touched
added branch acts = record { branch = branch; was = acts; is = acts }

abbrev pub moved : Acts → Intervention → Touched
moved acts i = record { branch = i.branch; was = i.acts; is = acts }

abbrev pub removed : Intervention → Touched
removed i = record { branch = i.branch; was = i.acts; is = i.acts }

-- the intervention of an id
abbrev pub intervention_at : Plan → ℕ → Option Intervention
intervention_at p id = element_at intervention_id p.interventions id

-- the branch in which an edit changes what acts, and when that acts before the edit and after it,
-- which is the same where the edit adds or removes it
abbrev pub touched_by : Plan → Asked → Option Touched
touched_by p (Insert branch acts cells) = Some (added branch acts)
touched_by p (Change id acts cells) = option_map (moved acts) (intervention_at p id)
touched_by p (RemoveIntervention id) = option_map removed (intervention_at p id)
touched_by p _ = None

-- whether an edit takes another start or another rule
abbrev pub begins_anew : Asked → Bool
begins_anew (SetCells cells) = true
begins_anew (ReplaceStart start) = true
begins_anew (ReplaceRule rule) = true
begins_anew _ = false

-- the first mark at which what is touched acts, before an edit or after it
abbrev pub first_touched : Touched → Mark
first_touched t = mark_at t.branch (min (first_of t.was) (first_of t.is))

-- the first such mark, or the start where all begins anew
abbrev pub from_touched : Option Touched → Bool → Option Mark
from_touched (Some t) anew = Some (first_touched t)
from_touched None anew = if anew then Some (mark_at 0 0) else None

-- the mark from which an edit may be felt, if it may change any pattern: what arrives there stays,
-- and what leaves it may be another
abbrev pub felt_from : Plan → Asked → Option Mark
felt_from p asked = from_touched (touched_by p asked) (begins_anew asked)

-- a world is known, and two lists lay on it to equal worlds
abbrev pub LayAlikeOn : Option World → List CellSet → List CellSet → Type 0
LayAlikeOn None old new = ⊥
LayAlikeOn (Some w) old new = lay old w ≡ lay new w

-- the cells that interventions set at a mark, by rising id
abbrev pub cells_acting_at : List Intervention → Mark → List CellSet
cells_acting_at is m = cells_at is m.branch m.generation

-- what arrives at a mark is known, and the interventions of two documents lay on it to equal worlds
abbrev pub IsUnfeltAt : (Mark → Option World) → Plan → Plan → Mark → Type 0
IsUnfeltAt known p q m =
    LayAlikeOn (known m) (cells_acting_at p.interventions m) (cells_acting_at q.interventions m)

-- so it is at each mark at which something acts in a branch, as far as the branch reaches
abbrev pub IsUnfeltWhere : (Mark → Option World) → Plan → Plan → ℕ → Acts → Type 0
IsUnfeltWhere known p q branch acts =
    (g : ℕ) → acts_on acts g ≡ true → g ≤ reach p branch
    → IsUnfeltAt known p q (mark_at branch g)

-- so it is where what an edit touches acts before it, and where it acts after it
abbrev pub UnfeltTouch : (Mark → Option World) → Plan → Plan → Option Touched → Type 0
UnfeltTouch known p q None = ⊥
UnfeltTouch known p q (Some t) =
    IsUnfeltWhere known p q t.branch t.was × IsUnfeltWhere known p q t.branch t.is

-- an edit of interventions is seen to change no pattern, where q is the document after it
abbrev pub IsUnfelt : (Mark → Option World) → Plan → Asked → Plan → Type 0
IsUnfelt known p asked q = UnfeltTouch known p q (touched_by p asked)

-- an edit that changes no pattern is felt nowhere, and any other from where it may be felt first
abbrev pub IsFelt : (Mark → Option World) → Plan → Asked → Plan → Option Mark → Type 0
IsFelt known p asked q felt =
    (IsUnfelt known p asked q × (felt ≡ None))
    ⊎ ((IsUnfelt known p asked q → ⊥) × (felt ≡ felt_from p asked))
