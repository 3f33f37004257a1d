-- What can be computed next, among rows.
use Rattle.std.specs.Prelude.{◌≡◌, ℕ, zero, suc, ◌<◌, Bool, true, false, not, ◌&&◌, ◌||◌, List, length, Option, None, Some, slice_get, slice_index, slice_index_or, ◌==◌, if◌then◌else◌}
use Rattle.std.specs.Option.{option_map_or}
use Rattle.schedule.specs.declared.branch.Branch.{Branch}
use Rattle.schedule.specs.Branches.{element_at}
use Rattle.schedule.specs.Ids.{branch_id}
use Rattle.desk_events.specs.declared.mark.Mark.{Mark}
use Rattle.desk_events.specs.Marks.{bookmark_mark, is_start, mark_at}
use Rattle.dependency_book.specs.RowState.{is_empty, is_known}
use Rattle.dependency_book.specs.Rows.{ArrivalRow, TextRow, state_at}
use Rattle.document_marks.specs.AllMarks.{mark_rank}

-- whether what arrives at a mark is known, which has its row at this place; the start always is
abbrev pub place_ready : List ArrivalRow → Mark → ℕ → Bool
place_ready arrivals m place =
    is_start m
    || option_map_or (λ (r : ArrivalRow). is_known r.state) (slice_get arrivals place) false

-- whether nothing stands for a text where what arrives at its mark is known
abbrev pub can_view : List ArrivalRow → TextRow → ℕ → Bool
can_view arrivals r place =
    is_empty r.state && place_ready arrivals (bookmark_mark r.key) place

-- whether the text at a place can be viewed, whose mark's place is among these
abbrev pub viewable : List ArrivalRow → List TextRow → List ℕ → ℕ → TextRow → Bool
viewable arrivals texts places k x =
    can_view arrivals (slice_index_or texts k x) (slice_index places k)

-- the mark of the row before a place; before the first one that is the start
abbrev pub row_before : List ArrivalRow → ℕ → ArrivalRow → Mark
row_before rows zero x = mark_at 0 0
row_before rows (suc k) x = (slice_index_or rows k x).key

-- the mark before a mark of a branch, which is listed or not: where the branch begins, that of its
-- parent there, and else another
abbrev pub before_in : Option Branch → Mark → Mark → Mark
before_in None m other = other
before_in (Some x) m other = if x.fork == m.generation then mark_at x.parent x.fork else other

-- the mark before that of the row at a place
abbrev pub before_row : List Branch → List ArrivalRow → ℕ → ArrivalRow → Mark
before_row branches rows k x =
    let m = (slice_index_or rows k x).key in
    before_in (element_at branch_id branches m.branch) m (row_before rows k x)

-- whether what arrives at a mark is known by its row; the start always is
abbrev pub is_ready : List ArrivalRow → Mark → Bool
is_ready rows m = is_start m || is_known (state_at mark_rank (mark_rank m) rows)

-- whether nothing stands in the row at a place where what arrives at the mark before is known
abbrev pub steppable : List Branch → List ArrivalRow → ℕ → ArrivalRow → Bool
steppable branches rows k x =
    is_empty (slice_index_or rows k x).state && is_ready rows (before_row branches rows k x)

-- whether the row at a place waits for the row before it, which is of the same branch: what arrives
-- there isn't known
abbrev pub waits : List ArrivalRow → ℕ → ArrivalRow → Bool
waits rows zero x = false
waits rows (suc k) x =
    let before = slice_index_or rows k x in
    before.key.branch == (slice_index_or rows (suc k) x).key.branch && not (is_known before.state)

-- no step leads to a row that waits for the row before it
abbrev pub AreHeldBack : List Branch → List ArrivalRow → Type 0
AreHeldBack branches rows =
    (k : ℕ) (x : ArrivalRow) → k < length rows → waits rows k x ≡ true →
    is_ready rows (before_row branches rows k x) ≡ false

-- no place before this one passes a test, which is told what to take for a row that isn't there
abbrev pub NoneBefore : {X : Type 0} → (ℕ → X → Bool) → ℕ → Type 0
NoneBefore {X} test n = (k : ℕ) (x : X) → k < n → test k x ≡ false

-- the first place of so many that passes is this one, or none does
abbrev pub IsFirst : {X : Type 0} → (ℕ → X → Bool) → ℕ → Option ℕ → Type 0
IsFirst test n None = NoneBefore test n
IsFirst {X} test n (Some k) = (k < n) × ((x : X) → test k x ≡ true) × NoneBefore test k
