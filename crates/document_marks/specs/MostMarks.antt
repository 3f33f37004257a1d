-- At most how many marks a document has besides the start, now and after an edit.
use Rattle.std.specs.Prelude.{ℕ, ◌+◌, ◌*◌, length, Bool, false, ◌||◌, if◌then◌else◌}
use Rattle.std.specs.List.{list_any}
use Rattle.schedule.specs.declared.document.Intervention.{Intervention}
use Rattle.schedule.specs.Acts.{repeats}
use Rattle.schedule.specs.Asked.{Asked, Insert, Change}
use Rattle.schedule.specs.Plan.{Plan}
use Rattle.schedule.specs.Repeats.{most_marks, repeat_marks}

-- at most how many marks there are: one for each intervention, each bookmark and each generation at
-- which something repeats, and two for each branch
abbrev pub marks_at_most : Plan → ℕ
marks_at_most p =
    length p.interventions + length p.bookmarks + 2 * length p.branches + repeat_marks p

-- whether something may repeat in a document after an edit
abbrev pub asks_to_repeat : Asked → Bool
asks_to_repeat (Insert branch acts cells) = repeats acts
asks_to_repeat (Change id acts cells) = repeats acts
asks_to_repeat _ = false

-- at most how many marks repeating interventions make after an edit
abbrev pub most_repeats : Plan → Asked → ℕ
most_repeats p asked =
    if list_any (λ (i : Intervention). repeats i.acts) p.interventions || asks_to_repeat asked
    then most_marks else 0

-- at most how many marks there are after an edit, with one more intervention, one more bookmark and
-- one more branch
abbrev pub marks_at_most_after : Plan → Asked → ℕ
marks_at_most_after p asked =
    (length p.interventions + 1) + (length p.bookmarks + 1) + 2 * (length p.branches + 1)
    + most_repeats p asked
