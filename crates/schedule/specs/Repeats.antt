-- How many marks the repeating interventions of a document make.
use Rattle.std.specs.Prelude.{ℕ, ◌+◌, ◌-◌, ◌^◌, Bool, nat_lt, min, max, List, fold, ◌==◌, if◌then◌else◌}
use Rattle.std.specs.List.{sum_by}
use Rattle.schedule.specs.declared.document.Intervention.{Intervention}
use Rattle.schedule.specs.declared.acts.Acts.{Acts}
use Rattle.schedule.specs.Acts.{repeats, marks_to}
use Rattle.schedule.specs.Branches.{reach}
use Rattle.schedule.specs.Plan.{Plan}

-- those of a list of interventions, where it is said how far each branch reaches
abbrev pub marks_within : (ℕ → ℕ) → List Intervention → ℕ
marks_within reaches interventions =
    sum_by (λ (i : Intervention). marks_to (reaches i.branch) i.acts) interventions

-- those of a document
abbrev pub repeat_marks : Plan → ℕ
repeat_marks p = marks_within (reach p) p.interventions

-- the most that those of a document may be
abbrev pub most_marks : ℕ
most_marks = 8192

-- there are more than these
unfoldable pub has_too_many_marks : Plan → Bool
has_too_many_marks p = nat_lt most_marks (repeat_marks p)

-- how far a branch reaches, if one of them reaches to `least` at least
abbrev pub reach_with : Plan → ℕ → ℕ → ℕ → ℕ
reach_with p extended least b =
    if extended == b then max (reach p b) least else reach p b

-- a sum with the marks of what repeats, which stays at 2^64 - 1 where it would be more
abbrev pub capped_sum : ℕ → ℕ → Acts → ℕ
capped_sum sum far acts =
    if repeats acts then min (sum + marks_to far acts) (2 ^ 64 - 1) else sum

-- such a sum over interventions
abbrev pub capped_marks : (ℕ → ℕ) → List Intervention → ℕ
capped_marks reaches interventions =
    fold (λ sum (i : Intervention). capped_sum sum (reaches i.branch) i.acts) 0 interventions

-- and if the one of an id acts then
abbrev pub capped_changed : (ℕ → ℕ) → ℕ → Acts → List Intervention → ℕ
capped_changed reaches id acts interventions =
    fold (λ sum (i : Intervention).
    capped_sum sum (reaches i.branch) (if i.id == id then acts else i.acts))
    0 interventions
