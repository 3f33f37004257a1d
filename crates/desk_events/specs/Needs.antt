-- What a desk needs.
use Rattle.std.specs.Prelude.{Bool, false, ◌&&◌, ◌==◌}
use Rattle.desk_events.specs.declared.mark.Mark.{Mark}
use Rattle.desk_events.specs.declared.need.Need.{Need}
use Rattle.desk_events.specs.declared.need.Need.TheVariants.{Step, View}

-- the step to a mark
abbrev pub step_to : Mark → Need
step_to m = Step m.branch m.generation

-- whether two needs are one
abbrev pub is_need : Need → Need → Bool
is_need (Step b m) (Step c n) = b == c && m == n
is_need (Step b m) (View id) = false
is_need (View id) (Step b m) = false
is_need (View id) (View other) = id == other
