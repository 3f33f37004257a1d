use Rattle.desk_script.proofs.Names.{ids_between, range_with_len, skip_lines, ◌-◌}
use Rattle.desk_script.proofs.Pushed.{IsGrowing}
use Rattle.desk_script.proofs.scripting.push_skipped.Given as goal

abbrev pub invariant-loop-skipped : goal.invariant-loop-skipped
invariant-loop-skipped l = IsGrowing (skip_lines l.adds l.removes) l.fn.script.items l.script.items
    (range_with_len l.skipped (l.id - l.skipped)) (ids_between l.last l.id)
