use Rattle.std.proofs.Common.{◌≢◌, ◌<◌, true, false, refl, rules}
use Rattle.script_lines.specs.Ahead.{Ahead}
use Rattle.script_lines.specs.Script.{FindsLine}
use Rattle.script_lines.specs.declared.kept_line.LineFound.{LineFound}
use Rattle.script_lines.specs.declared.kept_line.LineFound.TheVariants as found
use Rattle.script_lines.specs.declared.kept_line.KeptLine.{KeptLine}
use Rattle.script_lines.proofs.Shared.Taking.{line_falls}
use Rattle.script_lines_tests.proofs.tests.lines.put_lines.Goals as goal

finds_falls : (it : LineFound) (old new : Ahead) (kept : KeptLine) → it ≢ found.End → FindsLine it old new kept → new.room < old.room
finds_falls found.Line old new kept x t = line_falls false old new kept t
finds_falls found.Last old new kept x t = line_falls true old new kept t
finds_falls found.End old new kept x t = absurd (x refl)

pub loop-found-smaller : goal.loop-found-smaller
loop-found-smaller g c =
    let some : c.in-Ok.found ≢ found.End = search rules in
    finds_falls _ _ _ _ some c.in-Ok.ensures.found
