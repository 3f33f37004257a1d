use Rattle.desk_script.proofs.Names.{arith, skip_lines, ◌<◌}
use Rattle.desk_script.proofs.Pushed.{pushed-more}
use Rattle.desk_script.proofs.scripting.push_skipped.Goals as goal

pub loop-skipped-preserved : goal.loop-skipped-preserved
loop-skipped-preserved c =
    let below : c.loop-skipped.skipped < c.args.id = omega arith in
    pushed-more (skip_lines c.args.adds.now c.args.removes.now) _ c.loop-skipped.script.items _ c.loop-skipped.skipped
    c.args.id _ below c.in_ok-push_parts.ensures c.loop-skipped.invariant
