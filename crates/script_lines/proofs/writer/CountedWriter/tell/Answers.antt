use Rattle.script_lines.proofs.Names.{ap, arith, common_steps, drop, subst, sym, ◌∙◌, ◌≡◌}
use Rattle.script_lines.proofs.Shared.Told.{goes_on, stays, IsUnderWay}
use Rattle.script_lines.proofs.writer.CountedWriter.tell.Goals as goal
use Rattle.script_lines.proofs.writer.CountedWriter.tell.Goals.{in-Ok, in-Err+else-ne}

pub loop-preserved : goal.loop-preserved
loop-preserved g c =
    let old = g.W.Write.contents c.args.self.now.inner in
    let mid = g.W.Write.contents c.loop.self-inside.inner in
    let new = g.W.Write.contents c.write.new.self in
    elim c.match-write.branch [
      | in-Ok w ↦
          let moved : c.match-write.rest.now ≡ drop w.in-Ok.n c.loop.rest.now = ap (λ r. r.now) w.rest-is ∙ grind (arith, common_steps) in
          (goes_on old mid new _ _ _ w.in-Ok.n moved c.loop.invariant.0 w.in-Ok.ensures.bytes, c.loop.invariant.1, c.loop.invariant.2)
      | in-Err+else-ne w ↦ (subst (λ r. IsUnderWay old new c.args.bytes.now r.now) (sym w.rest-is) (stays old mid new _ _ c.loop.invariant.0 w.in-Err.ensures.bytes), c.loop.invariant.1, c.loop.invariant.2)
    ]
