use Rattle.std.proofs.Common.{◌≡◌, false}
use Rattle.script_lines.proofs.Shared.Told.{IsUnderWay}
use Rattle.script_lines.proofs.writer.CountedWriter.tell.Given as goal

abbrev pub invariant-loop : goal.invariant-loop
invariant-loop g l = IsUnderWay (g.W.Write.contents l.fn.self.inner) (g.W.Write.contents l.self-inside.inner) l.bytes l.rest × (l.self-inside.failures ≡ l.fn.self.failures) × (l.self-inside.flushed ≡ false)
