use Rattle.script_lines.proofs.Names.{Keeps, ◌≡◌}
use Rattle.script_lines.proofs.writer.CountedWriter.flush.Given as goal

abbrev pub invariant-loop : goal.invariant-loop
invariant-loop g l = Keeps (g.W.Write.contents l.fn.self.inner) (g.W.Write.contents l.self-inside.inner) × (l.self-inside.failures ≡ l.fn.self.failures) × (l.self-inside.flushed ≡ l.fn.self.flushed)
