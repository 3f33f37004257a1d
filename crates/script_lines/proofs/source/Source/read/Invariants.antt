use Rattle.script_lines.proofs.Names.{Keeps, ◌≡◌}
use Rattle.script_lines.proofs.source.Source.read.Given as goal

abbrev pub invariant-loop : goal.invariant-loop
invariant-loop g l = Keeps (g.R.Read.remaining l.fn.self.inner) (g.R.Read.remaining l.self.inner) × (l.self.failures ≡ l.fn.self.failures) × (l.self.given ≡ l.fn.self.given)
