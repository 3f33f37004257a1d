use Rattle.std.proofs.Common.{◌≡◌}
use Rattle.script_lines.proofs.Shared.Taking.{TextSoFar}
use Rattle.script_lines.proofs.reader.CountedReader.read_text.Given as goal

abbrev pub invariant-text : goal.invariant-text
invariant-text g l = record {
  so_far : TextSoFar l.fn.self.ahead l.self.ahead l.text l.fn.self.lines l.self.lines;
  worked : l.self.failures ≡ l.fn.self.failures;
}

abbrev pub decreases-text : goal.decreases-text
decreases-text g l = l.self.ahead.room
