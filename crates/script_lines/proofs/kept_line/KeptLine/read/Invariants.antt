use Rattle.script_lines.proofs.Names.{ahead, bytes_left, ◌≡◌}
use Rattle.script_lines.proofs.Reading.{IsReading}
use Rattle.script_lines.proofs.kept_line.KeptLine.read.Given as goal

abbrev pub invariant-loop-byte : goal.invariant-loop-byte
invariant-loop-byte g l = record {
  reading : IsReading (ahead (g.R.Read.remaining l.fn.reader.inner) l.fn.reader.given l.fn.input) (ahead (g.R.Read.remaining l.reader.inner) l.reader.given l.input) l.fn.text l.text l.self l.empty;
  worked : l.reader.failures ≡ l.fn.reader.failures;
}

abbrev pub decreases-loop-byte : goal.decreases-loop-byte
decreases-loop-byte g l = bytes_left l.reader.given l.input
