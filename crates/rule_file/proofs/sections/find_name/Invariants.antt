use Rattle.std.proofs.Common.{◌≡◌, length}
use Rattle.rule_file.specs.RuleFile.{named}
use Rattle.rule_file.proofs.sections.find_name.Given as goal

abbrev pub invariant-loop-line : goal.invariant-loop-line
invariant-loop-line l = named l.lines ≡ named l.fn.lines

abbrev pub decreases-loop-line : goal.decreases-loop-line
decreases-loop-line l = length l.lines
