use Rattle.std.proofs.Common.{◌≡◌, ◌++◌, length}
use Rattle.rule_file.specs.RuleFile.{section_lines}
use Rattle.rule_file.proofs.sections.take_section.Given as goal

abbrev pub invariant-loop-line : goal.invariant-loop-line
invariant-loop-line l = l.taken.items ++ section_lines l.lines ≡ section_lines l.fn.lines

abbrev pub decreases-loop-line : goal.decreases-loop-line
decreases-loop-line l = length l.lines
