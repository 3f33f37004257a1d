use Rattle.std.proofs.Common.{◌≡◌, length}
use Rattle.rule_file.specs.RuleFile.{section_of}
use Rattle.rule_file.proofs.sections.find_section.Given as goal

abbrev pub invariant-loop-line : goal.invariant-loop-line
invariant-loop-line l = section_of l.lines ≡ section_of l.fn.lines

abbrev pub decreases-loop-line : goal.decreases-loop-line
decreases-loop-line l = length l.lines
