use Rattle.script_lines.proofs.Names.{arith, common_steps}
use Rattle.script_lines.proofs.Keeping.{holds_blank, holds_more, holds_cut}
use Rattle.script_lines.proofs.kept_line.KeptLine.add.Goals as goal

pub returns-then-not-is_blank-clause-holds : goal.returns-then-not-is_blank-clause-holds
returns-then-not-is_blank-clause-holds c = λ bytes t. holds_more _ _ bytes _ c.in-Blank.is (grind (arith, common_steps)) t

pub returns-else-not-is_blank-clause-holds : goal.returns-else-not-is_blank-clause-holds
returns-else-not-is_blank-clause-holds c = λ bytes t. holds_blank _ _ bytes _ c.in-Blank.is (grind (arith, common_steps)) t

pub returns-in-Cut-clause-holds : goal.returns-in-Cut-clause-holds
returns-in-Cut-clause-holds c = λ bytes t. holds_cut _ _ bytes _ c.in-Cut.is t
