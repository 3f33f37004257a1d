use Rattle.table_lines.proofs.Names.{arith, common_steps, sym, ◌∙◌}
use Rattle.table_lines.proofs.variables.Variables.member_set.Goals as goal

pub returns-in-Some-named : goal.returns-in-Some-named
returns-in-Some-named c =
    let low = c.requires.below c.args.member.now c.in-Some-named.variable (sym c.named.ensures ∙ c.in-Some-named.is) in
    grind (arith, common_steps, low)
