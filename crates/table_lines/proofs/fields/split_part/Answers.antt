use Rattle.table_lines.proofs.Names.{arith, common_steps, sym, ◌∙◌}
use Rattle.table_lines.proofs.Splits.{parts-some, parts-none}
use Rattle.table_lines.proofs.fields.split_part.Goals as goal

pub returns-in-Some : goal.returns-in-Some
returns-in-Some c =
    let split = parts-some c.args.text.now c.in-Some.end (sym c.find_byte.ensures ∙ c.in-Some.is) in
    grind (arith, common_steps, split)

pub returns-in-None : goal.returns-in-None
returns-in-None c =
    let whole = parts-none c.args.text.now (sym c.find_byte.ensures ∙ c.in-None.is) in
    grind (arith, common_steps, whole)
