use Rattle.decision_tree.proofs.Names.{arith, common_steps, is_blank, sym, ◌∙◌}
use Rattle.text_lines.proofs.Shared.Pieces.{split-some, split-none}
use Rattle.decision_tree.proofs.numbers.split_piece.Goals as goal

pub returns-in-Some : goal.returns-in-Some
returns-in-Some c =
    let split = split-some is_blank c.args.text.now c.in-Some.end (sym c.first_blank.ensures ∙ c.in-Some.is) in
    grind (arith, common_steps, split)

pub returns-in-None : goal.returns-in-None
returns-in-None c = split-none is_blank c.args.text.now (sym c.first_blank.ensures ∙ c.in-None.is)
