use Rattle.decision_tree.proofs.Names.{Some, ap, length, option_copied, slice_get, sym, ◌-◌, ◌∙◌, ◌≡◌}
use Rattle.decision_tree.proofs.LastLine.{last_number-some}
use Rattle.decision_tree.proofs.tree_reader.last_line.Goals as goal

pub returns-in-Some : goal.returns-in-Some
returns-in-Some c =
    let lines = c.args.text.now.section.lines in
    let last : slice_get lines (length lines - 1) ≡ Some c.in-Some.line.now = ap (λ ls. slice_get ls (length ls - 1)) (sym c.lines.ensures) ∙ sym c.last.ensures.value ∙ ap option_copied c.in-Some.is in
    c.number.ensures ∙ last_number-some c.args.text.now.section.opened lines c.in-Some.line.now last
