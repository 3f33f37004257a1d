use Rattle.macrocell_lines.proofs.Names.{BeginsWithNodes, codes, nat_eq, rules, said_by, starts_with, subst, sym, true, ◌∷◌, ◌≡◌}
use Rattle.text_lines.specs.Lines.{says}
use Rattle.macrocell_lines.proofs.PassedLines.{wants-behind}
use Rattle.macrocell_lines.proofs.read.read_macrocell.Goals as goal

pub returns-in-Some-clause-want : goal.returns-in-Some-clause-want
returns-in-Some-clause-want c = λ h.
    let first = c.in-Some.first.now in
    let lines = c.next.new.self in
    let all : says c.args.text.now ≡ first ∷ lines = search rules in
    let is : starts_with nat_eq first (codes "[M2]") ≡ true = search rules in
    subst (BeginsWithNodes said_by) (sym all) (wants-behind first lines is (c.read_lines.ensures.want h))
