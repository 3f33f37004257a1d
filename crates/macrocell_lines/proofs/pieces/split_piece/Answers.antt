use Rattle.macrocell_lines.proofs.Names.{arith, common_steps, sym, ◌==◌, ◌∙◌}
use Rattle.text_lines.proofs.Shared.Pieces.{split-some, split-none}
use Rattle.macrocell_lines.proofs.pieces.split_piece.Goals as goal

pub returns-in-Some : goal.returns-in-Some
returns-in-Some c =
    let split = split-some (λ b. b == c.args.separator) c.args.text.now c.in-Some.end (sym c.find_byte.ensures ∙ c.in-Some.is) in
    grind (arith, common_steps, split)

pub returns-in-None : goal.returns-in-None
returns-in-None c = split-none (λ b. b == c.args.separator) c.args.text.now (sym c.find_byte.ensures ∙ c.in-None.is)
