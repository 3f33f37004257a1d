use Rattle.script_lines.proofs.Names.{Some, [], ap, option_copied, slice_get, sym, ◌∙◌, ◌≡◌}
use Rattle.script_lines.proofs.Keeping.{get-none, passed_blank, passed_first}
use Rattle.script_lines.proofs.kept_line.KeptLine.is_passed_over.Goals as goal

pub returns-in-None : goal.returns-in-None
returns-in-None c = λ says s.
    let none : c.args.self.now.kept.items ≡ [] = get-none _ (ap (λ l. slice_get l 0) (sym c.deref.ensures.value) ∙ sym c.first.ensures.value ∙ ap option_copied c.in-None.is) in
    passed_blank c.args.self.now says none s

pub returns-in-Some : goal.returns-in-Some
returns-in-Some c = λ says s.
    let first : Some c.in-Some.first.now ≡ slice_get c.args.self.now.kept.items 0 = c.in-Some.ensures.value ∙ ap (λ l. slice_get l 0) c.deref.ensures.value in
    passed_first c.args.self.now says _ first s
