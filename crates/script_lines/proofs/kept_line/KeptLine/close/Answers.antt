use Rattle.script_lines.proofs.Names.{Cut, ap, length, refl, rules, take, trim_end, ◌∙◌, ◌≡◌, ◌≢◌}
use Rattle.script_lines.proofs.Trims.{take_trim_end}
use Rattle.script_lines.proofs.Keeping.{says_cut, says_kept}
use Rattle.script_lines.proofs.kept_line.KeptLine.close.Goals as goal

pub returns-then-ne : goal.returns-then-ne
returns-then-ne c = λ bytes t.
    let line = c.args.self.now in
    let short : line.tail ≢ Cut = search rules in
    let trimmed = c.trim_end-len.ensures ∙ ap trim_end c.deref.ensures.value in
    let kept : c.truncate.new.self.items ≡ trim_end line.kept.items = c.truncate.ensures.items ∙ ap (λ t. take (length t) line.kept.items) trimmed ∙ take_trim_end line.kept.items in
    says_kept line _ bytes short refl kept t

pub returns-else-ne : goal.returns-else-ne
returns-else-ne c =
    let cut : c.args.self.now.tail ≡ Cut = search rules in
    λ bytes t. says_cut _ bytes cut t
