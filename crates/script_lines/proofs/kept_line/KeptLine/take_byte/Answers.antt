use Rattle.std.proofs.Common.{◌≡◌, ◌==◌, ◌∙◌, false, rules}
use Rattle.script_lines.proofs.Reading.{saw_more, saw_return}
use Rattle.script_lines.proofs.kept_line.KeptLine.take_byte.Goals as goal

pub returns-then-byte-ne13 : goal.returns-then-byte-ne13
returns-then-byte-ne13 c =
    let other : (c.args.byte == 13) ≡ false = search rules in
    λ seen s. saw_more _ seen _ (c.push.ensures.waits ∙ other) other (c.push.ensures.took _ (c.take_waiting.ensures seen s))

pub returns-else-byte-ne13 : goal.returns-else-byte-ne13
returns-else-byte-ne13 c = λ seen s. saw_return _ seen _ (search rules) (search rules) (c.take_waiting.ensures seen s)
