use Rattle.script_lines.proofs.Names.{Cut, ap, rules, words, ◌∙◌, ◌≢◌}
use Rattle.script_lines.proofs.Keeping.{kept_words}
use Rattle.script_lines.proofs.kept_line.KeptLine.words.Goals as goal

pub returns-else-eq : goal.returns-else-eq
returns-else-eq c = λ says s.
    let short : c.args.self.now.tail ≢ Cut = search rules in
    ap words c.deref.ensures.value ∙ kept_words c.args.self.now says short s
