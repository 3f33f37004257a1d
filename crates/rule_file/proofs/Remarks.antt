-- Lines that mean the same, however they are written: what the laws say.
use Rattle.std.proofs.Common.{◌+◌, [], ◌∷◌, ◌++◌, sym, ◌∙◌, ap, refl}
use Rattle.text_lines.specs.Blanks.{trim}
use Rattle.text_lines.specs.LineEnds.{with_carriage_returns}
use Rattle.text_lines.specs.Lines.{strip_carriage_return, says}
use Rattle.text_lines.proofs.Shared.LineEnds.{no_line_feed-append, says-append, says-between_blanks, says-line, says-returns}
use Rattle.rule_file.specs.RuleFile.{named, numbered_from}
use Rattle.rule_file.specs.Laws.{BlanksDoNotMatter, CommentsDoNotMatter, LineEndsDoNotMatter, LinesSayAll, RemarksDoNotMatter}
use Rattle.rule_file.proofs.Comments.{opens-comment, remark-silent, said-comment}
use Rattle.rule_file.proofs.Saying.{file_by, say, say_same-silent, section-alike, seen-behind, with_section}

pub lines_say_all : LinesSayAll
lines_say_all text other h = ap (λ said. file_by (named (numbered_from 1 said))) h

pub line_ends : LineEndsDoNotMatter
line_ends text h = lines_say_all (with_carriage_returns text) text (says-returns text h)

pub comments : CommentsDoNotMatter
comments before line comment after names one none closed =
    seen-behind (λ file. file) before ((line ++ 35 ∷ comment) ++ 10 ∷ after) (line ++ 10 ∷ after) names (λ n name front.
    rw (says-line (line ++ 35 ∷ comment) after (no_line_feed-append line (35 ∷ comment) one.one (refl, none)), says-line line after one.one)
    (ap (with_section name) (section-alike front n (trim (strip_carriage_return (line ++ 35 ∷ comment))) (trim (strip_carriage_return line)) (numbered_from (n + 1) (says after))
    (opens-comment line comment closed) (rw one.unended closed) (said-comment line comment one.unended)).1))

pub remarks : RemarksDoNotMatter
remarks before line after names one remark =
    seen-behind say before (line ++ 10 ∷ after) after names (λ n name front.
    let silent = remark-silent (trim (strip_carriage_return line)) remark in
    rw (says-line line after one) ((say_same-silent front n (trim (strip_carriage_return line)) (says after) silent.0 silent.1).in_next name))

pub blanks : BlanksDoNotMatter
blanks before front line back after one leading trailing =
    lines_say_all (before ++ 10 ∷ ((front ++ (line ++ back)) ++ 10 ∷ after)) (before ++ 10 ∷ (line ++ 10 ∷ after))
    (says-append before ((front ++ (line ++ back)) ++ 10 ∷ after)
    ∙ ap (λ said. says (before ++ 10 ∷ []) ++ said) (says-between_blanks front line back after leading trailing one.one one.unended)
    ∙ sym (says-append before (line ++ 10 ∷ after)))
