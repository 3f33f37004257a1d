use Rattle.desk_script.proofs.Names.{Format, IsReadAs, List, None, Option, Some, ap, asked_by, command_of_words, format_of, format_of_words, subst, sym, words, ℕ, ◌∙◌, ◌≡◌}
use Rattle.desk_script.proofs.Hearing.{if_ok_map, on_err_map, hears-command, hears-last_text, hears-text, breaks-text}
use Rattle.desk_script.proofs.Lacking.{long-lacks}
use Rattle.desk_script.proofs.heard.listen_line.Goals as goal

-- the format that bytes name is that of the line whose words they have
format-is : (bytes says : List ℕ) (format : Option Format) → format ≡ format_of bytes → words bytes ≡ words says
    → format_of says ≡ format
format-is bytes says format is same = sym (is ∙ ap format_of_words same)

pub returns-in_default-clause-heard : goal.returns-in_default-clause-heard
returns-in_default-clause-heard g c = λ start t.
    let number = c.line_number-number.result in
    let lacks = long-lacks t.line.says number (c.in_default.ensures t.line.says t.says) in
    hears-command start _ _ c.args.last _ c.args.reader.now.lines number c.line_number-number.ensures t
    (sym (c.if-is_passed_over.ensures t.line.says t.says)) lacks.0 lacks.1

pub returns-in_default-read_format-clause-heard : goal.returns-in_default-read_format-clause-heard
returns-in_default-read_format-clause-heard g c = λ start t.
    let number = c.line_number-number.result in
    let request = c.read_request-request.result in
    let same = c.in-Some.ensures t.line.says t.says in
    hears-command start _ _ c.args.last request c.args.reader.now.lines number c.line_number-number.ensures t
    (sym (c.if-is_passed_over.ensures t.line.says t.says))
    (format-is c.in-Some.words.now t.line.says None c.in_default-read_format.ensures same)
    (subst (λ ws. IsReadAs request (asked_by number (command_of_words ws))) same c.read_request-request.ensures)

pub returns-then-last-clause-heard : goal.returns-then-last-clause-heard
returns-then-last-clause-heard g c = λ start t.
    let format = c.in-Some-read_format.format in
    hears-last_text start _ format _ c.args.last c.args.reader.now.lines c.line_number-number.result c.if-last.true
    c.line_number-number.ensures t (sym (c.if-is_passed_over.ensures t.line.says t.says))
    (format-is c.in-Some.words.now t.line.says (Some format) c.in-Some-read_format.ensures
    (c.in-Some.ensures t.line.says t.says))

pub returns-clause-heard : goal.returns-clause-heard
returns-clause-heard g c =
    if_ok_map c.listen_text.result _ _ (λ heard h start t.
    let format = c.in-Some-read_format.format in
    hears-text start c.args.reader.now.ahead c.listen_text.new.reader.ahead format c.args.line.now c.args.last
    heard.request heard.last c.args.reader.now.lines _ c.if-last.false t
    (sym (c.if-is_passed_over.ensures t.line.says t.says))
    (format-is c.in-Some.words.now t.line.says (Some format) c.in-Some-read_format.ensures
    (c.in-Some.ensures t.line.says t.says)) h) c.listen_text.ensures.heard

pub returns-clause-err : goal.returns-clause-err
returns-clause-err g c =
    on_err_map c.listen_text.result _ _ (λ b start t.
    let format = c.in-Some-read_format.format in
    breaks-text start c.args.reader.now.ahead c.listen_text.new.reader.ahead format c.args.line.now c.args.last
    c.args.reader.now.lines c.if-last.false t (sym (c.if-is_passed_over.ensures t.line.says t.says))
    (format-is c.in-Some.words.now t.line.says (Some format) c.in-Some-read_format.ensures
    (c.in-Some.ensures t.line.says t.says)) b) c.listen_text.ensures.err
