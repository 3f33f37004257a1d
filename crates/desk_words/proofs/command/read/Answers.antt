use Rattle.clap.proofs.WalkLemmas.{one_text-rows}
use Rattle.clap.specs.Walk.{one_of}
use Rattle.clap.specs.Words.{found_of}
use Rattle.desk_words.proofs.Found.{none_found, number_found}
use Rattle.desk_words.specs.Command.{IsNumberFor, Says, text_of}
use Rattle.desk_words.specs.Setting.{number_of, progress_name}
use Rattle.desk_words.specs.declared.settings.Options.{Options}
use Rattle.desk_words.specs.declared.settings.Setting.{Setting}
use Rattle.desk_words.specs.declared.settings.Setting.TheVariants.{Facts, Squares, Workers}
use Rattle.std.proofs.Common.{ap, map, subst, ◌∙◌}
use Rattle.std.proofs.lemmas.Result.{err_from_is_err_and}
use Rattle.desk_words.proofs.command.read.Goals as goal

pub returns-in_err-number : goal.returns-in_err-number
returns-in_err-number g c =
    let parse = c.in_ok-matches.ensures in
    let p = err_from_is_err_and c.from_residual-in_err-number.result c.from_residual-in_err-number.ensures.1 in
    rw (p.1, p.2)
    (none_found Workers (map g.S.AsStr.text c.args.words.now) (found_of c.in_ok-matches.matches) _ parse.rows parse.faults c.in_err-number.ensures)

pub returns-in_err-number-2 : goal.returns-in_err-number-2
returns-in_err-number-2 g c =
    let parse = c.in_ok-matches.ensures in
    let p = err_from_is_err_and c.from_residual-in_err-number-2.result c.from_residual-in_err-number-2.ensures.1 in
    rw (p.1, p.2)
    (none_found Facts (map g.S.AsStr.text c.args.words.now) (found_of c.in_ok-matches.matches) _ parse.rows parse.faults c.in_err-number-2.ensures)

pub returns-in_err-number-3 : goal.returns-in_err-number-3
returns-in_err-number-3 g c =
    let parse = c.in_ok-matches.ensures in
    let p = err_from_is_err_and c.from_residual-in_err-number-3.result c.from_residual-in_err-number-3.ensures.1 in
    rw (p.1, p.2)
    (none_found Squares (map g.S.AsStr.text c.args.words.now) (found_of c.in_ok-matches.matches) _ parse.rows parse.faults c.in_err-number-3.ensures)

pub returns : goal.returns
returns g c =
    let words = map g.S.AsStr.text c.args.words.now in
    let found = found_of c.in_ok-matches.matches in
    let parse = c.in_ok-matches.ensures in
    let options : Options = record { workers = c.in_ok-number.field-0; facts = c.in_ok-number-2.field-0; squares = c.in_ok-number-3.field-0; progress = c.asks_for_progress.result } in
    let chosen : (s : Setting) → IsNumberFor s (text_of s words) (number_of s options) = λ s. elim s as (λ t. IsNumberFor t (text_of t words) (number_of t options)) [
      | Workers ↦ number_found Workers words found _ parse.rows c.in_ok-number.ensures
      | Facts ↦ number_found Facts words found _ parse.rows c.in_ok-number-2.ensures
      | Squares ↦ number_found Squares words found _ parse.rows c.in_ok-number-3.ensures
    ] in
    record {
      taken = parse.faults;
      numbers = chosen;
      progress = subst (λ text. Says text c.asks_for_progress.result) (one_text-rows found progress_name ∙ ap (one_of progress_name) parse.rows) c.asks_for_progress.ensures;
    }
