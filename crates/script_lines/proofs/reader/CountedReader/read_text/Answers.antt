use Rattle.script_lines.proofs.Names.{ap, false, option_map, rules, sym, take, true, ◌∙◌, ◌≡◌, ◌≢◌}
use Rattle.script_lines.specs.declared.kept_line.LineFound.TheVariants.{End, Last, Line}
use Rattle.script_lines.proofs.Shared.Known.{on_err}
use Rattle.script_lines.proofs.Shared.Taking.{text_breaks, text_ends_at, text_goes_on_at, text_stops_at, text_stops_last_at, found_falls}
use Rattle.script_lines.proofs.reader.CountedReader.read_text.Goals as goal

pub returns-in_err-found-clause-err : goal.returns-in_err-found-clause-err
returns-in_err-found-clause-err g c = on_err _ _ (text_breaks _ _ _ _ _ _ c.text.invariant.so_far c.in_err-found.ensures.err)

pub returns-then-is_end-clause-text : goal.returns-then-is_end-clause-text
returns-then-is_end-clause-text g c =
    let some : c.in_ok-found.found ≢ End = search rules in
    let is_last : c.in_ok-found.found ≡ Last → c.eq-last.result ≡ true = λ e. search rules in
    let is_not : c.in_ok-found.found ≡ Line → c.eq-last.result ≡ false = λ e. search rules in
    let cut = c.truncate.ensures ∙ ap (λ n. option_map (take n) c.take_line.new.text) c.len-before.ensures in
    text_ends_at _ _ _ _ _ _ _ _ _ _ _ _ some is_last is_not cut c.in_ok-found.ensures.found (λ says s. sym c.if-is_end.true ∙ c.is_end.ensures says s) c.in_ok-found.ensures.number c.text.invariant.so_far

pub returns-then-last-clause-text : goal.returns-then-last-clause-text
returns-then-last-clause-text g c =
    let last : c.in_ok-found.found ≡ Last = search rules in
    text_stops_last_at _ _ _ _ _ _ _ _ _ last c.in_ok-found.ensures.found (λ says s. sym c.if-is_end.false ∙ c.is_end.ensures says s) c.text.invariant.so_far

pub text-preserved : goal.text-preserved
text-preserved g c =
    let some : c.in_ok-found.found ≢ End = search rules in
    let other : c.in_ok-found.found ≢ Last = search rules in
    record {
      so_far = text_goes_on_at _ _ _ _ _ _ _ _ _ _ some other c.in_ok-found.ensures.found (λ says s. sym c.if-is_end.false ∙ c.is_end.ensures says s) c.in_ok-found.ensures.number c.text.invariant.so_far;
      worked = c.in_ok-found.ensures.worked ∙ c.text.invariant.worked;
    }

pub text-smaller : goal.text-smaller
text-smaller g c =
    let some : c.in_ok-found.found ≢ End = search rules in
    found_falls _ _ _ _ _ _ some c.in_ok-found.ensures.found

pub returns-then-eq-clause-text : goal.returns-then-eq-clause-text
returns-then-eq-clause-text g c =
    let ends : c.in_ok-found.found ≡ End = search rules in
    text_stops_at _ _ _ _ _ _ _ _ _ ends c.in_ok-found.ensures.found c.text.invariant.so_far
