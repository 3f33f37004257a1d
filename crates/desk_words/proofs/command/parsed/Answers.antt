use Rattle.clap.specs.Words.{App, HasMatchesOf, is_simple}
use Rattle.desk_words.specs.Command.{desk}
use Rattle.std.proofs.Common.{map, refl, subst, true, ◌≡◌}
use Rattle.std.proofs.lemmas.Result.{IfOk-weaker}
use Rattle.desk_words.proofs.command.parsed.Goals as goal

desk_is_simple : is_simple desk ≡ true
desk_is_simple = refl

pub returns-clause-rows : goal.returns-clause-rows
returns-clause-rows g c =
    let words = map g.S.AsStr.text c.args.words.now in
    IfOk-weaker c.try_get_matches_from.result _ _
    (λ m has. (subst (λ (app : App). HasMatchesOf app words m) c.in_ok-command.ensures has desk_is_simple).0)
    c.try_get_matches_from.ensures.matches
