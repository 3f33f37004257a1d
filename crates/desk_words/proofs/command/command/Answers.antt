-- The arguments are those of `desk`, in its order.
use Rattle.clap.specs.Built.{AddsArg}
use Rattle.clap.specs.Simple.{app_of, with_rule}
use Rattle.clap.specs.Walk.{Rule}
use Rattle.clap.specs.Words.{App}
use Rattle.clap.specs.declared.builder.arg.Arg.{Arg}
use Rattle.clap.specs.declared.builder.command.Command.{Command}
use Rattle.desk_words.specs.Command.{IsOption, desk, nameless_app, progress_rule, setting_rule}
use Rattle.desk_words.specs.declared.settings.Setting.TheVariants.{Facts, Squares, Workers}
use Rattle.std.proofs.Common.{ap₂, codes, rules, ◌∙◌, ◌≡◌}
use Rattle.std.proofs.lemmas.Result.{IfOk-weaker}
use Rattle.desk_words.proofs.command.command.Goals as goal

adds : {a b : Command} {x : Arg} (rule : Rule) (app : App) → AddsArg a x b → IsOption rule x → app_of a ≡ app → app_of b ≡ with_rule app rule
adds rule app added is same = added.shape is.own ∙ ap₂ with_rule same is.same

pub returns : goal.returns
returns c =
    let first = adds (setting_rule Workers) (nameless_app (codes "desk")) c.in_ok-arg.ensures c.option.ensures (search rules) in
    let second = adds (setting_rule Facts) _ c.in_ok-arg-2.ensures c.option-2.ensures first in
    let third = adds (setting_rule Squares) _ c.in_ok-arg-3.ensures c.option-3.ensures second in
    IfOk-weaker c.arg-4.result _ (λ command. app_of command ≡ desk) (λ command added. adds progress_rule _ added c.progress_option.ensures third) c.arg-4.ensures
