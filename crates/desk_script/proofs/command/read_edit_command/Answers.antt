use Rattle.desk_script.proofs.Names.{edit_by, on_err, words}
use Rattle.desk_script.proofs.Lacking.{edit-lacks}
use Rattle.desk_script.proofs.command.read_edit_command.Goals as goal

pub returns-in_err-edit-clause-err : goal.returns-in_err-edit-clause-err
returns-in_err-edit-clause-err c =
    on_err c.from_residual.result _ (edit-lacks (edit_by c.args.word.now (words c.args.rest.now)))
