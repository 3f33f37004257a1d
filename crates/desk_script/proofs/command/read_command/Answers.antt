use Rattle.desk_script.proofs.Names.{LineCanLackMemory, OnErr, command_of_words, subst, sym}
use Rattle.desk_script.proofs.command.read_command.Goals as goal

pub returns-clause-err : goal.returns-clause-err
returns-clause-err c = subst (λ ws. OnErr c.read_by.result (LineCanLackMemory (command_of_words ws)))
    (sym c.in-Some.ensures.split) c.read_by.ensures.err
