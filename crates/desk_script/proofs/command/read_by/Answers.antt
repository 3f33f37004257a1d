use Rattle.desk_script.proofs.Names.{LineCanLackMemory, OnErr, rules, subst, sym, words}
use Rattle.desk_script.proofs.Lacking.{looked}
use Rattle.desk_script.proofs.command.read_by.Goals as goal

pub returns-else-eq-4-clause-err : goal.returns-else-eq-4-clause-err
returns-else-eq-4-clause-err c =
    let same = looked c.args.word.now (words c.args.rest.now) (search rules) (search rules) (search rules)
    (search rules) in
    subst (λ command. OnErr c.read_looking.result (LineCanLackMemory command)) (sym same) c.read_looking.ensures.err
