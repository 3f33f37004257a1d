use Rattle.desk_script.proofs.heard.read_request.Goals as goal

pub returns-in-Err : goal.returns-in-Err
returns-in-Err c = c.in-Err.ensures.err c.args.number
