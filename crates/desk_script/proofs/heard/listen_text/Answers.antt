use Rattle.desk_script.proofs.Names.{arith, on_err}
use Rattle.desk_script.proofs.Hearing.{reads-ended, reads-open, reads-most, breaks-open_text}
use Rattle.desk_script.proofs.heard.listen_text.Goals as goal

pub returns-in_err-read_text-clause-err : goal.returns-in_err-read_text-clause-err
returns-in_err-read_text-clause-err g c = grind (arith, breaks-open_text, on_err)

pub returns-in-NoEnd-clause-heard : goal.returns-in-NoEnd-clause-heard
returns-in-NoEnd-clause-heard g c = grind (arith, reads-open)

pub returns-in-NoEnd-clause-same : goal.returns-in-NoEnd-clause-same
returns-in-NoEnd-clause-same g c = reads-most c.in_ok-read_text.field-0 _ _ _ _ c.in_ok-read_text.ensures.text

pub returns-in-Ended-clause-heard : goal.returns-in-Ended-clause-heard
returns-in-Ended-clause-heard g c = grind (arith, reads-ended)

pub returns-in-Ended-clause-same : goal.returns-in-Ended-clause-same
returns-in-Ended-clause-same g c = reads-most c.in_ok-read_text.field-0 _ _ _ _ c.in_ok-read_text.ensures.text
