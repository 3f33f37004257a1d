use Rattle.desk_words.proofs.Requests.{reads_refused, reads_taken}
use Rattle.std.proofs.Common.{map}
use Rattle.desk_words.proofs.words.options.Goals as goal

pub returns-in-Ok-clause-reads : goal.returns-in-Ok-clause-reads
returns-in-Ok-clause-reads g c = reads_taken (map g.S.AsStr.text c.args.words.now) c.in-Ok.options c.in-Ok.ensures

pub returns-in-Err-clause-reads : goal.returns-in-Err-clause-reads
returns-in-Err-clause-reads g c = reads_refused (map g.S.AsStr.text c.args.words.now) c.in-Err.error c.fault_of.result c.in-Err.ensures c.fault_of.ensures
