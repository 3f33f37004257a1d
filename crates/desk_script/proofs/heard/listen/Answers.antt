use Rattle.std.proofs.Common.{true, false}
use Rattle.desk_script.proofs.Hearing.{falls-behind}
use Rattle.desk_script.proofs.heard.listen.Goals as goal

pub returns-in-Line-clause-falls : goal.returns-in-Line-clause-falls
returns-in-Line-clause-falls g c =
    let found = rw c.in-Line.is at c.in_ok-next_line.ensures.found in
    falls-behind c.listen_line.result _ false c.args.reader.now.ahead c.next_line.new.self.ahead
    c.listen_line.new.reader.ahead c.next_line.new.line found c.listen_line.ensures.same

pub returns-in-Last-clause-falls : goal.returns-in-Last-clause-falls
returns-in-Last-clause-falls g c =
    let found = rw c.in-Last.is at c.in_ok-next_line.ensures.found in
    falls-behind c.listen_line-in-Last.result _ true c.args.reader.now.ahead c.next_line.new.self.ahead
    c.listen_line-in-Last.new.reader.ahead c.next_line.new.line found c.listen_line-in-Last.ensures.same
