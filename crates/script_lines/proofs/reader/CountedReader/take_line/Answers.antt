use Rattle.script_lines.proofs.Names.{StopsInLine, TakesInto, ahead, refl, subst}
use Rattle.script_lines.proofs.Shared.Ahead.{ahead_is}
use Rattle.script_lines.proofs.Shared.Known.{on_err, is_drawn}
use Rattle.script_lines.proofs.Shared.Taking.{takes_into, stops_in_line}
use Rattle.script_lines.proofs.reader.CountedReader.take_line.Goals as goal

pub returns-then-ne-clause-found : goal.returns-then-ne-clause-found
returns-then-ne-clause-found g c =
    let h = c.in_ok-found.ensures.line in
    let new = ahead (g.R.Read.remaining c.read.new.reader.inner) c.read.new.reader.given c.read.new.input in
    subst (λ a. TakesInto c.in_ok-found.found a new c.read.new.self c.args.text.now c.read.new.text) (ahead_is _ _ c.self.view_is)
    (takes_into _ _ _ _ _ _ h.0 h.1 h.2 h.3)

pub returns-in_err-found-clause-err : goal.returns-in_err-found-clause-err
returns-in_err-found-clause-err g c =
    let h = c.in_err-found.ensures.err in
    let new = ahead (g.R.Read.remaining c.read.new.reader.inner) c.read.new.reader.given c.read.new.input in
    on_err _ _ (subst (λ a. StopsInLine a new) (ahead_is _ _ c.self.view_is) (stops_in_line _ _ h.0 h.1 h.2))

pub returns-in_err-found-clause-drawn : goal.returns-in_err-found-clause-drawn
returns-in_err-found-clause-drawn g c =
    let new = ahead (g.R.Read.remaining c.read.new.reader.inner) c.read.new.reader.given c.read.new.input in
    on_err _ _ (is_drawn g.R.Read.remaining (record { inner = c.read.new.reader.inner; ahead = new; lines = c.self.inside.lines; given = c.read.new.reader.given; failures = c.read.new.reader.failures })
    c.read.new.input refl c.in_err-found.ensures.failed.0)
