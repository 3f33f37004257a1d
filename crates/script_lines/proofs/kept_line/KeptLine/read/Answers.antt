use Rattle.script_lines.proofs.Names.{ahead, false, rules, ◌==◌, ◌∙◌, ◌≡◌}
use Rattle.script_lines.proofs.Shared.Ahead.{takes_byte, takes_kept}
use Rattle.script_lines.proofs.Reading.{reads_on}
use Rattle.script_lines.proofs.kept_line.KeptLine.read.Goals as goal

pub loop-byte-preserved : goal.loop-byte-preserved
loop-byte-preserved g c =
    let gives = rw c.in-Some.is at c.in_ok-byte.ensures.bytes in
    let falls = rw c.in-Some.is at c.in_ok-byte.ensures.falls in
    let other : (c.in-Some.byte == 10) ≡ false = search rules in
    let mid = ahead (g.R.Read.remaining c.loop-byte.reader.inner) c.loop-byte.reader.given c.loop-byte.input in
    let new = ahead (g.R.Read.remaining c.next.new.reader.inner) c.next.new.reader.given c.next.new.self in
    record {
      reading = reads_on _ _ _ _ _ _ _ _ _ c.in-Some.byte other (takes_byte mid new c.in-Some.byte gives falls) c.push.ensures c.take_byte.ensures c.loop-byte.invariant.reading;
      worked = c.in_ok-byte.ensures.worked ∙ c.loop-byte.invariant.worked;
    }

pub returns-else-empty-clause-line : goal.returns-else-empty-clause-line
returns-else-empty-clause-line g c =
    let reading = c.loop-byte.invariant.reading in
    let gives = rw c.in_default.is at c.in_ok-byte.ensures.bytes in
    let falls = rw c.in_default.is at c.in_ok-byte.ensures.falls in
    let old = ahead (g.R.Read.remaining c.args.reader.now.inner) c.args.reader.now.given c.args.input.now in
    let mid = ahead (g.R.Read.remaining c.loop-byte.reader.inner) c.loop-byte.reader.given c.loop-byte.input in
    let new = ahead (g.R.Read.remaining c.next.new.reader.inner) c.next.new.reader.given c.next.new.self in
    (reading.seen, reading.no_line_feed, reading.grows, (takes_kept old mid new reading.seen reading.taken gives.1 falls, gives.0, reading.some c.if-empty.false, c.end_input.ensures reading.seen reading.saw))
