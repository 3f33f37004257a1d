use Rattle.desk_server.proofs.Names.{AnswersAtDesks, AnswersAtEach, Works, ap, ends, moment, opening_session, refl, rules, session, standing, subst, sym, wrote_is_err, wrote_is_ok, ◌+◌, ◌∙◌, ◌≡◌, ◌≢◌}
use Rattle.script_lines.specs.Input.{FailsOrFull}
use Rattle.desk_server.specs.declared.reply.Reply.TheVariants as reply
use Rattle.desk_server.proofs.Jobs.{carries_further}
use Rattle.desk_server.proofs.Noted.{at_desks, at_desks_then, at_one, notes_join, notes_none, notes_one, notes_same}
use Rattle.desk_server.proofs.Rounds.{answers_none, answers_answers, answers_finishes, answers_stops, answers_breaks, begun, begun_watched, completed, stops_front, served}
use Rattle.desk_server.proofs.Rounds.{goes_on_silent, done_silent, goes_on_told, done_last, done_bye, stops_telling, works_then, opens, bye-ends, goes-on}
use Rattle.desk_server.proofs.server.answer_commands.Goals as goal

pub script-init : goal.script-init
script-init g c = rw c.begin.ensures (record {
  answered = answers_none _ (g.P.Post.view c.args.post.now).is_prompt _ _ _ opening_session
      (session c.args.desk.now c.none-rule.result) 1
      (notes_none g.O.Onlooker.sees (moment 0 (g.P.Post.view c.args.post.now) c.args.desk.now c.args.onlooker.now)) refl
      (opens c.args.desk.now c.none-rule.result c.requires.opened c.none-rule.ensures);
  post = record { limit = refl; kind = refl; carries = c.requires.carries };
  works = record { reads = refl; writes = refl; flushed = λ h. h };
})

pub returns-in_default-clause-noted : goal.returns-in_default-clause-noted
returns-in_default-clause-noted g c =
    begun g.O.Onlooker.sees (g.P.Post.view c.args.post.now) c.args.desk.now c.args.onlooker.now
    (moment c.script.missed (g.P.Post.view c.script.post) c.script.desk c.script.onlooker) _ _ _ _
    (session c.script.desk c.script.rule) _ c.requires.opened c.script.invariant.answered

pub returns-then-is_err-clause-noted : goal.returns-then-is_err-clause-noted
returns-then-is_err-clause-noted g c =
    let h = c.script.invariant in
    let prompt = (g.P.Post.view c.args.post.now).is_prompt in
    let heard = c.in-Ok.ensures.heard in
    let s = served prompt c.in-Ok.heard.request c.in-Some.request heard.asked
    (session c.script.desk c.script.rule) c.serve-reply.new.desk c.serve-reply.new.rule
    c.serve-reply.result c.in-Some.is heard.is (rw h.post.kind at c.serve-reply.ensures.answer) c.serve-reply.ensures.kept in
    begun_watched g.O.Onlooker.sees (g.P.Post.view c.args.post.now) (g.P.Post.view c.serve-reply.new.post) c.args.desk.now
    c.serve-reply.new.desk c.args.onlooker.now c.serve-reply.new.onlooker
    (moment c.script.missed (g.P.Post.view c.script.post) c.script.desk c.script.onlooker) _ _ _ _ _ _ _ _ _
    c.in-Some.request c.serve-reply.result (session c.script.desk c.script.rule) c.serve-reply.new.rule c.requires.opened
    h.answered heard s (c.serve-reply.ensures.left s.0 s.3) (c.serve-reply.ensures.looked s.0 s.3)

pub returns-in_default-clause-read : goal.returns-in_default-clause-read
returns-in_default-clause-read g c = λ _.
    let h = c.script.invariant in
    record {
      answered = answers_breaks _ _ _ _ _ _ _ _ _
          (at_desks g.O.Onlooker.sees (moment 0 (g.P.Post.view c.args.post.now) c.args.desk.now c.args.onlooker.now)
          (moment c.script.missed (g.P.Post.view c.script.post) c.script.desk c.script.onlooker)
          c.requires.opened) h.answered c.in_default.ensures.err;
      flushed = h.works.flushed;
      fails = (
        subst
            (λ n. FailsOrFull n c.listen.new.reader.failures c.listen.new.reader.given) h.works.reads
            c.in_default.ensures.failed.0,
        c.in_default.ensures.failed.1,
      );
    }

pub returns-then-last : goal.returns-then-last
returns-then-last g c =
    let h = c.script.invariant in
    let heard = c.in-Ok.ensures.heard in
    let works : Works c.script.reader c.listen.new.reader c.script.writer c.script.writer = search rules in
    let finishes = answers_finishes _ _ _ _ _ _ _ _ _ _ _ _ h.answered _ _
    (notes_join g.O.Onlooker.sees _ _ _)
    (done_silent _ (g.P.Post.view c.args.post.now).is_prompt _ _ _ _ _ (session c.script.desk c.script.rule) _ _
    (notes_none g.O.Onlooker.sees (moment c.script.missed
    (g.P.Post.view c.script.post) c.script.desk c.script.onlooker))
    c.in_default-request.is heard c.if-last.true) in
    let all = completed g.O.Onlooker.sees _ _ _ _ _ _ _ _ _ _ _ c.requires.opened finishes
    (works_then _ _ _ _ _ _ h.works works) in
    record { done = all.0; noted = all.1; read = search rules; write = search rules }

pub script-preserved-in_default-request : goal.script-preserved-in_default-request
script-preserved-in_default-request g c =
    let h = c.script.invariant in
    let works : Works c.script.reader c.listen.new.reader c.script.writer c.script.writer = search rules in
    record {
      answered = answers_answers _ _ _ _ _ _ _ _ _ _ _ _ h.answered _ _ _ _
          (notes_join g.O.Onlooker.sees _ _ _)
          (goes_on_silent _ (g.P.Post.view c.args.post.now).is_prompt _ _ _ _ _ (session c.script.desk c.script.rule) _ _
          (notes_none g.O.Onlooker.sees (moment c.script.missed
          (g.P.Post.view c.script.post) c.script.desk c.script.onlooker))
          c.in_default-request.is c.in-Ok.ensures.heard c.if-last.false);
      post = h.post;
      works = works_then _ _ _ _ _ _ h.works works;
    }

pub returns-then-is_err-clause-write : goal.returns-then-is_err-clause-write
returns-then-is_err-clause-write g c = λ _.
    let h = c.script.invariant in
    let prompt = (g.P.Post.view c.args.post.now).is_prompt in
    let heard = c.in-Ok.ensures.heard in
    let fails : c.send.new.writer.failures ≡ c.script.writer.failures + 1 = search rules in
    let s = served prompt c.in-Ok.heard.request c.in-Some.request heard.asked
    (session c.script.desk c.script.rule) c.serve-reply.new.desk c.serve-reply.new.rule c.serve-reply.result c.in-Some.is heard.is
    (rw h.post.kind at c.serve-reply.ensures.answer) c.serve-reply.ensures.kept in
    let at = standing (g.P.Post.view c.script.post) c.script.desk in
    let next = standing (g.P.Post.view c.serve-reply.new.post) c.serve-reply.new.desk in
    let one = at_one at next s.0 c.serve-reply.result (c.serve-reply.ensures.left s.0 s.3) in
    record {
      answered = stops_front _ _ _ _ _ (answers_stops _ _ _ _ _ _ _ _ _ _ _ _ h.answered
          (AnswersAtEach at one.0) (AnswersAtDesks prompt)
          (at_desks_then g.O.Onlooker.sees (moment 0 (g.P.Post.view c.args.post.now) c.args.desk.now c.args.onlooker.now)
          (moment c.script.missed (g.P.Post.view c.script.post) c.script.desk c.script.onlooker) one.0
          c.requires.opened)
          (stops_telling prompt _ _ _ _ (session c.script.desk c.script.rule) c.serve-reply.new.desk
          c.serve-reply.new.rule _ _ c.in-Some.request c.serve-reply.result heard s
          (AnswersAtEach at one.0) _ _ one.1 (wrote_is_err _ _ c.send.result _ (sym c.is_err.ensures.value
          ∙ c.if-is_err.true) c.send.ensures.bytes)));
      fails = fails ∙ ap (λ n. n + 1) h.works.writes;
    }

pub returns-then-is_bye : goal.returns-then-is_bye
returns-then-is_bye g c =
    let h = c.script.invariant in
    let prompt = (g.P.Post.view c.args.post.now).is_prompt in
    let heard = c.in-Ok.ensures.heard in
    let bye = bye-ends c.serve-reply.result (sym c.ends-is_bye.ensures ∙ c.if-is_bye.true) in
    let s = served prompt c.in-Ok.heard.request c.in-Some.request heard.asked
    (session c.script.desk c.script.rule) c.serve-reply.new.desk c.serve-reply.new.rule
    c.serve-reply.result c.in-Some.is heard.is (rw h.post.kind at c.serve-reply.ensures.answer) c.serve-reply.ensures.kept in
    let still = (c.serve-reply.ensures.looked s.0 s.3).bye (ap ends bye) in
    let works : Works c.script.reader c.listen.new.reader c.script.writer c.send.new.writer = search rules in
    let finishes = answers_finishes _ _ _ _ _ _ _ _ _ _ _ _ h.answered _ _
    (notes_join g.O.Onlooker.sees _ _ _)
    (done_bye prompt _ _ _ _ (session c.script.desk c.script.rule) c.serve-reply.new.desk
    c.serve-reply.new.rule _ _ c.in-Some.request c.serve-reply.result heard s _ _ _
    (notes_same g.O.Onlooker.sees c.script.missed (g.P.Post.view c.script.post) (g.P.Post.view c.serve-reply.new.post)
    c.script.desk c.script.onlooker c.serve-reply.new.onlooker still.0 still.1) bye
    (wrote_is_ok _ _ c.send.result _ (sym c.is_err.ensures.value ∙ c.if-is_err.false) c.send.ensures.bytes)) in
    let all = completed g.O.Onlooker.sees _ _ _ _ _ _ _ _ _ _ _ c.requires.opened finishes
    (works_then _ _ _ _ _ _ h.works works) in
    record { done = all.0; noted = all.1; read = search rules; write = search rules }

pub returns-then-last-2 : goal.returns-then-last-2
returns-then-last-2 g c =
    let h = c.script.invariant in
    let prompt = (g.P.Post.view c.args.post.now).is_prompt in
    let heard = c.in-Ok.ensures.heard in
    let other : c.serve-reply.result ≢ reply.Bye = goes-on c.serve-reply.result (sym c.ends-is_bye.ensures ∙ c.if-is_bye.false) in
    let works : Works c.script.reader c.listen.new.reader c.script.writer c.send.new.writer = search rules in
    let s = served prompt c.in-Ok.heard.request c.in-Some.request heard.asked
    (session c.script.desk c.script.rule) c.serve-reply.new.desk c.serve-reply.new.rule
    c.serve-reply.result c.in-Some.is heard.is (rw h.post.kind at c.serve-reply.ensures.answer) c.serve-reply.ensures.kept in
    let finishes = answers_finishes _ _ _ _ _ _ _ _ _ _ _ _ h.answered _ _
    (notes_join g.O.Onlooker.sees _ _ _)
    (done_last prompt _ _ _ _ (session c.script.desk c.script.rule) c.serve-reply.new.desk
    c.serve-reply.new.rule _ _ c.in-Some.request c.serve-reply.result heard s _ _ _ other c.if-last-2.true
    (notes_one g.O.Onlooker.sees
    (moment c.script.missed (g.P.Post.view c.script.post) c.script.desk c.script.onlooker)
    (moment c.note.new.missed (g.P.Post.view c.serve-reply.new.post) c.serve-reply.new.desk c.note.new.onlooker)
    c.serve-reply.new.onlooker s.0 c.serve-reply.result (c.serve-reply.ensures.looked s.0 s.3)
    (c.serve-reply.ensures.left s.0 s.3) c.note.ensures)
    (wrote_is_ok _ _ c.send.result _ (sym c.is_err.ensures.value ∙ c.if-is_err.false) c.send.ensures.bytes)) in
    let all = completed g.O.Onlooker.sees _ _ _ _ _ _ _ _ _ _ _ c.requires.opened finishes
    (works_then _ _ _ _ _ _ h.works works) in
    record { done = all.0; noted = all.1; read = search rules; write = search rules }

pub script-preserved : goal.script-preserved
script-preserved g c =
    let h = c.script.invariant in
    let prompt = (g.P.Post.view c.args.post.now).is_prompt in
    let heard = c.in-Ok.ensures.heard in
    let other : c.serve-reply.result ≢ reply.Bye = goes-on c.serve-reply.result (sym c.ends-is_bye.ensures ∙ c.if-is_bye.false) in
    let works : Works c.script.reader c.listen.new.reader c.script.writer c.send.new.writer = search rules in
    let s = served prompt c.in-Ok.heard.request c.in-Some.request heard.asked
    (session c.script.desk c.script.rule) c.serve-reply.new.desk c.serve-reply.new.rule
    c.serve-reply.result c.in-Some.is heard.is (rw h.post.kind at c.serve-reply.ensures.answer) c.serve-reply.ensures.kept in
    record {
      answered = answers_answers _ _ _ _ _ _ _ _ _ _ _ _ h.answered _ _ _ _
          (notes_join g.O.Onlooker.sees _ _ _)
          (goes_on_told prompt _ _ _ _ (session c.script.desk c.script.rule) c.serve-reply.new.desk
          c.serve-reply.new.rule _ _ c.in-Some.request c.serve-reply.result heard s _ _ _ c.if-last-2.false other
          (notes_one g.O.Onlooker.sees
          (moment c.script.missed (g.P.Post.view c.script.post) c.script.desk c.script.onlooker)
          (moment c.note.new.missed (g.P.Post.view c.serve-reply.new.post) c.serve-reply.new.desk c.note.new.onlooker)
          c.serve-reply.new.onlooker s.0 c.serve-reply.result (c.serve-reply.ensures.looked s.0 s.3)
          (c.serve-reply.ensures.left s.0 s.3) c.note.ensures)
          (wrote_is_ok _ _ c.send.result _ (sym c.is_err.ensures.value ∙ c.if-is_err.false) c.send.ensures.bytes));
      post = carries_further _ _ _ _ h.post.limit h.post.kind c.serve-reply.ensures.post;
      works = works_then _ _ _ _ _ _ h.works works;
    }
