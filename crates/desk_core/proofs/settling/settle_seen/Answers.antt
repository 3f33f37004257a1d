use Rattle.desk_core.proofs.Names.{none_pending, ◌∙◌}
use Rattle.desk_core.proofs.Steps.{serves-whole, settles-whole, whole}
use Rattle.desk_core.proofs.Turns.{cause-left, caused-so, ends-so, tells-so, why-left}
use Rattle.desk_core.proofs.settling.settle_seen.Goals as goal

pub returns-clause-settles : goal.returns-clause-settles
returns-clause-settles g c =
    settles-whole _ _ _ _ _ c.run-unsent.result c.run-unsent.ensures.comes c.cancel.ensures _
    c.run-unsent.ensures.given c.pending.ensures.right

pub returns-clause-post : goal.returns-clause-post
returns-clause-post g c = serves-whole _ _ _ _ _ c.run-unsent.result c.run-unsent.ensures.comes c.cancel.ensures

pub returns-clause-ends : goal.returns-clause-ends
returns-clause-ends g c =
    let run = c.run-unsent in
    let p = g.P.Post.view c.args.post.now in
    let q = g.P.Post.view run.new.post in
    let come = whole c.args.desk.now run.new.desk c.cancel.new.desk p q run.result run.ensures.comes c.cancel.ensures in
    let told = come.told in
    record {
      later = told.later;
      gave = told.gave;
      ends = ends-so c.args.turns p q c.args.desk.now c.cancel.new.desk told.later c.pending.result run.result.cause _
          c.ending.ensures c.pending.ensures.count c.pending.ensures.bound
          (λ some. why-left c.args.turns c.args.desk.now run.new.desk c.cancel.new.desk p q run.result
          c.pending.result told.later
          run.ensures.ended c.cancel.ensures c.pending.ensures.count some told.explained told.stopped);
      first = run.result.cause;
      calls = come.calls;
      tells = tells-so c.pending.result run.result.cause _ c.ending.ensures;
    }

pub returns-clause-caused : goal.returns-clause-caused
returns-clause-caused g c = λ all enough.
    let run = c.run-unsent in
    caused-so c.pending.result run.result.cause _ c.ending.ensures
    (cause-left run.new.desk c.cancel.new.desk (g.P.Post.view run.new.post) run.result c.pending.result
    (run.ensures.done all enough) c.cancel.ensures c.pending.ensures.count
    (λ out none. c.pending.ensures.count ∙ none_pending c.cancel.new.desk c.pending.ensures.right out none))
