use Rattle.desk_core.proofs.Names.{BookState, Empty, IsNextJob, IssuesFor, Job, row_of, rules, subst, sym, ◌≡◌}
use Rattle.revision_jobs.specs.declared.entries.Place.{Place}
use Rattle.desk_core.proofs.desk.Desk.issue_for.Goals as goal

pub returns-clause-issued : goal.returns-clause-issued
returns-clause-issued g c =
    let old : BookState = c.self.inside.book in
    let new : BookState = c.expect.new.self in
    let need = c.args.need.now in
    let expected : Job = record { number = c.args.number; place = c.share.result } in
    let next : IsNextJob old need expected = search rules in
    let issued : IssuesFor old new expected need = record {
      next = next;
      empty = subst (λ (d : BookState). row_of d need ≡ Empty) (sym c.self.view_is) c.requires.next.1;
      is = c.in_ok-expect.ensures.issued;
    } in
    subst (λ (d : BookState). IssuesFor d new (record { number = c.args.number; place = c.in_ok-place.place }) need)
    c.self.view_is
    (subst (λ (p : Place). IssuesFor old new (record { number = c.args.number; place = p }) need) c.share.ensures
    issued)
