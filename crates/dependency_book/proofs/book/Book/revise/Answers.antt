use Rattle.dependency_book.proofs.Names.{BookState, None, Ok, Plan, ap, asked_of, made, refusal, subst, sym, ◌∙◌, ◌≡◌}
use Rattle.dependency_book.proofs.Revised.{edits_call}
use Rattle.dependency_book.proofs.Shared.Recalling.{recalls_book}
use Rattle.step_facts.specs.Known.{known}
use Rattle.dependency_book.proofs.book.Book.revise.Goals as goal

pub plan-requires : goal.plan-requires
plan-requires c =
    subst (λ (d : BookState). refusal d.plan (asked_of c.args.edit.now) ≡ None) c.self.view_is c.in_ok-check.ensures

pub commit-requires : goal.commit-requires
commit-requires c = rw c.in_ok-planned.ensures.is c.in_ok-planned.ensures

pub returns-clause-ok : goal.returns-clause-ok
returns-clause-ok c =
    let same = (recalls_book c.commit.new.self c.recall_all.new.self
    c.recall_all.ensures.all.recalls).document.plan in
    (rw c.in_ok-planned.ensures.is at c.in_ok-edited.ensures.ok)
    ∙ ap (λ (p : Plan). Ok (made p c.in_ok-edited.edited)) (sym same)

pub returns-clause-revises : goal.returns-clause-revises
returns-clause-revises c =
    let all = c.recall_all.ensures.all in
    let book = recalls_book c.commit.new.self c.recall_all.new.self all.recalls in
    let kept = rw c.in_ok-planned.ensures.is at c.in_ok-edited.ensures.keeps in
    record {
      table = book.document.table ∙ kept.keeps.table;
      entries = book.entries ∙ kept.keeps.entries;
      indices = book.indices ∙ kept.keeps.indices;
      kept = c.commit.new.self;
      keeps = kept;
      recalls = all.recalls;
      remembers = λ s. all.remembers s ∙ ap (λ facts. known facts s) kept.keeps.remembered.facts;
      none = λ same. all.none (same ∙ sym kept.keeps.remembered.missed);
    }

pub returns-clause-event : goal.returns-clause-event
returns-clause-event c =
    edits_call c.args.self.now c.commit.new.self c.recall_all.new.self (asked_of c.args.edit.now)
    c.in_ok-edited.edited c.note_rule.ensures (rw c.in_ok-planned.ensures.is at c.in_ok-edited.ensures.ok)
    (rw c.in_ok-planned.ensures.is at c.in_ok-edited.ensures.keeps) c.recall_all.ensures.all.recalls

pub returns-clause-first : goal.returns-clause-first
returns-clause-first c = rw c.in_ok-planned.ensures.fits tt
