use Rattle.desk_core.proofs.Names.{BookState, Err, IfOk, Ok, OnErr, OnOk, Result, Revises, ap, recalls_book, subst, sym, ◌∙◌, ◌≡◌}
use Rattle.schedule.specs.declared.edit.Edited.{Edited}
use Rattle.schedule.specs.declared.fault.EditFault.{EditFault}
use Rattle.schedule.specs.Asked.{Asked, asked_of}
use Rattle.schedule.specs.Change.{change, made}
use Rattle.dependency_book.specs.Called.{IsEdit}
use Rattle.desk_core.specs.Edited.{Makes}
use Rattle.desk_core.proofs.desk.Desk.edit.Goals as goal

edits_made : (r : Result Edited EditFault) (old new : BookState) (asked : Asked)
    → IfOk r (λ edited. change old.plan asked ≡ Ok (made new.plan edited)) → OnOk r (Revises asked old new)
    → OnOk r (IsEdit asked old new) → IfOk r (Makes asked old new)
edits_made (Ok edited) old new asked is h event =
    record { changed = is; table = h.table; entries = h.entries; revises = h; event = event }
edits_made (Err fault) old new asked is h event = tt

pub returns-clause-ok : goal.returns-clause-ok
returns-clause-ok c =
    let asked = asked_of c.args.edit.now in
    subst (λ (old : BookState). IfOk c.revise.result (Makes asked old c.revise.new.self)) c.self.view_is
    (edits_made c.revise.result c.self.inside.book c.revise.new.self asked c.revise.ensures.ok
    c.revise.ensures.revises c.revise.ensures.event)

table_stays : (r : Result Edited EditFault) (old new : BookState) (asked : Asked) → OnOk r (Revises asked old new)
    → OnErr r (new ≡ old) → new.table ≡ old.table
table_stays (Ok edited) old new asked h same = (recalls_book h.kept new h.recalls).document.table ∙ h.keeps.keeps.table
table_stays (Err fault) old new asked h same = ap (λ (d : BookState). d.table) same

pub invariant_of-self : goal.invariant_of-self
invariant_of-self c = record {
  table = c.self.invariant.table
      ∙ sym (table_stays c.revise.result c.self.inside.book c.revise.new.self
      (asked_of c.args.edit.now) c.revise.ensures.revises c.revise.ensures.unchanged);
  right = c.revise.ensures.right;
}
