use Rattle.std.proofs.Common.{◌≡◌, ◌∙◌, ap, Result, Ok, Err}
use Rattle.std.specs.Prelude.{OnErr, OnOk}
use Rattle.schedule.specs.declared.edit.Edited.{Edited}
use Rattle.schedule.specs.declared.fault.EditFault.{EditFault}
use Rattle.schedule.specs.Asked.{Asked}
use Rattle.dependency_book.specs.BookState.{BookState}
use Rattle.dependency_book.specs.Recalled.{Revises}
use Rattle.dependency_book_tests.proofs.tests.bench.Bench.revise.Goals as goal

-- an edit leaves a book its table
table_stays : (r : Result Edited EditFault) (old new : BookState) (asked : Asked) → OnOk r (Revises asked old new)
    → OnErr r (new ≡ old) → new.table ≡ old.table
table_stays (Ok edited) old new asked h same = h.table
table_stays (Err fault) old new asked h same = ap (λ (d : BookState). d.table) same

pub invariant_of-self : goal.invariant_of-self
invariant_of-self g c = (
  table_stays c.revise.result _ c.revise.new.self _ c.revise.ensures.revises c.revise.ensures.unchanged
      ∙ c.self.invariant.0,
  c.self.invariant.1,
  c.self.invariant.2,
)
