-- What an edit makes of a desk, or why it is refused.
use Rattle.std.specs.Prelude.{◌≡◌, ◌⊎◌, Ok, Err}
use Rattle.schedule.specs.declared.edit.Edited.{Edited}
use Rattle.schedule.specs.declared.fault.EditFault.{EditFault}
use Rattle.schedule.specs.Asked.{Asked}
use Rattle.schedule.specs.Change.{change, made}
use Rattle.dependency_book.specs.BookState.{BookState}
use Rattle.dependency_book.specs.Called.{IsEdit}
use Rattle.dependency_book.specs.Recalled.{Revises}

-- the document is the changed one, of the same table, and no number of a job was given; in the rows
-- stands what the edit keeps, and all that is known by steps that were computed before was entered;
-- in the law this is the event of the edit
pub record Makes (asked : Asked) (old new : BookState) (edited : Edited) : Type 0 where
  pub changed : change old.plan asked ≡ Ok (made new.plan edited)
  pub table : new.table ≡ old.table
  pub entries : new.entries ≡ old.entries
  pub revises : Revises asked old new
  pub event : IsEdit asked old new

-- memory ran out, or the document refuses it for this
abbrev pub Refuses : Asked → BookState → EditFault → Type 0
Refuses asked d fault = (fault ≡ EditFault.NoMemory) ⊎ (change d.plan asked ≡ Err fault)
