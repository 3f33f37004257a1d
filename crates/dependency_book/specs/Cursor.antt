-- Where the search for what is needed next goes on.
use Rattle.std.specs.Prelude.{ℕ, List}
use Rattle.std.specs.List.{AllByRecursion}
use Rattle.dependency_book.specs.declared.cursor.Cursor.{Cursor}
use Rattle.revision_jobs.specs.declared.entries.Place.{Place}
use Rattle.revision_jobs.specs.Entries.{IsOf}
use Rattle.step_facts.specs.Known.{Fact}
use Rattle.dependency_book.specs.BookState.{BookState}
use Rattle.dependency_book.specs.Held.{IsHeldBook}
use Rattle.dependency_book.specs.Ready.{NoneBefore, steppable, viewable}
use Rattle.dependency_book.specs.Recalled.{AreGiven}

-- before all rows
abbrev pub start : Cursor
start = record { views = 0; steps = 0 }

-- no text before a place can be viewed, whose marks' places are these, and to no mark before a
-- place a step can be made
pub record HasPassed (d : BookState) (places : List ℕ) (cursor : Cursor) : Type 0 where
  pub views : NoneBefore (viewable d.arrivals d.texts places) cursor.views
  pub steps : NoneBefore (steppable d.plan.branches d.arrivals) cursor.steps

-- a book holds its rows with these places, and has passed the rows before a cursor; the entries of
-- its numbers are of its table, and it remembers steps of such entries alone
pub record IsKeptBook (d : BookState) (places : List ℕ) (cursor : Cursor) (issued : List Place)
    (remembered : List Fact) : Type 0 where
  pub held : IsHeldBook d places
  pub passed : HasPassed d places cursor
  pub own : AllByRecursion (IsOf d.table) issued
  pub facts : AreGiven d.entries remembered
