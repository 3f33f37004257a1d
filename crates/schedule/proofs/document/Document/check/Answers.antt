use Rattle.schedule.proofs.document.Document.check.Goals as goal

pub returns-in-Change : goal.returns-in-Change
returns-in-Change c = rw c.in-Change.is c.check_changed_intervention.ensures

pub returns-in-AddBookmark : goal.returns-in-AddBookmark
returns-in-AddBookmark c = rw c.in-AddBookmark.is c.check_bookmark.ensures

pub returns-in-MoveBookmark : goal.returns-in-MoveBookmark
returns-in-MoveBookmark c = rw c.in-MoveBookmark.is c.check_moved_bookmark.ensures

pub returns-in-AddBranch : goal.returns-in-AddBranch
returns-in-AddBranch c = rw c.in-AddBranch.is c.check_branch.ensures
