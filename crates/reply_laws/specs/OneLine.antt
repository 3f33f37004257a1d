-- Scripts that add no branch.
use Rattle.std.specs.Prelude.{◌≡◌, ℕ, List, [], false}
use Rattle.std.specs.List.{AllByRecursion}
use Rattle.text_lines.specs.Lines.{Ended, Line, lines_until}
use Rattle.script_lines.specs.Words.{words}
use Rattle.schedule.specs.declared.document.Intervention.{Intervention}
use Rattle.schedule.specs.declared.document.Bookmark.{Bookmark}
use Rattle.schedule.specs.Laws.{IsOneLine}
use Rattle.schedule.specs.Plan.{Plan}
use Rattle.schedule.specs.Sound.{IsSound}
use Rattle.desk_script.specs.Command.{adds_branch}
use Rattle.desk_server.specs.Shortage.{Shortage}
use Rattle.desk_server.specs.Script.{documents_with}

-- the document after each reply to a script keeps the limits of documents
abbrev pub DocumentsAreSound : Type 0
DocumentsAreSound =
    (script : List ℕ) (shortages : List Shortage)
    → AllByRecursion IsSound (documents_with script shortages)

-- no line of a script begins with it
abbrev pub AddsNoBranch : List ℕ → Type 0
AddsNoBranch script =
    AllByRecursion (λ (line : Line). adds_branch (words line.says) ≡ false)
    (lines_until Ended script)

-- a document of branch 0 alone, which is one line of history: each of its bookmarks shows what that
-- line gives
pub record HasOneLine (p : Plan) : Type 0 where
  pub branches : p.branches ≡ []
  pub interventions : AllByRecursion (λ (i : Intervention). i.branch ≡ 0) p.interventions
  pub bookmarks : AllByRecursion (λ (b : Bookmark). b.branch ≡ 0) p.bookmarks
  pub line : IsOneLine p

-- the document after each reply to such a script is one
abbrev pub OneLineWithoutBranch : Type 0
OneLineWithoutBranch =
    (script : List ℕ) (shortages : List Shortage) → AddsNoBranch script
    → AllByRecursion HasOneLine (documents_with script shortages)
