-- What the lines ask that are written of edits.
use Rattle.std.specs.Prelude.{◌≡◌, ℕ, ◌+◌, ◌<◌, ◌^◌, List, ◌∷◌, ◌++◌, length, FitsSigned}
use Rattle.std.specs.Int.{w64}
use Rattle.std.specs.List.{AllByRecursion}
use Rattle.text_lines.specs.Lines.{End, lines_until}
use Rattle.worlds.specs.declared.cell.CellSet.{CellSet}
use Rattle.bookmarks.specs.declared.view.View.{View}
use Rattle.bookmarks.specs.declared.view.View.TheVariants.{Window}
use Rattle.schedule.specs.declared.acts.Acts.{Acts}
use Rattle.schedule.specs.declared.acts.Acts.TheVariants.{Once, Every}
use Rattle.schedule.specs.Asked.{Asked, AddBookmark, AddBranch, Insert}
use Rattle.schedule.specs.Asked.{RemoveBookmark, RemoveBranch, RemoveIntervention, asked_of}
use Rattle.schedule.specs.declared.edit.Edit.{Edit}
use Rattle.desk_script.specs.Asks.{Obey, Between, asks}
use Rattle.desk_script.specs.Scripted.{edit_line}
use Rattle.desk_script.specs.declared.command.Command.TheVariants as command

-- an id or a generation of 64 bits
abbrev pub IsCount : ℕ → Type 0
IsCount n = n < 2 ^ 64

-- a cell whose coordinates have 64 bits and whose state has 16
pub record IsWrittenCell (c : CellSet) : Type 0 where
  pub x : FitsSigned w64 c.x
  pub y : FitsSigned w64 c.y
  pub state : c.state < 2 ^ 16

-- one such cell or more
pub record AreWritten (cells : List CellSet) : Type 0 where
  pub some : 0 < length cells
  pub each : AllByRecursion IsWrittenCell cells

-- a window whose corner has coordinates of 64 bits, and whose sides have 32; or another view
abbrev pub IsWrittenView : View → Type 0
IsWrittenView (Window left top width height) =
    FitsSigned w64 left × FitsSigned w64 top × (width < 2 ^ 32) × (height < 2 ^ 32)
IsWrittenView _ = Unit {0}

-- the generations that say when it acts have 64 bits, and so has the distance
abbrev pub AreCounts : Acts → Type 0
AreCounts (Once generation) = IsCount generation
AreCounts (Every first every last) = IsCount first × IsCount every × IsCount last

-- the distance at which an intervention repeats has 64 bits, if it repeats
abbrev pub IsWrittenDistance : Acts → Type 0
IsWrittenDistance (Once generation) = Unit {0}
IsWrittenDistance (Every first every last) = IsCount every

-- an edit that a line writes: its numbers have these bits, and it sets a cell if it sets cells
abbrev pub IsWritten : Asked → Type 0
IsWritten (AddBranch parent generation) = IsCount parent × IsCount generation
IsWritten (RemoveBranch id) = IsCount id
IsWritten (AddBookmark b generation view) = IsCount b × IsCount generation × IsWrittenView view
IsWritten (RemoveBookmark id) = IsCount id
IsWritten (Insert b acts cells) = IsCount b × AreCounts acts × AreWritten cells
IsWritten (RemoveIntervention id) = IsCount id
IsWritten _ = ⊥

-- its line asks for this edit, whatever line it is and whatever follows
pub record ReadsBack (asked : Asked) : Type 0 where
  pub edit : Edit
  pub is : asked_of edit ≡ asked
  pub law : (stop : End) (n : ℕ) (more : List ℕ)
      → asks stop Between n (lines_until stop (edit_line asked ++ more))
      ≡ Obey (command.Edit edit) ∷ asks stop Between (n + 1) (lines_until stop more)

-- so it is with each such edit
abbrev pub EditLinesReadBack : Type 0
EditLinesReadBack = (asked : Asked) → IsWritten asked → ReadsBack asked
