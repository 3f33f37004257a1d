-- An edit by what it says: the rule or the world itself, whoever shares it.
use Rattle.std.specs.Prelude.{ℕ, List}
use Rattle.std.specs.Arc.{arc_value}
use Rattle.worlds.specs.declared.cell.CellSet.{CellSet}
use Rattle.worlds.specs.World.{World}
use Rattle.rule_tree.specs.declared.rule.Rule.{Rule}
use Rattle.bookmarks.specs.declared.view.View.{View}
use Rattle.schedule.specs.declared.acts.Acts.{Acts}
use Rattle.schedule.specs.declared.edit.Edit.{Edit}
use Rattle.schedule.specs.declared.edit.Edit.TheVariants as edit

-- an intervention that acts then, with these cells, is inserted into a branch, or put in the place
-- of the one of an id; one is removed by its id; cells of the start are set; another start or rule
-- is taken; a bookmark is added to a branch, or moved or removed by its id; a branch is added to a
-- parent at a generation, or removed
pub data Asked : Type 0 where
  Insert : ℕ → Acts → List CellSet → Asked
  Change : ℕ → Acts → List CellSet → Asked
  RemoveIntervention : ℕ → Asked
  SetCells : List CellSet → Asked
  ReplaceStart : World → Asked
  ReplaceRule : Rule → Asked
  AddBookmark : ℕ → ℕ → View → Asked
  MoveBookmark : ℕ → ℕ → Asked
  RemoveBookmark : ℕ → Asked
  AddBranch : ℕ → ℕ → Asked
  RemoveBranch : ℕ → Asked

-- what an edit asks for
abbrev pub asked_of : Edit → Asked
asked_of (edit.Insert branch acts cells) = Insert branch acts cells
asked_of (edit.Change id acts cells) = Change id acts cells
asked_of (edit.RemoveIntervention id) = RemoveIntervention id
asked_of (edit.SetCells cells) = SetCells cells
asked_of (edit.ReplaceStart start) = ReplaceStart (arc_value start)
asked_of (edit.ReplaceRule rule) = ReplaceRule (arc_value rule)
asked_of (edit.AddBookmark branch generation view) = AddBookmark branch generation view
asked_of (edit.MoveBookmark id generation) = MoveBookmark id generation
asked_of (edit.RemoveBookmark id) = RemoveBookmark id
asked_of (edit.AddBranch parent generation) = AddBranch parent generation
asked_of (edit.RemoveBranch branch) = RemoveBranch branch
