-- A document as a script that makes it anew.
use Rattle.std.specs.Prelude.{ℕ, List, ◌++◌, flat_map, codes, decimal, [], Option, None, Some}
use Rattle.std.specs.Fmt.{signed_decimal}
use Rattle.bookmarks.specs.declared.view.View.{View}
use Rattle.bookmarks.specs.declared.view.View.TheVariants.{Window, Counts, Rle, Macrocell}
use Rattle.schedule.specs.declared.acts.Acts.{Acts}
use Rattle.schedule.specs.declared.acts.Acts.TheVariants.{Once, Every}
use Rattle.schedule.specs.Plan.{Plan}
use Rattle.worlds.specs.declared.cell.CellSet.{CellSet}
use Rattle.multistate_macrocell.specs.PatternText.{macrocell_text}
use Rattle.rule_tree.specs.Rule.{name_of}
use Rattle.schedule.specs.Asked.{Asked, AddBookmark, AddBranch, Insert, RemoveBookmark, RemoveBranch, RemoveIntervention}
use Rattle.replay_laws.specs.Replay.{row_edits}

-- when an intervention acts: once, or at a distance from a first generation to a last one
abbrev pub acts_words : Acts → List ℕ
acts_words (Once generation) = codes " at " ++ decimal generation
acts_words (Every first every last) =
    codes " every "
    ++ (decimal every ++ (codes " " ++ (decimal first ++ (codes " " ++ decimal last))))

-- a view, in the words that `mark` takes
abbrev pub view_words : View → List ℕ
view_words Counts = codes "counts"
view_words Rle = codes "rle"
view_words Macrocell = codes "mc"
view_words (Window left top width height) =
    codes "window "
    ++ (signed_decimal left
    ++ (codes " " ++ (signed_decimal top
    ++ (codes " " ++ (decimal width ++ (codes " " ++ decimal height))))))

-- a cell and its state, in the words that `set` takes
abbrev pub cell_words : CellSet → List ℕ
cell_words c =
    codes " " ++ (signed_decimal c.x
    ++ (codes " " ++ (signed_decimal c.y ++ (codes " " ++ decimal c.state))))

-- the line that inserts into a branch what acts then, with these cells
abbrev pub insert_line : ℕ → Acts → List CellSet → List ℕ
insert_line b acts cells =
    codes "on "
    ++ (decimal b
    ++ (acts_words acts ++ (codes " set" ++ (flat_map cell_words cells ++ codes "\n"))))

-- the line of an edit that adds a branch, a bookmark or an intervention, or removes one
abbrev pub edit_line : Asked → List ℕ
edit_line (AddBranch parent generation) =
    codes "branch " ++ (decimal parent ++ (codes " " ++ (decimal generation ++ codes "\n")))
edit_line (RemoveBranch id) = codes "unbranch " ++ (decimal id ++ codes "\n")
edit_line (AddBookmark b generation view) =
    codes "on "
    ++ (decimal b
    ++ (codes " mark " ++ (decimal generation ++ (codes " " ++ (view_words view ++ codes "\n")))))
edit_line (RemoveBookmark id) = codes "unmark " ++ (decimal id ++ codes "\n")
edit_line (Insert b acts cells) = insert_line b acts cells
edit_line (RemoveIntervention id) = codes "drop " ++ (decimal id ++ codes "\n")
edit_line _ = []

-- two lines for an id: one that adds what gets it, and one that removes that
abbrev pub skip_lines : List ℕ → List ℕ → ℕ → List ℕ
skip_lines adds removes id = adds ++ (removes ++ (decimal id ++ codes "\n"))

-- the lines of edits
abbrev pub edit_lines : List Asked → List ℕ
edit_lines = flat_map edit_line

-- the lines that take a rule by its text, if there is one
abbrev pub rule_lines : Option (List ℕ) → List ℕ
rule_lines None = []
rule_lines (Some text) = codes "rule\n" ++ (text ++ codes "end\n")

-- those that take the start, as the macrocell text of generation 0
abbrev pub start_lines : Plan → List ℕ
start_lines p =
    codes "start mc\n" ++ (macrocell_text p.start (name_of p.rule) 0 ++ codes "end\n")

-- the script that makes a document anew whose rule has this text, or is that of the opening one
abbrev pub script_text : Option (List ℕ) → Plan → List ℕ
script_text rule p = rule_lines rule ++ (start_lines p ++ edit_lines (row_edits p))
