-- What a line of a script asks for, by its words.
use Rattle.std.specs.Prelude.{ℕ, ◌-◌, ◌^◌, ℤ, List, [], ◌∷◌, Bool, false, Option, Some, None, codes, if◌then◌else◌}
use Rattle.std.specs.Option.{option_map, option_zip}
use Rattle.std.specs.Str.{bytes_eq}
use Rattle.script_lines.specs.Words.{words}
use Rattle.worlds.specs.declared.cell.CellSet.{CellSet}
use Rattle.schedule.specs.declared.acts.Acts.TheVariants.{Once, Every}
use Rattle.schedule.specs.declared.edit.Edit.{Edit}
use Rattle.schedule.specs.declared.edit.Edit.TheVariants.{Insert, Change, RemoveIntervention, SetCells, AddBookmark, MoveBookmark, RemoveBookmark, AddBranch, RemoveBranch}
use Rattle.desk_script.specs.Numbers.{up_to, coordinate}
use Rattle.desk_script.specs.View.{alone, view_of}
use Rattle.desk_script.specs.declared.interventions.Acting.{Acting}
use Rattle.desk_script.specs.declared.format.Format.{Format}
use Rattle.desk_script.specs.declared.format.Format.TheVariants as format
use Rattle.desk_script.specs.declared.command.Command.{Command}
use Rattle.desk_script.specs.declared.command.Command.TheVariants as command

-- a cell, where all three of its words are numbers
abbrev pub cell_by : Option ℤ → Option ℤ → Option ℕ → Option CellSet
cell_by (Some x) (Some y) (Some s) = Some (record { x = x; y = y; state = s })
cell_by (Some x) (Some y) None = None
cell_by (Some x) None s = None
cell_by None y s = None

-- the cell that three words name: x, y and the state
abbrev pub cell_of : List ℕ → List ℕ → List ℕ → Option CellSet
cell_of x y s = cell_by (coordinate x) (coordinate y) (up_to (2 ^ 16 - 1) s)

-- a cell before others, where there are such
abbrev pub before : Option CellSet → Option (List CellSet) → Option (List CellSet)
before (Some c) (Some cells) = Some (c ∷ cells)
before (Some c) None = None
before None cells = None

-- the cells that words name, three words each
abbrev pub cells_said : List (List ℕ) → Option (List CellSet)
cells_said [] = Some []
cells_said (x ∷ []) = None
cells_said (x ∷ y ∷ []) = None
cells_said (x ∷ y ∷ s ∷ rest) = before (cell_of x y s) (cells_said rest)

-- one cell or more
abbrev pub some_cells : Option (List CellSet) → Option (List CellSet)
some_cells None = None
some_cells (Some []) = None
some_cells (Some (c ∷ cells)) = Some (c ∷ cells)

-- the cells behind the word `set`
abbrev pub cells_set : List (List ℕ) → Option (List CellSet)
cells_set [] = None
cells_set (word ∷ rest) = if bytes_eq word (codes "set") then some_cells (cells_said rest) else None

-- an id or a generation
abbrev pub count_of : List ℕ → Option ℕ
count_of word = up_to (2 ^ 64 - 1) word

-- one such number, and no other word
abbrev pub one_count : List (List ℕ) → Option ℕ
one_count [] = None
one_count (word ∷ rest) = alone (count_of word) rest

-- such a number, and what the words behind it name
abbrev pub counted : {A : Type 0} → (List (List ℕ) → Option A) → List (List ℕ) → Option (ℕ × A)
counted named [] = None
counted named (word ∷ rest) = option_zip (count_of word) (named rest)

-- the edit of each first word, by the words behind it
abbrev pub set_of : List (List ℕ) → Option Edit
set_of rest = option_map SetCells (some_cells (cells_said rest))

-- an intervention that acts once: a generation, and cells
abbrev pub once_by : ℕ × List CellSet → Acting
once_by r = record { acts = Once r.0; cells = r.1 }

abbrev pub once_of : List (List ℕ) → Option Acting
once_of rest = option_map once_by (counted cells_set rest)

-- one that repeats: a distance, a first and a last generation, and cells
abbrev pub repeated_by : ℕ × (ℕ × (ℕ × List CellSet)) → Acting
repeated_by r = record { acts = Every r.1.0 r.0 r.1.1.0; cells = r.1.1.1 }

abbrev pub repeated_of : List (List ℕ) → Option Acting
repeated_of rest = option_map repeated_by (counted (counted (counted cells_set)) rest)

-- one or the other, as the first word says
abbrev pub acting_of : List (List ℕ) → Option Acting
acting_of [] = None
acting_of (word ∷ rest) =
    if bytes_eq word (codes "every") then repeated_of rest else once_of (word ∷ rest)

-- it is inserted into a branch
abbrev pub inserted : ℕ → Acting → Edit
inserted b acting = Insert b acting.acts acting.cells

abbrev pub at_of : ℕ → List (List ℕ) → Option Edit
at_of b rest = option_map (inserted b) (once_of rest)

abbrev pub every_of : ℕ → List (List ℕ) → Option Edit
every_of b rest = option_map (inserted b) (repeated_of rest)

-- it takes the place of the intervention of an id
abbrev pub change_of : List (List ℕ) → Option Edit
change_of rest = option_map (λ r. Change r.0 r.1.acts r.1.cells) (counted acting_of rest)

abbrev pub drop_of : List (List ℕ) → Option Edit
drop_of rest = option_map RemoveIntervention (one_count rest)

abbrev pub mark_of : ℕ → List (List ℕ) → Option Edit
mark_of b rest = option_map (λ r. AddBookmark b r.0 r.1) (counted view_of rest)

abbrev pub move_of : List (List ℕ) → Option Edit
move_of rest = option_map (λ r. MoveBookmark r.0 r.1) (counted one_count rest)

abbrev pub unmark_of : List (List ℕ) → Option Edit
unmark_of rest = option_map RemoveBookmark (one_count rest)

abbrev pub branch_of : List (List ℕ) → Option Edit
branch_of rest = option_map (λ r. AddBranch r.0 r.1) (counted one_count rest)

abbrev pub unbranch_of : List (List ℕ) → Option Edit
unbranch_of rest = option_map RemoveBranch (one_count rest)

-- the edit in a branch of a word and those behind it
abbrev pub edit_in_branch : ℕ → List ℕ → List (List ℕ) → Option Edit
edit_in_branch b word rest =
    if bytes_eq word (codes "at") then at_of b rest
    else (if bytes_eq word (codes "every") then every_of b rest
    else (if bytes_eq word (codes "mark") then mark_of b rest
    else None))

-- the edit in a branch that is named, if it is
abbrev pub edit_in_named : Option ℕ → List (List ℕ) → Option Edit
edit_in_named None rest = None
edit_in_named (Some b) [] = None
edit_in_named (Some b) (word ∷ rest) = edit_in_branch b word rest

-- the edit behind the word `on`: in the branch that the first word names
abbrev pub on_of : List (List ℕ) → Option Edit
on_of [] = None
on_of (b ∷ rest) = edit_in_named (count_of b) rest

-- the edit of any other first word and those behind it, in branch 0 where none is named
abbrev pub further_edit_by : List ℕ → List (List ℕ) → Option Edit
further_edit_by word rest =
    if bytes_eq word (codes "move") then move_of rest
    else (if bytes_eq word (codes "unmark") then unmark_of rest
    else (if bytes_eq word (codes "branch") then branch_of rest
    else (if bytes_eq word (codes "unbranch") then unbranch_of rest
    else edit_in_branch 0 word rest)))

-- the edit of a first word and those behind it
abbrev pub edit_by : List ℕ → List (List ℕ) → Option Edit
edit_by word rest =
    if bytes_eq word (codes "set") then set_of rest
    else (if bytes_eq word (codes "on") then on_of rest
    else (if bytes_eq word (codes "change") then change_of rest
    else (if bytes_eq word (codes "drop") then drop_of rest
    else further_edit_by word rest)))

-- the command of any other first word and those behind it: one that looks, or an edit
abbrev pub looking_by : List ℕ → List (List ℕ) → Option Command
looking_by word rest =
    if bytes_eq word (codes "peek") then option_map command.Peek (one_count rest)
    else (if bytes_eq word (codes "poll") then alone (Some command.Poll) rest
    else (if bytes_eq word (codes "list") then alone (Some command.List) rest
    else (if bytes_eq word (codes "script") then alone (Some command.Script) rest
    else (if bytes_eq word (codes "help") then alone (Some command.Help) rest
    else option_map command.Edit (edit_by word rest)))))

-- the command of a first word and those behind it
abbrev pub command_by : List ℕ → List (List ℕ) → Option Command
command_by word rest =
    if bytes_eq word (codes "settle") then alone (Some command.Settle) rest
    else (if bytes_eq word (codes "work") then alone (Some command.Work) rest
    else (if bytes_eq word (codes "show") then option_map command.Show (one_count rest)
    else (if bytes_eq word (codes "quit") then alone (Some command.Quit) rest
    else looking_by word rest)))

abbrev pub command_of_words : List (List ℕ) → Option Command
command_of_words [] = None
command_of_words (word ∷ rest) = command_by word rest

-- the command of a line that says this, if it is one that no text follows
abbrev pub command_of : List ℕ → Option Command
command_of says = command_of_words (words says)

-- the format of a start
abbrev pub start_of : List (List ℕ) → Option Format
start_of [] = None
start_of (name ∷ rest) =
    if bytes_eq name (codes "rle") then alone (Some format.Rle) rest
    else (if bytes_eq name (codes "mc") then alone (Some format.Macrocell) rest
    else None)

abbrev pub format_of_words : List (List ℕ) → Option Format
format_of_words [] = None
format_of_words (word ∷ rest) =
    if bytes_eq word (codes "rule") then alone (Some format.Rule) rest
    else (if bytes_eq word (codes "start") then start_of rest
    else None)

-- the format of the text that follows a line that says this, if one does
abbrev pub format_of : List ℕ → Option Format
format_of says = format_of_words (words says)

-- the first of a line's words is the one that adds a branch
abbrev pub adds_branch : List (List ℕ) → Bool
adds_branch [] = false
adds_branch (word ∷ rest) = bytes_eq word (codes "branch")
