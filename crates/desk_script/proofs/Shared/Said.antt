-- Which edits lines ask for.
use Rattle.desk_script.proofs.Names.{AddBranch, AllByRecursion, Ask, Asked, Between, Bool, Broken, CellSet, Change, Command, Edit, End, Ended, Format, IfSome, InText, Insert, IsCount, IsWrittenDistance, Line, LinePlace, List, None, Obey}
use Rattle.desk_script.proofs.Names.{Option, ReplaceRule, Some, Take, View, [], acting_of, adds_branch, alone, arith, asked_at, asked_by, asked_of, asks, bytes_eq, cells_said, cells_set, change_of, codes, command_of}
use Rattle.desk_script.proofs.Names.{command_of_words, cond, counted, edit_by, edit_in_branch, edit_in_named, false, format_of, further_edit_by, inserted, is_end, is_passed_over, length, looking_by, min, on_of, once_by, once_of, one_count, option_map, option_zip}
use Rattle.desk_script.proofs.Names.{place_behind, repeated_by, repeated_of, some_cells, true, view_of, words, ℕ, ◌++◌, ◌+◌, ◌-◌, ◌<◌, ◌^◌, ◌∷◌, ◌≡◌}
use Rattle.std.specs.Prelude.{⊤}
use Rattle.schedule.specs.declared.edit.Edit.TheVariants as edit
use Rattle.schedule.proofs.Shared.Changed.{HasStates}
use Rattle.desk_script.specs.declared.interventions.Acting.{Acting}
use Rattle.desk_script.specs.declared.command.Command.TheVariants as command

-- the edit adds no branch
abbrev pub AddsNone : Asked → Type 0
AddsNone (AddBranch parent generation) = ⊥
AddsNone _ = ⊤

-- it sets a cell if it sets cells of interventions, at a distance of 64 bits if they repeat
abbrev pub SetsSome : Asked → Type 0
SetsSome (Insert b acts cells) = (0 < length cells) × IsWrittenDistance acts
SetsSome (Change id acts cells) = (0 < length cells) × IsWrittenDistance acts
SetsSome _ = ⊤

-- nor does it take a rule
abbrev pub TakesNoRule : Asked → Type 0
TakesNoRule (ReplaceRule rule) = ⊥
TakesNoRule _ = ⊤

-- what a command edits: a rule that it takes has states, and it adds no branch unless its first word says so
pub record IsSaid (adds : Bool) (asked : Asked) : Type 0 where
  pub states : HasStates asked
  pub none : adds ≡ false → AddsNone asked
  pub rule : TakesNoRule asked
  pub rows : SetsSome asked

abbrev SaysSuch : Bool → Option Edit → Type 0
SaysSuch adds e = IfSome e (λ edit. IsSaid adds (asked_of edit))

-- numbers and cells that words name
cells-if : (b : Bool) (o : Option (List CellSet)) → IfSome (cond b (some_cells o) None) (λ cs. 0 < length cs)
cells-if b o = grind (arith)

cells-some : (ws : List (List ℕ)) → IfSome (cells_set ws) (λ cs. 0 < length cs)
cells-some [] = tt
cells-some (word ∷ rest) = cells-if (bytes_eq word (codes "set")) (cells_said rest)

count-small : (o : Option ℕ) → IfSome (option_map (λ n. min n (2 ^ 64 - 1)) o) IsCount
count-small o = grind (arith)

zip-if : {A : Type 0} (P : A → Type 0) (o : Option ℕ) (q : Option A) → IfSome o IsCount → IfSome q P
    → IfSome (option_zip o q) (λ r. IsCount r.0 × P r.1)
zip-if P o q h k = grind (arith)

counted-if : {A : Type 0} (P : A → Type 0) (named : List (List ℕ) → Option A)
    → ((ws : List (List ℕ)) → IfSome (named ws) P) → (ws : List (List ℕ))
    → IfSome (counted named ws) (λ r. IsCount r.0 × P r.1)
counted-if P named h ws = grind (arith, zip-if, count-small)

-- an intervention of words sets a cell, at a distance of 64 bits if it repeats
abbrev SetsCell : Acting → Type 0
SetsCell acting = (0 < length acting.cells) × IsWrittenDistance acting.acts

once-by : (o : Option (ℕ × List CellSet)) → IfSome o (λ r. IsCount r.0 × (0 < length r.1))
    → IfSome (option_map once_by o) SetsCell
once-by o h = grind (arith)

one-some : (ws : List (List ℕ)) → IfSome (counted cells_set ws) (λ r. IsCount r.0 × (0 < length r.1))
one-some ws = counted-if (λ cs. 0 < length cs) cells_set cells-some ws

once-some : (ws : List (List ℕ)) → IfSome (once_of ws) SetsCell
once-some ws = once-by (counted cells_set ws) (one-some ws)

repeated-by : (o : Option (ℕ × (ℕ × (ℕ × List CellSet))))
    → IfSome o (λ r. IsCount r.0 × (IsCount r.1.0 × (IsCount r.1.1.0 × (0 < length r.1.1.1))))
    → IfSome (option_map repeated_by o) SetsCell
repeated-by o h = grind (arith)

repeated-some : (ws : List (List ℕ)) → IfSome (repeated_of ws) SetsCell
repeated-some ws = repeated-by (counted (counted (counted cells_set)) ws)
    (counted-if (λ r. IsCount r.0 × (IsCount r.1.0 × (0 < length r.1.1))) (counted (counted cells_set))
    (counted-if (λ r. IsCount r.0 × (0 < length r.1)) (counted cells_set) one-some) ws)

acting-if : (b : Bool) (q o : Option Acting) → IfSome q SetsCell → IfSome o SetsCell → IfSome (cond b q o) SetsCell
acting-if b q o h k = grind (arith)

acting-some : (ws : List (List ℕ)) → IfSome (acting_of ws) SetsCell
acting-some [] = tt
acting-some (word ∷ rest) = acting-if (bytes_eq word (codes "every")) (repeated_of rest) (once_of (word ∷ rest))
    (repeated-some rest) (once-some (word ∷ rest))

branch-if : (adds : Bool) (b : ℕ) (u v w : Bool) (o q : Option Acting) (m : Option (ℕ × View))
    → IfSome o SetsCell → IfSome q SetsCell
    → SaysSuch adds (cond u (option_map (inserted b) o) (cond v (option_map (inserted b) q)
    (cond w (option_map (λ r. edit.AddBookmark b r.0 r.1) m) None)))
branch-if adds b u v w o q m h k = grind (arith)

in_branch-says : (adds : Bool) (b : ℕ) (word : List ℕ) (rest : List (List ℕ))
    → SaysSuch adds (edit_in_branch b word rest)
in_branch-says adds b word rest = branch-if adds b (bytes_eq word (codes "at"))
    (bytes_eq word (codes "every"))
    (bytes_eq word (codes "mark")) (once_of rest) (repeated_of rest) (counted view_of rest)
    (once-some rest) (repeated-some rest)

named-says : (adds : Bool) (b : Option ℕ) (rest : List (List ℕ)) → SaysSuch adds (edit_in_named b rest)
named-says adds None rest = tt
named-says adds (Some b) [] = tt
named-says adds (Some b) (word ∷ rest) = in_branch-says adds b word rest

on-says : (adds : Bool) (rest : List (List ℕ)) → SaysSuch adds (on_of rest)
on-says adds rest = grind (arith, named-says)

further-if : (a b c d : Bool) (m : Option (ℕ × ℕ)) (i : Option ℕ) (e : Option Edit) → SaysSuch false e
    → SaysSuch c (cond a (option_map (λ r. edit.MoveBookmark r.0 r.1) m)
    (cond b (option_map edit.RemoveBookmark i)
    (cond c (option_map (λ r. edit.AddBranch r.0 r.1) m) (cond d (option_map edit.RemoveBranch i) e))))
further-if a b c d m i e h = grind (arith)

further-says : (word : List ℕ) (rest : List (List ℕ)) → SaysSuch (bytes_eq word (codes "branch"))
    (further_edit_by word rest)
further-says word rest = further-if (bytes_eq word (codes "move")) (bytes_eq word (codes "unmark"))
    (bytes_eq word (codes "branch")) (bytes_eq word (codes "unbranch")) (counted one_count rest)
    (one_count rest) (edit_in_branch 0 word rest) (in_branch-says false 0 word rest)

changed-if : (adds : Bool) (o : Option (ℕ × Acting)) → IfSome o (λ r. IsCount r.0 × SetsCell r.1)
    → SaysSuch adds (option_map (λ r. edit.Change r.0 r.1.acts r.1.cells) o)
changed-if adds o h = grind (arith)

change-says : (adds : Bool) (rest : List (List ℕ)) → SaysSuch adds (change_of rest)
change-says adds rest = changed-if adds (counted acting_of rest) (counted-if SetsCell acting_of acting-some rest)

edit-if : (adds a b c d : Bool) (cells : Option (List CellSet)) (i : Option ℕ)
    (on change further : Option Edit) → SaysSuch adds on → SaysSuch adds change → SaysSuch adds further
    → SaysSuch adds (cond a (option_map edit.SetCells cells)
    (cond b on (cond c change (cond d (option_map edit.RemoveIntervention i) further))))
edit-if adds a b c d cells i on change further h k l = grind (arith)

edit-says : (word : List ℕ) (rest : List (List ℕ)) → SaysSuch (bytes_eq word (codes "branch")) (edit_by word rest)
edit-says word rest =
    let adds = bytes_eq word (codes "branch") in
    edit-if adds (bytes_eq word (codes "set")) (bytes_eq word (codes "on")) (bytes_eq word (codes "change"))
    (bytes_eq word (codes "drop")) (some_cells (cells_said rest)) (one_count rest) (on_of rest) (change_of rest)
    (further_edit_by word rest) (on-says adds rest) (change-says adds rest) (further-says word rest)

-- the same of a command
abbrev SaysCommand : Bool → Option Command → Type 0
SaysCommand adds (Some (command.Edit edit)) = IsSaid adds (asked_of edit)
SaysCommand adds _ = ⊤

looking-if : (adds a b c d f : Bool) (i : Option ℕ) (rest : List (List ℕ)) (e : Option Edit) → SaysSuch adds e
    → SaysCommand adds (cond a (option_map command.Peek i) (cond b (alone (Some command.Poll) rest)
    (cond c (alone (Some command.List) rest) (cond d (alone (Some command.Script) rest)
    (cond f (alone (Some command.Help) rest) (option_map command.Edit e))))))
looking-if adds a b c d f i rest e h = grind (arith)

looking-says : (word : List ℕ) (rest : List (List ℕ))
    → SaysCommand (bytes_eq word (codes "branch")) (looking_by word rest)
looking-says word rest = looking-if (bytes_eq word (codes "branch")) (bytes_eq word (codes "peek"))
    (bytes_eq word (codes "poll")) (bytes_eq word (codes "list")) (bytes_eq word (codes "script"))
    (bytes_eq word (codes "help")) (one_count rest) rest (edit_by word rest) (edit-says word rest)

words-if : (adds a b c d : Bool) (i : Option ℕ) (rest : List (List ℕ)) (looks : Option Command)
    → SaysCommand adds looks
    → SaysCommand adds (cond a (alone (Some command.Settle) rest) (cond b (alone (Some command.Work) rest)
    (cond c (option_map command.Show i) (cond d (alone (Some command.Quit) rest) looks))))
words-if adds a b c d i rest looks h = grind (arith)

words-say : (ws : List (List ℕ)) → SaysCommand (adds_branch ws) (command_of_words ws)
words-say [] = tt
words-say (word ∷ rest) = words-if (bytes_eq word (codes "branch")) (bytes_eq word (codes "settle"))
    (bytes_eq word (codes "work")) (bytes_eq word (codes "show")) (bytes_eq word (codes "quit"))
    (one_count rest) rest (looking_by word rest) (looking-says word rest)

-- what is asked is of these edits, if it is one
abbrev pub Fits : (Asked → Type 0) → Ask → Type 0
Fits Q (Obey (command.Edit edit)) = Q (asked_of edit)
Fits Q _ = ⊤

asked-fits : (Q : Asked → Type 0) (n : ℕ) (adds : Bool) (c : Option Command) → ((a : Asked) → IsSaid adds a → Q a)
    → SaysCommand adds c → Fits Q (asked_by n c)
asked-fits Q n adds c f h = grind (arith)

-- what each line that says one asks is of these edits
abbrev pub LineFits : (Asked → Type 0) → Line → Type 0
LineFits Q line = (a : Asked) → IsSaid (adds_branch (words line.says)) a → Q a

pub asks-fit : (Q : Asked → Type 0) (stop : End) (place : LinePlace) (n : ℕ) (lines : List Line)
    → AllByRecursion (LineFits Q) lines → AllByRecursion (Fits Q) (asks stop place n lines)
asks-fit Q stop Between n [] h = tt
asks-fit Q Ended (InText at format text) n [] h = (tt, tt)
asks-fit Q Broken (InText at format text) n [] h = tt
asks-fit Q stop Between n (line ∷ rest) h =
    between (is_passed_over line.says) (format_of line.says) (λ place. asks-fit Q stop place (n + 1) rest h.1)
  where
    between : (passed : Bool) (o : Option Format)
        → ((place : LinePlace) → AllByRecursion (Fits Q) (asks stop place (n + 1) rest))
        → AllByRecursion (Fits Q)
        (cond passed (asks stop Between (n + 1) rest)
        (asked_at n line.says o ++ asks stop (place_behind n o) (n + 1) rest))
    between true o more = more Between
    between false None more = (
      asked-fits Q n (adds_branch (words line.says)) (command_of line.says) h.0 (words-say (words line.says)),
      more Between,
    )
    between false (Some format) more = more (InText n format [])
asks-fit Q stop (InText at format text) n (line ∷ rest) h =
    inside (is_end line.says) (λ place. asks-fit Q stop place (n + 1) rest h.1)
  where
    inside : (ends : Bool) → ((place : LinePlace) → AllByRecursion (Fits Q) (asks stop place (n + 1) rest))
        → AllByRecursion (Fits Q)
        (cond ends (Take format text ∷ asks stop Between (n + 1) rest)
        (asks stop (InText at format (text ++ line.raw)) (n + 1) rest))
    inside true more = (tt, more Between)
    inside false more = more (InText at format (text ++ line.raw))
