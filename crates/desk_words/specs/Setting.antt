-- The options whose value is a number.
use Rattle.std.specs.Prelude.{ℕ, List, codes, false}
use Rattle.desk_words.specs.declared.settings.Options.{Options}
use Rattle.desk_words.specs.declared.settings.Setting.{Setting}
use Rattle.desk_words.specs.declared.settings.Setting.TheVariants.{Workers, Facts, Squares}

-- the name of a setting
abbrev pub name_of : Setting → List ℕ
name_of Workers = codes "workers"
name_of Facts = codes "facts"
name_of Squares = codes "squares"

-- the least number that it takes
abbrev pub least_of : Setting → ℕ
least_of Workers = 1
least_of Facts = 1
least_of Squares = 64

-- the most
abbrev pub most_of : Setting → ℕ
most_of Workers = 8
most_of Facts = 4096
most_of Squares = 16777216

-- its number among the options
abbrev pub number_of : Setting → Options → ℕ
number_of Workers options = options.workers
number_of Facts options = options.facts
number_of Squares options = options.squares

-- the options where none is used: 2 workers, 64 facts, 4194304 squares and no progress
abbrev pub usual_options : Options
usual_options = record { workers = 2; facts = 64; squares = 4194304; progress = false }

-- the name of the option for progress, which has no number
abbrev pub progress_name : List ℕ
progress_name = codes "progress"
