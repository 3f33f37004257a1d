-- Lists of numbers as runs of equal numbers.
use Rattle.std.specs.Prelude.{ℕ, ◌+◌, ◌-◌, ◌*◌, ◌==◌, max, nat_lt, Bool, true, not, List, [], ◌∷◌, ◌++◌, length, replicate, slice_index, if◌then◌else◌}
use Rattle.tree_translation.specs.declared.packed.Run.{Run}

-- the runs of numbers of which the first is at a place
abbrev pub runs_from : ℕ → List ℕ → List Run
runs_from place [] = []
runs_from place (n ∷ []) = record { number = n; until = place + 1 } ∷ []
runs_from place (n ∷ m ∷ numbers) =
    if n == m then runs_from (place + 1) (m ∷ numbers)
    else (record { number = n; until = place + 1 } ∷ runs_from (place + 1) (m ∷ numbers))

-- the numbers of runs from a place on
abbrev pub spread_from : ℕ → List Run → List ℕ
spread_from place [] = []
spread_from place (run ∷ runs) =
    replicate (run.until - place) run.number ++ spread_from (max place run.until) runs

-- whether the next number is another, or there is none
abbrev pub ends_run : List ℕ → ℕ → Bool
ends_run numbers place =
    if nat_lt (place + 1) (length numbers)
    then not (slice_index numbers place == slice_index numbers (place + 1)) else true

-- whether numbers are kept as runs
abbrev pub keeps_runs : List ℕ → Bool
keeps_runs numbers = nat_lt (2 * length (runs_from 0 numbers)) (length numbers)
