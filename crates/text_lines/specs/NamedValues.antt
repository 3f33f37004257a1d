-- Lines of a name, a sign and a value.
use Rattle.std.specs.Prelude.{ℕ, ◌+◌, ◌==◌, List, take, drop, position, Option}
use Rattle.std.specs.Option.{option_map}
use Rattle.text_lines.specs.Blanks.{trim_start, trim_end}

-- the name and the value, which the first such sign parts, without the blanks on either side of it
abbrev pub named_value : ℕ → List ℕ → Option (List ℕ × List ℕ)
named_value sign line =
    option_map (λ at. (trim_end (take at line), trim_start (drop (at + 1) line)))
    (position (λ b. b == sign) line)
