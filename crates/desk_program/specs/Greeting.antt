-- What is said to whoever types a script.
use Rattle.std.specs.Prelude.{ℕ, Bool, false, true, List, Option, Some, None, codes}

-- the line on standard error where a script is typed, and none where it isn't
abbrev pub greeting_of : Bool → Option (List ℕ)
greeting_of true =
    Some (codes "desk: waiting for a script; most begin with `rule`, and `help` lists the commands")
greeting_of false = None
