-- The header line `x = m, y = n, rule = name`.
use Rattle.std.specs.Prelude.{ℕ, List, [], codes, Option, Some, None, Result, Ok, Err, is_some, if◌then◌else◌}
use Rattle.std.specs.Option.{option_map, option_map_or}
use Rattle.std.specs.Str.{bytes_eq}
use Rattle.text_lines.specs.Blanks.{trim}
use Rattle.text_lines.specs.Numbers.{number_of}
use Rattle.multistate_rle.specs.declared.fault.RleFault.{RleFault}
use Rattle.multistate_rle.specs.declared.fault.RleFault.TheVariants.{NoHeader, BadHeader, BoundedGrid}
use Rattle.multistate_rle.specs.Cut.{◌>>=◌, begins_with, cut_at}

-- the value of a field `key = value`
abbrev pub value_in : List ℕ → List ℕ → Option (List ℕ)
value_in key field = do
  cut ← cut_at 61 field
  if bytes_eq (trim cut.0) key then Some (trim cut.1) else None

-- the size that a field gives, in digits
abbrev pub size_in : List ℕ → List ℕ → Option ℕ
size_in key field = do
  value ← value_in key field
  number_of value

-- the name in what follows the width: `y = n`, or `y = n, rule = name`
abbrev pub name_after_width : List ℕ → Option (List ℕ)
name_after_width rest =
    option_map_or (λ cut. size_in (codes "y") cut.0 >>= λ height. value_in (codes "rule") cut.1)
    (cut_at 44 rest)
    (option_map (λ height. []) (size_in (codes "y") rest))

-- the name in a whole header
abbrev pub name_in : List ℕ → Option (List ℕ)
name_in line = do
  cut ← cut_at 44 line
  width ← size_in (codes "x") cut.0
  name_after_width cut.1

-- a name with a colon asks for a bounded grid
abbrev pub unbounded : List ℕ → Result (List ℕ) RleFault
unbounded name = if is_some (cut_at 58 name) then Err BoundedGrid else Ok name

-- the rule's name that a header gives, or why the line is none
abbrev pub rule_name : List ℕ → Result (List ℕ) RleFault
rule_name line =
    if begins_with 120 line then option_map_or unbounded (name_in line) (Err BadHeader)
    else Err NoHeader
