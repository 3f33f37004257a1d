-- Lines that begin with #: the rule's name, the generation, and comments.
use Rattle.std.specs.Prelude.{ℕ, ◌==◌, nat_eq, if◌then◌else◌, is_some, position, List, [], ◌∷◌, length, drop, codes, Option, Some, None, option_and_then, Result, Ok, Err}
use Rattle.std.specs.List.{starts_with}
use Rattle.std.specs.Option.{option_map_or}
use Rattle.text_lines.specs.Blanks.{is_blank, trim}
use Rattle.macrocell_lines.specs.declared.fault.McFault.{McFault}
use Rattle.macrocell_lines.specs.declared.fault.McFault.TheVariants.{BoundedGrid, Timeline}
use Rattle.macrocell_lines.specs.Pieces.{number_in}

-- what these lines say of a pattern: the name of its rule, and which generation it is
pub record Heading : Type 0 where
  pub rule_name : List ℕ
  pub generation : ℕ

-- what stands behind the blank at the beginning, or nothing behind nothing
abbrev pub value_in : List ℕ → Option (List ℕ)
value_in [] = Some []
value_in (b ∷ bs) = if is_blank b then Some (trim bs) else None

-- what a line says behind a word, which stands alone or has a blank behind it
abbrev pub value_behind : List ℕ → List ℕ → Option (List ℕ)
value_behind word line =
    option_and_then value_in
    (if starts_with nat_eq line word then Some (drop (length word) line) else None)

-- the generation that a line gives
abbrev pub generation_in : List ℕ → Option ℕ
generation_in line = option_and_then number_in (value_behind (codes "#G") line)

-- the heading with this name, unless that asks for a bounded grid
abbrev pub named : Heading → List ℕ → Result Heading McFault
named heading name =
    if is_some (position (λ b. b == 58) name) then Err BoundedGrid
    else Ok (record heading { rule_name = name })

-- the heading after one more such line
abbrev pub after_comment : Heading → List ℕ → Result Heading McFault
after_comment heading line =
    if starts_with nat_eq line (codes "#FRAME") then Err Timeline else
    option_map_or (named heading) (value_behind (codes "#R") line)
    (Ok (option_map_or (λ n. record heading { generation = n }) (generation_in line) heading))
