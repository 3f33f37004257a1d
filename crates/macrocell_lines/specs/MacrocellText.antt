-- What a macrocell text says, or the first fault that it has.
use Rattle.std.specs.Prelude.{◌≡◌, ℕ, ◌+◌, ◌==◌, ◌<◌, nat_eq, if◌then◌else◌, List, [], ◌∷◌, ◌++◌, length, take, codes, Result, Ok, Err}
use Rattle.std.specs.List.{starts_with}
use Rattle.text_lines.specs.Lines.{says}
use Rattle.basics.specs.Results.{◌>>=◌}
use Rattle.macrocell_lines.specs.declared.fault.McFault.{McFault}
use Rattle.macrocell_lines.specs.declared.fault.McFault.TheVariants.{NoM2}
use Rattle.macrocell_lines.specs.declared.node.Node.{Node}
use Rattle.macrocell_lines.specs.Headings.{Heading, after_comment}
use Rattle.macrocell_lines.specs.NodeLines.{node_of}

-- the heading, and the nodes in file order
pub record MacrocellText : Type 0 where
  pub heading : Heading
  pub nodes : List Node

-- what no line says
abbrev pub nothing_said : MacrocellText
nothing_said = record { heading = record { rule_name = []; generation = 0 }; nodes = [] }

-- what is said after one more line, which is blank, begins with # or says a node
abbrev pub after_line : ℕ → MacrocellText → List ℕ → Result MacrocellText McFault
after_line number said [] = Ok said
after_line number said (b ∷ bs) =
    if b == 35
    then (after_comment said.heading (b ∷ bs)
    >>= λ heading. Ok (record said { heading = heading })) else
    (node_of number said.nodes (b ∷ bs)
    >>= λ node. Ok (record said { nodes = said.nodes ++ node ∷ [] }))

-- what is said after more lines, of which the first has this number
abbrev pub after_lines : ℕ → MacrocellText → List (List ℕ) → Result MacrocellText McFault
after_lines number said [] = Ok said
after_lines number said (line ∷ lines) =
    after_line number said line >>= λ more. after_lines (number + 1) more lines

-- what the lines of a text say, of which the first begins with [M2]
abbrev pub said_by : List (List ℕ) → Result MacrocellText McFault
said_by [] = Err NoM2
said_by (first ∷ lines) =
    if starts_with nat_eq first (codes "[M2]") then after_lines 2 nothing_said lines else Err NoM2

-- what a macrocell text says
abbrev pub macrocell_of : List ℕ → Result MacrocellText McFault
macrocell_of text = said_by (says text)

-- some first lines are read without a fault, and say a node at least
pub record BeginsWithNodes (reading : List (List ℕ) → Result MacrocellText McFault)
    (lines : List (List ℕ)) : Type 0 where
  pub count : ℕ
  pub said : MacrocellText
  pub read : reading (take count lines) ≡ Ok said
  pub some : 0 < length said.nodes
