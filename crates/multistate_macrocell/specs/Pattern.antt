-- Which pattern a macrocell text means, or the first fault that it has.
use Rattle.std.specs.Prelude.{◌⊎◌, ℕ, IsOk, List, Result, Ok}
use Rattle.basics.specs.Results.{◌>>=◌}
use Rattle.text_lines.specs.Lines.{says}
use Rattle.macrocell_lines.specs.declared.fault.McFault.{McFault}
use Rattle.macrocell_lines.specs.MacrocellText.{BeginsWithNodes, MacrocellText, macrocell_of, said_by}
use Rattle.plane_core.specs.declared.loaded.Loaded.{Loaded}
use Rattle.multistate_macrocell.specs.Quadtree.{world_of_nodes}

-- the pattern that a text says
abbrev pub said_pattern : MacrocellText → Loaded
said_pattern said =
    record {
      plane = world_of_nodes said.nodes;
      rule_name = said.heading.rule_name;
      generation = said.heading.generation;
    }

-- the pattern that a text means
abbrev pub pattern_of : List ℕ → Result Loaded McFault
pattern_of text = macrocell_of text >>= λ said. Ok (said_pattern said)

-- memory may be wanted: the text has no fault, or it says a node before it
abbrev pub MayWant : List ℕ → Type 0
MayWant text = BeginsWithNodes said_by (says text) ⊎ IsOk (pattern_of text)
