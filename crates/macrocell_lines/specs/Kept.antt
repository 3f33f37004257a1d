-- What was read so far, as the reader keeps it.
use Rattle.std.specs.Prelude.{List}
use Rattle.macrocell_lines.specs.declared.heading.Heading as kept
use Rattle.macrocell_lines.specs.declared.node.Node.{Node}
use Rattle.macrocell_lines.specs.Headings.{Heading}
use Rattle.macrocell_lines.specs.MacrocellText.{MacrocellText}

-- a heading whose name borrows from the text
abbrev pub heading_of : kept.Heading → Heading
heading_of heading = record { rule_name = heading.rule_name.now; generation = heading.generation }

-- the heading, and the nodes behind it
abbrev pub said_of : kept.Heading → List Node → MacrocellText
said_of heading nodes = record { heading = heading_of heading; nodes = nodes }
