-- What is kept of a table that is asked.
use Rattle.rule_tree.specs.declared.asked_table.Form.{Form}
use Rattle.rule_tree.specs.declared.asked_table.Form.TheVariants.{Translated, LookedUp}
use Rattle.rule_tree.specs.Asked.{IsTooLarge}
use Rattle.table_symmetry.specs.Table.{Table}
use Rattle.tree_translation.specs.Translation.{Translates}

abbrev pub table_in : Form → Table
table_in (Translated table tree) = table
table_in (LookedUp table) = table

-- the tree does what the table does, or there is none that is small enough
abbrev pub IsFit : Form → Type 0
IsFit (Translated table tree) = Translates table tree
IsFit (LookedUp table) = IsTooLarge table
