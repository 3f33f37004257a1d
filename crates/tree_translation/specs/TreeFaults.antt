-- The number, the name and the place of each fault of a translation.
use Rattle.std.specs.Prelude.{ℕ, List, Option, None, codes}
use Rattle.tree_translation.specs.declared.tree_fault.TreeFault.{TreeFault}
use Rattle.tree_translation.specs.declared.tree_fault.TreeFault.TheVariants.{TreeTooLarge, NoMemory}

abbrev pub fault_number : TreeFault → ℕ
fault_number TreeTooLarge = 14
fault_number NoMemory = 70

abbrev pub fault_name : TreeFault → List ℕ
fault_name TreeTooLarge = codes "TreeTooLarge"
fault_name NoMemory = codes "NoMemory"

-- none shows at a place
abbrev pub fault_place : TreeFault → Option ℕ
fault_place fault = None
