-- The numbers and names of a table's refusals.
use Rattle.std.specs.Prelude.{ℕ, List, codes}
use Rattle.square_table.specs.declared.fault.TableFault.{TableFault}
use Rattle.square_table.specs.declared.fault.TableFault.TheVariants.{NoRoom, NoMemory}

-- the number of a refusal
abbrev pub number_of : TableFault → ℕ
number_of NoMemory = 70
number_of NoRoom = 71

-- its name
abbrev pub name_of : TableFault → List ℕ
name_of NoMemory = codes "NoMemory"
name_of NoRoom = codes "NoRoom"
