-- The number, the name and the place of each fault of a macrocell file.
use Rattle.std.specs.Prelude.{ℕ, List, Option, Some, None, codes}
use Rattle.macrocell_lines.specs.declared.fault.McFault.{McFault}
use Rattle.macrocell_lines.specs.declared.fault.McFault.TheVariants.{BoundedGrid, NoM2, BadRow, BadChild, TooDeep, Timeline, NoRoom, NoMemory}

abbrev pub fault_number : McFault → ℕ
fault_number BoundedGrid = 23
fault_number NoM2 = 30
fault_number (BadRow line) = 31
fault_number (BadChild line) = 32
fault_number TooDeep = 33
fault_number Timeline = 34
fault_number NoRoom = 71
fault_number NoMemory = 70

abbrev pub fault_name : McFault → List ℕ
fault_name BoundedGrid = codes "BoundedGrid"
fault_name NoM2 = codes "NoM2"
fault_name (BadRow line) = codes "BadRow"
fault_name (BadChild line) = codes "BadChild"
fault_name TooDeep = codes "TooDeep"
fault_name Timeline = codes "Timeline"
fault_name NoRoom = codes "NoRoom"
fault_name NoMemory = codes "NoMemory"

-- the line at which it shows, of those that show at one
abbrev pub fault_place : McFault → Option ℕ
fault_place BoundedGrid = None
fault_place NoM2 = None
fault_place (BadRow line) = Some line
fault_place (BadChild line) = Some line
fault_place TooDeep = None
fault_place Timeline = None
fault_place NoRoom = None
fault_place NoMemory = None
