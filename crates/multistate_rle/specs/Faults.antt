-- The number, the name and the place of each fault of a pattern file.
use Rattle.std.specs.Prelude.{ℕ, List, Option, Some, None, codes}
use Rattle.multistate_rle.specs.declared.fault.RleFault.{RleFault}
use Rattle.multistate_rle.specs.declared.fault.RleFault.TheVariants.{NoHeader, BadHeader, BadRun, BoundedGrid, TooManyLive, CellOutOfRange, NoMemory}

abbrev pub fault_number : RleFault → ℕ
fault_number NoHeader = 20
fault_number BadHeader = 21
fault_number (BadRun offset) = 22
fault_number BoundedGrid = 23
fault_number TooManyLive = 24
fault_number CellOutOfRange = 41
fault_number NoMemory = 70

abbrev pub fault_name : RleFault → List ℕ
fault_name NoHeader = codes "NoHeader"
fault_name BadHeader = codes "BadHeader"
fault_name (BadRun offset) = codes "BadRun"
fault_name BoundedGrid = codes "BoundedGrid"
fault_name TooManyLive = codes "TooManyLive"
fault_name CellOutOfRange = codes "CellOutOfRange"
fault_name NoMemory = codes "NoMemory"

-- the offset at which it shows, of the one that shows at one
abbrev pub fault_place : RleFault → Option ℕ
fault_place NoHeader = None
fault_place BadHeader = None
fault_place (BadRun offset) = Some offset
fault_place BoundedGrid = None
fault_place TooManyLive = None
fault_place CellOutOfRange = None
fault_place NoMemory = None
