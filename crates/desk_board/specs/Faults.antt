-- Numbers and names of what may refuse a board or a snapshot.
use Rattle.std.specs.Prelude.{ℕ, List, codes}
use Rattle.desk_board.specs.declared.fault.BoardFault.{BoardFault}
use Rattle.desk_board.specs.declared.fault.BoardFault.TheVariants as board
use Rattle.desk_board.specs.declared.fault.PublishFault.{PublishFault}
use Rattle.desk_board.specs.declared.fault.PublishFault.TheVariants as publish

abbrev pub board_fault_number : BoardFault → ℕ
board_fault_number board.NoMemory = 70
board_fault_number board.NoViewer = 75

abbrev pub board_fault_name : BoardFault → List ℕ
board_fault_name board.NoMemory = codes "NoMemory"
board_fault_name board.NoViewer = codes "NoViewer"

abbrev pub publish_fault_number : PublishFault → ℕ
publish_fault_number publish.NoMemory = 70

abbrev pub publish_fault_name : PublishFault → List ℕ
publish_fault_name publish.NoMemory = codes "NoMemory"
