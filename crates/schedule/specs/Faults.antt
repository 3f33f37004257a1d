-- The number and the name of each fault of an edit.
use Rattle.std.specs.Prelude.{ℕ, List, codes}
use Rattle.schedule.specs.declared.fault.EditFault.{EditFault}
use Rattle.schedule.specs.declared.fault.EditFault.TheVariants.{GenerationTooFar, CellOutOfRange, CellStateTooHigh, NoSuchIntervention, NoSuchBookmark, TooManyInterventions, TooManyBookmarks}
use Rattle.schedule.specs.declared.fault.EditFault.TheVariants.{TooManyCells, BadWindow, RevisionSpent, NoSuchBranch, BeforeFork, BranchInUse, TooManyBranches, TooManyMarks, BadRepeat, NoMemory}

abbrev pub fault_number : EditFault → ℕ
fault_number GenerationTooFar = 40
fault_number CellOutOfRange = 41
fault_number CellStateTooHigh = 42
fault_number NoSuchIntervention = 43
fault_number NoSuchBookmark = 44
fault_number TooManyInterventions = 45
fault_number TooManyBookmarks = 46
fault_number TooManyCells = 47
fault_number BadWindow = 48
fault_number RevisionSpent = 49
fault_number NoSuchBranch = 50
fault_number BeforeFork = 51
fault_number BranchInUse = 52
fault_number TooManyBranches = 53
fault_number TooManyMarks = 54
fault_number BadRepeat = 55
fault_number NoMemory = 70

abbrev pub fault_name : EditFault → List ℕ
fault_name GenerationTooFar = codes "GenerationTooFar"
fault_name CellOutOfRange = codes "CellOutOfRange"
fault_name CellStateTooHigh = codes "CellStateTooHigh"
fault_name NoSuchIntervention = codes "NoSuchIntervention"
fault_name NoSuchBookmark = codes "NoSuchBookmark"
fault_name TooManyInterventions = codes "TooManyInterventions"
fault_name TooManyBookmarks = codes "TooManyBookmarks"
fault_name TooManyCells = codes "TooManyCells"
fault_name BadWindow = codes "BadWindow"
fault_name RevisionSpent = codes "RevisionSpent"
fault_name NoSuchBranch = codes "NoSuchBranch"
fault_name BeforeFork = codes "BeforeFork"
fault_name BranchInUse = codes "BranchInUse"
fault_name TooManyBranches = codes "TooManyBranches"
fault_name TooManyMarks = codes "TooManyMarks"
fault_name BadRepeat = codes "BadRepeat"
fault_name NoMemory = codes "NoMemory"
