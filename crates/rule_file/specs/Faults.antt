-- The number, the name and the place of each fault of a rule file.
use Rattle.std.specs.Prelude.{ℕ, List, Option, Some, None, codes}
use Rattle.rule_file.specs.declared.fault.RuleFault.{RuleFault}
use Rattle.rule_file.specs.declared.fault.RuleFault.TheVariants.{NoRuleLine, NoTable, MissingDescriptor, BadStates, BadNeighborhood, BadSymmetry, BadVariable, BadTransition, StateTooHigh, FreeResult}
use Rattle.rule_file.specs.declared.fault.RuleFault.TheVariants.{TooManyTransitions, BadTree, NotQuiescent, NoMemory}

abbrev pub fault_number : RuleFault → ℕ
fault_number NoRuleLine = 1
fault_number NoTable = 2
fault_number MissingDescriptor = 3
fault_number BadStates = 4
fault_number BadNeighborhood = 5
fault_number BadSymmetry = 6
fault_number (BadVariable line) = 7
fault_number (BadTransition line) = 8
fault_number (StateTooHigh line) = 9
fault_number (FreeResult line) = 10
fault_number TooManyTransitions = 11
fault_number (BadTree line) = 12
fault_number NotQuiescent = 13
fault_number NoMemory = 70

abbrev pub fault_name : RuleFault → List ℕ
fault_name NoRuleLine = codes "NoRuleLine"
fault_name NoTable = codes "NoTable"
fault_name MissingDescriptor = codes "MissingDescriptor"
fault_name BadStates = codes "BadStates"
fault_name BadNeighborhood = codes "BadNeighborhood"
fault_name BadSymmetry = codes "BadSymmetry"
fault_name (BadVariable line) = codes "BadVariable"
fault_name (BadTransition line) = codes "BadTransition"
fault_name (StateTooHigh line) = codes "StateTooHigh"
fault_name (FreeResult line) = codes "FreeResult"
fault_name TooManyTransitions = codes "TooManyTransitions"
fault_name (BadTree line) = codes "BadTree"
fault_name NotQuiescent = codes "NotQuiescent"
fault_name NoMemory = codes "NoMemory"

-- the line at which it shows, of those that show at one
abbrev pub fault_place : RuleFault → Option ℕ
fault_place NoRuleLine = None
fault_place NoTable = None
fault_place MissingDescriptor = None
fault_place BadStates = None
fault_place BadNeighborhood = None
fault_place BadSymmetry = None
fault_place (BadVariable line) = Some line
fault_place (BadTransition line) = Some line
fault_place (StateTooHigh line) = Some line
fault_place (FreeResult line) = Some line
fault_place TooManyTransitions = None
fault_place (BadTree line) = Some line
fault_place NotQuiescent = None
fault_place NoMemory = None
