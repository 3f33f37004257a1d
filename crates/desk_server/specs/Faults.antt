-- What is told of what was refused.
use Rattle.std.specs.Prelude.{ℕ, List, Option, None, Some}
use Rattle.rule_file.specs.declared.fault.RuleFault.{RuleFault}
use Rattle.rule_file.specs.Faults as rule_faults
use Rattle.multistate_rle.specs.declared.fault.RleFault.{RleFault}
use Rattle.multistate_rle.specs.Faults as pattern_faults
use Rattle.macrocell_lines.specs.declared.fault.McFault.{McFault}
use Rattle.macrocell_lines.specs.Faults as macrocell_faults
use Rattle.schedule.specs.declared.fault.EditFault.{EditFault}
use Rattle.schedule.specs.Faults as edit_faults
use Rattle.desk_script.specs.declared.fault.ScriptFault.{ScriptFault}
use Rattle.desk_script.specs.Faults.{fault_number, fault_name, fault_line}

-- a refusal: its number, its name, and its line or offset if it has one
pub record Fault : Type 0 where
  pub number : ℕ
  pub name : List ℕ
  pub place : Option ℕ

abbrev pub fault_of : ℕ → List ℕ → Option ℕ → Fault
fault_of number name place = record { number = number; name = name; place = place }

-- the faults of texts, of edits and of lines as refusals
abbrev pub of_rule : RuleFault → Fault
of_rule fault =
    fault_of (rule_faults.fault_number fault) (rule_faults.fault_name fault)
    (rule_faults.fault_place fault)

abbrev pub of_pattern : RleFault → Fault
of_pattern fault =
    fault_of (pattern_faults.fault_number fault) (pattern_faults.fault_name fault)
    (pattern_faults.fault_place fault)

abbrev pub of_macrocell : McFault → Fault
of_macrocell fault =
    fault_of (macrocell_faults.fault_number fault) (macrocell_faults.fault_name fault)
    (macrocell_faults.fault_place fault)

abbrev pub of_edit : EditFault → Fault
of_edit fault = fault_of (edit_faults.fault_number fault) (edit_faults.fault_name fault) None

abbrev pub of_script : ScriptFault → Fault
of_script fault = fault_of (fault_number fault) (fault_name fault) (Some (fault_line fault))
