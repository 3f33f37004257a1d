use Rattle.desk_script.proofs.Names.{drop, part_text}
use Rattle.desk_script.proofs.Pushed.{IsGrowing}
use Rattle.desk_script.proofs.part.push_parts.Given as goal

abbrev pub invariant-loop-part : goal.invariant-loop-part
invariant-loop-part l = IsGrowing part_text l.fn.text.items l.text.items (drop l.part-index l.parts) l.parts
