use Rattle.multistate_macrocell.proofs.Names.{heading_text, row_lines, take, ◌++◌, ◌≡◌}
use Rattle.multistate_macrocell.proofs.write.text_of.Given as goal

abbrev pub invariant-loop-row : goal.invariant-loop-row
invariant-loop-row l = l.text.items ≡ heading_text l.fn.name l.fn.generation ++ row_lines (take l.row-index l.rows)
