use Rattle.square_table.proofs.table.SquareTable.+is_blank.Given as goal

abbrev pub decreases-is_blank : goal.decreases-is_blank
decreases-is_blank l = l.level
