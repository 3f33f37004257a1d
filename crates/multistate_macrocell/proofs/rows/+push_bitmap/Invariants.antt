use Rattle.multistate_macrocell.proofs.rows.+push_bitmap.Given as goal

abbrev pub decreases-push_bitmap : goal.decreases-push_bitmap
decreases-push_bitmap l = l.level
