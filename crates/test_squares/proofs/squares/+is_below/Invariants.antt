use Rattle.test_squares.proofs.squares.+is_below.Given as goal

abbrev pub decreases-is_below : goal.decreases-is_below
decreases-is_below l = l.level
