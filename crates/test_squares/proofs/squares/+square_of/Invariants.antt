use Rattle.test_squares.proofs.squares.+square_of.Given as goal

abbrev pub decreases-square_of : goal.decreases-square_of
decreases-square_of l = l.level
