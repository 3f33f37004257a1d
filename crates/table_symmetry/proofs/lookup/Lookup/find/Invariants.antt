use Rattle.table_symmetry.proofs.Names.{false, row_has, ℕ, ◌*◌, ◌<◌, ◌≡◌}
use Rattle.table_symmetry.proofs.lookup.Lookup.find.Given as goal

abbrev pub invariant-loop-word : goal.invariant-loop-word
invariant-loop-word l = (row : ℕ) → row < 64 * l.word → row_has l.self.columns l.inputs row ≡ false
