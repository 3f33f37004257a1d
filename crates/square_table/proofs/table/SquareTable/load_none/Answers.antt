use Rattle.square_table.proofs.Names.{AreBlanks, Grows, GrowsBy, GrowsFrom, IsSquareOf, Table, [], ap₂, lit<, refl, square_in, sym, ℕ, ◌∙◌, ◌∷◌}
use Rattle.square_table.proofs.Shared.Numbers.{IsNumber-state, square_in-cell}
use Rattle.square_table.proofs.Loading.{AreBlanks-first, AreBlanks-more, blank_grows, four_of, empty_square-zero}
use Rattle.square_table.proofs.table.SquareTable.load_none.Goals as goal

-- the blank squares of levels 0 and 1
blanks : (t u : Table) (n : ℕ) → Grows t u → IsSquareOf u.rows (four_of 0) n → AreBlanks u.rows (0 ∷ n ∷ [])
blanks t u n grows is = AreBlanks-more t u (0 ∷ []) 0 n refl (lit< tt) (AreBlanks-first t.rows) grows is

from_zero : (t u : Table) → Grows t u → GrowsBy (four_of 0) t u → GrowsFrom 2 [] t u
from_zero t u grows step = blank_grows t u 0 0 (IsNumber-state t.rows 0 (lit< tt)) (square_in-cell t.rows 0 ∙ sym empty_square-zero) grows step

pub square-requires : goal.square-requires
square-requires c = (blanks c.args.self.now c.join_numbers.new.self c.in_ok-number.number c.in_ok-number.ensures.grows c.in_ok-number.ensures.square).numbers 1 (lit< tt)

pub returns-clause-grows : goal.returns-clause-grows
returns-clause-grows c = from_zero c.args.self.now c.join_numbers.new.self c.join_numbers.ensures.grows c.join_numbers.ensures.one

pub returns-in_err-square-clause-grows : goal.returns-in_err-square-clause-grows
returns-in_err-square-clause-grows c = from_zero c.args.self.now c.join_numbers.new.self c.join_numbers.ensures.grows c.join_numbers.ensures.one

pub returns-clause-square : goal.returns-clause-square
returns-clause-square c = record {
  held = c.in_ok-square.ensures.held;
  level = c.in_ok-square.ensures.level;
  cells =
      ap₂ (square_in c.join_numbers.new.self.rows) c.in_ok-square.ensures.level c.in_ok-square.ensures.number
      ∙ (blanks c.args.self.now c.join_numbers.new.self c.in_ok-number.number c.in_ok-number.ensures.grows c.in_ok-number.ensures.square).empty 1 (lit< tt);
}
