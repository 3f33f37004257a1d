use Rattle.square_table.proofs.Names.{IsSquareOf, [], add-one, ap, arith, get_or_default, length, level_of, rules, slice_index_or, subst, sym, ◌+◌, ◌∙◌, ◌≡◌}
use Rattle.square_table.specs.declared.square.Square.{Square}
use Rattle.square_table.proofs.Shared.Growth.{Keeps-grows}
use Rattle.square_table.proofs.Shared.Making.{IsFor-joined, four_numbers, four_cells}
use Rattle.square_table.proofs.table.SquareTable.join.Goals as goal

pub returns-clause-keeps : goal.returns-clause-keeps
returns-clause-keeps c = Keeps-grows c.args.self.now c.join_numbers.new.self c.join_numbers.ensures.grows

pub returns-clause-joined : goal.returns-clause-joined
returns-clause-joined c =
    let t = c.args.self.now in
    let u = c.join_numbers.new.self in
    let four = c.args.four in
    let size : length four ≡ 4 = search rules in
    let none : Square = record { kids = record { ref_ptr = (0, 0); now = [] }; number = 0; level = 0 } in
    let k = level_of (slice_index_or four 0 none) in
    let are = c.requires.four none in
    let square = c.in_ok-number.ensures.square in
    let made = IsFor-joined t u k c.in_ok-number.number _ (four_numbers t k four none size are) c.join_numbers.ensures.grows (subst (λ ks. IsSquareOf u.rows ks c.in_ok-number.number) c.numbers-kids.ensures square) in
    record {
      held = record { numbered = rw add-one made.numbered; quadrants = λ some. c.in_ok-placed.ensures ∙ sym square.listed };
      level = λ d. ap (λ (q : Square). level_of q + 1) (get_or_default four 0 none d (omega (arith, size)));
      cells = λ d. rw add-one (made.square ∙ four_cells t k four d size are);
    }
