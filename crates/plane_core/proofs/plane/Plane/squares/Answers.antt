use Rattle.plane_core.proofs.Names.{AreSquaresOf, IfOk-weaker, List, SquareRow, [], ap, arith, length, subst, sym, written, ◌<◌, ◌^◌, ◌∙◌, ◌∷◌}
use Rattle.plane_core.proofs.Written.{squares-written}
use Rattle.plane_core.proofs.plane.Plane.squares.Goals as goal

-- the row of the empty square is written only where there is no other
few-written : (rows : List SquareRow) → length rows < 2 ^ 32 → length (written rows) < 2 ^ 32
few-written [] few = omega arith
few-written (row ∷ rows) few = few

pub returns-clause-squares : goal.returns-clause-squares
returns-clause-squares c =
    IfOk-weaker c.written.result _ _ (λ found is.
    subst (AreSquaresOf c.args.self.now) (sym (is ∙ ap written c.as_slice.ensures)) (squares-written c.self.inside.rows c.args.self.now c.self.invariant.0 c.self.view_is)) c.written.ensures
