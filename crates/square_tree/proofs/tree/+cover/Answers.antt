use Rattle.square_tree.proofs.Covered.{partly_none, partly_all, partly_quad, on_err, on_any_err}
use Rattle.square_tree.proofs.tree.+cover.Goals as goal

pub Four::cover-returns-in_err-cover-2-clause-err : goal.Four::cover-returns-in_err-cover-2-clause-err
Four::cover-returns-in_err-cover-2-clause-err g t c =
    on_any_err _ (partly_quad (partly_all _ _ _ c.in_ok-cover.ensures.ok) c.in_err-cover-2.ensures.err (partly_none _ _) (partly_none _ _))

pub Four::cover-returns-in_err-cover-3-clause-err : goal.Four::cover-returns-in_err-cover-3-clause-err
Four::cover-returns-in_err-cover-3-clause-err g t c =
    on_any_err _ (partly_quad (partly_all _ _ _ c.in_ok-cover.ensures.ok) (partly_all _ _ _ c.in_ok-cover-2.ensures.ok) c.in_err-cover-3.ensures.err (partly_none _ _))

pub Four::cover-returns-clause-err : goal.Four::cover-returns-clause-err
Four::cover-returns-clause-err g t c =
    on_err _ c.cover-4.ensures.err (λ p. partly_quad (partly_all _ _ _ c.in_ok-cover.ensures.ok) (partly_all _ _ _ c.in_ok-cover-2.ensures.ok) (partly_all _ _ _ c.in_ok-cover-3.ensures.ok) p)
