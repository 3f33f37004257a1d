use Rattle.std.proofs.Common.{arith}
use Rattle.square_tree.proofs.Covered.{on_ok, on_err, on_any_err}
use Rattle.square_tree.proofs.Shared.Quarters.{laid_quadrants, laid_where, partly_where, partly_of_laid, partly_nw, partly_ne, partly_sw, partly_se, middle, reach_half, reach_mono}
use Rattle.square_tree.proofs.tree.PatchTree.lay_quadrants.Goals as goal

pub overflow_sub-near : goal.overflow_sub-near
overflow_sub-near g c =
    let h = reach_half c.args.other_level c.requires.other.0.0 in
    let less = reach_mono c.args.other_level c.args.level c.requires.other.1 in
    let i = reach_half c.args.level (omega (arith, c.requires.other.0.0, c.requires.other.1)) in
    omega (arith, h, i, less)

pub lay_at-requires-clause-place : goal.lay_at-requires-clause-place
lay_at-requires-clause-place g c =
    let m = middle c.requires.other.0.0 c.requires.other.1 c.half-centre.ensures c.half.ensures in (m.aligned_near, m.aligned_near)

pub lay_at-requires-2-clause-place : goal.lay_at-requires-2-clause-place
lay_at-requires-2-clause-place g c =
    let m = middle c.requires.other.0.0 c.requires.other.1 c.half-centre.ensures c.half.ensures in (m.aligned_far, m.aligned_near)

pub lay_at-requires-3-clause-place : goal.lay_at-requires-3-clause-place
lay_at-requires-3-clause-place g c =
    let m = middle c.requires.other.0.0 c.requires.other.1 c.half-centre.ensures c.half.ensures in (m.aligned_near, m.aligned_far)

pub lay_at-requires-4-clause-place : goal.lay_at-requires-4-clause-place
lay_at-requires-4-clause-place g c =
    let m = middle c.requires.other.0.0 c.requires.other.1 c.half-centre.ensures c.half.ensures in (m.aligned_far, m.aligned_far)

pub returns-in_err-lay_at-clause-err : goal.returns-in_err-lay_at-clause-err
returns-in_err-lay_at-clause-err g c =
    let m = middle c.requires.other.0.0 c.requires.other.1 c.half-centre.ensures c.half.ensures in
    on_any_err _ (partly_nw c.requires.other.0 (partly_where m.near m.near c.in_err-lay_at.ensures.err))

pub returns-in_err-lay_at-2-clause-err : goal.returns-in_err-lay_at-2-clause-err
returns-in_err-lay_at-2-clause-err g c =
    let m = middle c.requires.other.0.0 c.requires.other.1 c.half-centre.ensures c.half.ensures in
    let q = c.requires.other.0 in
    on_any_err _ (partly_ne q (partly_nw q (partly_of_laid (laid_where m.near m.near c.in_ok-lay_at.ensures.ok))) (partly_where m.far m.near c.in_err-lay_at-2.ensures.err))

pub returns-in_err-lay_at-3-clause-err : goal.returns-in_err-lay_at-3-clause-err
returns-in_err-lay_at-3-clause-err g c =
    let m = middle c.requires.other.0.0 c.requires.other.1 c.half-centre.ensures c.half.ensures in
    let q = c.requires.other.0 in
    on_any_err _ (partly_sw q (partly_ne q (partly_nw q (partly_of_laid (laid_where m.near m.near c.in_ok-lay_at.ensures.ok)))
    (partly_of_laid (laid_where m.far m.near c.in_ok-lay_at-2.ensures.ok))) (partly_where m.near m.far c.in_err-lay_at-3.ensures.err))

pub returns-clause-ok : goal.returns-clause-ok
returns-clause-ok g c =
    let m = middle c.requires.other.0.0 c.requires.other.1 c.half-centre.ensures c.half.ensures in
    on_ok _ c.lay_at-4.ensures.ok (λ last. laid_quadrants c.requires.other.0 (laid_where m.near m.near c.in_ok-lay_at.ensures.ok)
    (laid_where m.far m.near c.in_ok-lay_at-2.ensures.ok) (laid_where m.near m.far c.in_ok-lay_at-3.ensures.ok) (laid_where m.far m.far last))

pub returns-clause-err : goal.returns-clause-err
returns-clause-err g c =
    let m = middle c.requires.other.0.0 c.requires.other.1 c.half-centre.ensures c.half.ensures in
    let q = c.requires.other.0 in
    on_err _ c.lay_at-4.ensures.err (λ last. partly_se q (partly_sw q (partly_ne q (partly_nw q (partly_of_laid (laid_where m.near m.near c.in_ok-lay_at.ensures.ok)))
    (partly_of_laid (laid_where m.far m.near c.in_ok-lay_at-2.ensures.ok))) (partly_of_laid (laid_where m.near m.far c.in_ok-lay_at-3.ensures.ok))) (partly_where m.far m.far last))
