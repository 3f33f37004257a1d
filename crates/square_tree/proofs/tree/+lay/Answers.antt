use Rattle.std.proofs.Common.{rules, arith, ◌<◌, ◌≤◌, ◌-◌, ◌^◌}
use Rattle.square_tree.proofs.Covered.{on_ok, on_err}
use Rattle.square_tree.proofs.Shared.Placed.{aligned_east, aligned_west, laid_nw, laid_ne, laid_sw, laid_all, partly_laid_all}
use Rattle.square_tree.proofs.tree.+lay.Goals as goal

pub Four::lay_at-lay_at-requires : goal.Four::lay_at-lay_at-requires
Four::lay_at-lay_at-requires g t c κs within =
    let less : c.args.other_level < c.args.level = omega (arith, c.requires.other.1) in
    (search rules, (search rules, (search rules, (search rules, (search rules, (aligned_west c.requires.place.0 less (omega arith), aligned_west c.requires.place.1 less (omega arith)))))))

pub Four::lay_at-lay_at-requires-else-column-half : goal.Four::lay_at-lay_at-requires-else-column-half
Four::lay_at-lay_at-requires-else-column-half g t c κs within =
    let less : c.args.other_level < c.args.level = omega (arith, c.requires.other.1) in
    (search rules, (search rules, (search rules, (search rules, (search rules, (rw c.half-half.ensures (aligned_east c.requires.place.0 less (omega arith)), aligned_west c.requires.place.1 less (omega arith)))))))

pub Four::lay_at-lay_at-requires-then-column-half-2 : goal.Four::lay_at-lay_at-requires-then-column-half-2
Four::lay_at-lay_at-requires-then-column-half-2 g t c κs within =
    let less : c.args.other_level < c.args.level = omega (arith, c.requires.other.1) in
    (search rules, (search rules, (search rules, (search rules, (search rules, (aligned_west c.requires.place.0 less (omega arith), rw c.half-half.ensures (aligned_east c.requires.place.1 less (omega arith))))))))

pub Four::lay_at-lay_at-requires-else-column-half-2 : goal.Four::lay_at-lay_at-requires-else-column-half-2
Four::lay_at-lay_at-requires-else-column-half-2 g t c κs within =
    let less : c.args.other_level < c.args.level = omega (arith, c.requires.other.1) in
    (search rules, (search rules, (search rules, (search rules, (search rules, (rw c.half-half.ensures (aligned_east c.requires.place.0 less (omega arith)), rw c.half-half.ensures (aligned_east c.requires.place.1 less (omega arith))))))))

pub Four::lay_at-returns-then-column-half-clause-ok : goal.Four::lay_at-returns-then-column-half-clause-ok
Four::lay_at-returns-then-column-half-clause-ok g t c =
    let less : c.args.other_level < c.args.level = omega (arith, c.requires.other.1) in
    let west = aligned_west c.requires.place.0 less (omega arith) in
    let north = aligned_west c.requires.place.1 less (omega arith) in
    on_ok _ c.lay_at.ensures.ok (λ laid. laid_nw c.requires.other.0 c.requires.level.0 west.inside north.inside laid)

pub Four::lay_at-returns-else-column-half-clause-ok : goal.Four::lay_at-returns-else-column-half-clause-ok
Four::lay_at-returns-else-column-half-clause-ok g t c =
    let less : c.args.other_level < c.args.level = omega (arith, c.requires.other.1) in
    let east : 2 ^ (c.args.level - 1) ≤ c.args.column = omega arith in
    let north = aligned_west c.requires.place.1 less (omega arith) in
    on_ok _ (rw c.half-half.ensures at c.lay_at-else-column-half.ensures.ok) (λ laid. laid_ne c.requires.other.0 c.requires.level.0 east north.inside laid)

pub Four::lay_at-returns-then-column-half-2-clause-ok : goal.Four::lay_at-returns-then-column-half-2-clause-ok
Four::lay_at-returns-then-column-half-2-clause-ok g t c =
    let less : c.args.other_level < c.args.level = omega (arith, c.requires.other.1) in
    let west = aligned_west c.requires.place.0 less (omega arith) in
    let south : 2 ^ (c.args.level - 1) ≤ c.args.row = omega arith in
    on_ok _ (rw c.half-half.ensures at c.lay_at-then-column-half-2.ensures.ok) (λ laid. laid_sw c.requires.other.0 c.requires.level.0 west.inside south laid)

pub PatchTree::lay_at-returns-then-level-other_level-clause-ok : goal.PatchTree::lay_at-returns-then-level-other_level-clause-ok
PatchTree::lay_at-returns-then-level-other_level-clause-ok g t c =
    on_ok _ c.cover.ensures.ok (λ is. laid_all _ _ _ c.if-level-other_level.true c.requires.other c.requires.level.0 c.requires.place.0 c.requires.place.1 is)

pub PatchTree::lay_at-returns-then-level-other_level-clause-err : goal.PatchTree::lay_at-returns-then-level-other_level-clause-err
PatchTree::lay_at-returns-then-level-other_level-clause-err g t c =
    on_err _ c.cover.ensures.err (λ partly. partly_laid_all _ _ _ c.if-level-other_level.true c.requires.other c.requires.level.0 c.requires.place.0 c.requires.place.1 partly)
