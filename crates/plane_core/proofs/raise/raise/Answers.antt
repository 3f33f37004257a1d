use Rattle.plane_core.proofs.Names.{AreQuadrants, List, SquareRow, ap, arith, length, root_level, subst, sym, ◌-◌, ◌∙◌, ◌≡◌, ◌≤◌}
use Rattle.plane_core.proofs.Shared.Roots.{rooted}
use Rattle.plane_core.proofs.Shared.Adding.{raised}
use Rattle.plane_core.proofs.raise.raise.Goals as goal

pub quadrants-kids-requires-clause-number : goal.quadrants-kids-requires-clause-number
quadrants-kids-requires-clause-number c = grind (arith, rooted)

pub returns : goal.returns
returns c =
    let rows = c.args.rows.now.items in
    let k = c.root_level-level.result in
    let kids = c.quadrants-kids.result in
    let level : k ≡ root_level rows = c.root_level-level.ensures.level ∙ ap root_level c.deref.ensures.value in
    let low : 1 ≤ k = subst (λ j. 1 ≤ j) (sym level) (rooted rows c.requires.rows).low in
    let count : c.len.result ≡ length rows = omega (arith, c.len.ensures) in
    let parts : AreQuadrants rows (k - 1) (length rows) kids = subst (λ n. AreQuadrants rows (k - 1) n kids) count
    (subst (λ (rs : List SquareRow). AreQuadrants rs (k - 1) c.len.result kids) c.deref-2.ensures.value c.quadrants-kids.ensures) in
    raised rows c.push_cornered.new.rows.items c.push_cornered-2.new.rows.items c.push_cornered-3.new.rows.items c.push_cornered-4.new.rows.items c.push_row.new.rows.items
    k kids c.in_ok-nw.nw c.in_ok-ne.ne c.in_ok-sw.sw c.in_ok-se.se c.in_ok-push_row.field-0 c.requires.rows low level parts
    c.in_ok-nw.ensures c.in_ok-ne.ensures c.in_ok-sw.ensures c.in_ok-se.ensures c.in_ok-push_row.ensures
