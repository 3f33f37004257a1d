use Rattle.plane_core.proofs.Names.{AreQuadrants, IsLaid, IsRoot, List, Span, SquareRow, ap, append-nil, drawn, subst, ◌-◌, ◌∙◌}
use Rattle.plane_core.proofs.Laying.{added-level, laid-root, laid-world}
use Rattle.plane_core.proofs.lay.lay_batch.Goals as goal

pub returns-clause-world : goal.returns-clause-world
returns-clause-world c =
    let rows = c.raise_around.new.rows.items in
    let mid = c.lay_in.new.rows.items in
    let new = c.push_row.new.rows.items in
    let spans = c.args.spans.now in
    let root = c.root-root.result in
    let n = c.in_ok-number.number in
    let m = c.in_ok-push_row.field-0 in
    let kids = c.quadrants.result in
    let is : IsRoot rows root = subst (λ (rs : List SquareRow). IsRoot rs root) c.deref.ensures.value c.root-root.ensures in
    let laid : IsLaid rows mid root n spans = subst (λ (ss : List Span). IsLaid rows mid root n ss) (append-nil spans) c.in_ok-number.ensures in
    let parts : AreQuadrants mid (root.level - 1) n kids = subst (λ (rs : List SquareRow). AreQuadrants rs (root.level - 1) n kids) c.deref-2.ensures.value c.quadrants.ensures in
    let added = c.in_ok-push_row.ensures in
    laid-world rows new root m spans is (c.in_ok-raise_around.ensures.holds root is) (laid-root rows mid new root n m kids spans is.low laid parts added) (added-level mid new root.level m _ is.low added) added.last
    ∙ ap (drawn spans) c.in_ok-raise_around.ensures.world
