use Rattle.tree_translation.proofs.Names.{Tail, ap, arith, get_or_read, length, rest_at, sym, ◌<◌, ◌≡◌}
use Rattle.tree_translation.proofs.TailsLeft.{found-again, found-more, found-passed}
use Rattle.tree_translation.proofs.numbering.add_rest.Goals as goal
use Rattle.tree_translation.proofs.numbering.add_rest.Goals.{After-index}

-- the rest that is read, and its place among the marks
read : (c : After-index) → (c.index.result.now.rest ≡ rest_at c.args.layer.now c.args.number) × (rest_at c.args.layer.now c.args.number < length c.args.is_there.now)
read c =
    let none : Tail = record { set = 0; rest = 0 } in
    let tail = get_or_read c.args.layer.now.tails.items c.args.number c.index.result.now c.requires.inside c.index.ensures none in
    (ap (λ (t : Tail). t.rest) tail, omega (arith, c.requires.layer.rests c.args.number none c.requires.inside))

pub returns-then-is_there-rest : goal.returns-then-is_there-rest
returns-then-is_there-rest c = λ passed known.
    let rest = read (goal.at.returns-then-is_there-rest c).After-index in
    let marked = rw rest.0 at c.if-is_there-rest.true in
    found-again c.args.layer.now c.args.state passed c.args.is_there.now c.args.found.now.items known c.args.number
    (known.marked.marked (rest_at c.args.layer.now c.args.number) rest.1 marked)

pub returns-then-not-lets : goal.returns-then-not-lets
returns-then-not-lets c = λ passed known. found-passed c.args.layer.now c.args.state passed c.args.is_there.now c.args.found.now.items known c.args.number (sym c.if-not-lets.ensures)

pub returns : goal.returns
returns c = λ passed known.
    let rest = read (goal.at.returns c).After-index in
    rw (c.in_ok-push.ensures.items, rest.0)
    (found-more c.args.layer.now c.args.state passed c.args.is_there.now c.args.found.now.items known c.args.number c.requires.inside (sym c.if-not-lets.ensures) rest.1)
