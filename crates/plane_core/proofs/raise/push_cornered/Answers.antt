use Rattle.plane_core.proofs.Names.{IfOk-weaker, IsAdded, Square, [], cornered, slice_set, square_in, square_of, subst, ◌-◌, ◌∷◌}
use Rattle.plane_core.proofs.Shared.Adding.{corner_kids}
use Rattle.plane_core.proofs.raise.push_cornered.Goals as goal

pub push_row-requires-clause-row : goal.push_row-requires-clause-row
push_row-requires-clause-row c = record {
  low = c.requires.level.0;
  high = c.requires.level.1;
  kids = (corner_kids c.args.rows.now.items (c.args.level - 1) c.args.corner c.args.number c.requires.number c.requires.corner).numbers;
}

pub returns : goal.returns
returns c =
    let rows = c.args.rows.now.items in
    let k = c.args.level - 1 in
    IfOk-weaker c.push_row.result
    (λ n. IsAdded rows c.push_row.new.rows.items c.args.level n (square_of rows k (slice_set (0 ∷ 0 ∷ 0 ∷ 0 ∷ []) c.args.corner c.args.number)))
    (λ n. IsAdded rows c.push_row.new.rows.items c.args.level n (cornered k c.args.corner (square_in rows k c.args.number)))
    (λ n h. subst (λ (s : Square). IsAdded rows c.push_row.new.rows.items c.args.level n s) (corner_kids rows k c.args.corner c.args.number c.requires.number c.requires.corner).square h)
    c.push_row.ensures
