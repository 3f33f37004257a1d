use Rattle.std.proofs.Common.{◌≡◌, All, vec_len}
use Rattle.desk_board.specs.Copies.{Knows}
use Rattle.desk_board.proofs.opening.viewers_of.Given as goal

abbrev pub invariant-loop : goal.invariant-loop
invariant-loop l = record {
  shown : l.writer.desk.shown ≡ l.fn.writer.desk.shown;
  knows : Knows l.writer.desk.place.me.0.client l.none.board;
  count : vec_len l.all ≡ l.counter;
  each : All (λ viewer. viewer ≡ l.none) l.all.items;
}
