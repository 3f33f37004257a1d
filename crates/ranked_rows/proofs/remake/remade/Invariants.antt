use Rattle.std.proofs.Common.{◌≡◌, take, drop, vec_len}
use Rattle.std.specs.Prelude.{vec_capacity}
use Rattle.ranked_rows.specs.Rows.{remade}
use Rattle.ranked_rows.proofs.Passed.{Still}
use Rattle.ranked_rows.proofs.remake.remade.Given as goal

abbrev pub invariant-loop-key : goal.invariant-loop-key
invariant-loop-key g l =
    let key_rank = g.M.Remakes.key_rank in
    let rank = g.T.Ranked.rank in
    record {
      items : l.rows.items ≡ remade key_rank rank (g.M.Remakes.made l.maker) l.fn.old.items (take l.key-index l.keys);
      len : vec_len l.rows ≡ l.key-index;
      capacity : vec_capacity l.rows ≡ vec_capacity l.fn.room;
      still : Still key_rank rank (g.M.Remakes.may_go l.maker) l.fn.old.items l.left (drop l.key-index l.keys);
    }
