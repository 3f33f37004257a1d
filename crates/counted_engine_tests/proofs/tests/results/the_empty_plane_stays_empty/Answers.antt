use Rattle.std.proofs.Common.{◌≡◌, sym, subst, arith, rules, lit<}
use Rattle.worlds.specs.Square.{empty_square}
use Rattle.square_table.specs.Squares.{IsHeld, level_of, cells_of}
use Rattle.hash_life_laws.specs.Puts.{IsBelow}
use Rattle.hash_life_laws.proofs.Shared.Below.{IsBelow-empty}
use Rattle.counted_engine_tests.proofs.tests.results.the_empty_plane_stays_empty.Goals as goal

pub result-found-requires : goal.result-found-requires
result-found-requires g c =
    let is : cells_of c.blank.new.self c.expect-root.result ≡ empty_square 63 = search rules in
    let held : IsHeld c.blank.new.self c.expect-root.result = search rules in
    let level : level_of c.expect-root.result ≡ 63 = search rules in
    record {
      held = held;
      level = (omega (arith, level), omega (arith, level));
      below = subst (IsBelow 2) (sym is) (IsBelow-empty 2 63 (lit< tt));
    }
