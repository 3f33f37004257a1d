use Rattle.hash_engine.proofs.Names.{ap, arith, get_or, ◌≡◌, ℕ}
use Rattle.square_table.specs.Squares.{kid_at}
use Rattle.hash_engine.proofs.SmallRows.{eight_square}
use Rattle.hash_engine.proofs.sixteen.eight.Goals as goal

pub returns : goal.returns
returns c =
    let kid : (q : ℕ) → get_or c.quadrants.result q 0 ≡ kid_at c.args.table.now.rows c.args.number q = λ q. ap (λ kids. get_or kids q 0) c.quadrants.ensures in
    λ begins. eight_square begins c.args.number _ _ _ _ (omega arith) (omega arith) (omega arith) (omega arith)
    (omega (arith, kid 0, c.in_ok-block.ensures)) (omega (arith, kid 1, c.in_ok-block-2.ensures)) (omega (arith, kid 2, c.in_ok-block-3.ensures)) (omega (arith, kid 3, c.in_ok-block-4.ensures))
