use Rattle.hash_engine.proofs.Names.{ap, get_or, square_in, sym, ◌∙◌, ◌≡◌, ℕ}
use Rattle.square_table.specs.Squares.{kid_at}
use Rattle.hash_engine.proofs.SmallRows.{sixteen_square}
use Rattle.hash_engine.proofs.sixteen.blocks.Goals as goal

pub returns : goal.returns
returns c =
    let rows = c.args.table.now.rows in
    let kid : (q : ℕ) → kid_at rows c.args.number q ≡ get_or c.quadrants.result q 0 = λ q. sym (ap (λ kids. get_or kids q 0) c.quadrants.ensures) in
    λ begins. sixteen_square rows c.args.number _ _ _ _ (ap (square_in rows 3) (kid 0) ∙ c.in_ok-eight.ensures begins) (ap (square_in rows 3) (kid 1) ∙ c.in_ok-eight-2.ensures begins)
    (ap (square_in rows 3) (kid 2) ∙ c.in_ok-eight-3.ensures begins) (ap (square_in rows 3) (kid 3) ∙ c.in_ok-eight-4.ensures begins)
