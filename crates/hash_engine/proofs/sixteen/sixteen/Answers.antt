use Rattle.hash_engine.proofs.Names.{arith, get_or, ℕ, ◌∙◌}
use Rattle.hash_engine.proofs.SmallRows.{eight_of-list}
use Rattle.hash_engine.proofs.BySmall.{joined_keeps, joined_found}
use Rattle.hash_engine.proofs.sixteen.sixteen.Goals as goal

pub returns-clause-keeps : goal.returns-clause-keeps
returns-clause-keeps g c =
    let at : ℕ → ℕ = λ q. get_or c.in-Some-later_by_blocks.middle q 0 in
    let later = eight_of-list c.in-Some-later_by_blocks.middle ∙ c.in-Some-later_by_blocks.ensures.later in
    joined_keeps c.requires.compute c.later_by_blocks.ensures.rule c.later_by_blocks.ensures.right c.join_numbers.new.self _ _ (at 0) (at 1) (at 2) (at 3)
    c.requires.small c.in-Some.ensures later (omega arith) (omega arith) (omega arith) (omega arith)
    (omega arith) (omega arith) (omega arith) (omega arith) c.join_numbers.ensures.grows c.join_numbers.ensures.one

pub returns-clause-found : goal.returns-clause-found
returns-clause-found g c =
    let at : ℕ → ℕ = λ q. get_or c.in-Some-later_by_blocks.middle q 0 in
    let later = eight_of-list c.in-Some-later_by_blocks.middle ∙ c.in-Some-later_by_blocks.ensures.later in
    joined_found c.requires.compute c.later_by_blocks.ensures.rule c.later_by_blocks.ensures.right c.join_numbers.new.self _ _ (at 0) (at 1) (at 2) (at 3)
    c.requires.small c.in-Some.ensures later (omega arith) (omega arith) (omega arith) (omega arith)
    (omega arith) (omega arith) (omega arith) (omega arith) c.join_numbers.ensures.grows c.in_ok-made.made c.in_ok-made.ensures.square
