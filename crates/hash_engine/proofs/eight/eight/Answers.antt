use Rattle.std.proofs.lemmas.Result.{IfOk-weaker}
use Rattle.hash_engine.proofs.Standing.{corner_at}
use Rattle.hash_engine.proofs.ByBlocks.{nine_can, first_keeps, fours_can, last_keeps, joined_keeps, joined_block}
use Rattle.hash_engine.proofs.eight.eight.Goals as goal

pub all_forward-requires : goal.all_forward-requires
all_forward-requires g c = nine_can c.requires c.nine_blocks-nine.ensures

pub returns-in_err-all_forward-clause-keeps : goal.returns-in_err-all_forward-clause-keeps
returns-in_err-all_forward-clause-keeps g c = first_keeps c.requires c.nine_blocks-nine.ensures c.all_forward.ensures.keeps

pub all_forward-requires-2 : goal.all_forward-requires-2
all_forward-requires-2 g c =
    fours_can c.requires c.nine_blocks-nine.ensures c.in_ok-all_forward.ensures.keeps c.in_ok-all_forward.ensures.found c.four_blocks-fours.ensures

pub returns-in_err-all_forward-2-clause-keeps : goal.returns-in_err-all_forward-2-clause-keeps
returns-in_err-all_forward-2-clause-keeps g c =
    last_keeps c.requires c.nine_blocks-nine.ensures c.in_ok-all_forward.ensures.keeps c.in_ok-all_forward.ensures.found c.four_blocks-fours.ensures
    c.all_forward-2.ensures.keeps

pub returns-clause-keeps : goal.returns-clause-keeps
returns-clause-keeps g c =
    joined_keeps c.requires c.nine_blocks-nine.ensures c.in_ok-all_forward.ensures.keeps c.in_ok-all_forward.ensures.found c.four_blocks-fours.ensures
    c.in_ok-all_forward-2.ensures.keeps c.in_ok-all_forward-2.ensures.found (corner_at c.all_forward-2.new.blocks 0 1 2 3) c.join_numbers.ensures.grows c.join_numbers.ensures.one

pub returns-clause-found : goal.returns-clause-found
returns-clause-found g c =
    IfOk-weaker c.join_numbers.result _ _
    (λ r is. joined_block c.requires c.nine_blocks-nine.ensures c.in_ok-all_forward.ensures.keeps c.in_ok-all_forward.ensures.found c.four_blocks-fours.ensures
    c.in_ok-all_forward-2.ensures.keeps c.in_ok-all_forward-2.ensures.found (corner_at c.all_forward-2.new.blocks 0 1 2 3) c.join_numbers.ensures.grows r is)
    c.join_numbers.ensures.square
