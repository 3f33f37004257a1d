use Rattle.hash_engine.proofs.Names.{AreBlocks, length, length-map, result_of, rules, subst, sym, ◌∙◌, ◌≡◌}
use Rattle.hash_engine.proofs.Standing.{overlap, corner_at, IsBlock-of, AreBlocks-nil, AreBlocks-cons}
use Rattle.hash_engine.proofs.parts.four_blocks.Goals as goal

pub returns : goal.returns
returns c = λ rows ss are.
    let nine = c.args.nine.now in
    let long : length nine ≡ 9 = search rules in
    let q = overlap are (length-map nine result_of ∙ long) in
    subst (AreBlocks rows _) (sym q.are)
    (AreBlocks-cons (IsBlock-of (c.of.ensures.quadrants ∙ corner_at nine 0 1 3 4) q.nw)
    (AreBlocks-cons (IsBlock-of (c.of-2.ensures.quadrants ∙ corner_at nine 1 2 4 5) q.ne)
    (AreBlocks-cons (IsBlock-of (c.of-3.ensures.quadrants ∙ corner_at nine 3 4 6 7) q.sw)
    (AreBlocks-cons (IsBlock-of (c.of-4.ensures.quadrants ∙ corner_at nine 4 5 7 8) q.se) AreBlocks-nil))))
