use Rattle.hash_engine.proofs.Names.{AreBlocks, ap, nine_of, subst, sym}
use Rattle.hash_engine.proofs.Standing.{sixteen, StandsFor-itself, IsBlock-of, AreBlocks-nil, AreBlocks-cons}
use Rattle.hash_engine.proofs.parts.nine_blocks.Goals as goal

pub returns : goal.returns
returns c =
    let rows = c.args.table.now.rows in
    let q = sixteen (StandsFor-itself rows 3 c.args.number c.requires) c.quadrants.ensures c.quadrants-nw.ensures c.quadrants-ne.ensures c.quadrants-sw.ensures c.quadrants-se.ensures in
    subst (AreBlocks rows _) (sym (ap nine_of q.is))
    (AreBlocks-cons (IsBlock-of c.of.ensures.quadrants q.first) (AreBlocks-cons (IsBlock-of c.of-2.ensures.quadrants q.north)
    (AreBlocks-cons (IsBlock-of c.of-3.ensures.quadrants q.second) (AreBlocks-cons (IsBlock-of c.of-4.ensures.quadrants q.west)
    (AreBlocks-cons (IsBlock-of c.of-5.ensures.quadrants q.centre) (AreBlocks-cons (IsBlock-of c.of-6.ensures.quadrants q.east)
    (AreBlocks-cons (IsBlock-of c.of-7.ensures.quadrants q.third) (AreBlocks-cons (IsBlock-of c.of-8.ensures.quadrants q.south)
    (AreBlocks-cons (IsBlock-of c.of-9.ensures.quadrants q.fourth) AreBlocks-nil)))))))))
