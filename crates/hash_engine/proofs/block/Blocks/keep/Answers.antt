use Rattle.hash_engine.proofs.Names.{AreKnownBlocks, Block, IsKnownBlock, List, cases_eq, get_or, get_or-set_other, get_or-set_same, inl, inr, length, no_block, rules, set, subst, sym, ℕ, ◌<◌}
use Rattle.hash_engine.proofs.block.Blocks.keep.Goals as goal

kept : (next : List ℕ → ℕ) (rows : List (List ℕ)) (blocks : List Block) (place : ℕ) (b : Block) → place < length blocks → AreKnownBlocks next rows blocks →
    IsKnownBlock next rows b → AreKnownBlocks next rows (set blocks place b)
kept next rows blocks place b low are is = record {
  each = λ i. elim (cases_eq i place) [
    | inl here ↦
        subst (λ j. IsKnownBlock next rows (get_or (set blocks place b) j no_block)) (sym here)
        (subst (IsKnownBlock next rows) (sym (get_or-set_same blocks place b no_block low)) is)
    | inr other ↦ subst (IsKnownBlock next rows) (sym (get_or-set_other blocks place i b no_block other)) (are.each i)
  ];
}

pub returns-then-place-len : goal.returns-then-place-len
returns-then-place-len c = λ next rows are is.
    let low : c.place_of-place.result < length c.make_room.new.self.list.items = search rules in
    kept next rows c.make_room.new.self.list.items c.place_of-place.result c.args.block low (c.make_room.ensures next rows are) is
