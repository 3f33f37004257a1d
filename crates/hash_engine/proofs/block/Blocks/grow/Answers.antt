use Rattle.hash_engine.proofs.Names.{Block, Bool, List, [], ap, arith, false, get_or, if◌then◌else◌, length, no_block, refl, replicate, suc, take, true, zero, ℕ, ◌++◌, ◌∷◌, ◌≡◌}
use Rattle.hash_engine.proofs.block.Blocks.grow.Goals as goal

-- blocks without results
of_replicated : (many i : ℕ) (b : Block) → b.result ≡ 0 → (get_or (replicate many b) i no_block).result ≡ 0
of_replicated zero i b none = refl
of_replicated (suc many) zero b none = none
of_replicated (suc many) (suc i) b none = of_replicated many i b none

resized : (is_ok : Bool) (many more i : ℕ) (b : Block) (olds news : List Block) → b.result ≡ 0 → olds ≡ [] →
    news ≡ (if is_ok then take many olds ++ replicate more b else olds) → (get_or news i no_block).result ≡ 0
resized true zero more i b olds news none empty is = grind (arith, is, of_replicated more i b none)
resized true (suc many) more i b [] news none empty is = grind (arith, is, of_replicated more i b none)
resized true (suc many) more i b (o ∷ olds) news none empty is = absurd (omega (arith, ap length empty))
resized false many more i b olds news none empty is = grind (arith, is, empty)

pub returns : goal.returns
returns c = λ next rows. record {
  each = λ i some.
      let none = resized _ _ _ i c.of.result _ c.resize.new.self.items c.of.ensures.none c.clear.ensures c.resize.ensures.items in
      absurd (omega (arith, none, some));
}
