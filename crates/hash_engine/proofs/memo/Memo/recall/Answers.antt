use Rattle.hash_engine.proofs.Names.{WasMade, WasPut, arith, get_or, ◌^◌}
use Rattle.std.proofs.lemmas.Option.{IfSome_then}
use Rattle.hash_engine.proofs.Shared.Memos.{recalled}
use Rattle.hash_engine.proofs.Finding.{recalled_way}
use Rattle.hash_engine.proofs.memo.Memo.recall.Goals as goal

pub returns-then-generations-full-clause-some : goal.returns-then-generations-full-clause-some
returns-then-generations-full-clause-some c =
    let t = c.args.table.now in
    IfSome_then c.noted.result c.noted.ensures.some (λ r is next right number.
    grind (arith, recalled next (λ k. 2 ^ k) t.rows t.notes c.args.k c.args.generations c.args.number r, right.full, is))

pub returns-then-generations-self-clause-some : goal.returns-then-generations-self-clause-some
returns-then-generations-self-clause-some c =
    IfSome_then c.found.result c.found.ensures.some (λ r is next right number.
    grind (arith, recalled next (λ k. get_or c.args.self.now.counts k 0) c.args.table.now.rows c.deref.result.now c.args.k c.args.generations c.args.number r, right.part, is))

pub returns-then-generations-full-clause-put : goal.returns-then-generations-full-clause-put
returns-then-generations-full-clause-put c =
    let t = c.args.table.now in
    IfSome_then c.noted.result c.noted.ensures.some (λ r is next has number few.
    grind (arith, recalled_way (WasPut next t) (λ k. 2 ^ k) t.rows t.notes c.args.k c.args.generations c.args.number r, has.full, is))

pub returns-then-generations-self-clause-put : goal.returns-then-generations-self-clause-put
returns-then-generations-self-clause-put c =
    let t = c.args.table.now in
    IfSome_then c.found.result c.found.ensures.some (λ r is next has number few.
    grind (arith, recalled_way (WasPut next t) (λ k. get_or c.args.self.now.counts k 0) t.rows c.deref.result.now c.args.k c.args.generations c.args.number r, has.part, is))

pub returns-then-generations-full-clause-made : goal.returns-then-generations-full-clause-made
returns-then-generations-full-clause-made c =
    let t = c.args.table.now in
    IfSome_then c.noted.result c.noted.ensures.some (λ r is next has number.
    grind (arith, recalled_way (WasMade next t.rows) (λ k. 2 ^ k) t.rows t.notes c.args.k c.args.generations c.args.number r, has.full, is))

pub returns-then-generations-self-clause-made : goal.returns-then-generations-self-clause-made
returns-then-generations-self-clause-made c =
    let t = c.args.table.now in
    IfSome_then c.found.result c.found.ensures.some (λ r is next has number.
    grind (arith, recalled_way (WasMade next t.rows) (λ k. get_or c.args.self.now.counts k 0) t.rows c.deref.result.now c.args.k c.args.generations c.args.number r, has.part, is))
