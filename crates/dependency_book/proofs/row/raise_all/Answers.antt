use Rattle.dependency_book.proofs.Names.{subst, sym}
use Rattle.std.proofs.lemmas.List.Elements.{All-from_recursion, All-get_or}
use Rattle.dependency_book.specs.RowState.{IsOutOf}
use Rattle.dependency_book.proofs.row.raise_all.Goals as goal

pub raise-requires : goal.raise-requires
raise-requires g c =
    let own = IsOutOf c.args.entries.now in
    let rows = c.args.rows.now in
    subst own (sym c.row-item.is)
    (All-get_or own rows c.loop-row.row-index c.row-item.result c.loop-row-test.true
    (All-from_recursion own rows c.requires))

pub loop-row-preserved : goal.loop-row-preserved
loop-row-preserved g c = tt

pub returns : goal.returns
returns g c = tt
