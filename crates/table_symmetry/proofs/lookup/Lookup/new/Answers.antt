use Rattle.table_symmetry.proofs.Names.{HasColumns, [], arith, length, map, places_of, refl, rules, ◌+◌, ◌∙◌, ◌≡◌}
use Rattle.table_symmetry.proofs.Columns.{AreRight-more}
use Rattle.table_symmetry.proofs.Finds.{columns_tell}
use Rattle.table_symmetry.proofs.lookup.Lookup.new.Goals as goal

pub loop-place-preserved : goal.loop-place-preserved
loop-place-preserved c = AreRight-more (HasColumns c.args.rows.now c.args.states) [] _ c.loop-place.columns.items c.push.new.self.items c.loop-place.place c.in_ok-columns_of.ensures c.in_ok-push.ensures.items c.loop-place.invariant

pub returns : goal.returns
returns c =
    let results : c.in_ok-results.results.items ≡ map (λ row. row.result) c.args.rows.now = search rules in
    let all : c.loop-place.place ≡ length (places_of c.args.neighborhood) + 1 = omega (arith, c.input_count-place-end.ensures) in
    let columns = rw (all, ← c.from_vec.ensures) at c.loop-place.invariant in
    record { around = refl; results = c.from_vec-2.ensures ∙ results; tells = columns_tell c.args.neighborhood c.args.rows.now c.args.states c.from_vec.result c.requires.inputs columns }
