use Rattle.table_symmetry.proofs.Names.{ap, arith, bit_at-trailing_zeros, bit_at-zero, eq-eqb, inputs_of, length, length-map, slice_get_past, sym, take, w64, ◌*◌, ◌∙◌, ◌≡◌}
use Rattle.table_symmetry.proofs.Finds.{first_found, none_below, slice_get-copied}
use Rattle.table_symmetry.proofs.lookup.Lookup.find.Goals as goal

pub loop-word-init : goal.loop-word-init
loop-word-init c = λ row h. absurd (omega arith)

pub returns-then-rows-ne0 : goal.returns-then-rows-ne0
returns-then-rows-ne0 c = λ rows n neighborhood is nine.
    let inputs : take c.input_count.result c.picked-picked.result ≡ inputs_of neighborhood c.args.around.now.0 = rw c.input_count.ensures c.picked-picked.ensures ∙ ap (λ m. inputs_of m c.args.around.now.0) is.around in
    let lowest = bit_at-trailing_zeros w64 c.matching-rows.result (omega (arith, c.if-rows-ne0.true)) c.matching-rows.type_inv in
    let tells = rw inputs at c.matching-rows.ensures in
    let before = none_below c.args.self.now.columns _ c.loop-word.word c.matching-rows.result _ tells (omega (arith, lowest.0)) lowest.2 (rw inputs at c.loop-word.invariant) in
    c.copied.ensures ∙ slice_get-copied c.as_slice-results.result.now _ c.get.result c.get.ensures.lookup.3
    ∙ rw c.as_slice-results.ensures (first_found rows _ is nine before (λ l. sym (tells _ lowest.0) ∙ eq-eqb _ 1 lowest.1))

pub loop-word-preserved : goal.loop-word-preserved
loop-word-preserved c = λ row l.
    none_below c.args.self.now.columns _ c.loop-word.word c.matching-rows.result 64 c.matching-rows.ensures (omega arith) (λ i k. rw c.if-rows-ne0.false (bit_at-zero i)) c.loop-word.invariant row (omega arith)

pub returns : goal.returns
returns c = λ rows n neighborhood is nine.
    let inputs : take c.input_count.result c.picked-picked.result ≡ inputs_of neighborhood c.args.around.now.0 = rw c.input_count.ensures c.picked-picked.ensures ∙ ap (λ m. inputs_of m c.args.around.now.0) is.around in
    let past = sym (slice_get_past c.args.self.now.results (64 * c.loop-word.word) (omega (arith, ap length c.as_slice-results.ensures))) in
    past ∙ first_found rows (64 * c.loop-word.word) is nine (rw inputs at c.loop-word.invariant) (λ l. absurd (omega (arith, ap length c.as_slice-results.ensures, ap length is.results, length-map rows (λ row. row.result))))
