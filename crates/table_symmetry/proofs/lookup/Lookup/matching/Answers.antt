use Rattle.table_symmetry.proofs.Names.{and-true, ap, bit_at-zero, bit_at_ones, inl, inr, nil_from_length, sym, ◌*◌, ◌+◌, ◌∙◌}
use Rattle.table_symmetry.proofs.Finds.{IsNarrowed-more, nothing_left}
use Rattle.table_symmetry.proofs.lookup.Lookup.matching.Goals as goal

pub loop-columns-init : goal.loop-columns-init
loop-columns-init c =
    let same = c.into_iter-columns-iterator.ensures.into_iter_gives in
    let columns = ap (λ z. z.a.rest.now) same ∙ ap (λ z. z.rest.now) c.zip-columns-items.ensures.first ∙ c.iter.ensures.rest ∙ c.as_slice.ensures in
    let inputs = ap (λ z. z.b.rest.now) same ∙ c.zip-columns-items.ensures.second.0 in
    record { narrowed = λ bit h. rw (columns, inputs, bit_at_ones 64 bit h) }

pub returns-then-rows-eq0 : goal.returns-then-rows-eq0
returns-then-rows-eq0 c = λ bit h.
    let narrowed = IsNarrowed-more c.in-Some.columns.now c.in-Some.state.now c.word_at-rows.result c.in-Some.ensures.steps.0 c.in-Some.ensures.steps.1 c.word_at-rows.ensures c.loop-columns.invariant in
    rw (narrowed.narrowed bit h, c.if-rows-eq0.true, bit_at-zero bit)

pub loop-columns-preserved : goal.loop-columns-preserved
loop-columns-preserved c = IsNarrowed-more c.in-Some.columns.now c.in-Some.state.now c.word_at-rows.result c.in-Some.ensures.steps.0 c.in-Some.ensures.steps.1 c.word_at-rows.ensures c.loop-columns.invariant

pub returns : goal.returns
returns c = λ bit h.
    let all = nothing_left _ _ (64 * c.args.word + bit) (elim c.in-None.ensures.steps [ inl p ↦ inl (nil_from_length _ p.1.0) | inr p ↦ inr (nil_from_length _ p.1.0) ]) in
    rw (c.loop-columns.invariant.narrowed bit h, all) (sym (and-true _))
