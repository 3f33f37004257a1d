use Rattle.square_table.proofs.Names.{Row, Slot, [], ap, arith, get_or-map, get_or_default, inl, kids_in, kids_of, length, next_of, row_in, slice_index_or, sym, ◌-◌, ◌∙◌}
use Rattle.square_table.proofs.Probing.{way_first, way_next, finds_kids, passed_none, passes, lacks_passed}
use Rattle.square_table.proofs.slots.search.Goals.{else-has_tag-via-then-has_tag+else-is_same, else-has_tag-via-else-has_tag}
use Rattle.square_table.proofs.slots.search.Goals as goal

pub loop-init : goal.loop-init
loop-init c = record {
  at = c.first-at.ensures.value ∙ sym (way_first c.args.mark (length c.args.slots.now));
  inside = c.first-at.ensures.within;
  passed = passed_none (kids_of c.args.rows.now) c.args.slots.now c.args.kids.now c.args.mark;
}

pub loop-preserved : goal.loop-preserved
loop-preserved c =
    let n = length c.args.slots.now in
    let free : Slot = record { word = 0 } in
    let slot = slice_index_or c.args.slots.now c.loop.at free in
    record {
      at = c.next-at.ensures.value ∙ ap (λ s. next_of s n) c.loop.invariant.at ∙ sym (way_next c.args.mark n c.loop.counter);
      inside = c.next-at.ensures.within;
      passed = passes (kids_of c.args.rows.now) c.args.slots.now c.args.kids.now c.args.mark c.loop.counter slot (finds_kids c.args.rows.now c.args.slots.now c.requires.finds) c.requires.mark c.loop.invariant.passed
          (λ d. ap (λ s. slice_index_or c.args.slots.now s d) (sym c.loop.invariant.at) ∙ get_or_default c.args.slots.now c.loop.at d free c.loop.invariant.inside)
          (omega (arith, c.if-row-eq0.false, c.row.ensures.value)) (λ tag kids. elim c.else-has_tag.branch [
            | else-has_tag-via-then-has_tag+else-is_same w ↦
                let there = c.requires.finds.within c.loop.at free c.loop.invariant.inside in
                let at = λ (d : Row). get_or-map kids_in c.args.rows.now (row_in slot - 1) d [] (omega (arith, c.if-row-eq0.false, c.row.ensures.value, there)) in
                grind (arith, w.if-is_same, w.is_same.ensures, kids, w.kids.ensures, at)
            | else-has_tag-via-else-has_tag w ↦ grind (arith, w.if-has_tag, c.has_tag.ensures, tag)
          ]);
    }

pub returns-clause-absent : goal.returns-clause-absent
returns-clause-absent c =
    let free : Slot = record { word = 0 } in
    let passed = c.loop.invariant.passed in
    let finds = finds_kids c.args.rows.now c.args.slots.now c.requires.finds in
    lacks_passed (kids_of c.args.rows.now) c.args.slots.now c.args.kids.now c.args.mark c.loop.counter free finds c.requires.mark passed (inl (omega (arith, c.loop-test.false, c.loop.auto.counter-end)))
