use Rattle.square_table.proofs.Names.{Slot, ap, arith, get_or_default, length, next_of, sym, ◌∙◌}
use Rattle.square_table.proofs.Probing.{way_first, way_next, used_next}
use Rattle.square_table.proofs.slots.free_slot.Goals as goal

pub loop-init : goal.loop-init
loop-init c = record {
  at = c.first-at.ensures.value ∙ sym (way_first c.args.mark (length c.args.slots.now));
  inside = c.first-at.ensures.within;
  used = λ j d h. omega (arith, h);
}

pub loop-preserved : goal.loop-preserved
loop-preserved c =
    let n = length c.args.slots.now in
    let free : Slot = record { word = 0 } in
    record {
      at = c.next-at.ensures.value ∙ ap (λ s. next_of s n) c.loop.invariant.at ∙ sym (way_next c.args.mark n c.loop.counter);
      inside = c.next-at.ensures.within;
      used = used_next c.args.slots.now c.args.mark c.loop.counter c.loop.invariant.used (λ d.
          rw (sym c.loop.invariant.at, get_or_default c.args.slots.now c.loop.at d free c.loop.invariant.inside) (omega (arith, c.if-row-eq0.false, c.row.ensures.value)));
    }
