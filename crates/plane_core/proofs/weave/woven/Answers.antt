use Rattle.plane_core.proofs.Names.{AreStripsOf, AreWoven, IsRoot, List, SquareRow, Strip, arith, blank, drawn, refl, subst, sym, ◌+◌}
use Rattle.plane_core.proofs.Weaving.{rows-of, some_of, woven-cells, woven-next}
use Rattle.plane_core.proofs.weave.woven.Goals as goal

pub loop-level-init : goal.loop-level-init
loop-level-init c =
    let w = drawn c.args.spans.now blank in
    let strips = c.in-Some.strips.items in
    let are : AreStripsOf c.args.spans.now strips = some_of c.in_ok-strips.field-0 (λ ss. AreStripsOf c.args.spans.now ss.items) c.in-Some.strips c.in_ok-strips.ensures c.in-Some.is in
    record {
      woven = subst (λ (rs : List SquareRow). AreWoven rs 0 strips w) (sym c.new-rows.ensures.items) (woven-cells c.args.spans.now strips are);
      low = omega arith;
    }

pub loop-level-preserved : goal.loop-level-preserved
loop-level-preserved c =
    let k = c.loop-level.level in
    record {
      woven = woven-next c.loop-level.rows.items c.doubled.new.rows.items k c.loop-level.strips.items c.deref-in-loop-level.result.now c.in_ok-strips-2.strips.items (drawn c.args.spans.now blank)
          c.loop-level.invariant.woven c.deref-in-loop-level.ensures.value c.in_ok-strips-2.ensures;
      low = omega arith;
    }

pub returns-then-are_in : goal.returns-then-are_in
returns-then-are_in c =
    let w = drawn c.args.spans.now blank in
    let k = c.loop-level.level in
    let are = subst (λ (ss : List Strip). AreWoven c.loop-level.rows.items k ss w) (sym c.deref-2.ensures.value) c.loop-level.invariant.woven in
    let root = subst (λ (rs : List SquareRow). IsRoot rs c.root.result) c.deref-3.ensures.value c.root.ensures in
    rows-of c.push_root.new.rows.items (k + 1) c.args.spans.now c.root.result (c.in_ok-push_root.ensures w are) root (c.if-are_in.ensures refl)
