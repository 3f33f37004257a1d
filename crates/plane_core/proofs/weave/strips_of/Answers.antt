use Rattle.plane_core.proofs.Names.{AreStripsOf, List, Span, get_or, pos, subst, sym, take, take_more}
use Rattle.plane_core.proofs.Weaving.{before-more, strips-more, strips-start}
use Rattle.plane_core.proofs.weave.strips_of.Goals as goal

pub loop-span-init : goal.loop-span-init
loop-span-init c = strips-start c.in_ok-strips.strips.items c.in_ok-strips.ensures.items

pub loop-span-preserved : goal.loop-span-preserved
loop-span-preserved c =
    let spans : List Span = c.args.spans.now in
    let i = c.loop-span.span-index in
    let none : Span = record { x = pos 0; y = pos 0; count = 0; state = 0 } in
    let old = c.loop-span.strips.items in let new = c.extend.new.strips.items in let s = c.in-Some.strip in
    let onward = c.is_onward.ensures c.if-not-is_onward.false in (
      subst (λ (ss : List Span). AreStripsOf ss new) (sym (take_more spans i none c.loop-span-test.true))
          (strips-more (take i spans) (get_or spans i none) old new s c.loop-span.x c.loop-span.y c.loop-span.invariant.0 c.loop-span.invariant.1 onward (c.requires i none c.loop-span-test.true) c.in-Some.ensures c.in_ok-extend.ensures),
      before-more (take i spans) (get_or spans i none) old new s c.loop-span.x c.loop-span.y c.loop-span.invariant.0 c.loop-span.invariant.1 onward (c.requires i none c.loop-span-test.true) c.in-Some.ensures c.in_ok-extend.ensures,
    )
