use Rattle.plane_core.proofs.Names.{AreThoseIn, Bor, IfOk-weaker, List, Part, Shows, Span, World, [], arith, drawn, get_or, lit<, quadrant_of, spans_of_runs, subst, sym, ◌∷◌, ◌≡◌}
use Rattle.plane_core.proofs.Shared.Adding.{Keeps-none, Keeps-then}
use Rattle.plane_core.proofs.Shared.Sound.{each_of_four}
use Rattle.plane_core.proofs.Laying.{goes_on, laid-four, laid-quadrant}
use Rattle.plane_core.proofs.lay.+lay_in.Goals as goal

-- the spans of a square, of which the list is lent
own : (p : Part) {spans : List Span} {lent held : List (Bor (List Span))} → lent ≡ held → AreThoseIn p spans (spans_of_runs held) → AreThoseIn p spans (spans_of_runs lent)
own p {spans} {lent} {held} same those = subst (λ (rs : List (Bor (List Span))). AreThoseIn p spans (spans_of_runs rs)) (sym same) those

pub lay_in-requires : goal.lay_in-requires
lay_in-requires t c =
    let level = c.quadrant.ensures.place.level in
    (omega (arith, c.decreases), goes_on c.quadrant.result _ _ c.in_ok-own.own.items _ c.deref.ensures.value c.deref-2.ensures.value c.requires.few (omega arith) c.quadrant.ensures.part c.in_ok-own.ensures.range)

pub lay_in-requires-2 : goal.lay_in-requires-2
lay_in-requires-2 t c =
    let level = c.quadrant-2.ensures.place.level in
    (omega (arith, c.decreases), goes_on c.quadrant-2.result _ _ c.in_ok-own.own.items _ c.deref-3.ensures.value c.deref-4.ensures.value c.in_ok-nw.ensures.keeps.few (omega arith) c.quadrant-2.ensures.part c.in_ok-own.ensures.range)

pub lay_in-requires-3 : goal.lay_in-requires-3
lay_in-requires-3 t c =
    let level = c.quadrant-3.ensures.place.level in
    (omega (arith, c.decreases), goes_on c.quadrant-3.result _ _ c.in_ok-own.own.items _ c.deref-5.ensures.value c.deref-6.ensures.value c.in_ok-ne.ensures.keeps.few (omega arith) c.quadrant-3.ensures.part c.in_ok-own.ensures.range)

pub lay_in-requires-4 : goal.lay_in-requires-4
lay_in-requires-4 t c =
    let level = c.quadrant-4.ensures.place.level in
    (omega (arith, c.decreases), goes_on c.quadrant-4.result _ _ c.in_ok-own.own.items _ c.deref-7.ensures.value c.deref-8.ensures.value c.in_ok-sw.ensures.keeps.few (omega arith) c.quadrant-4.ensures.part c.in_ok-own.ensures.range)

pub returns : goal.returns
returns t c =
    let rows = c.args.rows.now.items in
    let p = c.args.part in
    let spans = spans_of_runs c.args.runs.now in
    let nw = c.in_ok-nw.nw in let ne = c.in_ok-ne.ne in let sw = c.in_ok-sw.sw in let se = c.in_ok-se.se in
    let r1 = c.lay_in.new.rows.items in let r2 = c.lay_in-2.new.rows.items in let r3 = c.lay_in-3.new.rows.items in let r4 = c.lay_in-4.new.rows.items in
    let l1 = c.in_ok-nw.ensures in let l2 = c.in_ok-ne.ensures in let l3 = c.in_ok-sw.ensures in let l4 = c.in_ok-se.ensures in
    let to_two = Keeps-then rows r1 r2 l1.keeps l2.keeps in let to_three = Keeps-then rows r2 r3 to_two l3.keeps in
    let from_two = Keeps-then r2 r3 r4 l3.keeps l4.keeps in let from_one = Keeps-then r1 r2 r4 l2.keeps from_two in
    let is = c.requires.square.0 in
    let some = c.requires.square.1 in
    let those = c.in_ok-own.ensures in
    IfOk-weaker c.made.result _ _ (λ n made.
    laid-four rows r4 c.made.new.rows.items p (nw ∷ ne ∷ sw ∷ se ∷ []) n spans some (Keeps-then rows r3 r4 to_three l4.keeps)
    (each_of_four (λ q. (w : World) → Shows w rows p → Shows (drawn spans w) r4 (quadrant_of p q (get_or (nw ∷ ne ∷ sw ∷ se ∷ []) q 0)))
    (laid-quadrant rows rows r1 r4 0 nw p c.quadrant.result spans (spans_of_runs c.deref-2.result.now) some (lit< tt) is c.quadrant.ensures.place c.deref.ensures.value c.quadrant.ensures.cells
    (Keeps-none rows is.valid c.requires.few) l1 (own p c.deref-2.ensures.value those) from_one)
    (laid-quadrant rows r1 r2 r4 1 ne p c.quadrant-2.result spans (spans_of_runs c.deref-4.result.now) some (lit< tt) is c.quadrant-2.ensures.place c.deref-3.ensures.value c.quadrant-2.ensures.cells l1.keeps l2
    (own p c.deref-4.ensures.value those) from_two)
    (laid-quadrant rows r2 r3 r4 2 sw p c.quadrant-3.result spans (spans_of_runs c.deref-6.result.now) some (lit< tt) is c.quadrant-3.ensures.place c.deref-5.ensures.value c.quadrant-3.ensures.cells to_two l3
    (own p c.deref-6.ensures.value those) l4.keeps)
    (laid-quadrant rows r3 r4 r4 3 se p c.quadrant-4.result spans (spans_of_runs c.deref-8.result.now) some (lit< tt) is c.quadrant-4.ensures.place c.deref-7.ensures.value c.quadrant-4.ensures.cells
    to_three l4 (own p c.deref-8.ensures.value those) (Keeps-none r4 l4.keeps.valid l4.keeps.few)))
    made) c.made.ensures
