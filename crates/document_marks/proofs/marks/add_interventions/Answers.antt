use Rattle.document_marks.proofs.Names.{All-replicate, [], acting_marks, ap, append-nil, ap₂, arith, flat_map, flat_map_more, generations_to, length, length-append, length-flat_map-take, length-map, map, mark_at, reach, refl, rules, sym}
use Rattle.document_marks.proofs.Names.{take, take_more, ◌++◌, ◌∙◌, ◌∷◌}
use Rattle.document_marks.proofs.marks.add_interventions.Goals as goal

pub loop-intervention-init : goal.loop-intervention-init
loop-intervention-init c = record {
  items = sym (append-nil _);
  capacity = refl;
  known = search (rules, All-replicate);
}

pub add_acting-requires : goal.add_acting-requires
add_acting-requires c =
    let acting = acting_marks (reach c.args.document.now) in
    let is = c.args.document.now.interventions in
    let k = c.loop-intervention.intervention-index in
    let x = c.intervention-item.result in
    let inv = c.loop-intervention.invariant in
    let low = rw c.interventions-intervention-items.ensures at c.loop-intervention-test.true in
    let so_far = ap length inv.items ∙ length-append c.args.marks.now.items (flat_map acting (take k is)) in
    let whole = length-flat_map-take acting is k x low in
    let own = ap (λ i. length (acting i)) (rw c.interventions-intervention-items.ensures at c.intervention-item.is) in
    let long = length-map (generations_to (reach c.args.document.now x.branch) x.acts) (mark_at x.branch) in
    let asked = ap (λ far. length (generations_to far x.acts)) c.reach_of-far.ensures.reach in
    let now = c.loop-intervention.marks.ok.0 in
    let was = c.args.marks.now.ok.0 in
    let room = c.requires in
    let capacity = inv.capacity in
    omega (arith, so_far, whole, own, long, asked, now, was, room, capacity)

pub loop-intervention-preserved : goal.loop-intervention-preserved
loop-intervention-preserved c =
    let was = c.args.marks.now.items in
    let acting = acting_marks (reach c.args.document.now) in
    let is = c.args.document.now.interventions in
    let k = c.loop-intervention.intervention-index in
    let x = c.intervention-item.result in
    let inv = c.loop-intervention.invariant in
    let low = rw c.interventions-intervention-items.ensures at c.loop-intervention-test.true in
    let at = rw c.interventions-intervention-items.ensures at c.intervention-item.is in
    record {
      items = c.add_acting.ensures.marks
          ∙ ap₂ (λ ms far. ms ++ map (mark_at x.branch) (generations_to far x.acts)) inv.items
          c.reach_of-far.ensures.reach
          ∙ flat_map_more acting was (take k is) x
          ∙ ap (λ ys. was ++ flat_map acting ys) (ap (λ y. take k is ++ y ∷ []) at ∙ sym (take_more is k x low));
      capacity = c.add_acting.ensures.capacity ∙ inv.capacity;
      known = c.reach_of-far.ensures.known;
    }
