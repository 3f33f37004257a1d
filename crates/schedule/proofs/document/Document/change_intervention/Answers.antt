use Rattle.schedule.proofs.Names.{Intervention, acting, arith, if◌then◌else◌, length-map, plan_of, with_items_is, ◌==◌}
use Rattle.schedule.proofs.Unrefused.{fit_change}
use Rattle.schedule.proofs.SoundLists.{IsSound-changed_intervention}
use Rattle.schedule.proofs.document.Document.change_intervention.Goals as goal

pub invariant_of-self : goal.invariant_of-self
invariant_of-self c =
    let list = c.self.inside.interventions in
    let long = length-map list.items
    (λ (i : Intervention). if i.id == c.args.id then acting c.args.acts c.args.cells.now i else i) in
    let items = with_items_is list c.change_in.new.interventions in
    let sound = IsSound-changed_intervention (plan_of c.self.inside) c.args.id c.args.acts c.args.cells.now
    c.self.invariant in
    grind (arith, long, items, sound)

pub overflow_add-self : goal.overflow_add-self
overflow_add-self c =
    let left = (fit_change (plan_of c.self.inside) c.args.id c.args.acts c.args.cells.now
    (rw (← c.self.view_is) at c.requires)).marks.left in
    omega (arith, left)

pub change_in-requires : goal.change_in-requires
change_in-requires c = rw c.deref_mut.ensures.value c.self.invariant.interventions_rise
