use Rattle.schedule.proofs.Names.{Bookmark, arith, if◌then◌else◌, length-map, marking, plan_of, with_items_is, ◌==◌}
use Rattle.schedule.proofs.SoundLists.{IsSound-moved_bookmark}
use Rattle.schedule.proofs.Unrefused.{fit_moved}
use Rattle.schedule.proofs.document.Document.move_bookmark.Goals as goal

pub invariant_of-self : goal.invariant_of-self
invariant_of-self c =
    let list = c.self.inside.bookmarks in
    let long = length-map list.items
    (λ (b : Bookmark). if b.id == c.args.id then marking c.args.generation b else b) in
    let items = with_items_is list c.move_in.new.bookmarks in
    let sound = IsSound-moved_bookmark (plan_of c.self.inside) c.args.id c.args.generation c.self.invariant in
    grind (arith, long, items, sound)

pub move_in-requires : goal.move_in-requires
move_in-requires c = rw c.deref_mut.ensures.value c.self.invariant.bookmarks_rise

pub overflow_add-self : goal.overflow_add-self
overflow_add-self c =
    let left = fit_moved (plan_of c.self.inside) c.args.id c.args.generation
    (rw (← c.self.view_is) at c.requires) in
    omega (arith, left)
