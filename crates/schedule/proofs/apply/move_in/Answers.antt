use Rattle.schedule.proofs.Names.{Bookmark, bookmark_id, marking, pos, sym, ◌∙◌}
use Rattle.bookmarks.specs.declared.view.View.TheVariants.{Window}
use Rattle.schedule.proofs.Shared.Ids.{changed_at-Some, changed_at-None}
use Rattle.schedule.proofs.apply.move_in.Goals as goal

pub returns-in-Some : goal.returns-in-Some
returns-in-Some c =
    let none : Bookmark = record { id = 0; branch = 0; generation = 0; view = Window (pos 0) (pos 0) 0 0 } in
    changed_at-Some bookmark_id (marking c.args.generation) c.args.bookmarks.now c.in-Some.place c.args.id none
    c.requires (sym c.bookmark_place.ensures ∙ c.in-Some.is)

pub returns-in_default : goal.returns-in_default
returns-in_default c = changed_at-None bookmark_id (marking c.args.generation) c.args.bookmarks.now c.args.id
    (sym c.bookmark_place.ensures ∙ c.in_default.is)
