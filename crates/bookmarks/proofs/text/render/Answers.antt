use Rattle.bookmarks.proofs.Names.{IsTrue, has_window_size, subst}
use Rattle.bookmarks.proofs.Places.{area}
use Rattle.bookmarks.proofs.text.render.Goals as goal

pub window_text-requires-clause-small : goal.window_text-requires-clause-small
window_text-requires-clause-small c =
    area c.in-Window.width c.in-Window.height (subst (λ v. IsTrue (has_window_size v)) c.in-Window.is c.requires.within.0)
