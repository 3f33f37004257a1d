use Rattle.dependency_book.proofs.Names.{BookState, arith, asked_of, is_within, state_of, ℕ, ◌≤◌}
use Rattle.dependency_book.specs.declared.remade.Room.{Room}
use Rattle.dependency_book.specs.Planned.{HasPlaces}
use Rattle.dependency_book.proofs.Outs.{all_own, held_by}
use Rattle.dependency_book.proofs.Passed.{passed_none}
use Rattle.dependency_book.proofs.Revised.{Revises, revises, with_rows}
use Rattle.dependency_book.proofs.book.Book.commit.Goals.{After-self-1}
use Rattle.dependency_book.proofs.book.Book.commit.Goals as goal

-- room for more is room for fewer
room_for : (room : Room) (marks bookmarks fewer less : ℕ) → HasPlaces room marks bookmarks → fewer ≤ marks
    → less ≤ bookmarks → HasPlaces room fewer less
room_for room marks bookmarks fewer less h few low = grind arith

pub rows_of-rows-requires-clause-room : goal.rows_of-rows-requires-clause-room
rows_of-rows-requires-clause-room c =
    let within =
    is_within c.self.inside.document c.make.new.self (asked_of c.args.planned.edit.now) c.in_ok-edited.edited
    c.self.invariant.held.right.core.sound c.in_ok-edited.ensures.ok in
    room_for c.args.planned.room _ _ _ _ (rw (← c.self.view_is) at c.requires.room) within.marks within.bookmarks

pub rows_of-rows-requires-clause-own : goal.rows_of-rows-requires-clause-own
rows_of-rows-requires-clause-own c =
    let own = all_own c.self.invariant.held in
    rw (c.replace-arrivals.ensures.value, c.replace-texts.ensures.value) (own.arrivals, own.texts)

-- what was made of the book

abbrev anew : After-self-1 → BookState
anew c =
    let rows = c.rows_of-rows.result in
    with_rows (state_of c.self.inside) c.make.new.self rows.arrivals.items rows.texts.items

made : (c : After-self-1) → Revises (asked_of c.args.planned.edit.now) (state_of c.self.inside) (anew c)
made c =
    revises (state_of c.self.inside) c.make.new.self (asked_of c.args.planned.edit.now) c.in_ok-edited.edited
    c.args.planned.felt c.rows_of-rows.result c.self.invariant.held.right c.in_ok-edited.ensures.ok
    (rw (← c.self.view_is) at c.requires.felt)
    (rw (c.replace-arrivals.ensures.value, c.replace-texts.ensures.value) at c.rows_of-rows.ensures)

pub invariant_of-self-2 : goal.invariant_of-self-2
invariant_of-self-2 c =
    let places = c.rows_of-rows.result.places.items in
    record {
      held = held_by (anew c) places c.rows_of-rows.ensures.places_are (made c).1;
      passed = rw c.start-self-inside.ensures (passed_none (anew c) places);
      own = c.self.invariant.own;
      facts = c.self.invariant.facts;
    }

pub returns-clause-keeps : goal.returns-clause-keeps
returns-clause-keeps c = rw (← c.self.view_is) (made c).0

pub returns-clause-right : goal.returns-clause-right
returns-clause-right c = (made c).1

pub make-requires : goal.make-requires
make-requires c = rw (← c.self.view_is) at c.requires.fits

pub invariant_of-self : goal.invariant_of-self
invariant_of-self c = rw c.in_err-edited.ensures.unchanged c.self.invariant

pub returns-in_err-edited-clause-right : goal.returns-in_err-edited-clause-right
returns-in_err-edited-clause-right c = rw c.in_err-edited.ensures.unchanged c.self.invariant.held.right
