-- What an edit makes of bookmarks.
use Rattle.desk_events.proofs.Names.{AddBookmark, Asked, Bookmark, List, Mark, MoveBookmark, None, Option, Plan, RemoveBookmark, Some, [], and_parts, ap, arith, bookmark_id, bookmark_in, bookmark_mark, changed, changed_at, if◌then◌else◌}
use Rattle.desk_events.proofs.Names.{keeps_text, leaves_after, marking, nat_tests, next_bookmark, not, refl, sym, takes, true, without, ℕ, ◌&&◌, ◌++◌, ◌==◌, ◌∙◌, ◌∷◌, ◌≡◌}
use Rattle.desk_events.proofs.Shared.Tests.{either_way, clash, true_eq, eq_true}

-- the bookmarks with another, of which one was moved, or without one

pub in_added : (bs : List Bookmark) (b : Bookmark) (id : ℕ) (c : Bookmark) → bookmark_in bs id ≡ Some c
    → bookmark_in (bs ++ b ∷ []) id ≡ Some c
in_added [] b id c is = absurd cc
in_added (x ∷ bs) b id c is = grind (arith, in_added bs b id c)

abbrev pub moved : ℕ → ℕ → Bookmark → Bookmark
moved id g b = if b.id == id then marking g b else b

abbrev pub moved_in : ℕ → ℕ → Option Bookmark → Option Bookmark
moved_in id g None = None
moved_in id g (Some b) = Some (moved id g b)

pub in_moved : (bs : List Bookmark) (i g id : ℕ) → bookmark_in (changed_at bookmark_id (marking g) bs i) id ≡ moved_in i g
    (bookmark_in bs id)
in_moved [] i g id = refl
in_moved (b ∷ bs) i g id = grind (arith, nat_tests, in_moved bs i g id)

pub in_removed : (bs : List Bookmark) (i id : ℕ) → bookmark_in (without bookmark_id bs i) id ≡
    (if i == id then None else bookmark_in bs id)
in_removed [] i id = grind arith
in_removed (b ∷ bs) i id = grind (arith, nat_tests, in_removed bs i id)

pub in_is : (bs : List Bookmark) (id : ℕ) (b : Bookmark) → bookmark_in bs id ≡ Some b → b.id ≡ id
in_is [] id b is = absurd cc
in_is (c ∷ bs) id b is = grind (arith, nat_tests, in_is bs id b)

-- a bookmark whose text is kept stays as it is

moved_stays : (i g : ℕ) (b : Bookmark) → not (b.id == i && not (b.generation == g)) ≡ true → moved i g b ≡ b
moved_stays i g b h = grind (arith, nat_tests)

pub kept_in : (p : Plan) (asked : Asked) (felt : Option Mark) (id : ℕ) (b : Bookmark)
    → keeps_text (changed p asked).plan.branches felt asked b ≡ true → bookmark_in p.bookmarks id ≡ Some b
    → bookmark_in (changed p asked).plan.bookmarks id ≡ Some b
kept_in p (AddBookmark branch g view) felt id b keep is = in_added p.bookmarks (next_bookmark p branch g view) id b is
kept_in p (MoveBookmark i g) felt id b keep is =
    let left = (and_parts (leaves_after p.branches felt (bookmark_mark b)) (not (takes (MoveBookmark i g) b)) keep).1 in
    in_moved p.bookmarks i g id ∙ ap (moved_in i g) is ∙ ap (λ c. Some c) (moved_stays i g b left)
kept_in p (RemoveBookmark i) felt id b keep is =
    let left = (and_parts (leaves_after p.branches felt (bookmark_mark b)) (not (takes (RemoveBookmark i) b)) keep).1 in
    in_removed p.bookmarks i id
    ∙ either_way (i == id)
    (λ hit. clash (not (b.id == i)) left (ap not (eq_true b.id i (in_is p.bookmarks id b is ∙ sym (true_eq i id hit)))))
    (λ miss. rw miss is)
kept_in p asked felt id b keep is = is
