-- What an edit makes of bookmarks, and what stays for them.
use Rattle.dependency_book.proofs.Names.{AddBookmark, Asked, Bookmark, Branch, Empty, List, Mark, MoveBookmark, None, Option, Plan, RemoveBookmark, RowState, Some, [], arith, bookmark_in, bookmark_stays, changed, eq_true, false, felt_from}
use Rattle.dependency_book.proofs.Names.{if◌then◌else◌, inl, inr, nat_tests, next_bookmark, refl, takes, text_kept, ℕ, ◌++◌, ◌==◌, ◌∷◌, ◌≡◌, ◌⊎◌}
use Rattle.bookmarks.specs.declared.view.View.{View}
use Rattle.dependency_book.proofs.Remaking.{if_stays}
use Rattle.desk_events.proofs.Shared.Bookmarks.{in_added, moved_in, in_moved, in_removed, in_is}

-- what stands for a bookmark after an edit, by the bookmark of its id then and before
abbrev pub stays_for : {V : Type 0} → List Branch → Option Mark → Option Bookmark → Option Bookmark
    → RowState V
    → RowState V
stays_for branches felt None was s = Empty
stays_for branches felt (Some b) was s = if_stays (bookmark_stays branches felt b) was s

-- from where an edit may be felt
abbrev pub MayBeFelt : Plan → Asked → Option Mark → Type 0
MayBeFelt p asked felt = (felt ≡ None) ⊎ (felt ≡ felt_from p asked)

nowhere : (felt : Option Mark) → (felt ≡ None) ⊎ (felt ≡ None) → felt ≡ None
nowhere felt (inl is) = is
nowhere felt (inr is) = is

-- what stays, for each kind of edit

module _ {V : Type 0} (branches : List Branch) (s : RowState V) where
  same_kept : (felt : Option Mark) (asked : Asked) (o : Option Bookmark)
      → ((b : Bookmark) → takes asked b ≡ false)
      → stays_for branches felt o o s ≡ text_kept branches felt asked o s
  same_kept felt asked None f = refl
  same_kept felt asked (Some b) f = rw (eq_true b.generation b.generation refl, f b) refl

  added_kept : (felt : Option Mark) (branch g : ℕ) (view : View) (o later : Option Bookmark)
      → ((c : Bookmark) → o ≡ Some c → later ≡ Some c)
      → stays_for branches felt later o s ≡ text_kept branches felt (AddBookmark branch g view) o s
  added_kept felt branch g view None None f = refl
  added_kept felt branch g view None (Some b) f = refl
  added_kept felt branch g view (Some c) later f = rw (f c refl, eq_true c.generation c.generation refl) refl

  moved_kept : (i g : ℕ) (o : Option Bookmark)
      → stays_for branches None (moved_in i g o) o s ≡ text_kept branches None (MoveBookmark i g) o s
  moved_kept i g o = grind (arith, nat_tests)

  removed_kept : (i id : ℕ) (o : Option Bookmark) → ((b : Bookmark) → o ≡ Some b → b.id ≡ id)
      → stays_for branches None (if i == id then None else o) o s
      ≡ text_kept branches None (RemoveBookmark i) o s
  removed_kept i id None f = grind (arith, nat_tests)
  removed_kept i id (Some b) f = grind (arith, nat_tests, f b refl)

-- what stands for a bookmark after an edit is what the edit keeps
module _ {V : Type 0} (p : Plan) (felt : Option Mark) (id : ℕ) (s : RowState V) where
  unmoved : (branches : List Branch) (asked : Asked) → ((b : Bookmark) → takes asked b ≡ false)
      → stays_for branches felt (bookmark_in p.bookmarks id) (bookmark_in p.bookmarks id) s
      ≡ text_kept branches felt asked (bookmark_in p.bookmarks id) s
  unmoved branches asked = same_kept branches s felt asked (bookmark_in p.bookmarks id)

  pub texts_stay : (asked : Asked) → MayBeFelt p asked felt
      → stays_for (changed p asked).plan.branches felt (bookmark_in (changed p asked).plan.bookmarks id)
      (bookmark_in p.bookmarks id) s
      ≡ text_kept (changed p asked).plan.branches felt asked (bookmark_in p.bookmarks id) s
  texts_stay (AddBookmark branch g view) so =
      let b : Bookmark = next_bookmark p branch g view in
      added_kept p.branches s felt branch g view (bookmark_in p.bookmarks id)
      (bookmark_in (p.bookmarks ++ b ∷ []) id)
      (λ c is. in_added p.bookmarks b id c is)
  texts_stay (MoveBookmark i g) so =
      rw (nowhere felt so, in_moved p.bookmarks i g id)
      (moved_kept p.branches s i g (bookmark_in p.bookmarks id))
  texts_stay (RemoveBookmark i) so =
      rw (nowhere felt so, in_removed p.bookmarks i id)
      (removed_kept p.branches s i id (bookmark_in p.bookmarks id) (in_is p.bookmarks id))
  texts_stay asked so = unmoved (changed p asked).plan.branches asked (λ b. refl)
