-- The picture of a desk is right.
use Rattle.std.proofs.Common.{◌≡◌, ◌∙◌, ℕ, List, [], ◌∷◌, ◌++◌, Option, map, refl, sym, ap, ap₂, subst, append-nil}
use Rattle.std.specs.List.{AllByRecursion}
use Rattle.schedule.specs.declared.document.Bookmark.{Bookmark}
use Rattle.schedule.specs.Plan.{Plan}
use Rattle.dependency_book.specs.BookState.{BookState}
use Rattle.dependency_book.specs.ShownRows.{IsScratch, shown_row, shown_rows}
use Rattle.desk_board.specs.declared.row.ShownRow.{ShownRow}
use Rattle.desk_board.specs.Picture.{IsCurrent, IsRightPicture, Picture, bookmarks_of, picture, picture_of, row_of}
use Rattle.desk_board.specs.BoardHistory.{BoardHistory, ShowsNext, and_then}

same_bookmarks : (d : BookState) (bs : List Bookmark) → bookmarks_of (map row_of (map (shown_row d) bs)) ≡ bs
same_bookmarks d [] = refl
same_bookmarks d (b ∷ bs) = ap (λ rest. b ∷ rest) (same_bookmarks d bs)

all_current : (p : Plan) (rows : List (Bookmark × Option (List ℕ))) → AllByRecursion (IsScratch p) rows → AllByRecursion (IsCurrent p) (map row_of rows)
all_current p [] right = tt
all_current p (r ∷ rs) right = (right.0, all_current p rs right.1)

pub right_picture : (d : BookState) → AllByRecursion (IsScratch d.plan) (shown_rows d) → IsRightPicture (picture_of d)
right_picture d right = record { bookmarks = same_bookmarks d d.plan.bookmarks; right = all_current d.plan (shown_rows d) right }

-- the picture of its plan and of its rows, once none is left
pub whole_picture : (d : BookState) (p : Plan) (rows : List ShownRow) (left : List (Bookmark × Option (List ℕ))) → p ≡ d.plan → left ≡ [] → rows ++ map row_of left ≡ map row_of (shown_rows d) → picture p rows ≡ picture_of d
whole_picture d p rows left same none is =
    let all : rows ≡ map row_of (shown_rows d) = sym (append-nil rows) ∙ (sym (ap (λ v. rows ++ map row_of v) none) ∙ is) in
    ap₂ picture same all

-- one snapshot of a desk is put behind a history
pub shows_next : (old new : BoardHistory) (s : Picture) (d : BookState) → s ≡ picture_of d → IsRightPicture s → new ≡ and_then old s
    → ShowsNext old d new
shows_next old new s d is right more = (subst IsRightPicture is right, more ∙ ap (and_then old) is)
