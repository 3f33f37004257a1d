-- What a picture shows of what a reply tells.
use Rattle.std.proofs.Common.{◌≡◌, ◌∙◌, ℕ, List, [], ◌∷◌, map, sym, ap, subst, Option}
use Rattle.std.specs.Prelude.{IsSome}
use Rattle.std.specs.List.{AllByRecursion}
use Rattle.schedule.specs.declared.document.Bookmark.{Bookmark}
use Rattle.dependency_book.specs.BookState.{BookState, text_known}
use Rattle.dependency_book.specs.RowState.{known}
use Rattle.dependency_book.specs.ShownRows.{shown_row, shown_rows}
use Rattle.desk_board.specs.Picture.{picture_of, row_of}
use Rattle.desk_board.specs.declared.row.ShownRow.{ShownRow}
use Rattle.desk_events.specs.Wanted.{bookmark_in}
use Rattle.desk_server.specs.Answer.{After}
use Rattle.desk_server.specs.Told.{TellsPending, reply_text, shown_text}
use Rattle.board_laws.specs.Showings.{IsAsTold, ShowsWhatIsTold}
use Rattle.desk_server.specs.declared.reply.Reply.{Reply}

rows_known : (rows : List (Bookmark × Option (List ℕ)))
    → AllByRecursion (λ (row : Bookmark × Option (List ℕ)). IsSome row.1) rows
    → AllByRecursion (λ (row : ShownRow). IsSome row.text) (map row_of rows)
rows_known [] known = tt
rows_known (row ∷ rows) known = (known.0, rows_known rows known.1)

rows_told : (d : BookState) (id : ℕ) (told : List ℕ) (bs : List Bookmark)
    → told ≡ shown_text id (bookmark_in d.plan.bookmarks id) (text_known d id)
    → AllByRecursion (λ (row : ShownRow). row.bookmark.id ≡ id
    → told ≡ shown_text id (bookmark_in d.plan.bookmarks id) row.text) (map row_of (map (shown_row d) bs))
rows_told d id told [] is = tt
rows_told d id told (b ∷ bs) is = (
  λ same. is ∙ ap (λ n. shown_text id (bookmark_in d.plan.bookmarks id) (text_known d n)) (sym same),
  rows_told d id told bs is,
)

as_told : (d : BookState) (r : Reply) (told : List ℕ) → TellsPending r d → told ≡ reply_text d r
    → IsAsTold r told (picture_of d)
as_told d r told pending is = record {
  settled = λ e. rows_known (shown_rows d) (subst (λ q. TellsPending q d) e pending);
  shown = λ id e. rows_told d id told d.plan.bookmarks (is ∙ ap (reply_text d) e);
}

pub shows_told : ShowsWhatIsTold
shows_told after d s is =
    subst (IsAsTold is.reply after.told) (sym is.is)
    (as_told d is.reply after.told is.pending (ap (λ (a : After). a.told) is.gives))
