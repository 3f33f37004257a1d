use Rattle.std.proofs.Common.{◌≡◌, ◌∙◌, ◌++◌, map, sym, ap₂, subst, rules}
use Rattle.std.specs.List.{AllByRecursion}
use Rattle.dependency_book.specs.ShownRows.{IsScratch, shown_rows}
use Rattle.desk_board.specs.Picture.{IsRightPicture, picture, picture_of, row_of}
use Rattle.desk_board.proofs.Pictures.{right_picture, whole_picture}
use Rattle.desk_board.proofs.taking.snapshot.Goals as goal

pub loop-bookmark-init : goal.loop-bookmark-init
loop-bookmark-init c = ap₂ (λ rows left. rows ++ map row_of left) c.in_ok-rows.ensures.items (c.into_iter-bookmark-iterator.ensures.into_iter_gives ∙ c.rows-bookmark-items.ensures.rows)

pub of-requires : goal.of-requires
of-requires c =
    let is : picture c.in_ok-copy.field-0 c.loop-bookmark.rows.items ≡ picture_of c.args.desk.now = whole_picture c.args.desk.now _ _ c.loop-bookmark.bookmark-iterator (search rules) (search rules) c.loop-bookmark.invariant in
    let right : AllByRecursion (IsScratch c.args.desk.now.plan) (shown_rows c.args.desk.now) = subst (AllByRecursion (IsScratch c.args.desk.now.plan)) c.rows-bookmark-items.ensures.rows c.rows-bookmark-items.ensures.right in
    subst IsRightPicture (sym is) (right_picture c.args.desk.now right)

pub returns : goal.returns
returns c =
    let is : picture c.in_ok-copy.field-0 c.loop-bookmark.rows.items ≡ picture_of c.args.desk.now = whole_picture c.args.desk.now _ _ c.loop-bookmark.bookmark-iterator (search rules) (search rules) c.loop-bookmark.invariant in
    let right : AllByRecursion (IsScratch c.args.desk.now.plan) (shown_rows c.args.desk.now) = subst (AllByRecursion (IsScratch c.args.desk.now.plan)) c.rows-bookmark-items.ensures.rows c.rows-bookmark-items.ensures.right in
    record { desk = c.of.ensures ∙ is; right = subst IsRightPicture (sym (c.of.ensures ∙ is)) (right_picture c.args.desk.now right) }
