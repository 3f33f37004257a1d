-- What is known where nothing is pending.
use Rattle.desk_server.proofs.Names.{AllKnown, BookState, Bookmark, Bool, IsSome, List, Option, [], arith, cond, cond-true, count_by, is_known, is_pending, known, map, nat_tests, not, pending_of, shown_row, subst, true, ℕ, ◌+◌, ◌∷◌, ◌≡◌}
use Rattle.std.specs.List.{AllByRecursion}
use Rattle.std.proofs.lemmas.List.Sums.{sum_by-cons}
use Rattle.dependency_book.specs.Right.{IsRightBook}
use Rattle.dependency_book.specs.Rows.{TextRow, keys, state_at, bookmark_rank}

-- where no text of rows is pending, that of each of their bookmarks is found

abbrev IsTextKnown : List TextRow → Bookmark → Type 0
IsTextKnown rows b = IsSome (known (state_at bookmark_rank b.id rows))

abbrev one_if : Bool → ℕ
one_if b = cond b 1 0

if_known : (b : Bool) → one_if (not b) ≡ 0 → b ≡ true
if_known b e = grind (arith)

each_later : (r : TextRow) (rs : List TextRow) (bs : List Bookmark) → is_known r.state ≡ true
    → AllByRecursion (IsTextKnown rs) bs → AllByRecursion (IsTextKnown (r ∷ rs)) bs
each_later r rs [] here found = tt
each_later r rs (b ∷ bs) here found = grind (arith, each_later r rs bs)

found_here : (r : TextRow) (rs : List TextRow) → is_known r.state ≡ true → IsTextKnown (r ∷ rs) r.key
found_here r rs here = grind (arith, cond-true, nat_tests)

each_found : (rows : List TextRow) → count_by is_pending rows ≡ 0 → AllByRecursion (IsTextKnown rows) (keys rows)
each_found [] none = tt
each_found (r ∷ rs) none =
    let counted : count_by is_pending (r ∷ rs) ≡ one_if (is_pending r) + count_by is_pending rs =
    sum_by-cons (λ (y : TextRow). one_if (is_pending y)) r rs in
    let here : is_known r.state ≡ true = if_known (is_known r.state) (omega (arith, counted, none)) in
    (found_here r rs here, each_later r rs (keys rs) here (each_found rs (omega (arith, counted, none))))

each_text : (d : BookState) (bs : List Bookmark) → AllByRecursion (IsTextKnown d.texts) bs
    → AllByRecursion (λ (row : Bookmark × Option (List ℕ)). IsSome row.1) (map (shown_row d) bs)
each_text d [] found = tt
each_text d (b ∷ bs) found = (found.0, each_text d bs found.1)

pub all_known : (d : BookState) → IsRightBook d → pending_of d ≡ 0 → AllKnown d
all_known d right none =
    each_text d d.plan.bookmarks (subst (AllByRecursion (IsTextKnown d.texts)) right.bookmarks (each_found d.texts none))
