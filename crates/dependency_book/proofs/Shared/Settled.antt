-- How many rows a book has, and when none of its bookmarks is pending.
use Rattle.dependency_book.proofs.Names.{ArrivalRow, BookState, IsRightBook, NothingOut, TextRow, ap, arith, empty_rows_of, length, length-map, pending_of, places_of, refl, subst, sym, ◌*◌, ◌+◌, ◌∙◌, ◌≡◌, ◌≤◌}
use Rattle.schedule.specs.Repeats.{repeat_marks}
use Rattle.dependency_book.proofs.Outs.{held_by}
use Rattle.dependency_book.proofs.Needed.{none_wanting}

pub few_rows : (d : BookState) → IsRightBook d → length d.arrivals + length d.texts ≤ 20608
few_rows d right =
    let acts = right.core.sound.few_interventions in
    let stand = right.core.sound.few_bookmarks in
    let fork = right.core.sound.branches_sound.few in
    let repeated = right.core.sound.few_marks in
    let most =
    length d.plan.interventions + length d.plan.bookmarks + 2 * length d.plan.branches + repeat_marks
    d.plan in
    let marks : length d.arrivals
    ≤ length d.plan.interventions + length d.plan.bookmarks + 2 * length d.plan.branches + repeat_marks d.plan
    =
    subst (λ n. n ≤ most) (length-map d.arrivals (λ (r : ArrivalRow). r.key)) right.marks.few in
    let texts : length d.texts ≡ length d.plan.bookmarks = sym (length-map d.texts (λ (r : TextRow). r.key))
    ∙ ap length right.bookmarks in
    omega (arith, acts, stand, fork, repeated, marks, texts)

-- where no job is out and something stands in every row
pub none_pending : (d : BookState) → IsRightBook d → NothingOut d → empty_rows_of d ≡ 0 → pending_of d ≡ 0
none_pending d right = none_wanting (held_by d (places_of d.arrivals d.plan.bookmarks) refl right)
