-- What an edit keeps of a document's rows is still wanted.
use Rattle.desk_events.proofs.Names.{AreMarked, Asked, Bookmark, Branch, IsFelt, IsPlaced, IsSound, LayAlikeWithin, List, Mark, Need, None, Option, Plan, Some, Step, View, World, [], and_parts, ap, arith, bookmark_in, bookmark_mark}
use Rattle.desk_events.proofs.Names.{cells_at, changed, false, felt_from, inl, inr, is_mark, is_start, keeps_arrival, keeps_text, lay, leaves_after, mark_at, not, pattern, refusal, scratch, stays_mark, subst, sym, takes, true, wanted, ℕ}
use Rattle.desk_events.proofs.Names.{◌&&◌, ◌∙◌, ◌∷◌, ◌≡◌}
use Rattle.schedule.proofs.Shared.Alike.{arrival-within}
use Rattle.desk_events.proofs.Shared.Bookmarks.{kept_in}
use Rattle.desk_events.proofs.Leaves.{arrival_left, scratch_left, shown_left}
use Rattle.desk_events.proofs.Shared.Marks.{bookmark_is_mark}
use Rattle.desk_events.proofs.Shared.Gives.{Arrives}
use Rattle.desk_events.proofs.Alike.{unfelt_alike}
use Rattle.desk_events.proofs.Shared.Walk.{mark_within}

-- the row of a need is kept after an edit that is felt from there
abbrev pub Keeps : Plan → Asked → Option Mark → Need → Type 0
Keeps p asked felt (Step branch mark) =
    (is_start (mark_at branch mark) ≡ false) × (stays_mark felt p (changed p asked).plan (mark_at branch mark) ≡ true)
Keeps p asked felt (View id) = (b : Bookmark) × (bookmark_in p.bookmarks id ≡ Some b)
    × (keeps_text (changed p asked).plan.branches felt asked b ≡ true)

-- a bookmark of a document stands in a branch that is there
placed_in : (branches : List Branch) (bs : List Bookmark) (id : ℕ) (b : Bookmark) → AreMarked branches bs
    → bookmark_in bs id ≡ Some b → IsPlaced branches b.branch b.generation
placed_in branches [] id b all is = absurd cc
placed_in branches (c ∷ bs) id b all is = grind (arith, placed_in branches bs id b all.1)

-- a bookmark whose text is the same in both documents
text_same : (p : Plan) (asked : Asked) (felt : Option Mark) (id : ℕ) (b : Bookmark)
    → keeps_text (changed p asked).plan.branches felt asked b ≡ true → bookmark_in p.bookmarks id ≡ Some b
    → scratch p b ≡ scratch (changed p asked).plan b → wanted (changed p asked).plan (View id) ≡ wanted p (View id)
text_same p asked felt id b keep is same = let kept = kept_in p asked felt id b keep is in grind arith

-- up to where it is felt
wants_left : (p : Plan) (asked : Asked) (need : Need) → IsSound p → refusal p asked ≡ None
    → Keeps p asked (felt_from p asked) need → wanted (changed p asked).plan need ≡ wanted p need
wants_left p asked (Step branch mark) sound free k =
    let q = (changed p asked).plan in
    let m = mark_at branch mark in
    let parts = and_parts (is_mark p m) (is_mark q m && keeps_arrival q.branches (felt_from p asked) m) k.1 in
    let later = and_parts (is_mark q m) (keeps_arrival q.branches (felt_from p asked) m) parts.1 in
    ap (λ w. Some (pattern w)) (sym (arrival_left p asked m sound free k.0 parts.0 later.0 later.1))
wants_left p asked (View id) sound free k =
    let b : Bookmark = k.0 in
    let leaves = and_parts (leaves_after (changed p asked).plan.branches (felt_from p asked) (bookmark_mark b))
    (not (takes asked b)) k.2 in
    text_same p asked (felt_from p asked) id b k.2 k.1
    (scratch_left p asked id b sound free k.1
    (placed_in p.branches p.bookmarks id b sound.branches_sound.bookmarks_placed k.1) leaves.0)

-- at each mark and for each bookmark, if it is felt nowhere
wants_alike : (p : Plan) (asked : Asked) (felt : Option Mark) (need : Need) → IsSound p
    → LayAlikeWithin p (changed p asked).plan → Keeps p asked felt need
    → wanted (changed p asked).plan need ≡ wanted p need
wants_alike p asked felt (Step branch mark) sound alike k =
    let q = (changed p asked).plan in
    let m = mark_at branch mark in
    let there = (and_parts (is_mark p m) (is_mark q m && keeps_arrival q.branches felt m) k.1).0 in
    ap (λ w. Some (pattern w)) (sym (arrival-within p q branch mark sound alike (mark_within p m sound there)))
wants_alike p asked felt (View id) sound alike k =
    let q = (changed p asked).plan in
    let b : Bookmark = k.0 in
    let placed = placed_in p.branches p.bookmarks id b sound.branches_sound.bookmarks_placed k.1 in
    let far = mark_within p (bookmark_mark b) sound (bookmark_is_mark p id b k.1) in
    text_same p asked felt id b k.2 k.1
    (shown_left p q b alike.rule
    (alike.lists b.branch b.generation placed.from_fork far
    ∙ ap (lay (cells_at q.interventions b.branch b.generation))
    (arrival-within p q b.branch b.generation sound alike far)))

-- what is kept of a row is what starting over gives for it after the edit
pub wants_same : (p : Plan) (known : Mark → Option World) (asked : Asked) (felt : Option Mark) (need : Need) → IsSound p
    → refusal p asked ≡ None → Arrives known p → IsFelt known p asked (changed p asked).plan felt
    → Keeps p asked felt need → wanted (changed p asked).plan need ≡ wanted p need
wants_same p known asked felt need sound free arrives (inl h) k =
    wants_alike p asked felt need sound (unfelt_alike p known asked sound arrives h.0) k
wants_same p known asked felt need sound free arrives (inr h) k =
    wants_left p asked need sound free (subst (λ f. Keeps p asked f need) h.1 k)
