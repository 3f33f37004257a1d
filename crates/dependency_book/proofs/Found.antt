-- The rows from which what is needed is computed.
use Rattle.dependency_book.proofs.Names.{AreHeldBack, ArrivalRow, BookState, ComesBefore, IsHeldBook, IsLedTo, IsSome, List, Mark, None, Some, TextRow, ViewIsNext, and_parts, ap, arith, arrival_known, before_one, before_row, bookmark_in}
use Rattle.dependency_book.proofs.Names.{bookmark_mark, get_or, is_known, is_ready, is_some, length, not, option_map, subst, suc, sym, true_eq, zero, ℕ, ◌<◌, ◌==◌, ◌∙◌, ◌≡◌}
use Rattle.dependency_book.proofs.Placed.{bookmark_row, mark_of, mark_row, place_of_mark, row_comes, row_follows, row_stands, text_at}

-- the row of a step, by its place
pub record StepRow (d : BookState) (m : Mark) (k : ℕ) : Type 0 where
  pub low : k < length d.arrivals
  pub comes : (x : ArrivalRow) → ComesBefore d.plan (before_row d.plan.branches d.arrivals k x) m
  pub arrived : (x : ArrivalRow) → IsSome (arrival_known d (before_row d.plan.branches d.arrivals k x))

-- the row of a view
pub record ViewRow (d : BookState) (id : ℕ) (x : TextRow) : Type 0 where
  pub there : bookmark_in d.plan.bookmarks id ≡ Some x.key
  pub arrived : IsSome (arrival_known d (bookmark_mark x.key))

-- whether what arrives at a mark is known shows in its row
pub ready_is : (d : BookState) (m : Mark) → is_ready d.arrivals m ≡ is_some (arrival_known d m)
ready_is d m = grind arith

module _ {d : BookState} {places : List ℕ} (held : IsHeldBook d places) where
  pub step_row : (m : Mark) → IsLedTo d m → StepRow d m (place_of_mark d m)
  step_row m led =
      let k = place_of_mark d m in
      let f = mark_row held m led.above led.is in
      let comes = λ (x : ArrivalRow).
      subst (ComesBefore d.plan (before_row d.plan.branches d.arrivals k x)) (f.is x)
      (row_comes held k x f.at.low) in
      record {
        low = f.at.low;
        comes = comes;
        arrived = λ x.
            rw (before_one d.plan led.before (before_row d.plan.branches d.arrivals k x) m
            held.right.core.sound
            led.comes (comes x)) at led.arrived;
      }

  -- no step leads to a row that waits for the row before it
  pub held_back : AreHeldBack d.plan.branches d.arrivals
  held_back zero x low waiting = absurd cc
  held_back (suc j) x low waiting =
      let before : ArrivalRow = get_or d.arrivals j x in
      let own = (mark_of d.arrivals (suc j) x).branch in
      let parts = and_parts (before.key.branch == own) (not (is_known before.state)) waiting in
      rw (row_follows held j x low (true_eq before.key.branch own parts.0))
      (ready_is d before.key
      ∙ ap is_known (row_stands held j x (omega (arith, low)))
      ∙ grind (arith, parts.1))

  -- the bookmark of a view is the one that can be viewed
  viewed : (id : ℕ) → (next : ViewIsNext d id) → bookmark_in d.plan.bookmarks id ≡ Some next.bookmark
  viewed id next = ap (bookmark_in d.plan.bookmarks) (sym next.named) ∙ next.can.there

  pub view_row : (id : ℕ) (x : TextRow) → ViewIsNext d id → text_at d id ≡ Some x → ViewRow d id x
  view_row id x next found =
      let there : bookmark_in d.plan.bookmarks id ≡ Some x.key = bookmark_row held id
      ∙ ap (option_map (λ (r : TextRow). r.key)) found in
      let one = viewed id next in
      let same : next.bookmark ≡ x.key = cc in
      record { there = there; arrived = rw same at next.can.arrived }

  pub has_view_row : (id : ℕ) → ViewIsNext d id → text_at d id ≡ None → ⊥
  has_view_row id next none =
      let gone : bookmark_in d.plan.bookmarks id ≡ None = bookmark_row held id
      ∙ ap (option_map (λ (r : TextRow). r.key)) none in
      let one = viewed id next in
      cc
