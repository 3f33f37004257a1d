-- What is needed next, by the rows.
use Rattle.dependency_book.proofs.Names.{All-get_or, AllByRecursion, ArrivalRow, BookState, Bookmark, Bool, Branch, CanBeReached, CanBeViewed, ComesBefore, Empty, IsFirst, IsHeldBook, IsNextStep, IsNextView, IsNotAfter, IsSound, List, Mark}
use Rattle.dependency_book.proofs.Names.{None, NothingOut, Option, Plan, Row, RowState, Some, TextRow, [], and_parts, ap, arith, arrival_known, before_one, before_row, bookmark_is_mark, bookmark_mark, bookmark_rank, branch_id}
use Rattle.dependency_book.proofs.Names.{by_key, clash, cond, count_by, either_way, element_at, empty_rows_of, false, false_lt, get_or, get_or_default, inl, inr, is_empty, is_known, is_mark, is_pending, is_ready, is_some, is_start, job_of}
use Rattle.dependency_book.proofs.Names.{keys, length, mark_rank, missing, nat_lt, nat_tests, never_falls, parents_before, pending_of, place_in, place_ready, places_of, rank_branches, rank_within, refl, steppable, subst, suc, sum_by-cons}
use Rattle.dependency_book.proofs.Names.{sym, true, true_lt, viewable, zero, ℕ, ◌&&◌, ◌<◌, ◌^◌, ◌∙◌, ◌∷◌, ◌≡◌, ◌≤◌}
use Rattle.std.proofs.lemmas.Option.{slice_get-get_or}
use Rattle.dependency_book.proofs.Found.{ready_is}
use Rattle.dependency_book.proofs.Outs.{each_out}
use Rattle.dependency_book.proofs.Placed.{MarkRow, mark_of, forked, StandsIn, in_at, mark_row, place_of_mark, row_beside, row_comes, row_is, row_near, row_stands, stands_in, text_stands}
use Rattle.dependency_book.proofs.Standing.{empties}

empty_is : {V : Type 0} (s : RowState V) → is_empty s ≡ true → s ≡ Empty
empty_is s h = grind arith

-- a row for a mark
pub row_for : Mark → ArrivalRow
row_for m = record { key = m; state = Empty }

place_at : (arrivals : List ArrivalRow) (rows : List TextRow) (k : ℕ) (x : TextRow) → k < length rows
    → get_or (places_of arrivals (keys rows)) k 0 ≡ place_in (by_key mark_rank)
    (mark_rank (bookmark_mark (get_or rows k x).key)) arrivals
place_at arrivals [] k x low = absurd (omega (arith, low))
place_at arrivals (r ∷ rs) zero x low = refl
place_at arrivals (r ∷ rs) (suc k) x low = place_at arrivals rs k x (omega (arith, low))

-- whether what arrives at the mark of a text's bookmark is known
abbrev has_arrived : BookState → TextRow → Bool
has_arrived d r = is_some (arrival_known d (bookmark_mark r.key))

module _ {d : BookState} {places : List ℕ} (held : IsHeldBook d places) where
  -- the place of a mark tells whether what arrives there is known
  place_is : (m : Mark) → is_mark d.plan m ≡ true
      → place_ready d.arrivals m (place_of_mark d m) ≡ is_some (arrival_known d m)
  place_is m there =
      either_way (is_start m) (λ hit. rw hit refl)
      (λ miss.
      let f = mark_row held m miss there in
      let at = slice_get-get_or d.arrivals (place_of_mark d m) f.row f.at.low in
      grind (arith, miss, at, f.at.is f.row, f.stands))

  -- the text at a place can be viewed where nothing stands for it and what arrives at its mark is known
  viewable_is : (k : ℕ) (x : TextRow) → k < length d.texts → viewable d.arrivals d.texts places k x ≡
      (is_empty (get_or d.texts k x).state && has_arrived d (get_or d.texts k x))
  viewable_is k x low =
      let r = get_or d.texts k x in
      let m = bookmark_mark r.key in
      let at : get_or places k 0 ≡ place_of_mark d m =
      ap (λ ps. get_or ps k 0) (held.places ∙ ap (places_of d.arrivals) (sym held.right.bookmarks))
      ∙ place_at d.arrivals d.texts k x low in
      ap (λ b. is_empty r.state && b)
      (ap (place_ready d.arrivals m) at ∙ place_is m
      (bookmark_is_mark d.plan r.key.id r.key (in_at held k x low)))

  can_be_viewed : (k : ℕ) (x : TextRow) → k < length d.texts → viewable d.arrivals d.texts places k x ≡ true
      → CanBeViewed d (get_or d.texts k x).key
  can_be_viewed k x low can =
      let r = get_or d.texts k x in
      let parts = and_parts (is_empty r.state) (has_arrived d r) (sym (viewable_is k x low) ∙ can) in
      record {
        there = in_at held k x low;
        arrived = parts.1;
        empty = text_stands held k x low ∙ empty_is r.state parts.0;
      }

  -- so can that of a bookmark that can be viewed, where it stands
  viewed_there : (b : Bookmark) → CanBeViewed d b → (f : StandsIn d b) → (x : TextRow)
      → viewable d.arrivals d.texts places f.place x ≡ true
  viewed_there b can f x =
      let empty = text_stands held f.place x f.low in
      let is = f.is x in
      let none = can.empty in
      let arrived = can.arrived in
      viewable_is f.place x f.low ∙ grind (arith, empty, is, none, arrived)

  -- the first text that can be viewed is that of the least id
  pub view_next : (k : ℕ) (x : TextRow) → x ≡ get_or d.texts k x
      → IsFirst (viewable d.arrivals d.texts places) (length d.texts) (Some k) → IsNextView d (Some x.key.id)
  view_next k x is first =
      let named : (get_or d.texts k x).key.id ≡ x.key.id = ap (λ (r : TextRow). r.key.id) (sym is) in
      record {
        bookmark = (get_or d.texts k x).key;
        named = named;
        can = can_be_viewed k x first.0 (first.1 x);
        least = λ other can.
            let f = stands_in held other.id other can.there in
            let at : (get_or d.texts f.place x).key.id ≡ other.id = ap (λ (c : Bookmark). c.id) (f.is x) in
            let none = first.2 f.place x in
            let up = never_falls (by_key bookmark_rank) d.texts held.ids_rise k f.place x in
            let low = f.low in
            either_way (nat_lt f.place k)
            (λ hit. clash (viewable d.arrivals d.texts places f.place x) (viewed_there other can f x)
            (none (true_lt f.place k hit)))
            (λ miss. let le = up (false_lt f.place k miss) low in omega (arith, le, at, named));
      }

  -- where there is none no bookmark can be viewed
  pub no_view : IsFirst (viewable d.arrivals d.texts places) (length d.texts) None → IsNextView d None
  no_view none b can =
      let f = stands_in held b.id b can.there in
      let x : TextRow = record { key = b; state = Empty } in
      clash (viewable d.arrivals d.texts places f.place x) (viewed_there b can f x) (none f.place x f.low)

-- the mark that can be reached

-- the mark before that of the row at a place
abbrev before_at : BookState → ℕ → ArrivalRow → Mark
before_at d k x = before_row d.plan.branches d.arrivals k x

-- a step can be made to the row at a place
abbrev IsSteppable : BookState → ℕ → ArrivalRow → Type 0
IsSteppable d k x = steppable d.plan.branches d.arrivals k x ≡ true

-- of two marks that are near the one of the lesser rank isn't after the other
not_after : (m n : Mark) → m.generation ≤ 2 ^ 60 → mark_rank m ≤ mark_rank n → IsNotAfter m n
not_after m n near le =
    either_way (nat_lt m.branch n.branch)
    (λ hit. inl (true_lt m.branch n.branch hit))
    (λ miss.
    let up = false_lt m.branch n.branch miss in
    let same : m.branch ≡ n.branch = omega (arith, le, up) in
    inr (same, omega (arith, le, same, near)))

module _ {d : BookState} {places : List ℕ} (held : IsHeldBook d places) where
  can_be_reached : (k : ℕ) (x : ArrivalRow) → k < length d.arrivals → IsSteppable d k x
      → CanBeReached d (mark_of d.arrivals k x)
  can_be_reached k x low can =
      let state = (get_or d.arrivals k x).state in
      let before = before_at d k x in
      let parts = and_parts (is_empty state) (is_ready d.arrivals before) can in
      record {
        led = record {
          above = row_beside held k x low;
          is = row_is held k x low;
          before = before;
          comes = row_comes held k x low;
          arrived = sym (ready_is d before) ∙ parts.1;
        };
        empty = row_stands held k x low ∙ empty_is state parts.0;
      }

  -- nothing stands in the row of a mark to which a step can be made
  pub steps_there : (k : ℕ) (x : ArrivalRow) → x ≡ get_or d.arrivals k x → k < length d.arrivals
      → IsSteppable d k x
      → CanBeReached d x.key
  steps_there k x is low can =
      subst (λ (r : ArrivalRow). CanBeReached d r.key) (sym is) (can_be_reached k x low can)

  -- and to the row of a mark that can be reached
  pub reached_at : (p : ℕ) (x : ArrivalRow) → p < length d.arrivals → CanBeReached d (mark_of d.arrivals p x)
      → IsSteppable d p x
  reached_at p x low can =
      let one : before_at d p x ≡ can.led.before =
      before_one d.plan (before_at d p x) can.led.before (mark_of d.arrivals p x) held.right.core.sound
      (row_comes held p x low) can.led.comes in
      let ready : is_ready d.arrivals (before_at d p x) ≡ true =
      ready_is d (before_at d p x) ∙ rw one can.led.arrived in
      let empty : (get_or d.arrivals p x).state ≡ Empty = sym (row_stands held p x low) ∙ can.empty in
      rw (empty, ready) refl

  pub reached_there : (mark : Mark) → CanBeReached d mark → MarkRow d mark → (x : ArrivalRow)
      → IsSteppable d (place_of_mark d mark) x
  reached_there mark can f x =
      reached_at (place_of_mark d mark) x f.at.low (subst (CanBeReached d) (sym (f.is x)) can)

  -- the first mark that a step can be made to is the first that can be reached
  pub step_next : (k : ℕ) (x : ArrivalRow) → x ≡ get_or d.arrivals k x
      → IsFirst (steppable d.plan.branches d.arrivals) (length d.arrivals) (Some k)
      → IsNextStep d (Some x.key)
  step_next k x is first = record {
    can = steps_there k x is first.0 (first.1 x);
    first = λ other can.
        let f = mark_row held other can.led.above can.led.is in
        let p = place_of_mark d other in
        either_way (nat_lt p k)
        (λ hit. clash (steppable d.plan.branches d.arrivals p x) (reached_there other can f x)
        (first.2 p x (true_lt p k hit)))
        (λ miss.
        let up = never_falls (by_key mark_rank) d.arrivals held.marks_rise k p x (false_lt p k miss)
        f.at.low in
        let here : mark_rank (mark_of d.arrivals k x) ≡ mark_rank x.key = ap (by_key mark_rank) (sym is) in
        let there : mark_rank (mark_of d.arrivals p x) ≡ mark_rank other = ap mark_rank (f.is x) in
        not_after x.key other
        (subst (λ (r : ArrivalRow). r.key.generation ≤ 2 ^ 60) (sym is) (row_near held k x first.0))
        (omega (arith, up, here, there)));
  }

  -- where there is none no mark can be reached
  pub no_step : IsFirst (steppable d.plan.branches d.arrivals) (length d.arrivals) None → IsNextStep d None
  no_step none mark can =
      let f = mark_row held mark can.led.above can.led.is in
      let x = row_for mark in
      clash (steppable d.plan.branches d.arrivals (place_of_mark d mark) x) (reached_there mark can f x)
      (none (place_of_mark d mark) x f.at.low)

-- where nothing is needed and no job is out, nothing is pending

-- rows of which none expects a job
abbrev NoneOut : {K V : Type 0} → List (Row K V) → Type 0
NoneOut {K} {V} rows = AllByRecursion (λ (r : Row K V). job_of r.state ≡ None) rows

pending_empty : (rows : List TextRow) → NoneOut rows → count_by is_pending rows ≡ empties rows
pending_empty [] out = refl
pending_empty (r ∷ rs) out =
    let pending = sum_by-cons (λ (x : TextRow). cond (is_pending x) 1 0) r rs in
    let empty = sum_by-cons (λ (x : TextRow). missing x.state) r rs in
    grind (arith, pending, empty, pending_empty rs out.1, out.0)

none_empty : (rows : List TextRow)
    → ((k : ℕ) (x : TextRow) → k < length rows → is_empty (get_or rows k x).state ≡ false) → empties rows ≡ 0
none_empty [] f = refl
none_empty (r ∷ rs) f =
    let rest = none_empty rs (λ k x low. f (suc k) x (omega (arith, low))) in
    grind (arith, sum_by-cons (λ (x : TextRow). missing x.state) r rs, rest, f 0 r)

filled : {V : Type 0} (s : RowState V) (b : Bool) → job_of s ≡ None → b ≡ true → (is_empty s && b) ≡ false
    → is_known s ≡ true
filled s b out is none = grind arith

-- the mark before a mark is one, of a lesser rank

before_is : (p : Plan) (a m : Mark) → ComesBefore p a m → is_mark p a ≡ true
before_is p a m (inl begins) = begun (element_at branch_id p.branches m.branch) refl
  where
    begun : (o : Option Branch) → element_at branch_id p.branches m.branch ≡ o → is_mark p a ≡ true
    begun None none =
        let branch : a.branch ≡ 0 = rw none at begins.parent in
        let generation : a.generation ≡ 0 = begins.same ∙ rw none at begins.fork in
        grind (arith, nat_tests, branch, generation)
    begun (Some x) found =
        let branch : a.branch ≡ x.parent = rw found at begins.parent in
        let generation : a.generation ≡ x.fork = begins.same ∙ rw found at begins.fork in
        forked p a m.branch x found (grind (arith, nat_tests, branch, generation))
before_is p a m (inr precedes) = precedes.is

pub before_lower : (p : Plan) (a m : Mark) → IsSound p → m.generation ≤ 2 ^ 60 → ComesBefore p a m
    → mark_rank a < mark_rank m
before_lower p a m sound near (inl begins) =
    let less = parents_before p.branches sound.branches_sound.forked m.branch begins.above in
    let parent = begins.parent in
    rank_branches a m (omega (arith, less, parent))
before_lower p a m sound near (inr precedes) = rank_within a m precedes.branch near precedes.below

-- where no mark can be reached each is known

module _ {d : BookState} {places : List ℕ} (held : IsHeldBook d places) where
  -- all before a place are
  abbrev KnownBelow : ℕ → Type 0
  KnownBelow n = (k : ℕ) (x : ArrivalRow) → k < n → k < length d.arrivals
      → is_known (get_or d.arrivals k x).state ≡ true

  -- what arrives at a mark is known where its row is
  row_known : (m : Mark) (n : ℕ) → KnownBelow n → is_mark d.plan m ≡ true
      → ((x : ArrivalRow) (k : ℕ) → k < length d.arrivals → mark_of d.arrivals k x ≡ m → k < n)
      → is_ready d.arrivals m ≡ true
  row_known m n below there low =
      either_way (is_start m) (λ hit. rw hit refl)
      (λ miss.
      let x = row_for m in
      let k = place_of_mark d m in
      let f = mark_row held m miss there in
      let is : mark_of d.arrivals k x ≡ m = f.is x in
      ready_is d m
      ∙ ap (λ n. is_some (arrival_known d n)) (sym is)
      ∙ ap is_known (row_stands held k x f.at.low)
      ∙ below k x (low x k f.at.low is) f.at.low)

  known_below : NoneOut d.arrivals → IsNextStep d None → (n : ℕ) → KnownBelow n
  known_below out none zero k x under low = absurd (omega (arith, under))
  known_below out none (suc n) k x under low =
      let b = before_at d k x in
      let m = mark_of d.arrivals k x in
      let comes = row_comes held k x low in
      let lower = before_lower d.plan b m held.right.core.sound (row_near held k x low) comes in
      let earlier : (y : ArrivalRow) (j : ℕ) → j < length d.arrivals → mark_of d.arrivals j y ≡ b → j < n =
      λ y j fits is.
      either_way (nat_lt j k)
      (λ hit. let less = true_lt j k hit in omega (arith, less, under))
      (λ miss.
      let up = never_falls (by_key mark_rank) d.arrivals held.marks_rise k j y (false_lt j k miss) fits in
      let here : mark_rank (mark_of d.arrivals j y) ≡ mark_rank b = ap mark_rank is in
      let same : mark_rank (mark_of d.arrivals k y) ≡ mark_rank m =
      ap (by_key mark_rank) (get_or_default d.arrivals k y x low) in
      absurd (omega (arith, up, here, same, lower))) in
      let ready = row_known b n (known_below out none n) (before_is d.plan b m comes) earlier in
      filled (get_or d.arrivals k x).state (is_ready d.arrivals b)
      (All-get_or (λ (r : ArrivalRow). job_of r.state ≡ None) d.arrivals k x low out) ready
      (either_way (steppable d.plan.branches d.arrivals k x)
      (λ hit. absurd (none m (can_be_reached held k x low hit))) (λ miss. miss))

  -- then each bookmark's arrival is
  all_ready : NoneOut d.arrivals → IsNextStep d None → (k : ℕ) (x : TextRow) → k < length d.texts
      → has_arrived d (get_or d.texts k x) ≡ true
  all_ready out none k x low =
      let r = get_or d.texts k x in
      let m = bookmark_mark r.key in
      sym (ready_is d m)
      ∙ row_known m (length d.arrivals) (known_below out none (length d.arrivals))
      (bookmark_is_mark d.plan r.key.id r.key (in_at held k x low)) (λ y j fits is. fits)

  pub none_pending : IsNextView d None → IsNextStep d None → NothingOut d → pending_of d ≡ 0
  none_pending views steps out =
      let each = each_out held (λ o. o ≡ None) out in
      pending_empty d.texts each.texts
      ∙ none_empty d.texts (λ k x low.
      either_way (is_empty (get_or d.texts k x).state)
      (λ hit. absurd
      (views (get_or d.texts k x).key
      (can_be_viewed held k x low
      (viewable_is held k x low ∙ rw (hit, all_ready each.arrivals steps k x low) refl))))
      (λ miss. miss))

  pub none_wanting : NothingOut d → empty_rows_of d ≡ 0 → pending_of d ≡ 0
  none_wanting out none =
      let same = pending_empty d.texts (each_out held (λ o. o ≡ None) out).texts in
      omega (arith, same, none)
