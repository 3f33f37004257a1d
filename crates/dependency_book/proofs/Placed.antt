-- Marks and bookmarks by the places of their rows.
use Rattle.dependency_book.proofs.Names.{All-get_or, AllByRecursion, ArrivalRow, BookState, Bookmark, Branch, ComesBefore, IdsRise, IsForked, IsHeldBook, List, Mark, None, Option, Plan, Precedes, Some, Stands, TextRow, [], ap, arith}
use Rattle.dependency_book.proofs.Names.{arrival_row, before_in, before_one, before_row, bookmark_in, bookmark_rank, branch_id, by_key, either_way, element_at, element_at-is, false, forks_at, found_any, get_or, has_mark, inl, inr, is_mark}
use Rattle.dependency_book.proofs.Names.{is_some, is_start, keys, length, mark_at, mark_placed, mark_rank, nat_tests, never_falls, none_listed, option_map, place_in, rank_generation, rank_is, rank_rises, rank_within, rank_zero, refl}
use Rattle.dependency_book.proofs.Names.{row_at, row_before, row_there, stands, suc, sym, text_row, true, true_eq, zero, ℕ, ◌<◌, ◌==◌, ◌^◌, ◌∙◌, ◌∷◌, ◌≡◌, ◌≤◌}
use Rattle.dependency_book.proofs.Standing.{all_keys, has, has_row_at, has_stands, key_row, state_at-row, state_in, state_row}

-- a rank of a row that is below that of another isn't above that of the row before it
before_le : {T : Type 0} (rank : T → ℕ) (rows : List T) (j p : ℕ) (d : T) → IdsRise rank rows
    → suc j < length rows
    → p < length rows → rank (get_or rows p d) < rank (get_or rows (suc j) d)
    → rank (get_or rows p d) ≤ rank (get_or rows j d)
before_le rank rows j p d rise low fits less =
    let up = never_falls rank rows rise (suc j) p d in
    let down = never_falls rank rows rise p j d in
    grind (arith, up, down, less, low, fits)

-- a branch that begins at a mark, or leaves its parent there, makes it one of the document
pub forked : (p : Plan) (a : Mark) (b : ℕ) (x : Branch) → element_at branch_id p.branches b ≡ Some x
    → forks_at x a ≡ true → is_mark p a ≡ true
forked p a b x is hit =
    let any = found_any branch_id (λ y. forks_at y a) p.branches b x is hit in
    grind (arith, any)

-- marks by their rows

-- the mark of the row at a place
abbrev pub mark_of : List ArrivalRow → ℕ → ArrivalRow → Mark
mark_of rows k x = (get_or rows k x).key

-- the place of a mark's row
abbrev pub place_of_mark : BookState → Mark → ℕ
place_of_mark d m = place_in (by_key mark_rank) (mark_rank m) d.arrivals

-- what stands at a mark besides the start stands in the row of its rank
pub arrival_in : (d : BookState) (m : Mark) → is_start m ≡ false
    → arrival_row d m ≡ state_in (row_at (by_key mark_rank) (mark_rank m) d.arrivals)
arrival_in d m beside = rw beside (state_row mark_rank (mark_rank m) d.arrivals)

pub record MarkRow (d : BookState) (m : Mark) : Type 0 where
  pub row : ArrivalRow
  pub at : Stands (by_key mark_rank) (mark_rank m) d.arrivals row
  pub is : (x : ArrivalRow) → mark_of d.arrivals (place_of_mark d m) x ≡ m
  pub stands : arrival_row d m ≡ row.state

module _ {d : BookState} {places : List ℕ} (held : IsHeldBook d places) where
  -- a mark besides the start has a row
  pub has_row : (m : Mark) → is_start m ≡ false → has mark_rank (mark_rank m) (keys d.arrivals)
      ≡ is_mark d.plan m
  has_row m beside = has_mark m (keys d.arrivals) held.right.marks.near ∙ held.right.marks.are m beside

  module _ (k : ℕ) (x : ArrivalRow) (low : k < length d.arrivals) where
    -- what holds of each mark of the rows holds of that at a place
    row_holds : (P : Mark → Type 0) → AllByRecursion P (keys d.arrivals) → P (mark_of d.arrivals k x)
    row_holds P all = All-get_or (λ (r : ArrivalRow). P r.key) d.arrivals k x low (all_keys P d.arrivals all)

    pub row_near : (mark_of d.arrivals k x).generation ≤ 2 ^ 60
    row_near = row_holds (λ (m : Mark). m.generation ≤ 2 ^ 60) held.right.marks.near

    -- it isn't the start
    pub row_beside : is_start (mark_of d.arrivals k x) ≡ false
    row_beside = row_holds (λ (m : Mark). is_start m ≡ false) held.right.marks.above

    pub row_is : is_mark d.plan (mark_of d.arrivals k x) ≡ true
    row_is =
        let m = mark_of d.arrivals k x in
        sym (has_row m row_beside)
        ∙ has_row_at mark_rank (mark_rank m) d.arrivals
        ∙ ap is_some (row_there (by_key mark_rank) (mark_rank m) d.arrivals k x held.marks_rise low refl)

    pub row_stands : arrival_row d (mark_of d.arrivals k x) ≡ (get_or d.arrivals k x).state
    row_stands = rw row_beside (state_at-row mark_rank d.arrivals k x held.marks_rise low)

  pub mark_row : (m : Mark) → is_start m ≡ false → is_mark d.plan m ≡ true → MarkRow d m
  mark_row m beside there =
      let f = has_stands mark_rank (mark_rank m) d.arrivals held.marks_rise (has_row m beside ∙ there) in
      let at = f.1 in
      let p = place_of_mark d m in
      record {
        row = f.0;
        at = at;
        is = λ x. sym (rank_is m (mark_of d.arrivals p x) (row_near p x at.low)
            (sym (ap (by_key mark_rank) (at.is x) ∙ at.ranked)));
        stands = arrival_in d m beside ∙ ap state_in at.row;
      }

  -- the row before a row, or the start, ranks below it, and no mark ranks between the two

  before_is : (k : ℕ) (x : ArrivalRow) → k < length d.arrivals
      → is_mark d.plan (row_before d.arrivals k x) ≡ true
  before_is zero x low = refl
  before_is (suc j) x low = row_is j x (omega (arith, low))

  before_below : (k : ℕ) (x : ArrivalRow) → k < length d.arrivals
      → mark_rank (row_before d.arrivals k x) < mark_rank (mark_of d.arrivals k x)
  before_below zero x low =
      let beside = row_beside 0 x low in
      let only = rank_zero (mark_of d.arrivals 0 x) in
      grind (arith, beside, only)
  before_below (suc j) x low =
      rank_rises (by_key mark_rank) d.arrivals j (suc j) x held.marks_rise (omega arith) low

  none_between : (k : ℕ) (x : ArrivalRow) (n : Mark) → k < length d.arrivals → is_mark d.plan n ≡ true
      → mark_rank n < mark_rank (mark_of d.arrivals k x) → mark_rank n ≤ mark_rank (row_before d.arrivals k x)
  none_between k x n low there less =
      either_way (is_start n) (λ hit. grind (arith, nat_tests))
      (λ off. by_place k low less (mark_row n off there))
    where
      by_place : (k : ℕ) → k < length d.arrivals → mark_rank n < mark_rank (mark_of d.arrivals k x)
          → MarkRow d n
          → mark_rank n ≤ mark_rank (row_before d.arrivals k x)
      by_place zero low less f =
          let p = place_of_mark d n in
          let up = never_falls (by_key mark_rank) d.arrivals held.marks_rise 0 p x (omega arith) f.at.low in
          let at : mark_rank (mark_of d.arrivals p x) ≡ mark_rank n = ap mark_rank (f.is x) in
          absurd (omega (arith, up, at, less))
      by_place (suc j) low less f =
          let p = place_of_mark d n in
          let at : mark_rank (mark_of d.arrivals p x) ≡ mark_rank n = ap mark_rank (f.is x) in
          let le = before_le (by_key mark_rank) d.arrivals j p x held.marks_rise low f.at.low
          (omega (arith, at, less)) in
          omega (arith, le, at)

  -- it precedes a row's mark where some mark of its branch is below it
  precedes_row : (k : ℕ) (x : ArrivalRow) (base : Mark) → k < length d.arrivals
      → base.branch ≡ (mark_of d.arrivals k x).branch → base.generation < (mark_of d.arrivals k x).generation
      → is_mark d.plan base ≡ true → Precedes d.plan (row_before d.arrivals k x) (mark_of d.arrivals k x)
  precedes_row k x base low branch under there =
      let m = mark_of d.arrivals k x in
      let before = row_before d.arrivals k x in
      let near = row_near k x low in
      let below = before_below k x low in
      let from = none_between k x base low there (rank_within base m branch near under) in
      let same : before.branch ≡ m.branch = omega (arith, branch, below, from) in
      record {
        branch = same;
        below = rank_generation before m same below;
        is = before_is k x low;
        between = λ g over less.
            let n = mark_at m.branch g in
            either_way (is_mark d.plan n)
            (λ hit.
            let up = none_between k x n low hit (rank_within n m refl near less) in
            let lower = rank_within before n same (omega (arith, less, near)) over in
            absurd (omega (arith, up, lower)))
            (λ none. none);
      }

  pub row_comes : (k : ℕ) (x : ArrivalRow) → k < length d.arrivals
      → ComesBefore d.plan (before_row d.plan.branches d.arrivals k x) (mark_of d.arrivals k x)
  row_comes k x low = comes (element_at branch_id d.plan.branches (mark_of d.arrivals k x).branch) refl
    where
      comes : (o : Option Branch) → element_at branch_id d.plan.branches (mark_of d.arrivals k x).branch ≡ o
          → ComesBefore d.plan (before_in o (mark_of d.arrivals k x) (row_before d.arrivals k x))
          (mark_of d.arrivals k x)
      comes None none =
          let m = mark_of d.arrivals k x in
          let there = (mark_placed d.plan m held.right.core.sound (row_is k x low)).there in
          let gone = none_listed branch_id d.plan.branches m.branch none in
          let home : m.branch ≡ 0 = grind (arith, nat_tests, there, gone) in
          let beside = row_beside k x low in
          let up : 0 < m.generation = grind (arith, nat_tests, home, beside) in
          inr (precedes_row k x (mark_at 0 0) low (sym home) up refl)
      comes (Some branch) found =
          let m = mark_of d.arrivals k x in
          let p = d.plan in
          let base = mark_at m.branch branch.fork in
          let sound = held.right.core.sound in
          let own = rw found at (element_at-is branch_id (IsForked p.branches) p.branches m.branch
          sound.branches_sound.forked) in
          let is : branch.id ≡ m.branch = own.0 in
          let later = own.1.later in
          let from : branch.fork ≤ m.generation = rw found at
          (mark_placed p m sound (row_is k x low)).from_fork in
          either_way (branch.fork == m.generation)
          (λ hit.
          rw hit
          (inl (record {
            above = omega (arith, later, is);
            fork = rw found (sym (true_eq branch.fork m.generation hit));
            parent = rw found refl;
            same = true_eq branch.fork m.generation hit;
          })))
          (λ miss.
          let marked = forked p base m.branch branch found (grind (arith, nat_tests, is)) in
          rw miss (inr (precedes_row k x base low refl (grind (arith, nat_tests, from, miss)) marked)))

  -- the mark before that of a row whose row before is of the same branch is that row's
  pub row_follows : (j : ℕ) (x : ArrivalRow) → suc j < length d.arrivals
      → (mark_of d.arrivals j x).branch ≡ (mark_of d.arrivals (suc j) x).branch
      → before_row d.plan.branches d.arrivals (suc j) x ≡ mark_of d.arrivals j x
  row_follows j x low same =
      let before = mark_of d.arrivals j x in
      let m = mark_of d.arrivals (suc j) x in
      let under = rank_generation before m same (before_below (suc j) x low) in
      before_one d.plan (before_row d.plan.branches d.arrivals (suc j) x) before m held.right.core.sound
      (row_comes (suc j) x low)
      (inr (precedes_row (suc j) x before low same under (row_is j x (omega (arith, low)))))

-- bookmarks by their rows

-- the bookmark of an id is that of the id's row
pub first_is : (bs : List Bookmark) (id : ℕ) → row_at bookmark_rank id bs ≡ bookmark_in bs id
first_is [] id = refl
first_is (b ∷ bs) id = grind (arith, nat_tests, first_is bs id)

abbrev pub text_at : BookState → ℕ → Option TextRow
text_at d id = row_at (by_key bookmark_rank) id d.texts

-- where a bookmark of the document stands
pub record StandsIn (d : BookState) (b : Bookmark) : Type 0 where
  pub place : ℕ
  pub low : place < length d.texts
  pub is : (x : TextRow) → (get_or d.texts place x).key ≡ b

module _ {d : BookState} {places : List ℕ} (held : IsHeldBook d places) where
  pub bookmark_row : (id : ℕ) → bookmark_in d.plan.bookmarks id
      ≡ option_map (λ (r : TextRow). r.key) (text_at d id)
  bookmark_row id =
      sym (first_is d.plan.bookmarks id)
      ∙ ap (row_at bookmark_rank id) (sym held.right.bookmarks)
      ∙ key_row bookmark_rank id d.texts

  module _ (k : ℕ) (x : TextRow) (low : k < length d.texts) where
    -- the bookmark at a place is that of its id
    pub in_at : bookmark_in d.plan.bookmarks (get_or d.texts k x).key.id ≡ Some (get_or d.texts k x).key
    in_at =
        bookmark_row (get_or d.texts k x).key.id
        ∙ ap (option_map (λ (r : TextRow). r.key))
        (row_there (by_key bookmark_rank) (get_or d.texts k x).key.id d.texts k x held.ids_rise low refl)

    pub text_stands : text_row d (get_or d.texts k x).key.id ≡ (get_or d.texts k x).state
    text_stands = state_at-row bookmark_rank d.texts k x held.ids_rise low

  pub stands_in : (id : ℕ) (b : Bookmark) → bookmark_in d.plan.bookmarks id ≡ Some b → StandsIn d b
  stands_in id b is = by_row (text_at d id) refl (sym (bookmark_row id) ∙ is)
    where
      by_row : (o : Option TextRow) → text_at d id ≡ o → option_map (λ (r : TextRow). r.key) o ≡ Some b
          → StandsIn d b
      by_row None found named = absurd cc
      by_row (Some r) found named =
          let at = stands (by_key bookmark_rank) id d.texts r held.ids_rise found in
          let same : r.key ≡ b = cc in
          record {
            place = place_in (by_key bookmark_rank) id d.texts;
            low = at.low;
            is = λ x. ap (λ (y : TextRow). y.key) (at.is x) ∙ same;
          }
