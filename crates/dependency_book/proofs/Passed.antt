-- Rows before a cursor, which needn't be looked at again.
use Rattle.dependency_book.proofs.Names.{ArrivalRow, BookState, Bool, Branch, CanBePut, Cursor, Empty, Expected, Fact, HasPassed, IsKeptBook, Job, Known, List, Mark, NoneBefore, Place, Row, RowState, TextRow, View, World, [], ap₂, arith}
use Rattle.dependency_book.proofs.Names.{before_in, before_row, bookmark_rank, branch_id, either_way, element_at, false, get_or, if◌then◌else◌, inr, is_empty, is_known, is_ready, is_some, job_of, mark_rank, nat_tests, not, option_map_or}
use Rattle.dependency_book.proofs.Names.{pattern, put, refl, row_before, slice_get, slice_index, start, state_at, state_map, step_to, steppable, suc, text, viewable, zero, ℕ, ◌∷◌, ◌≡◌, ◌⊎◌}
use Rattle.dependency_book.proofs.Putting.{arrival_held, text_held, with_arrival, with_text}

-- what is put stands in a row, or the row is as it was
put_each : {K V : Type 0} (rank : K → ℕ) (n : ℕ) (s : RowState V) (rows : List (Row K V)) (k : ℕ)
    (x : Row K V)
    → ((get_or (put rank n s rows) k x).state ≡ s) ⊎ (get_or (put rank n s rows) k x ≡ get_or rows k x)
put_each rank n s [] k x = inr refl
put_each rank n s (r ∷ rs) zero x = grind (arith, nat_tests)
put_each rank n s (r ∷ rs) (suc k) x = grind (arith, nat_tests, put_each rank n s rs k x)

-- each row keeps its key
put_key : {K V : Type 0} (rank : K → ℕ) (n : ℕ) (s : RowState V) (rows : List (Row K V)) (k : ℕ) (x : Row K V)
    → (get_or (put rank n s rows) k x).key ≡ (get_or rows k x).key
put_key rank n s [] k x = refl
put_key rank n s (r ∷ rs) zero x = grind (arith, nat_tests)
put_key rank n s (r ∷ rs) (suc k) x = grind (arith, nat_tests, put_key rank n s rs k x)

-- a text for which something stands now can't be viewed
views_filled : (arrivals : List ArrivalRow) (texts : List TextRow) (places : List ℕ) (n m : ℕ)
    (s : RowState (List ℕ))
    → is_empty s ≡ false → NoneBefore (viewable arrivals texts places) m
    → NoneBefore (viewable arrivals (put bookmark_rank n s texts) places) m
views_filled arrivals texts places n m s full none = λ k x low.
    grind (arith, put_each bookmark_rank n s texts k x, full, none k x low)

-- a job that is out for a mark makes no text ready, and no mark

-- whether the row at a place is known
abbrev known_at : List ArrivalRow → ℕ → Bool
known_at rows p = option_map_or (λ (r : ArrivalRow). is_known r.state) (slice_get rows p) false

module _ (n : ℕ) (job : Job) where
  unknown_at : (rows : List ArrivalRow) (p : ℕ) → known_at rows p ≡ false
      → known_at (put mark_rank n (Expected job) rows) p ≡ false
  unknown_at [] p h = h
  unknown_at (r ∷ rs) zero h = grind (arith, nat_tests)
  unknown_at (r ∷ rs) (suc p) h = grind (arith, nat_tests, unknown_at rs p)

  views_out : (arrivals : List ArrivalRow) (texts : List TextRow) (places : List ℕ) (m : ℕ)
      → NoneBefore (viewable arrivals texts places) m
      → NoneBefore (viewable (put mark_rank n (Expected job) arrivals) texts places) m
  views_out arrivals texts places m none = λ k x low.
      grind (arith, none k x low, unknown_at arrivals (slice_index places k))

  -- whether what stands at a rank is known
  unknown_for : (rank : ℕ) (rows : List ArrivalRow) → is_known (state_at mark_rank rank rows) ≡ false
      → is_known (state_at mark_rank rank (put mark_rank n (Expected job) rows)) ≡ false
  unknown_for rank [] h = h
  unknown_for rank (r ∷ rs) h = grind (arith, nat_tests, unknown_for rank rs)

  unready : (rows : List ArrivalRow) (m : Mark) → is_ready rows m ≡ false
      → is_ready (put mark_rank n (Expected job) rows) m ≡ false
  unready rows m h = grind (arith, unknown_for (mark_rank m) rows)

  -- the mark before a row depends on the keys alone
  row_before-put : (rows : List ArrivalRow) (k : ℕ) (x : ArrivalRow)
      → row_before (put mark_rank n (Expected job) rows) k x ≡ row_before rows k x
  row_before-put rows zero x = refl
  row_before-put rows (suc k) x = put_key mark_rank n (Expected job) rows k x

  before_row-put : (branches : List Branch) (rows : List ArrivalRow) (k : ℕ) (x : ArrivalRow)
      → before_row branches (put mark_rank n (Expected job) rows) k x ≡ before_row branches rows k x
  before_row-put branches rows k x =
      ap₂ (λ (m other : Mark). before_in (element_at branch_id branches m.branch) m other)
      (put_key mark_rank n (Expected job) rows k x) (row_before-put rows k x)

  steps_out : (branches : List Branch) (rows : List ArrivalRow) (m : ℕ)
      → NoneBefore (steppable branches rows) m
      → NoneBefore (steppable branches (put mark_rank n (Expected job) rows)) m
  steps_out branches rows m none = λ k x low.
      let same = before_row-put branches rows k x in
      let still = unready rows (before_row branches rows k x) in
      grind (arith, put_each mark_rank n (Expected job) rows k x, same, still, none k x low)

-- a cursor that is kept, or begins anew

pub passed_none : (d : BookState) (places : List ℕ) → HasPassed d places start
passed_none d places =
    record { views = λ k x low. absurd (omega (arith, low)); steps = λ k x low. absurd (omega (arith, low)) }

module _ {d : BookState} {places : List ℕ} {cursor : Cursor} {issued : List Place} {facts : List Fact}
    (kept : IsKeptBook d places cursor issued facts) where
  pub kept_arrival : (m : Mark) (s : RowState World) → CanBePut d (step_to m) (state_map pattern s)
      → IsKeptBook (with_arrival d m s) places (if is_some (job_of s) then cursor else start) issued facts
  kept_arrival m s can = record {
    held = arrival_held kept.held m s can;
    passed = passed s;
    own = kept.own;
    facts = kept.facts;
  }
    where
      passed : (s : RowState World) → HasPassed (with_arrival d m s) places
          (if is_some (job_of s) then cursor else start)
      passed Empty = passed_none (with_arrival d m Empty) places
      passed (Expected job) = record {
        views = views_out (mark_rank m) job d.arrivals d.texts places cursor.views kept.passed.views;
        steps = steps_out (mark_rank m) job d.plan.branches d.arrivals cursor.steps kept.passed.steps;
      }
      passed (Known v) = passed_none (with_arrival d m (Known v)) places

  pub kept_text : (id : ℕ) (s : RowState (List ℕ)) → CanBePut d (View id) (state_map text s)
      → IsKeptBook (with_text d id s) places (if not (is_empty s) then cursor else start) issued facts
  kept_text id s can =
      let e = with_text d id s in
      record {
        held = text_held kept.held id s can;
        passed =
            either_way (is_empty s) (λ hit. rw hit (passed_none e places))
            (λ full. rw full (record {
              views = views_filled d.arrivals d.texts places id cursor.views s full kept.passed.views;
              steps = kept.passed.steps;
            }));
        own = kept.own;
        facts = kept.facts;
      }
