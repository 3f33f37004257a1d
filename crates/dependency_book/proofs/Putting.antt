-- Books in which something is put in a row.
use Rattle.dependency_book.proofs.Names.{ArrivalRow, BookState, Bookmark, CanBePut, IsGiven, IsHeldBook, IsRightBook, Job, Known, List, Mark, Need, None, Option, Plan, PutsRow, RowState, Some, Step, Value, View, World, ap, arith, arrival}
use Rattle.dependency_book.proofs.Names.{arrival_row, bookmark_in, bookmark_mark, bookmark_rank, can_change, core_of, either_way, false, has_mark, holds, if◌then◌else◌, is_mark, is_need, is_start, job_of, keys, map, mark_at, mark_near}
use Rattle.dependency_book.proofs.Names.{mark_rank, missing, nat_tests, pattern, place_in, places_of, put, rank_test, refl, row_of, state_at, state_map, step_to, subst, sym, text, text_row, text_wanted, true, ℕ, ◌^◌, ◌∙◌, ◌≡◌, ◌≤◌}
use Rattle.dependency_book.proofs.Outs.{held_by}
use Rattle.dependency_book.proofs.Standing.{has, keys-put, state_at-put_same, state_at-put_other, place_in-keys, count-put}
use Rattle.desk_events.specs.Right.{IsRight as IsRightCore, Stands}
use Rattle.dependency_book.proofs.Shared.Cores.{put_core, put_there}

-- a book in which something is put is right

pub put_right : (d e : BookState) (need : Need) (s : RowState Value) → IsRightBook d → CanBePut d need s
    → PutsRow need s d e
    → IsRightBook e
put_right d e need s right can puts =
    let plan = puts.book.document.plan in
    record {
      core = subst IsRightCore (sym (put_core d e need s puts)) can.right;
      marks = rw (plan, puts.book.document.marks) right.marks;
      bookmarks = puts.book.document.bookmarks ∙ right.bookmarks ∙ ap (λ (p : Plan). p.bookmarks) (sym plan);
      out = λ other job out.
          let is = sym (ap job_of (puts.rows other)) ∙ out in
          still job (either_way (is_need need other) (λ hit. rw (rw hit at is) at can.out)
          (λ miss. right.out other job (rw miss at is)));
    }
  where
    still : (job : Job) → IsGiven d job → IsGiven e job
    still job h = record {
      own = rw puts.book.document.table h.own;
      issued = rw puts.book.indices h.issued;
      entry = rw puts.book.entries h.entry;
    }

-- what is put among the rows

missing-map : {V W : Type 0} (f : V → W) (s : RowState V) → missing (state_map f s) ≡ missing s
missing-map f s = grind arith

-- a book with this in the row of a mark
abbrev pub with_arrival : BookState → Mark → RowState World → BookState
with_arrival d m s = record d { arrivals = put mark_rank (mark_rank m) s d.arrivals }

-- and in that of a bookmark
abbrev pub with_text : BookState → ℕ → RowState (List ℕ) → BookState
with_text d id s = record d { texts = put bookmark_rank id s d.texts }

-- a mark has a row, and is near, where it may change
record HasRow (d : BookState) (m : Mark) : Type 0 where
  off : is_start m ≡ false
  there : has mark_rank (mark_rank m) (keys d.arrivals) ≡ true
  near : m.generation ≤ 2 ^ 60

has_row : (d : BookState) (m : Mark) → IsRightBook d → can_change d.plan (step_to m) ≡ true → HasRow d m
has_row d m right can =
    let off : is_start m ≡ false = grind (arith, can) in
    let there : is_mark d.plan m ≡ true = grind (arith, can) in
    record {
      off = off;
      there = has_mark m (keys d.arrivals) right.marks.near ∙ right.marks.are m off ∙ there;
      near = mark_near d.plan m right.core.sound there;
    }

pub arrival_puts : (d : BookState) (m : Mark) (s : RowState World) → IsRightBook d
    → can_change d.plan (step_to m) ≡ true
    → PutsRow (step_to m) (state_map pattern s) d (with_arrival d m s)
arrival_puts d m s right can =
    let h = has_row d m right can in
    record {
      book = assumption (keys-put mark_rank (mark_rank m) s d.arrivals);
      rows = λ other. arrival_rows h other;
      wanting =
          let count = count-put mark_rank (mark_rank m) s d.arrivals h.there in
          let was : missing (row_of d (step_to m)) ≡ missing (state_at mark_rank (mark_rank m) d.arrivals) =
          missing-map pattern (arrival_row d m) ∙ rw h.off refl in
          let is = missing-map pattern s in
          omega (arith, count, was, is);
      remembered = record { facts = refl; missed = refl };
    }
  where
    arrival_rows : HasRow d m → (other : Need) → row_of (with_arrival d m s) other ≡
        (if is_need (step_to m) other then state_map pattern s else row_of d other)
    arrival_rows h (View id) = refl
    arrival_rows h (Step b g) =
        let n = mark_at b g in
        let same = state_at-put_same mark_rank (mark_rank m) s d.arrivals h.there in
        let other = state_at-put_other mark_rank (mark_rank m) (mark_rank n) s d.arrivals in
        grind (arith, nat_tests, rank_test m n h.near, same, other, h.off)

pub text_puts : (d : BookState) (id : ℕ) (s : RowState (List ℕ)) → keys d.texts ≡ d.plan.bookmarks
    → can_change d.plan (View id) ≡ true → PutsRow (View id) (state_map text s) d (with_text d id s)
text_puts d id s bookmarks can =
    let there : has bookmark_rank id (keys d.texts) ≡ true = ap (has bookmark_rank id) bookmarks ∙ can in
    record {
      book = assumption (keys-put bookmark_rank id s d.texts);
      rows = text_rows there;
      wanting =
          let count = count-put bookmark_rank id s d.texts there in
          let was = missing-map text (text_row d id) in
          let is = missing-map text s in
          omega (arith, count, was, is);
      remembered = record { facts = refl; missed = refl };
    }
  where
    text_rows : has bookmark_rank id (keys d.texts) ≡ true → (other : Need)
        → row_of (with_text d id s) other
        ≡ (if is_need (View id) other then state_map text s else row_of d other)
    text_rows there (Step b n) = refl
    text_rows there (View n) =
        let same = state_at-put_same bookmark_rank id s d.texts there in
        let other = state_at-put_other bookmark_rank id n s d.texts in
        grind (arith, nat_tests, same, other)

-- the book is held as before

same_places : (xs ys : List ArrivalRow) (bs : List Bookmark) → keys xs ≡ keys ys
    → places_of xs bs ≡ places_of ys bs
same_places xs ys bs same =
    ap (λ (f : Bookmark → ℕ). map f bs)
    (λ i b. (place_in-keys mark_rank (mark_rank (bookmark_mark b)) xs
    ∙ ap (place_in mark_rank (mark_rank (bookmark_mark b))) same
    ∙ sym (place_in-keys mark_rank (mark_rank (bookmark_mark b)) ys)) i)

module _ {d : BookState} {places : List ℕ} (held : IsHeldBook d places) where
  pub arrival_held : (m : Mark) (s : RowState World) → CanBePut d (step_to m) (state_map pattern s)
      → IsHeldBook (with_arrival d m s) places
  arrival_held m s can =
      let puts = arrival_puts d m s held.right can.there in
      held_by (with_arrival d m s) places
      (held.places
      ∙ same_places d.arrivals (put mark_rank (mark_rank m) s d.arrivals) d.plan.bookmarks
      (sym puts.book.document.marks))
      (put_right d (with_arrival d m s) (step_to m) (state_map pattern s) held.right can puts)

  pub text_held : (id : ℕ) (s : RowState (List ℕ)) → CanBePut d (View id) (state_map text s)
      → IsHeldBook (with_text d id s) places
  text_held id s can =
      held_by (with_text d id s) places held.places
      (put_right d (with_text d id s) (View id) (state_map text s) held.right can
      (text_puts d id s held.right.bookmarks can.there))

-- what may be put for a view is no pattern, and for a step no text

pub view_no_pattern : (d : BookState) (id : ℕ) (w : World) → CanBePut d (View id) (Known (pattern w)) → ⊥
view_no_pattern d id w can =
    let c = core_of d in
    by_bookmark (bookmark_in d.plan.bookmarks id)
    (subst (Stands d.entries d.plan (View id)) (put_there (View id) (holds (pattern w)) c)
    (can.right.stands (View id)))
  where
    by_bookmark : (o : Option Bookmark) → text_wanted d.plan o ≡ Some (pattern w) → ⊥
    by_bookmark None h = cc
    by_bookmark (Some b) h = cc

pub step_no_text : (d : BookState) (branch mark : ℕ) (bytes : List ℕ)
    → CanBePut d (Step branch mark) (Known (text bytes)) → ⊥
step_no_text d branch mark bytes can =
    let need = Step branch mark in
    let bad : Some (pattern (arrival d.plan branch mark)) ≡ Some (text bytes) =
    subst (Stands d.entries d.plan need) (put_there need (holds (text bytes)) (core_of d))
    (can.right.stands need) in
    cc
