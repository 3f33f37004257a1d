-- Rows that expect jobs.
use Rattle.dependency_book.proofs.Names.{AllByRecursion, ArrivalRow, BookState, Bookmark, Empty, Entries, IdsRise, IfSome, IsAnyOut, IsFirstOut, IsHeldBook, IsOf, IsRightBook, IsSome, Job, List, Mark, Need, None, Option, Place, Row}
use Rattle.dependency_book.proofs.Names.{RowState, Some, Step, TextRow, View, [], any_out, ap, arith, arrival_row, bookmark_id, bookmark_rank, either, either_way, eq_true, expected, false, get_or, has_number, inl, inr, is_some, is_start}
use Rattle.dependency_book.proofs.Names.{job_of, least_out, length, lesser, mark_at, mark_rank, min, named_by, nat_tests, pattern, places_of, refl, row_for, state_at, state_map, step_to, subst, suc, sym, text, text_row, true, ℕ, ◌<◌, ◌||◌}
use Rattle.dependency_book.proofs.Names.{◌∙◌, ◌∷◌, ◌≡◌, ◌≤◌, ◌⊎◌}
use Rattle.dependency_book.proofs.Standing.{all_at, ranked_by}
use Rattle.dependency_book.proofs.Placed.{mark_of, row_stands, text_stands}

pub job_of-map : {V W : Type 0} (f : V → W) (s : RowState V) → job_of (state_map f s) ≡ job_of s
job_of-map f s = grind arith

-- the job in the row of a mark besides the start, and no job at the start
pub out_at : (d : BookState) (m : Mark) → is_start m ≡ false
    → expected d (step_to m) ≡ job_of (state_at mark_rank (mark_rank m) d.arrivals)
out_at d m miss = job_of-map pattern (arrival_row d m) ∙ rw miss refl

pub none_at : (d : BookState) (m : Mark) → is_start m ≡ true → expected d (step_to m) ≡ None
none_at d m hit = job_of-map pattern (arrival_row d m) ∙ rw hit refl

pub out_for : (d : BookState) (id : ℕ) → expected d (View id) ≡ job_of (text_row d id)
out_for d id = job_of-map text (text_row d id)

-- what holds of no job, and of what stands at each rank, holds of what is expected
each_expected : (P : Option Job → Type 0) (d : BookState) → P None
    → ((n : ℕ) → P (job_of (state_at mark_rank n d.arrivals)))
    → ((n : ℕ) → P (job_of (state_at bookmark_rank n d.texts))) → (need : Need) → P (expected d need)
each_expected P d none arrivals texts (Step branch mark) =
    let m = mark_at branch mark in
    either_way (is_start m) (λ hit. subst P (sym (none_at d m hit)) none)
    (λ miss. subst P (sym (out_at d m miss)) (arrivals (mark_rank m)))
each_expected P d none arrivals texts (View id) = subst P (sym (out_for d id)) (texts id)

-- what holds of what each need expects holds of what each row does
pub record EachOut (P : Option Job → Type 0) (d : BookState) : Type 0 where
  pub arrivals : AllByRecursion (λ (r : ArrivalRow). P (job_of r.state)) d.arrivals
  pub texts : AllByRecursion (λ (r : TextRow). P (job_of r.state)) d.texts

-- a job, if there is one, has its entry in a table
abbrev pub IsOwn : Entries → Option Job → Type 0
IsOwn entries o = IfSome o (λ job. IsOf entries job.place)

module _ {d : BookState} {places : List ℕ} (held : IsHeldBook d places) where
  -- the job that a row expects

  out_in_row : (k : ℕ) (x : ArrivalRow) → k < length d.arrivals
      → expected d (step_to (mark_of d.arrivals k x)) ≡ job_of (get_or d.arrivals k x).state
  out_in_row k x low =
      job_of-map pattern (arrival_row d (mark_of d.arrivals k x)) ∙ ap job_of (row_stands held k x low)

  out_in_text : (k : ℕ) (x : TextRow) → k < length d.texts
      → expected d (View (get_or d.texts k x).key.id) ≡ job_of (get_or d.texts k x).state
  out_in_text k x low = out_for d (get_or d.texts k x).key.id ∙ ap job_of (text_stands held k x low)

  pub each_out : (P : Option Job → Type 0) → ((need : Need) → P (expected d need)) → EachOut P d
  each_out P all = record {
    arrivals = all_at (λ (r : ArrivalRow). P (job_of r.state)) d.arrivals
        (λ k x low. subst P (out_in_row k x low) (all (step_to (mark_of d.arrivals k x))));
    texts = all_at (λ (r : TextRow). P (job_of r.state)) d.texts
        (λ k x low. subst P (out_in_text k x low) (all (View (get_or d.texts k x).key.id)));
  }

  -- each job that is out has its entry in the book's table
  pub all_own : EachOut (IsOwn d.table) d
  all_own = each_out (IsOwn d.table) (λ need. by_job need (expected d need) refl)
    where
      by_job : (need : Need) (o : Option Job) → expected d need ≡ o → IsOwn d.table o
      by_job need None is = tt
      by_job need (Some job) is = (held.right.out need job is).own

-- the ranks of its rows rise where a book is right
pub held_by : (d : BookState) (places : List ℕ) → places ≡ places_of d.arrivals d.plan.bookmarks → IsRightBook d
    → IsHeldBook d places
held_by d places are right = record {
  places = are;
  right = right;
  marks_rise = ranked_by mark_rank d.arrivals right.marks.rise;
  ids_rise = ranked_by bookmark_rank d.texts
      (subst (IdsRise bookmark_id) (sym right.bookmarks) right.core.sound.bookmarks_rise);
}

-- the row that expects the job of a number

-- the job of a number at a place
abbrev pub numbered : ℕ → Place → Option Job
numbered n place = Some (record { number = n; place = place })

row_for-none : {K V : Type 0} (rank : K → ℕ) (n m : ℕ) (rows : List (Row K V)) → row_for n rows ≡ None
    → has_number n (job_of (state_at rank m rows)) ≡ false
row_for-none rank n m [] h = refl
row_for-none rank n m (r ∷ rs) h = grind (arith, nat_tests, row_for-none rank n m rs)

-- it is a row of that key
pub record ExpectsAt {K V : Type 0} (n : ℕ) (rows : List (Row K V)) (key : K) (place : Place) : Type 0 where
  pub at : ℕ
  pub low : at < length rows
  pub is : (x : Row K V) → (get_or rows at x).key ≡ key
  pub out : (x : Row K V) → job_of (get_or rows at x).state ≡ numbered n place

-- of a row and those behind it
named_or : {K : Type 0} (n : ℕ) (k key : K) (o : Option Job) (rest : Option (K × Place)) (place : Place)
    → either (named_by n k o) rest ≡ Some (key, place)
    → ((k ≡ key) × (o ≡ numbered n place)) ⊎ (rest ≡ Some (key, place))
named_or n k key o rest place h = grind (arith, nat_tests)

row_for-is : {K V : Type 0} (n : ℕ) (rows : List (Row K V)) (key : K) (place : Place)
    → row_for n rows ≡ Some (key, place) → ExpectsAt n rows key place
row_for-is n [] key place h = absurd cc
row_for-is n (r ∷ rs) key place h = elim (named_or n r.key key (job_of r.state) (row_for n rs) place h) [
  | inl here ↦ record { at = 0; low = omega arith; is = λ x. here.0; out = λ x. here.1 }
  | inr later ↦
      let f = row_for-is n rs key place later in
      let low = f.low in
      record { at = suc f.at; low = omega (arith, low); is = f.is; out = f.out }
]

pub expecting_none : (d : BookState) (n : ℕ) → row_for n d.arrivals ≡ None → row_for n d.texts ≡ None
    → (need : Need)
    → has_number n (expected d need) ≡ false
expecting_none d n arrivals texts =
    each_expected (λ o. has_number n o ≡ false) d refl (λ m. row_for-none mark_rank n m d.arrivals arrivals)
    (λ m. row_for-none bookmark_rank n m d.texts texts)

module _ {d : BookState} {places : List ℕ} (held : IsHeldBook d places) (n : ℕ) where
  -- its entry is one of the book's table
  expects : (need : Need) (place : Place) → expected d need ≡ numbered n place
      → (expected d need ≡ numbered n place) × IsOf d.table place
  expects need place out = (out, (held.right.out need (record { number = n; place = place }) out).own)

  pub expects_mark : (key : Mark) (place : Place) → row_for n d.arrivals ≡ Some (key, place)
      → (expected d (step_to key) ≡ numbered n place) × IsOf d.table place
  expects_mark key place is =
      let f = row_for-is n d.arrivals key place is in
      let x : ArrivalRow = record { key = key; state = Empty } in
      expects (step_to key) place (rw (f.is x) at (out_in_row held f.at x f.low) ∙ f.out x)

  pub expects_text : (key : Bookmark) (place : Place) → row_for n d.texts ≡ Some (key, place)
      → (expected d (View key.id) ≡ numbered n place) × IsOf d.table place
  expects_text key place is =
      let f = row_for-is n d.texts key place is in
      let x : TextRow = record { key = key; state = Empty } in
      expects (View key.id) place (rw (f.is x) at (out_in_text held f.at x f.low) ∙ f.out x)

-- the least number that is out

lesser_none : (a b : Option ℕ) → lesser a b ≡ None → (a ≡ None) × (b ≡ None)
lesser_none a b h = grind arith

lesser_is : (a b : Option ℕ) (n : ℕ) → lesser a b ≡ Some n → (a ≡ Some n) ⊎ (b ≡ Some n)
lesser_is a b n h = grind (arith, nat_tests)

lesser_le : (a b : Option ℕ) (n : ℕ) → IfSome (lesser a b) (λ m. n ≤ m)
    → IfSome a (λ m. n ≤ m) × IfSome b (λ m. n ≤ m)
lesser_le a b n h = grind (arith, nat_tests)

least_out-none : {K V : Type 0} (rank : K → ℕ) (m : ℕ) (rows : List (Row K V)) → least_out rows ≡ None
    → job_of (state_at rank m rows) ≡ None
least_out-none rank m [] h = refl
least_out-none rank m (r ∷ rs) h = grind (arith, nat_tests, least_out-none rank m rs)

-- each job that is out has a number at or above n, where the least is
each_above : {K V : Type 0} (rank : K → ℕ) (m : ℕ) (rows : List (Row K V)) (n : ℕ)
    → IfSome (least_out rows) (λ k. n ≤ k) → IfSome (job_of (state_at rank m rows)) (λ job. n ≤ job.number)
each_above rank m [] n h = tt
each_above rank m (r ∷ rs) n h = grind (arith, nat_tests, each_above rank m rs n)

-- a row expects the job of the least number

pub record HasPair {K : Type 0} (pair : Option (K × Place)) : Type 0 where
  pub key : K
  pub place : Place
  pub is : pair ≡ Some (key, place)

least_found : {K V : Type 0} (rows : List (Row K V)) (n : ℕ) → least_out rows ≡ Some n
    → IsSome (row_for n rows)
least_found [] n h = absurd cc
least_found (r ∷ rs) n h = grind (arith, nat_tests, least_found rs n)

least_has : {K V : Type 0} (rows : List (Row K V)) (n : ℕ) → least_out rows ≡ Some n
    → HasPair (row_for n rows)
least_has {K} rows n h = has_pair (row_for n rows) (least_found rows n h)
  where
    has_pair : (o : Option (K × Place)) → IsSome o → HasPair o
    has_pair None some = absurd cc
    has_pair (Some pair) some = record { key = pair.0; place = pair.1; is = refl }

module _ {d : BookState} {places : List ℕ} (held : IsHeldBook d places) where
  pub first_out_is : IsFirstOut d (lesser (least_out d.arrivals) (least_out d.texts))
  first_out_is = first_of (lesser (least_out d.arrivals) (least_out d.texts)) refl
    where
      first_of : (o : Option ℕ) → lesser (least_out d.arrivals) (least_out d.texts) ≡ o → IsFirstOut d o
      first_of None h =
          let none = lesser_none (least_out d.arrivals) (least_out d.texts) h in
          each_expected (λ o. o ≡ None) d refl (λ m. least_out-none mark_rank m d.arrivals none.0)
          (λ m. least_out-none bookmark_rank m d.texts none.1)
      first_of (Some n) h =
          let above = lesser_le (least_out d.arrivals) (least_out d.texts) n (rw h (omega arith)) in (
            elim (lesser_is (least_out d.arrivals) (least_out d.texts) n h) [
              | inl here ↦
                  let f = least_has d.arrivals n here in
                  (step_to f.key, rw (expects_mark held n f.key f.place f.is).0 (eq_true n n refl))
              | inr there ↦
                  let f = least_has d.texts n there in
                  (View f.key.id, rw (expects_text held n f.key f.place f.is).0 (eq_true n n refl))
            ],
            each_expected (λ o. IfSome o (λ job. n ≤ job.number)) d tt
                (λ m. each_above mark_rank m d.arrivals n above.0)
                (λ m. each_above bookmark_rank m d.texts n above.1),
          )

  -- whether a row expects a job
  pub any_out_is : IsAnyOut d (any_out d.arrivals || any_out d.texts)
  any_out_is =
      rw (some_out d.arrivals, some_out d.texts)
      (of_first (least_out d.arrivals) (least_out d.texts) first_out_is)
    where
      some_out : {K V : Type 0} (rows : List (Row K V)) → any_out rows ≡ is_some (least_out rows)
      some_out [] = refl
      some_out (r ∷ rs) = grind (arith, some_out rs)

      has_one : (n : ℕ) (o : Option Job) → has_number n o ≡ true → IsSome o
      has_one n o h = grind arith

      of_first : (a b : Option ℕ) → IsFirstOut d (lesser a b) → IsAnyOut d (is_some a || is_some b)
      of_first None None none = none
      of_first None (Some n) first = (first.0.0, has_one n (expected d first.0.0) first.0.1)
      of_first (Some m) None first = (first.0.0, has_one m (expected d first.0.0) first.0.1)
      of_first (Some m) (Some n) first = (first.0.0, has_one (min m n) (expected d first.0.0) first.0.1)
