-- Jobs that rows expect, and what their answers give.
use Rattle.dependency_book.proofs.Names.{All-push, Answer, AreGiven, BookState, Bookmark, Bool, Calls, CanBePut, CanIssue, Cursor, Empty, Entry}
use Rattle.dependency_book.proofs.Names.{Err, Expected, Fact, IfOk, IfSome, IsCancel, IsCollect, IsEntryFrom, IsFilled, IsGiven, IsIssue}
use Rattle.dependency_book.proofs.Names.{IsKeptBook, IsNext, IsNextJob, IsOf, IsRightAnswer, IsRightBook, IsTrueAnswer, Job, JobResult, List, Mark, Need, None, NotExpected, Ok, Option, Place, Plan, PutsRow, Result, RowState, Some, Step}
use Rattle.dependency_book.proofs.Names.{StepExpects, TakesAnswer, Value, View, [], after_event, answer_said, answered, ap, arith, awaits, bookmark_id, bookmark_in, bookmark_rank, can_change, cancelled, cancels, clash, collects, core_of}
use Rattle.dependency_book.proofs.Names.{either_way, entry_of, eq_false, eq_true, expected, false, filled_by, fun_ext, get_last, get_left, given_by, has_id, has_mark, has_number, if◌then◌else◌, index_of, inl, inr, is_job, is_mark, is_need}
use Rattle.dependency_book.proofs.Names.{is_start, job_of, keys, length, mark_at, mark_rank, missing, nat_tests, need_is, need_same, nothing, plain_row, refl, row_of, said, said_at, slice_get, state_map, step_to, steps, subst, sym, text}
use Rattle.dependency_book.proofs.Names.{text_wanted, true, value, value_in, ℕ, ◌++◌, ◌∙◌, ◌∷◌, ◌≡◌, ◌⊎◌}
use Rattle.step_engine.specs.declared.evolved.EvolveFault.{EvolveFault}
use Rattle.revision_jobs.specs.declared.entry.Entry.TheVariants as entry
use Rattle.revision_jobs.specs.Room.{HasNoRoom}
use Rattle.desk_events.specs.Core.{put}
use Rattle.desk_events.specs.Entry.{value as core_value}
use Rattle.desk_events.specs.Event.{answered as core_answered, cancelled as core_cancelled}
use Rattle.desk_events.specs.Right.{IsRight as IsRightCore}
use Rattle.desk_events.proofs.Shared.Right as core
use Rattle.dependency_book.proofs.Outs.{held_by, numbered}
use Rattle.dependency_book.proofs.Standing.{has, state_at-above}
use Rattle.dependency_book.proofs.Shared.Cores.{arrives_same, core as desk, expected_state, expected_wants, once, put_core}
use Rattle.dependency_book.proofs.Shared.Recalling.{same_book}

-- a row that expects a job

pub may_change : (p : Plan) (m : Mark) → is_start m ≡ false → is_mark p m ≡ true
    → can_change p (step_to m) ≡ true
may_change p m off there = grind (arith, off, there)

-- the row may change
expected_row : (d : BookState) (need : Need) (job : Job) → IsRightBook d → expected d need ≡ Some job
    → can_change d.plan need ≡ true
expected_row d (View id) job right some =
    let none = state_at-above bookmark_rank id d.texts in
    let same : has bookmark_rank id (keys d.texts) ≡ can_change d.plan (View id) =
    ap (has bookmark_rank id) right.bookmarks in
    grind (arith, none, same, some)
expected_row d (Step b g) job right some =
    let m = mark_at b g in
    let none = state_at-above mark_rank (mark_rank m) d.arrivals in
    grind (arith, none, has_mark m (keys d.arrivals) right.marks.near, right.marks.are m, some)

-- a job for what is needed next

in_has : (bs : List Bookmark) (id : ℕ) (b : Bookmark) → bookmark_in bs id ≡ Some b
    → has_id bookmark_id bs id ≡ true
in_has [] id b is = absurd cc
in_has (c ∷ bs) id b is = grind (arith, nat_tests, in_has bs id b)

next_row : (d : BookState) (need : Need) → IsNext d (Some need)
    → (can_change d.plan need ≡ true) × (row_of d need ≡ Empty)
next_row d (Step b m) next = (
  may_change d.plan (mark_at b m) next.step.can.led.above next.step.can.led.is,
  rw next.step.can.empty
      refl,
)
next_row d (View id) next =
    let b = next.bookmark in
    let can = next.can in (
      rw next.named at (in_has d.plan.bookmarks b.id b can.there),
      ap (state_map text)
          (rw next.named at can.empty),
    )

-- its number is given, and then it may be expected

-- the book in which a number was given for the entry at a place
abbrev pub more : BookState → Place → BookState
more d place = record d {
  entries = d.entries ++ said_at place ∷ [];
  indices = d.indices ++ index_of place ∷ [];
}

module _ {d : BookState} {need : Need} {job : Job} (next : IsNextJob d need job) where
  can_issue : CanIssue (core_of d) need (said_at job.place)
  can_issue = record {
    empty = ap plain_row (next_row d need next.next).1;
    own = subst (λ arrives. IsEntryFrom d.plan arrives need (said_at job.place)) (arrives_same d) next.entry;
    few = (let number = next.number in let few = next.few in omega (arith, number, few));
  }

  given_more : (other : Job) → IsGiven d other → IsGiven (more d job.place) other
  given_more other h = record {
    own = h.own;
    issued = get_left d.indices (index_of job.place ∷ []) other.number (index_of other.place) h.issued;
    entry = get_left d.entries (said_at job.place ∷ []) other.number (said_at other.place) h.entry;
  }

  more_right : IsRightBook d → IsRightBook (more d job.place)
  more_right right = record {
    core = core.more_right (core_of d) (said_at job.place) right.core can_issue.few;
    marks = right.marks;
    bookmarks = right.bookmarks;
    out = λ other out is. given_more out (right.out other out is);
  }

  pub kept_more : {places : List ℕ} {cursor : Cursor} {issued : List Place} {facts : List Fact}
      → IsKeptBook d places cursor issued facts → IsKeptBook (more d job.place) places cursor
      (issued ++ job.place ∷ []) facts
  kept_more {places} {cursor} {issued} kept =
      let held = kept.held in
      record {
        held = held_by (more d job.place) places held.places (more_right held.right);
        passed = assumption kept.passed;
        own = All-push (IsOf d.table) issued job.place kept.own next.own;
        facts = λ s there.
            let h = kept.facts s there in
            let still = get_left d.entries (said_at job.place ∷ []) h.number (steps h.step) h.there in
            record { number = h.number; step = h.step; there = still; same = h.same };
      }

  pub may_await : length d.indices ≡ length d.entries → IsRightBook d
      → CanBePut (more d job.place) need (Expected job)
  may_await each right = record {
    there = (next_row d need next.next).0;
    right = subst (λ n. IsRightCore (put need (awaits n) (core_of (more d job.place)))) (sym next.number)
        (core.issues_right (core_of d) need (said_at job.place) right.core can_issue);
    out = record {
      own = next.own;
      issued = ap (slice_get (d.indices ++ index_of job.place ∷ [])) (next.number ∙ sym each)
          ∙ get_last d.indices (index_of job.place);
      entry = ap (slice_get (d.entries ++ said_at job.place ∷ [])) next.number
          ∙ get_last d.entries (said_at job.place);
    };
  }

  -- so the job is issued
  pub issue_is : (e : BookState) → PutsRow need (Expected job) (more d job.place) e → IsIssue need job d e
  issue_is e puts =
      record {
        rows = puts.rows;
        document = assumption puts.book.document;
        entries = puts.book.entries;
        indices = puts.book.indices;
        refused = puts.book.refused;
        fewer = (let none = ap missing (next_row d need next.next).1 in let count = puts.wanting in
            omega (arith, none, count));
        event = record {
          can = can_issue;
          true_one = tt;
          follows = record {
            entered = [];
            recalls = put_core (more d job.place) e need (Expected job) puts
                ∙ ap (λ n. put need (awaits n) (core_of (more d job.place))) next.number;
          };
        };
      }

-- the book in which more was refused, or other steps are remembered

abbrev noted : BookState → ℕ → List Fact → ℕ → BookState
noted d refused facts missed = record d { refused = refused; facts = facts; missed = missed }

pub right_noted : (d : BookState) (refused : ℕ) (facts : List Fact) (missed : ℕ) → IsRightBook d
    → IsRightBook (noted d refused facts missed)
right_noted d refused facts missed right = record {
  core = right.core;
  marks = right.marks;
  bookmarks = right.bookmarks;
  out = λ other out is. assumption (right.out other out is);
}

pub kept_noted : {d : BookState} {places : List ℕ} {cursor : Cursor} {issued : List Place}
    {facts : List Fact} (refused : ℕ) (later : List Fact) (missed : ℕ)
    → AreGiven d.entries later → IsKeptBook d places cursor issued facts
    → IsKeptBook (noted d refused later missed) places cursor issued later
kept_noted {d} {places} refused later missed given kept =
    let held = kept.held in
    record {
      held = held_by (noted d refused later missed) places held.places
          (right_noted d refused later missed held.right);
      passed = assumption kept.passed;
      own = kept.own;
      facts = given;
    }

-- what stands in a row where the job of a number is out, at a place, for the row of one need: that job in
-- this row, and none of the number in others
abbrev OutIf : Bool → ℕ → Place → RowState Value → Type 0
OutIf here n place s =
    ((here ≡ true) × (s ≡ Expected (record { number = n; place = place })))
    ⊎ ((here ≡ false) × (has_number n (job_of s) ≡ false))

-- what an answer with this outcome says
abbrev said_of : Job → Result Value EvolveFault → Answer
said_of job outcome = record { number = job.number; value = value_in outcome }

-- what an answer and a cancelling make of such a row

answered_if : (answer : JobResult) (here : Bool) (place : Place) (s : RowState Value)
    → index_of place ≡ index_of answer.job.place → OutIf here answer.job.number place s
    → (if here then given_by answer.outcome else s) ≡ answered answer s
answered_if answer here place s same out = grind (arith, nat_tests, out, same)

cancelled_if : (n : ℕ) (here : Bool) (place : Place) (s : RowState Value) → OutIf here n place s
    → (if here then Empty else s) ≡ cancelled n s
cancelled_if n here place s out = grind (arith, nat_tests, out)

core_answered_if : (job : Job) (outcome : Result Value EvolveFault) (here : Bool) (place : Place)
    (s : RowState Value)
    → OutIf here job.number place s
    → core_answered (said_of job outcome) (plain_row s)
    ≡ (if here then plain_row (given_by outcome) else plain_row s)
core_answered_if job outcome here place s out = grind (arith, nat_tests, out)

core_cancelled_if : (n : ℕ) (here : Bool) (place : Place) (s : RowState Value) → OutIf here n place s
    → core_cancelled n (plain_row s) ≡ (if here then nothing else plain_row s)
core_cancelled_if n here place s out = grind (arith, nat_tests, out)

elsewhere_if : (job : Job) (here : Bool) (place : Place) (s : RowState Value) → OutIf here job.number place s
    → (index_of place ≡ index_of job.place → ⊥) → is_job job (job_of s) ≡ false
elsewhere_if job here place s out apart = grind (arith, nat_tests, out, apart)

module _ {d : BookState} (need : Need) {n : ℕ} {place : Place} (right : IsRightBook d)
    (out : expected d need ≡ numbered n place) where
  one_out : (other : Need) → OutIf (is_need need other) n place (row_of d other)
  one_out other =
      either_way (is_need need other)
      (λ hit. inl (hit, expected_state d other one (ap (expected d) (sym (need_is need other hit)) ∙ out)))
      (λ miss. inr (miss, by_job (expected d other) refl miss))
    where
      one : Job
      one = record { number = n; place = place }

      by_job : (o : Option Job) → expected d other ≡ o → is_need need other ≡ false → has_number n o ≡ false
      by_job None is miss = refl
      by_job (Some j) is miss =
          eq_false j.number n
          (λ same. clash (is_need need other)
          (subst (λ k. is_need need k ≡ true) (once d need other one j right out is (sym same))
          (need_same need)) miss)

  cancelled_put : after_event (core_of d) (cancels n) ≡ put need nothing (core_of d)
  cancelled_put =
      ap (desk d.plan d.entries)
      (fun_ext (λ other. core_cancelled_if n (is_need need other) place (row_of d other) (one_out other)))

  pub may_free : CanBePut d need Empty
  may_free = record {
    there = expected_row d need (record { number = n; place = place }) right out;
    right = subst IsRightCore cancelled_put (core.cancels_right (core_of d) n right.core);
    out = tt;
  }

  -- so the job is cancelled
  pub cancel_is : (e : BookState) → PutsRow need Empty d e → IsCancel n d e
  cancel_is e puts = record {
    can = tt;
    true_one = tt;
    follows = record { entered = []; recalls = put_core d e need Empty puts ∙ sym cancelled_put };
  }

  pub put_cancels : (e : BookState) → PutsRow need Empty d e → (other : Need)
      → row_of e other ≡ cancelled n (row_of d other)
  put_cancels e puts other =
      puts.rows other ∙ cancelled_if n (is_need need other) place (row_of d other) (one_out other)

-- no row expects a job where none has its number, or the one that has is at another place

pub none_numbered : (d : BookState) (job : Job)
    → ((need : Need) → has_number job.number (expected d need) ≡ false)
    → (need : Need) → is_job job (expected d need) ≡ false
none_numbered d job none need = other_job (expected d need) (none need)
  where
    other_job : (o : Option Job) → has_number job.number o ≡ false → is_job job o ≡ false
    other_job o h = grind arith

pub elsewhere : {d : BookState} (need : Need) {place : Place} (job : Job) → IsRightBook d
    → expected d need ≡ numbered job.number place → (index_of place ≡ index_of job.place → ⊥) → (other : Need)
    → is_job job (expected d other) ≡ false
elsewhere {d} need {place} job right out apart other =
    elsewhere_if job (is_need need other) place (row_of d other) (one_out need right out other) apart

-- then nothing changes
pub none_takes : (d : BookState) {answer : JobResult}
    → ((need : Need) → is_job answer.job (expected d need) ≡ false)
    → TakesAnswer answer d d NotExpected
none_takes d none = record {
  filled = (none, refl);
  rows = λ need. let off = none need in sym (rw off refl);
  book = same_book d;
  remembered = record { facts = refl; missed = refl };
  event = refl;
}

-- answers

value_said : (e : Entry) → value e ≡ core_value (said e)
value_said (entry.Step s) = refl
value_said (entry.View r) = refl

-- a row of a book that is right expects the job of an answer, whose entry it was given for
pub record IsAwaited (d : BookState) (need : Need) (place : Place) (answer : JobResult) : Type 0 where
  pub right : IsRightBook d
  pub out : expected d need ≡ numbered answer.job.number place
  pub index : index_of place ≡ index_of answer.job.place
  pub entry : entry_of place ≡ entry_of answer.job.place
  pub says : IsRightAnswer answer.job answer.limit answer.outcome

-- a job that found no room is a step's
step_expects : (d : BookState) (need : Need) (place : Place) (answer : JobResult)
    → IsAwaited d need place answer
    → HasNoRoom answer.limit (entry_of answer.job.place) → is_job answer.job (expected d need) ≡ true
    → StepExpects d answer
step_expects d (Step b g) place answer h spent is =
    let m = mark_at b g in
    let can = expected_row d (Step b g) (record { number = answer.job.number; place = place }) h.right
    h.out in
    record { mark = m; above = grind (arith, can); noted = grind (arith, can); row = is; spent = spent }
step_expects d (View id) place answer h spent is =
    absurd (not_text (entry_of answer.job.place) (bookmark_in d.plan.bookmarks id) answer.limit spent
    (expected_wants d (View id) (record { number = answer.job.number; place = place }) h.right h.out
    ∙ ap (λ e. Some (core_value (said e))) h.entry))
  where
    not_text : (e : Entry) (o : Option Bookmark) (limit : ℕ) → HasNoRoom limit e
        → text_wanted d.plan o ≡ Some (core_value (said e)) → ⊥
    not_text (entry.Step s) None limit is h = cc
    not_text (entry.Step s) (Some b) limit is h = cc
    not_text (entry.View r) o limit is h = is

module _ {d : BookState} {need : Need} {place : Place} {answer : JobResult}
    (h : IsAwaited d need place answer) where
  -- it is the value of the entry of its number
  answer_true : IsTrueAnswer d.entries (answer_said answer)
  answer_true = by_outcome answer.outcome h.says.value_is
    where
      by_outcome : (o : Result Value EvolveFault) → IfOk o
          (λ found. found ≡ value (entry_of answer.job.place))
          → IsTrueAnswer d.entries (said_of answer.job o)
      by_outcome (Err fault) is = tt
      by_outcome (Ok v) is = record {
        entry = said_at place;
        there = (h.right.out need (record { number = answer.job.number; place = place }) h.out).entry;
        is = is ∙ value_said (entry_of answer.job.place) ∙ ap (λ e. core_value (said e)) (sym h.entry);
      }

  collected_put : after_event (core_of d) (collects (answer_said answer))
      ≡ put need (plain_row (given_by answer.outcome)) (core_of d)
  collected_put =
      ap (desk d.plan d.entries)
      (fun_ext (λ other. core_answered_if answer.job answer.outcome (is_need need other) place
      (row_of d other)
      (one_out need h.right h.out other)))

  -- what the answer gives may stand in the row
  pub may_stand : CanBePut d need (given_by answer.outcome)
  may_stand = record {
    there = expected_row d need (record { number = answer.job.number; place = place }) h.right h.out;
    right = subst IsRightCore collected_put
        (core.collects_right (core_of d) (answer_said answer) h.right.core answer_true);
    out = none_given answer.outcome;
  }
    where
      none_given : (o : Result Value EvolveFault) → IfSome (job_of (given_by o)) (IsGiven d)
      none_given (Ok v) = tt
      none_given (Err fault) = tt

  -- and then the answer was taken
  pub answer_takes : (e : BookState) → PutsRow need (given_by answer.outcome) d e
      → TakesAnswer answer d e (filled_by answer.outcome)
  answer_takes e puts = record {
    filled = by_outcome answer.outcome refl;
    rows = λ other. puts.rows other
        ∙ answered_if answer (is_need need other) place (row_of d other) h.index
        (one_out need h.right h.out other);
    book = puts.book;
    remembered = puts.remembered;
    event = collects_by answer.outcome;
  }
    where
      here : is_job answer.job (expected d need) ≡ true
      here = rw h.out (rw (
        eq_true answer.job.number answer.job.number refl,
        eq_true (index_of place) (index_of answer.job.place) h.index,
      ) refl)

      call : Calls (collects (answer_said answer)) (core_of d) (core_of e)
      call = record {
        can = tt;
        true_one = answer_true;
        follows = record {
          entered = [];
          recalls = put_core d e need (given_by answer.outcome) puts ∙ sym collected_put;
        };
      }

      collects_by : (o : Result Value EvolveFault) → IsCollect answer d e (filled_by o)
      collects_by (Ok v) = call
      collects_by (Err fault) = call

      by_outcome : (o : Result Value EvolveFault) → answer.outcome ≡ o → IsFilled d e answer (filled_by o)
      by_outcome (Ok v) is =
          let none = ap missing
          (expected_state d need (record { number = answer.job.number; place = place }) h.out) in
          let given : missing (given_by answer.outcome) ≡ 0 = rw is refl in
          let count = puts.wanting in
          ((need, here), rw is refl, omega (arith, none, count, given))
      by_outcome (Err fault) is = (
        (need, here),
        is,
        λ room. step_expects d need place answer h (h.says.room (is ∙ ap (λ f. Err f) room)) here,
      )
