-- The worked lists of events.
use Rattle.desk_events.proofs.Names.{AddBookmark, Asked, CanEdit, CanIssue, CellStateTooHigh, Configuration, Entry, Happening, Happens, Insert, IsReached, List, Mark, Need, None, Option, Place, RemoveIntervention, ReplaceRule, SetCells}
use Rattle.desk_events.proofs.Names.{Some, Step, View, [], all_set_below, and_right, ap, arith, blank, changed, collects, desk, echoes, edits, entries-blank, false, first_refusal, inr, is_mark, issues, list_all, map, mark_at, nat_le}
use Rattle.desk_events.proofs.Names.{nat_lt, not, opened_among, opening, refl, refusal, spent, steps, sym, unless_refused, views, ℕ, ◌&&◌, ◌<◌, ◌==◌, ◌∙◌, ◌∷◌, ◌≡◌}
use Rattle.worlds.specs.Live.{as_live, live, live-entries}
use Rattle.schedule.specs.declared.acts.Acts.TheVariants.{Once}
use Rattle.schedule.specs.Evolution.{is_felt}
use Rattle.schedule.specs.Repeats.{has_too_many_marks}
use Rattle.bookmarks.specs.declared.view.View.TheVariants.{Counts}
use Rattle.desk_events.specs.Event.{after_edit as core_after_edit}
use Rattle.desk_events.specs.Example.{AnswerOfOld, KeptAnswer, LateAnswer, after, after_edit, arrived, counted, counts, marked, origin, rule_x, taken, whole_way, worked}
use Rattle.desk_events.proofs.Shared.Called.{collected_then, reached_then, split_at, worked_then}
use Rattle.desk_events.proofs.Shared.Tests.{eq_false}

-- nothing is live in the blank world, so every rule fits it
none_live : live blank ≡ []
none_live = live-entries blank ∙ ap (map as_live) entries-blank

rule_free : refusal (opening 0) (ReplaceRule rule_x) ≡ None
rule_free =
    ap (λ (es : List (Place × ℕ)). first_refusal
    ((not (list_all (λ (e : Place × ℕ). nat_lt e.1 2) es && all_set_below 2 []), CellStateTooHigh)
    ∷ spent (opening 0))) none_live

-- what may happen where some list of happenings led leads on

pub more : (h : Happening) (c d : Configuration) → Happens h c d → IsReached 0 c → IsReached 0 d
more h c d this r = reached_then 0 c d h r this

-- an edit that isn't refused
pub edited : (c : Configuration) (asked : Asked) (felt : Option Mark) → refusal c.core.plan asked ≡ None
    → CanEdit c.core asked felt → IsReached 0 c → IsReached 0 (after_edit asked felt c)
edited c asked felt free can = more (desk (edits asked felt)) c (after_edit asked felt c) (record {
  can = can;
  core = ap (λ o. core_after_edit c.core asked felt (unless_refused o (changed c.core.plan asked))) (sym free);
  queued = refl;
  taken = refl;
  answers = refl;
})

-- a job is issued
pub issues_one : (need : Need) (entry : Entry) (c : Configuration) → CanIssue c.core need entry → IsReached 0 c
    → IsReached 0 (after (issues need entry) c)
issues_one need entry c can = more (desk (issues need entry)) c (after (issues need entry) c)
    (record { can = can; core = refl; queued = refl; taken = refl; answers = refl })

-- the rule is taken, the cell set, the bookmark added

abbrev ruled : Configuration
ruled = after_edit (ReplaceRule rule_x) (Some (mark_at 0 0)) (opened_among 0)

is_ruled : IsReached 0 ruled
is_ruled = edited (opened_among 0) (ReplaceRule rule_x) (Some (mark_at 0 0)) rule_free
    (record { rule = (omega arith, omega arith); felt_there = inr (λ h. h, refl) })
    (record { happenings = []; all = refl })

abbrev set : Configuration
set = after_edit (SetCells origin) (Some (mark_at 0 0)) ruled

is_set : IsReached 0 set
is_set = edited ruled (SetCells origin) (Some (mark_at 0 0)) refl
    (record { rule = tt; felt_there = inr (λ h. h, refl) }) is_ruled

is_marked : IsReached 0 marked
unfolding has_too_many_marks
is_marked = edited set (AddBookmark 0 8 Counts) None refl (record { rule = tt; felt_there = inr (λ h. h, refl) }) is_set

-- between the start and generation 8 is no mark
pub none_between : (g : ℕ) → 0 < g → g < 8 → is_mark marked.core.plan (mark_at 0 g) ≡ false
none_between g over under =
    let here : (g == 0) ≡ false = eq_false g 0 (λ is. omega (arith, is, over)) in
    let there : (8 == g) ≡ false = eq_false 8 g (λ is. omega (arith, is, under)) in
    rw (here, there) (and_right (nat_le g 8) false refl)

-- the step there is issued and worked

can_step : CanIssue marked.core (Step 0 8) (steps whole_way)
can_step = record {
  empty = refl;
  own = record {
    noted = refl;
    before = mark_at 0 0;
    comes = inr (record { branch = refl; below = omega arith; is = refl; between = none_between });
    rule = refl;
    from = refl;
    cells = refl;
    gap = refl;
  };
  few = omega arith;
}

pub is_worked : IsReached 0 worked
is_worked = worked_then 0 arrived (after (issues (Step 0 8) (steps whole_way)) marked) [] (split_at [] [] 0)
    (record { entry = steps whole_way; there = refl; is = refl })
    (issues_one (Step 0 8) (steps whole_way) marked can_step is_marked)

-- an intervention is inserted; what arrives at generation 4 isn't known

abbrev inserted : Configuration
inserted = after_edit (Insert 0 (Once 4) origin) (Some (mark_at 0 4)) worked

is_inserted : IsReached 0 inserted
is_inserted = edited worked (Insert 0 (Once 4) origin) (Some (mark_at 0 4)) refl
    (record { rule = tt; felt_there = inr (λ h. h.0 4 refl (omega arith), refl) }) is_worked

-- the late answer
pub late_answer : LateAnswer
unfolding is_felt
late_answer = record { reached = collected_then 0 [] [] arrived inserted refl is_inserted; row = refl; shown_so = refl }

-- the answer of an edit that was undone

abbrev removed : Configuration
removed = after_edit (RemoveIntervention 1) (Some (mark_at 0 4)) inserted

is_removed : IsReached 0 removed
is_removed = edited inserted (RemoveIntervention 1) (Some (mark_at 0 4)) refl
    (record { rule = tt; felt_there = inr (λ h. h.0 4 refl (omega arith), refl) }) is_inserted

abbrev missed : Configuration
missed = record (after (collects arrived) removed) { answers = [] }

can_step_anew : CanIssue missed.core (Step 0 8) (steps whole_way)
unfolding is_felt
can_step_anew = record {
  empty = refl;
  own = record {
    noted = refl;
    before = mark_at 0 0;
    comes = inr (record { branch = refl; below = omega arith; is = refl; between = none_between });
    rule = refl;
    from = refl;
    cells = refl;
    gap = refl;
  };
  few = omega arith;
}

pub answer_of_old : AnswerOfOld
unfolding is_felt
answer_of_old = record {
  reached = issues_one (Step 0 8) (steps whole_way) missed can_step_anew
      (collected_then 0 [] [] arrived removed refl is_removed);
  row = refl;
  entries = refl;
  shown_so = refl;
}

-- the answer that is kept

abbrev beside : Configuration
beside = after_edit (AddBookmark 0 4 Counts) None worked

is_beside : IsReached 0 beside
unfolding has_too_many_marks
is_beside =
    edited worked (AddBookmark 0 4 Counts) None refl (record { rule = tt; felt_there = inr (λ h. h, refl) }) is_worked

abbrev twice : Configuration
twice = record beside { answers = arrived ∷ arrived ∷ [] }

is_twice : IsReached 0 twice
is_twice = more (echoes arrived) beside twice (record {
  others = [];
  there = split_at [] [] arrived;
  core = refl;
  queued = refl;
  taken = refl;
  answers = refl;
}) is_beside

is_taken : IsReached 0 taken
is_taken = collected_then 0 [] (arrived ∷ []) arrived twice refl is_twice

can_view : CanIssue taken.core (View 1) (views counts)
can_view = record {
  empty = refl;
  own = record {
    bookmark = record { id = 1; branch = 0; generation = 8; view = Counts };
    there = refl;
    view = refl;
    from = refl;
    cells = refl;
    name = refl;
    states = refl;
    generation = refl;
  };
  few = omega arith;
}

abbrev told : Configuration
told = record (after (issues (View 1) (views counts)) taken) { queued = []; answers = counted ∷ arrived ∷ [] }

is_told : IsReached 0 told
is_told = worked_then 0 counted (after (issues (View 1) (views counts)) taken) [] (split_at [] [] 1)
    (record { entry = views counts; there = refl; is = refl })
    (issues_one (View 1) (views counts) taken can_view is_taken)

pub kept_answer : KeptAnswer
unfolding is_felt
kept_answer = record {
  reached = collected_then 0 [] [] arrived (record (after (collects counted) told) { answers = arrived ∷ [] }) refl
      (collected_then 0 [] (arrived ∷ []) counted told refl is_told);
  row = refl;
  same = refl;
  first = refl;
  second = refl;
  one_pending = refl;
}
