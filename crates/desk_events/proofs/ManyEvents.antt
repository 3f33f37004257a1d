-- The longer worked list of events.
use Rattle.desk_events.proofs.Names.{AddBookmark, AddBranch, CanIssue, CanRecall, Configuration, Insert, IsReached, IsUnfeltAt, IsUnfeltWhere, None, RemoveIntervention, Some, View, [], arith, arrival_in, blank, cancels, changed, collects}
use Rattle.desk_events.proofs.Names.{desk, echoes, inl, inr, issues, lay, loses_answer, mark_at, recalls, refl, subst, views, ℕ, ◌∙◌, ◌∷◌, ◌≡◌}
use Rattle.std.proofs.Common.{Bool, ap, cond, false, pos, sym, true}
use Rattle.worlds.specs.World.{World, cell, cell-put, same_place, same_world}
use Rattle.schedule.specs.declared.acts.Acts.TheVariants.{Every, Once}
use Rattle.schedule.specs.Evolution.{is_felt}
use Rattle.schedule.specs.Repeats.{has_too_many_marks}
use Rattle.bookmarks.specs.declared.view.View.TheVariants.{Counts}
use Rattle.desk_events.specs.Configuration.{loses_job}
use Rattle.desk_events.specs.Example.{ManyEvents, after, after_edit, arrived, branched, counts, given_up, known, origin, recalled, told, undone, unfelt, viewed, whole_way, worked}
use Rattle.desk_events.proofs.Example.{edited, is_worked, issues_one, more, none_between}
use Rattle.desk_events.proofs.Shared.Called.{collected_then, split_at, worked_then}
use Rattle.desk_events.proofs.Shared.Tests.{true_eq}

-- the answer comes twice, and one of the two is lost

abbrev twice : Configuration
twice = record worked { answers = arrived ∷ arrived ∷ [] }

is_twice : IsReached 0 twice
is_twice = more (echoes arrived) worked twice (record {
  others = [];
  there = split_at [] [] arrived;
  core = refl;
  queued = refl;
  taken = refl;
  answers = refl;
}) is_worked

abbrev collected : Configuration
collected = record (after (collects arrived) twice) { answers = arrived ∷ [] }

is_known : IsReached 0 known
is_known = more (loses_answer arrived) collected known
    (record { core = refl; queued = refl; taken = refl; answers = split_at [] [] arrived })
    (collected_then 0 [] (arrived ∷ []) arrived twice refl is_twice)

-- the repeating intervention is inserted; what arrives at generation 4 isn't known

abbrev inserted : Configuration
inserted = after_edit (Insert 0 (Every 4 4 8) origin) (Some (mark_at 0 4)) known

is_inserted : IsReached 0 inserted
unfolding has_too_many_marks
is_inserted = edited known (Insert 0 (Every 4 4 8) origin) (Some (mark_at 0 4)) refl
    (record { rule = tt; felt_there = inr (λ h. h.0 4 refl (omega arith), refl) }) is_known

is_undone : IsReached 0 undone
is_undone = edited inserted (RemoveIntervention 1) (Some (mark_at 0 4)) refl
    (record { rule = tt; felt_there = inr (λ h. h.0 4 refl (omega arith), refl) }) is_inserted

can_recall : CanRecall undone.core (mark_at 0 8) 0 whole_way
unfolding is_felt
can_recall = record {
  empty = refl;
  earlier = refl;
  own = whole_way;
  same = record { rule = refl; from = refl; cells = refl; gens = refl };
  is = record {
    noted = refl;
    before = mark_at 0 0;
    comes = inr (record { branch = refl; below = omega arith; is = refl; between = none_between });
    rule = refl;
    from = refl;
    cells = refl;
    gap = refl;
  };
}

is_recalled : IsReached 0 recalled
is_recalled = more (desk (recalls (mark_at 0 8) 0 whole_way)) undone recalled
    (record { can = can_recall; core = refl; queued = refl; taken = refl; answers = refl }) is_undone

-- the cell at the origin is set as it is

choice : (b : Bool) (n : ℕ) → cond b 1 (cond b 1 n) ≡ cond b 1 n
choice true n = refl
choice false n = refl

as_it_is : (w : World) → lay origin w ≡ lay origin (lay origin w)
as_it_is w = same_world (lay origin w) (lay origin (lay origin w)) (λ x y.
    let before = cell-put w (pos 0) (pos 0) 1 x y in
    let again = cell-put (lay origin w) (pos 0) (pos 0) 1 x y in
    before ∙ sym (choice (same_place (y, x) (pos 0, pos 0)) (cell w x y)) ∙ sym (again ∙ ap (cond (same_place (y, x) (pos 0, pos 0)) 1) before))

not_felt : IsUnfeltWhere (arrival_in recalled.core) recalled.core.plan (changed recalled.core.plan (Insert 0 (Once 0) origin)).plan 0 (Once 0)
not_felt g acts within =
    subst (λ n. IsUnfeltAt (arrival_in recalled.core) recalled.core.plan (changed recalled.core.plan (Insert 0 (Once 0) origin)).plan (mark_at 0 n))
    (true_eq 0 g acts) (as_it_is blank)

is_unfelt : IsReached 0 unfelt
is_unfelt = edited recalled (Insert 0 (Once 0) origin) None refl
    (record { rule = tt; felt_there = inl ((not_felt, not_felt), refl) }) is_recalled

-- the view is issued, given up, and issued anew

can_view : CanIssue unfelt.core (View 1) (views counts)
unfolding is_felt
can_view = record {
  empty = refl;
  own = record {
    bookmark = record { id = 1; branch = 0; generation = 8; view = Counts };
    there = refl;
    view = refl;
    from = refl;
    cells = refl;
    name = refl;
    states = refl;
    generation = refl;
  };
  few = omega arith;
}

abbrev asked : Configuration
asked = after (issues (View 1) (views counts)) unfelt

abbrev dropped : Configuration
dropped = after (cancels 1) asked

is_given_up : IsReached 0 given_up
is_given_up = more (loses_job 1) dropped given_up
    (record { core = refl; queued = split_at [] [] 1; taken = refl; answers = refl })
    (more (desk (cancels 1)) asked dropped (record { can = tt; core = refl; queued = refl; taken = refl; answers = refl })
    (issues_one (View 1) (views counts) unfelt can_view is_unfelt))

can_view_anew : CanIssue given_up.core (View 1) (views counts)
unfolding is_felt
can_view_anew = record {
  empty = refl;
  own = record {
    bookmark = record { id = 1; branch = 0; generation = 8; view = Counts };
    there = refl;
    view = refl;
    from = refl;
    cells = refl;
    name = refl;
    states = refl;
    generation = refl;
  };
  few = omega arith;
}

abbrev asked_anew : Configuration
asked_anew = after (issues (View 1) (views counts)) given_up

is_viewed : IsReached 0 viewed
is_viewed = collected_then 0 [] [] told (record asked_anew { queued = []; answers = told ∷ [] }) refl
    (worked_then 0 told asked_anew [] (split_at [] [] 2) (record { entry = views counts; there = refl; is = refl })
    (issues_one (View 1) (views counts) given_up can_view_anew is_given_up))

-- the branch

abbrev forked : Configuration
forked = after_edit (AddBranch 0 4) None viewed

is_forked : IsReached 0 forked
unfolding has_too_many_marks
is_forked =
    edited viewed (AddBranch 0 4) None refl (record { rule = tt; felt_there = inr (λ h. h, refl) }) is_viewed

abbrev noted : Configuration
noted = after_edit (AddBookmark 1 8 Counts) None forked

is_noted : IsReached 0 noted
unfolding has_too_many_marks
is_noted =
    edited forked (AddBookmark 1 8 Counts) None refl (record { rule = tt; felt_there = inr (λ h. h, refl) }) is_forked

is_branched : IsReached 0 branched
unfolding has_too_many_marks
is_branched = edited noted (Insert 1 (Every 5 2 9) origin) (Some (mark_at 1 5)) refl
    (record { rule = tt; felt_there = inr (λ h. h.0 5 refl (omega arith), refl) }) is_noted

pub many_events : ManyEvents
unfolding is_felt
many_events = record {
  reached = is_branched;
  gone = refl;
  again = refl;
  stays = refl;
  cancelled = refl;
  first = refl;
  second = refl;
  one_pending = refl;
}
