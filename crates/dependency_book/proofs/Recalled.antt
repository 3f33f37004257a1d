-- What came of a step may be entered for the mark that the step leads to.
use Rattle.dependency_book.proofs.Names.{AddsOnly, Arc, AreGiven, BookState, Calls, CanBePut, CanRecall, Core, Empty, EntersOrFrees, EntersSteps, Event, Fact}
use Rattle.dependency_book.proofs.Names.{Fills, Follows, Global, IsCollect, IsFilled, IsRightBook, IsSome, JobResult, Known, Learns, LooksUpAll, Need}
use Rattle.dependency_book.proofs.Names.{List, Mark, NotExpected, Option, PutsRow, Recalled, Released, Remembers, RowState, Value, SameBook, SameButFacts, Some, StepsFrom}
use Rattle.dependency_book.proofs.Names.{StepsTo, TakesAnswer, WasGiven, World, [], after_event, answer_said, ap, arc_value, arith, can_change}
use Rattle.dependency_book.proofs.Names.{collects, core_of, holds, inl, inr, option_map, pattern, plain_row, recalls, recalls_right, refl, row_of, same_comes, slice_get, step_said, step_to, steps, subst, sym, true, world_after, ℕ, ◌++◌}
use Rattle.dependency_book.proofs.Names.{with_facts, ◌∙◌, ◌∷◌, ◌≡◌, ◌≤◌}
use Rattle.revision_jobs.specs.declared.entry.Step.{Step as Stepping}
use Rattle.dependency_book.specs.declared.filled.Filled.{Filled}
use Rattle.dependency_book.specs.declared.filled.Filled.TheVariants.{Row}
use Rattle.dependency_book.proofs.Shared.Recalling.{book_then, recalls_all, recalls_book, recalls_one, recalls_wanting}
use Rattle.desk_events.specs.Core.{put}
use Rattle.desk_events.specs.Entry.{world_after as core_after}
use Rattle.desk_events.specs.Law as core
use Rattle.desk_events.specs.Right.{IsRight as IsRightCore}
use Rattle.dependency_book.proofs.Shared.Cores.{arrives_same, put_core}
use Rattle.step_facts.specs.Known.{known}
use Rattle.desk_events.specs.Entry.{Entry}
use Rattle.step_facts.specs.Same.{Asked}

-- a step that is remembered was given before
pub given_before : (entries : List Entry) (facts : List Fact) (s : Stepping)
    (found : Option (Arc World Global))
    (plane : Arc World Global) → AreGiven entries facts → found ≡ Some plane
    → option_map (λ p. arc_value p) found ≡ known facts s → WasGiven entries s
given_before entries facts s found plane given is knows =
    given s (subst IsSome (sym (ap (option_map (λ p. arc_value p)) is) ∙ knows) refl)

-- and still, where a step that was given is remembered beside others
pub given_too : (entries : List Entry) (old new : List Fact) (s : Stepping) (number : ℕ)
    → AreGiven entries old
    → AddsOnly s old new → slice_get entries number ≡ Some (steps (step_said s)) → AreGiven entries new
given_too entries old new s number given adds there other h = elim (adds other h) [
  | inl same ↦ record {
    number = number;
    step = step_said s;
    there = there;
    same = record {
      rule = ap (λ (a : Asked). a.kind) same;
      from = ap (λ (a : Asked). a.from) same;
      cells = ap (λ (a : Asked). a.cells) same;
      gens = ap (λ (a : Asked). a.gens) same;
    };
  }
  | inr was ↦ given other was
]

-- a step that leads to a mark where nothing stands is what is to be computed there, and was given before
pub record CanBeEntered (d : BookState) (mark : Mark) (s : Stepping) : Type 0 where
  pub there : can_change d.plan (step_to mark) ≡ true
  pub empty : row_of d (step_to mark) ≡ Empty
  pub own : StepsTo d mark s
  pub earlier : WasGiven d.entries s

module _ {d : BookState} {mark : Mark} {s : Stepping} (h : CanBeEntered d mark s) where
  -- the event of the law
  can_recall : CanRecall (core_of d) mark h.earlier.number h.earlier.step
  can_recall = record {
    empty = ap plain_row h.empty;
    earlier = h.earlier.there;
    own = step_said s;
    same = h.earlier.same;
    is = subst (λ arrives. StepsFrom d.plan arrives mark (step_said s)) (arrives_same d) h.own;
  }

  -- what came of the earlier step is what comes of this one
  earlier_comes : core_after h.earlier.step ≡ world_after s
  earlier_comes = same_comes h.earlier.step (step_said s) h.earlier.same

  pub can_enter : (w : World) → IsRightBook d → w ≡ world_after s → CanBePut d (step_to mark) (Known (pattern w))
  can_enter w right is = record {
    there = h.there;
    right = subst (λ v. IsRightCore (put (step_to mark) (holds (pattern v)) (core_of d)))
        (earlier_comes ∙ sym is)
        (recalls_right (core_of d) mark h.earlier.number h.earlier.step right.core can_recall);
    out = tt;
  }

  pub entered : (e : BookState) (w : World) → w ≡ world_after s
      → PutsRow (step_to mark) (Known (pattern w)) (with_facts d e.facts e.missed) e → EntersSteps d e
  entered e w is puts =
      recalls_one mark s d e (record {
        there = h.there;
        empty = h.empty;
        own = h.own;
        earlier = h.earlier;
        puts = subst (λ v. PutsRow (step_to mark) (Known (pattern v)) (with_facts d e.facts e.missed) e) is puts;
      })

-- a book that remembers other steps begins as well
pub puts_beside : (need : Need) (s : RowState Value) (d : BookState) (facts : List Fact) (missed : ℕ) (e : BookState)
    → PutsRow need s (with_facts d facts missed) e → PutsRow need s (with_facts d e.facts e.missed) e
puts_beside need s d facts missed e h = record {
  book = assumption h.book;
  rows = h.rows;
  wanting = h.wanting;
  remembered = record { facts = refl; missed = refl };
}

-- so the steps are recalled in the law
record IsRecalled (c d : Core) : Type 0 where
  pub list : List Recalled
  pub all : core.Recalls list c d

recalled_core : (d e : BookState) → EntersSteps d e → IsRecalled (core_of d) (core_of e)
recalled_core =
    recalls_all (λ d e. IsRecalled (core_of d) (core_of e)) (λ d e same. record { list = []; all = ap core_of same })
    (λ mark s d e f h rest.
    let can : CanBeEntered d mark s = assumption h in
    let after : core_of e ≡ after_event (core_of d) (recalls mark h.earlier.number h.earlier.step) =
    put_core (with_facts d e.facts e.missed) e (step_to mark) (Known (pattern (world_after s))) h.puts
    ∙ ap (λ v. put (step_to mark) (holds (pattern v)) (core_of d)) (sym (earlier_comes can)) in
    record {
      list = record { mark = mark; number = h.earlier.number; step = h.earlier.step } ∷ rest.list;
      all = (can_recall can, subst (λ c. core.Recalls rest.list c (core_of f)) after rest.all);
    })

pub recalls_follow : (event : Event) (c : Core) (put new : BookState) → core_of put ≡ after_event c event
    → EntersSteps put new → Follows event c (core_of new)
recalls_follow event c put new is h =
    let r = recalled_core put new h in
    record { entered = r.list; recalls = subst (λ b. core.Recalls r.list b (core_of new)) is r.all }

-- a call, and what was recalled behind it
pub calls_then : (event : Event) (c : Core) (put new : BookState) → Calls event c (core_of put)
    → EntersSteps put new → Calls event c (core_of new)
calls_then event c put new call h =
    let r = recalled_core put new h in
    record {
      can = call.can;
      true_one = call.true_one;
      follows = record {
        entered = call.follows.entered ++ r.list;
        recalls = recall_then call.follows.entered r.list (after_event c event) (core_of put) (core_of new)
            call.follows.recalls r.all;
      };
    }
  where
    recall_then : (xs ys : List Recalled) (c d e : Core) → core.Recalls xs c d → core.Recalls ys d e
        → core.Recalls (xs ++ ys) c e
    recall_then [] ys c d e h k = subst (λ b. core.Recalls ys b e) h k
    recall_then (x ∷ xs) ys c d e h k =
        (h.0, recall_then xs ys (after_event c (recalls x.mark x.number x.step)) d e h.1 k)

-- an answer was taken by a book that kept a fact
pub took : (old : BookState) {kept put : BookState} {answer given : JobResult} {f : Filled} → SameButFacts old kept
    → given ≡ answer
    → TakesAnswer given kept put f → TakesAnswer answer (with_facts old kept.facts kept.missed) put f
took old {kept} {put} {answer} {given} {f} same is h =
    subst (λ a. TakesAnswer a (with_facts old kept.facts kept.missed) put f) is
    (subst (λ d. TakesAnswer given d put f) same h)

-- what comes of filling a row
pub record Filling (answer : JobResult) (old new : BookState) (f : Filled) : Type 0 where
  pub filled : IsFilled old new answer f
  pub fills : Fills answer old new
  pub entered : EntersOrFrees old new answer f
  pub book : SameBook old new
  pub event : IsCollect answer old new f

-- what came of its step is remembered on
learns_on : (answer : JobResult) (old kept new : BookState) → Learns answer old kept → Remembers kept new
    → (new.missed ≡ old.missed → kept.missed ≡ old.missed) → Learns answer old new
learns_on answer old kept new learns remembers wanting same issued ok s is =
    remembers s ∙ learns (wanting same) issued ok s is

module _ {old put : BookState} {answer : JobResult} (facts : List Fact) (missed : ℕ)
    (learns : Learns answer old (with_facts old facts missed)) where
  -- where a row was filled and steps were recalled
  pub filled_then : {new : BookState} → TakesAnswer answer (with_facts old facts missed) put Row → LooksUpAll put new
      → old.missed ≤ missed → Filling answer old new Row
  filled_then {new} h k more = record {
    filled = (
      h.filled.0,
      h.filled.1,
      (let first = h.filled.2 in let rest = recalls_wanting put new k.recalls in omega (arith, first, rest)),
    );
    fills = record {
      put = put;
      book = assumption h.book;
      rows = h.rows;
      recalls = k.recalls;
      learns = learns_on answer old (with_facts old facts missed) new learns
          (λ s. k.remembers s ∙ ap (λ fs. known fs s) h.remembered.facts)
          (λ same. let first = h.remembered.missed in let rest = k.missed in omega (arith, same, more, first, rest));
    };
    entered = λ same.
        k.none (let first = h.remembered.missed in let rest = k.missed in omega (arith, same, more, first, rest));
    book = book_then old put new (assumption h.book) (recalls_book put new k.recalls);
    event = calls_then (collects (answer_said answer)) (core_of old) put new h.event k.recalls;
  }

  -- and where none was
  pub filled_alone : (f : Filled) → (f ≡ Row → ⊥) → TakesAnswer answer (with_facts old facts missed) put f
      → Filling answer old put f
  filled_alone f off h = record {
    filled = is f h.filled;
    fills = record {
      put = put;
      book = assumption h.book;
      rows = h.rows;
      recalls = ([], refl);
      learns = learns_on answer old (with_facts old facts missed) put learns
          (λ s. ap (λ fs. known fs s) h.remembered.facts) (λ same. sym h.remembered.missed ∙ same);
    };
    entered = frees f off;
    book = assumption h.book;
    event = h.event;
  }
    where
      is : (f : Filled) → IsFilled (with_facts old facts missed) put answer f → IsFilled old put answer f
      is Row h = h
      is (Released fault) h = (
        h.0,
        h.1,
        λ room.
            let r = h.2 room in
            record { mark = r.mark; above = r.above; noted = r.noted; row = r.row; spent = r.spent },
      )
      is NotExpected h = h

      frees : (f : Filled) → (f ≡ Row → ⊥) → EntersOrFrees old put answer f
      frees Row off = absurd (off refl)
      frees (Released fault) off = h.rows
      frees NotExpected off = tt
