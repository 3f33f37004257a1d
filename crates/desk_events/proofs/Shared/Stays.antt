-- Whatever happens, the desk is right.
use Rattle.desk_events.proofs.Names.{AllByRecursion, Answer, AnswersAfter, Asked, Bookmark, CanHappen, Configuration, Core, EditFault, Entry, Event, HappenAll, Happening, Happens, HappensToDesk, IsRight, IsShown, IsTrueAnswer, IsWithout}
use Rattle.desk_events.proofs.Names.{List, Mark, None, Option, Plan, Row, ShowsOnlyScratch, Some, Stands, StaysRight, Value, View, [], after_edit, after_event, arith, bookmark_in, cancels, changed, collects, desk, echoes, edits, finishes}
use Rattle.desk_events.proofs.Names.{inl, inr, issues, loses_answer, opened_among, recalls, refl, refusal, shown, shown_for, states_of, states_of-still, subst, sym, text_wanted, unless_refused, ℕ, ◌++◌, ◌<◌, ◌∷◌, ◌≡◌, ◌⊎◌}
use Rattle.desk_events.proofs.Shared.Opened.{opened_right}
use Rattle.desk_events.proofs.Shared.Right.{cancels_right, collects_right, edits_right, edits_some, get_left, issues_right, recalls_right}

-- what is kept, whatever happens
record IsKept (c : Configuration) : Type 0 where
  right : IsRight c.core
  some : 0 < states_of c.core.plan.rule
  answers : AllByRecursion (IsTrueAnswer c.core.entries) c.answers

-- one of a list, and the others

of_one : {X : Type 0} (P : X → Type 0) (x : X) (before after : List X) → AllByRecursion P (before ++ x ∷ after) → P x
    × AllByRecursion P (before ++ after)
of_one P x [] after h = (h.0, h.1)
of_one P x (y ∷ before) after h = let rest = of_one P x before after h.1 in (rest.0, (h.0, rest.1))

one_of : {X : Type 0} (P : X → Type 0) (x : X) (xs ys : List X) → IsWithout x xs ys → AllByRecursion P xs → P x
    × AllByRecursion P ys
one_of P x xs ys without all =
    let parts = of_one P x without.before without.after (subst (AllByRecursion P) without.there all) in
    (parts.0, subst (AllByRecursion P) (sym without.gone) parts.1)

-- answers stay true while entries are added

true_more : (es : List Entry) (e : Entry) (answer : Answer) → IsTrueAnswer es answer
    → IsTrueAnswer (es ++ e ∷ []) answer
true_more es e answer = by_value answer.number answer.value
  where
    by_value : (n : ℕ) (o : Option Value) → IsTrueAnswer es (record { number = n; value = o })
        → IsTrueAnswer (es ++ e ∷ []) (record { number = n; value = o })
    by_value n None h = tt
    by_value n (Some v) h = record { entry = h.entry; there = get_left es (e ∷ []) n h.entry h.there; is = h.is }

all_more : (es : List Entry) (e : Entry) (answers : List Answer) → AllByRecursion (IsTrueAnswer es) answers
    → AllByRecursion (IsTrueAnswer (es ++ e ∷ [])) answers
all_more es e [] h = tt
all_more es e (a ∷ answers) h = (true_more es e a h.0, all_more es e answers h.1)

-- an edit gives no number
pub edit_entries : (c : Core) (asked : Asked) (felt : Option Mark)
    → (after_event c (edits asked felt)).entries ≡ c.entries
edit_entries c asked felt = by_refusal (refusal c.plan asked)
  where
    by_refusal : (o : Option EditFault)
        → (after_edit c asked felt (unless_refused o (changed c.plan asked))).entries ≡ c.entries
    by_refusal (Some fault) = refl
    by_refusal None = refl

-- an event of the desk

event_right : (event : Event) (c d : Configuration) → IsKept c → HappensToDesk event c d
    → IsRight (after_event c.core event)
event_right (edits asked felt) c d kept h = edits_right c.core asked felt kept.right kept.some h.can
event_right (issues need entry) c d kept h = issues_right c.core need entry kept.right h.can
event_right (collects answer) c d kept h =
    collects_right c.core answer kept.right
    (one_of (IsTrueAnswer c.core.entries) answer c.answers d.answers h.answers kept.answers).0
event_right (cancels number) c d kept h = cancels_right c.core number kept.right
event_right (recalls mark number s) c d kept h = recalls_right c.core mark number s kept.right h.can

event_some : (event : Event) (c : Core) → 0 < states_of c.plan.rule → CanHappen c event
    → 0 < states_of (after_event c event).plan.rule
event_some (edits asked felt) c some can = edits_some c asked felt some can.rule
event_some event c some can = some

event_answers : (event : Event) (c : Core) (before after : List Answer)
    → AllByRecursion (IsTrueAnswer c.entries) before → AnswersAfter event before after
    → AllByRecursion (IsTrueAnswer (after_event c event).entries) after
event_answers (edits asked felt) c before after all h =
    subst (AllByRecursion (IsTrueAnswer (after_event c (edits asked felt)).entries)) (sym h)
    (subst (λ es. AllByRecursion (IsTrueAnswer es) before) (sym (edit_entries c asked felt)) all)
event_answers (issues need entry) c before after all h =
    subst (AllByRecursion (IsTrueAnswer (c.entries ++ entry ∷ []))) (sym h) (all_more c.entries entry before all)
event_answers (collects answer) c before after all h = (one_of (IsTrueAnswer c.entries) answer before after h all).1
event_answers event c before after all h = subst (AllByRecursion (IsTrueAnswer c.entries)) (sym h) all

-- a configuration of the same desk, with true answers
kept_by : (c d : Configuration) → IsKept c → d.core ≡ c.core → AllByRecursion (IsTrueAnswer c.core.entries) d.answers
    → IsKept d
kept_by c d kept core answers = record {
  right = subst IsRight (sym core) kept.right;
  some = subst (λ (k : Core). 0 < states_of k.plan.rule) (sym core) kept.some;
  answers = subst (λ (k : Core). AllByRecursion (IsTrueAnswer k.entries) d.answers) (sym core) answers;
}

same_answers : (c d : Configuration) → IsKept c → d.answers ≡ c.answers
    → AllByRecursion (IsTrueAnswer c.core.entries) d.answers
same_answers c d kept same = subst (AllByRecursion (IsTrueAnswer c.core.entries)) (sym same) kept.answers

happens_kept : (h : Happening) (c d : Configuration) → IsKept c → Happens h c d → IsKept d
happens_kept (desk event) c d kept h = record {
  right = subst IsRight (sym h.core) (event_right event c d kept h);
  some = subst (λ (k : Core). 0 < states_of k.plan.rule) (sym h.core) (event_some event c.core kept.some h.can);
  answers = subst (λ (k : Core). AllByRecursion (IsTrueAnswer k.entries) d.answers) (sym h.core)
      (event_answers event c.core c.answers d.answers kept.answers h.answers);
}
happens_kept (finishes worker answer) c d kept h =
    kept_by c d kept h.core
    (subst (AllByRecursion (IsTrueAnswer c.core.entries)) (sym h.answers) (h.value_is, kept.answers))
happens_kept (loses_answer answer) c d kept h =
    kept_by c d kept h.core (one_of (IsTrueAnswer c.core.entries) answer c.answers d.answers h.answers kept.answers).1
happens_kept (echoes answer) c d kept h =
    let parts = one_of (IsTrueAnswer c.core.entries) answer c.answers h.others h.there kept.answers in
    kept_by c d kept h.core
    (subst (AllByRecursion (IsTrueAnswer c.core.entries)) (sym h.answers) (parts.0, kept.answers))
happens_kept happening c d kept h = kept_by c d kept h.core (same_answers c d kept h.answers)

happen_kept : (hs : List Happening) (c e : Configuration) → IsKept c → HappenAll hs c e → IsKept e
happen_kept [] c e kept h = subst IsKept (sym h) kept
happen_kept (x ∷ hs) c e kept h = happen_kept hs h.0 e (next h.1) h.2
  where
    next : (Happens x c h.0 ⊎ (h.0 ≡ c)) → IsKept h.0
    next (inl does) = happens_kept x c h.0 kept does
    next (inr same) = subst IsKept (sym same) kept

-- a desk that was just opened
opened_kept : (revision : ℕ) → IsKept (opened_among revision)
opened_kept revision =
    record { right = opened_right revision; some = (let two = states_of-still in omega (arith, two)); answers = tt }

pub stays_right : StaysRight
stays_right revision c reached =
    (happen_kept reached.happenings (opened_among revision) c (opened_kept revision) reached.all).right

-- what is shown

shown_is : (p : Plan) (es : List Entry) (id : ℕ) (o : Option Bookmark) (row : Row) → bookmark_in p.bookmarks id ≡ o
    → Stands es p (View id) row → IsShown p id (shown_for row o)
shown_is p es id o row is stands = grind (arith, text_wanted)

pub shows_right : (c : Core) (id : ℕ) → IsRight c → IsShown c.plan id (shown c id)
shows_right c id right =
    shown_is c.plan c.entries id (bookmark_in c.plan.bookmarks id) (c.rows (View id)) refl (right.stands (View id))

pub shows_only_scratch : ShowsOnlyScratch
shows_only_scratch revision c reached id = shows_right c.core id (stays_right revision c reached)
