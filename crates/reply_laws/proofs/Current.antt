-- What replies show as current, by the law of the calls on a desk.
use Rattle.std.proofs.Common.{◌≡◌, ◌∙◌, inl, inr, ℕ, List, [], ◌∷◌, ◌++◌, Option, Some, None, IsSome, is_some, refl, sym, ap, subst}
use Rattle.schedule.specs.declared.document.Bookmark.{Bookmark}
use Rattle.bookmarks.specs.Value.{text}
use Rattle.revision_jobs.specs.Posted.{PostView}
use Rattle.desk_events.specs.Core.{shown, shown_for}
use Rattle.desk_events.specs.Right.{IsShown}
use Rattle.desk_events.specs.Wanted.{bookmark_in}
use Rattle.dependency_book.specs.declared.row.RowState.{RowState}
use Rattle.dependency_book.specs.declared.row.RowState.TheVariants.{Empty, Expected, Known}
use Rattle.dependency_book.specs.BookState.{BookState, text_row}
use Rattle.dependency_book.specs.Core.{core_of, plain_row}
use Rattle.dependency_book.specs.RowState.{known, state_map}
use Rattle.desk_core.specs.Run.{AreCalls, AreOfLaw, ShowsOnlyScratch as Law}
use Rattle.desk_script.specs.Asks.{Ask, Obey, Refuse, Take}
use Rattle.desk_script.specs.declared.command.Command.TheVariants as command
use Rattle.desk_server.specs.Answer.{After}
use Rattle.desk_server.specs.Desks.{AnswersAt, AnswersAtEach, IsLeftBy, IsOpened, RevisedOrSame, ShowsBookmark, Standing, TakenOrSame, standing}
use Rattle.desk_server.specs.Faults.{Fault, fault_of}
use Rattle.desk_server.specs.Reply.{refused_text}
use Rattle.desk_server.specs.Script.{Answered}
use Rattle.desk_server.specs.Told.{IsRefused, has_text, reply_text, shown_text}
use Rattle.desk_server.specs.declared.reply.Reply.{Reply}
use Rattle.desk_server.specs.declared.reply.Reply.TheVariants as reply
use Rattle.desk_script.specs.declared.format.Format.{Format}
use Rattle.schedule.specs.Asked.{Asked}
use Rattle.reply_laws.specs.Current.{CurrentIsScratch, LeadsByCalls, ListsAs, ShowsAs, ShowsEach, ShowsOnlyScratch, TellsAs, is_current, text_of}

calls_then : (xs ys : List BookState) (c d e : BookState) → AreCalls xs c d → AreCalls ys d e → AreCalls (xs ++ ys) c e
calls_then [] ys c d e same h = subst (λ k. AreCalls ys k e) same h
calls_then (x ∷ xs) ys c d e f h = (f.0, calls_then xs ys x d e f.1 h)

-- what each command does to the desk is calls of the law

revised_by : (asked : Asked) (c d : BookState) → RevisedOrSame asked c d → LeadsByCalls c d
revised_by asked c d (inl same) = ([], same)
revised_by asked c d (inr made) = (d ∷ [], (inl (_, made.makes.event.event), refl))

taken_by : (format : Format) (text : List ℕ) (c d : BookState) → TakenOrSame format text c d → LeadsByCalls c d
taken_by format bytes c d (inl same) = ([], same)
taken_by format bytes c d (inr made) = revised_by made.0 c d (inr made.2)

led_by : AreOfLaw → (ask : Ask) (r : Reply) (p q : PostView) (c d : BookState) → IsLeftBy ask r p q c d
    → LeadsByCalls c d
led_by law (Obey (command.Edit edit)) r p q c d h = revised_by _ c d h
led_by law (Obey command.Settle) r p q c d (learned, ends) = law learned.calls.calls c d learned.calls.comes
led_by law (Obey command.Work) r p q c d learned = law learned.calls.calls c d learned.calls.comes
led_by law (Obey command.Poll) r p q c d (learned, ends) = law learned.calls.calls c d learned.calls.comes
led_by law (Obey (command.Show id)) r p q c d (shows, inl stays) = ([], stays.0)
led_by law (Obey (command.Show id)) r p q c d (shows, inr (pending, learned)) =
    law learned.calls.calls c d learned.calls.comes
led_by law (Obey (command.Peek id)) r p q c d h = ([], h.1)
led_by law (Obey command.List) r p q c d h = ([], h.1)
led_by law (Obey command.Script) r p q c d same = ([], same)
led_by law (Obey command.Help) r p q c d same = ([], same)
led_by law (Obey command.Quit) r p q c d same = ([], same)
led_by law (Take format bytes) r p q c d h = taken_by format bytes c d h
led_by law (Refuse fault) r p q c d same = ([], same)

-- a reply says what the desk shows

told_shown : (id : ℕ) (o : Option Bookmark) (row : RowState (List ℕ))
    → shown_text id o (known row) ≡ text_of id (shown_for (plain_row (state_map text row)) o)
told_shown id None row = refl
told_shown id (Some b) Empty = refl
told_shown id (Some b) (Expected job) = refl
told_shown id (Some b) (Known bytes) = refl

listed_shown : (o : Option Bookmark) (row : RowState (List ℕ)) → IsSome o
    → is_some (known row) ≡ is_current (shown_for (plain_row (state_map text row)) o)
listed_shown None row there = absurd (cc there)
listed_shown (Some b) Empty there = refl
listed_shown (Some b) (Expected job) there = refl
listed_shown (Some b) (Known bytes) there = refl

refused_tells : (d : BookState) (r : Reply) → IsRefused r → (fault : Fault) × (reply_text d r ≡ refused_text fault)
refused_tells d (reply.Refused reason) h = (fault_of reason.number reason.name.now reason.place, refl)
refused_tells d (reply.Accepted revision word number) h = absurd h
refused_tells d reply.Settled h = absurd h
refused_tells d reply.Working h = absurd h
refused_tells d (reply.Unsettled n cause) h = absurd h
refused_tells d (reply.Shown id) h = absurd h
refused_tells d (reply.Polled n cause) h = absurd h
refused_tells d reply.Listed h = absurd h
refused_tells d (reply.Scripted script) h = absurd h
refused_tells d reply.Help h = absurd h
refused_tells d reply.Bye h = absurd h

shows_as : (d : BookState) (id : ℕ) (told : List ℕ) (r : Reply) → told ≡ reply_text d r → ShowsBookmark id r
    → ShowsAs (core_of d) id told
shows_as d id told r is (inl shows) =
    inl (is ∙ ap (reply_text d) shows ∙ told_shown id (bookmark_in d.plan.bookmarks id) (text_row d id))
shows_as d id told r is (inr refused) =
    let fault = refused_tells d r refused in inr (fault.0, is ∙ fault.1)

lists_as : (d : BookState) (told : List ℕ) (r : Reply) → told ≡ reply_text d r → r ≡ reply.Listed
    → ListsAs (core_of d) told
lists_as d told r is lists = record {
  known = has_text d;
  lists = is ∙ ap (reply_text d) lists;
  current = λ id. listed_shown (bookmark_in d.plan.bookmarks id) (text_row d id);
}

tells_as : (ask : Ask) (told : List ℕ) (r : Reply) (p q : PostView) (c d : BookState) → told ≡ reply_text d r
    → IsLeftBy ask r p q c d → TellsAs (core_of d) ask told
tells_as (Obey (command.Show id)) told r p q c d is h = shows_as d id told r is h.0
tells_as (Obey (command.Peek id)) told r p q c d is h = shows_as d id told r is h.0
tells_as (Obey command.List) told r p q c d is h = lists_as d told r is h.0
tells_as (Obey (command.Edit edit)) told r p q c d is h = tt
tells_as (Obey command.Settle) told r p q c d is h = tt
tells_as (Obey command.Work) told r p q c d is h = tt
tells_as (Obey command.Poll) told r p q c d is h = tt
tells_as (Obey command.Script) told r p q c d is h = tt
tells_as (Obey command.Help) told r p q c d is h = tt
tells_as (Obey command.Quit) told r p q c d is h = tt
tells_as (Take format bytes) told r p q c d is h = tt
tells_as (Refuse fault) told r p q c d is h = tt

-- one answer after another, each behind calls since the opening
module _ (law : Law) (of_law : AreOfLaw) (first : BookState) (opened : IsOpened first) where
  shows_one : (one : Answered) (desks : List BookState) (old new : Standing) → AreCalls desks first new.desk
      → AnswersAt one old new → ShowsOnlyScratch one new.desk
  shows_one one desks old new calls at = record {
    shows = λ id. subst (λ p. IsShown p id (shown (core_of new.desk) id)) (sym (ap (λ (a : After). a.plan) at.gives))
        (law first.table 0 desks new.desk (subst (λ k. AreCalls desks k new.desk) opened calls) id);
    tells = tells_as one.0 one.1.told at.reply old.post new.post old.desk new.desk
        (ap (λ (a : After). a.told) at.gives) at.left.by;
  }

  shows_each : (given : List Answered) (desks : List BookState) (old last : Standing) → AreCalls desks first old.desk
      → AnswersAtEach old last given → ShowsEach old.desk given
  shows_each [] desks old last calls each = tt
  shows_each (one ∷ rest) desks old last calls (next, at, each) =
      let led = led_by of_law one.0 at.reply old.post next.post old.desk next.desk at.left.by in
      let all = calls_then desks led.0 first old.desk next.desk calls led.1 in (
        next.desk,
        led,
        shows_one one (desks ++ led.0) old next all at,
        shows_each rest (desks ++ led.0) next last all each,
      )

pub shows_scratch : Law → AreOfLaw → CurrentIsScratch
shows_scratch law of_law prompt given at =
    shows_each law of_law at.over.first at.over.opens given [] (standing at.before at.over.first)
    (standing at.after at.over.last) refl at.over.each
