-- What stays the same in the picture of a desk.
use Rattle.std.proofs.Common.{◌≡◌, ◌∙◌, ◌⊎◌, inl, inr, ℕ, List, [], ◌∷◌, ◌++◌, Option, Some, None, true, map, refl, sym, ap, ap₂, subst, arith}
use Rattle.std.proofs.Math.Path.{fun_ext}
use Rattle.std.proofs.lemmas.Bool.Decides.{nat_tests}
use Rattle.bookmarks.specs.Value.{pattern, text}
use Rattle.schedule.specs.declared.document.Bookmark.{Bookmark}
use Rattle.schedule.specs.Asked.{Asked, asked_of}
use Rattle.schedule.specs.Plan.{Plan}
use Rattle.revision_jobs.specs.declared.answer.Job.{Job}
use Rattle.revision_jobs.specs.Posted.{PostView}
use Rattle.revision_jobs.specs.Value.{Value}
use Rattle.desk_events.specs.declared.need.Need.{Need}
use Rattle.desk_events.specs.declared.need.Need.TheVariants.{View}
use Rattle.desk_events.specs.Felt.{IsFelt}
use Rattle.desk_events.specs.Needs.{is_need}
use Rattle.desk_events.specs.Wanted.{bookmark_in}
use Rattle.desk_events.proofs.Shared.Needs.{need_is}
use Rattle.dependency_book.specs.declared.row.RowState.{RowState}
use Rattle.dependency_book.specs.declared.row.RowState.TheVariants.{Empty, Expected, Known}
use Rattle.dependency_book.specs.BookState.{BookState, arrival_known, row_of, text_known, text_row}
use Rattle.dependency_book.specs.Jobs.{cancelled, issued}
use Rattle.dependency_book.specs.Kept.{text_kept}
use Rattle.dependency_book.specs.Recalled.{EntersSteps, Revises}
use Rattle.dependency_book.specs.RowState.{known, state_map}
use Rattle.dependency_book.proofs.Shared.Recalling.{recalls_all, recalls_book}
use Rattle.desk_core.specs.Calls.{Call, ComesByAll, answers_in, cancels, collects, issues, refuses}
use Rattle.desk_core.specs.declared.issue.IssueFault.TheVariants.{NoMemory, NumbersSpent}
use Rattle.desk_board.specs.Picture.{picture, picture_of}
use Rattle.desk_board.specs.Picture as board
use Rattle.desk_script.specs.Asks.{Ask, Obey, Refuse, Take}
use Rattle.desk_script.specs.declared.command.Command.TheVariants as command
use Rattle.desk_server.specs.Desks.{IsLeftBy, RevisedOrSame}
use Rattle.desk_server.specs.Told.{TakesAnswers}
use Rattle.desk_server.specs.declared.reply.Reply.{Reply}
use Rattle.board_laws.specs.Showings.{ShowsKept, ShowsNoMore, ShowsTheSame, ShowsWhatIsKept}

-- the text that stands in a row, if one does
abbrev text_in : RowState Value → Option (List ℕ)
text_in Empty = None
text_in (Expected job) = None
text_in (Known (pattern w)) = None
text_in (Known (text bytes)) = Some bytes

text_back : (row : RowState (List ℕ)) → text_in (state_map text row) ≡ known row
text_back Empty = refl
text_back (Expected job) = refl
text_back (Known bytes) = refl

-- a row that has the same text in both
texts_known : (d e : BookState) (id : ℕ) → text_in (row_of e (View id)) ≡ text_in (row_of d (View id))
    → text_known e id ≡ text_known d id
texts_known d e id same = sym (text_back (text_row e id)) ∙ same ∙ text_back (text_row d id)

-- two desks that show the same
record Alike (d e : BookState) : Type 0 where
  plan : e.plan ≡ d.plan
  texts : (id : ℕ) → text_known e id ≡ text_known d id

alike_then : (c d e : BookState) → Alike c d → Alike d e → Alike c e
alike_then c d e f g = record { plan = g.plan ∙ f.plan; texts = λ id. g.texts id ∙ f.texts id }

alike_pictures : (d e : BookState) → Alike d e → picture_of e ≡ picture_of d
alike_pictures d e h =
    ap₂ (λ (p : Plan) (texts : ℕ → Option (List ℕ)).
    picture p (map board.row_of (map (λ (b : Bookmark). (b, texts b.id)) p.bookmarks))) h.plan (fun_ext h.texts)

issued_text : (need : Need) (job : Job) (id : ℕ) (row : RowState Value)
    → (is_need need (View id) ≡ true → text_in row ≡ None) → text_in (issued need job (View id) row) ≡ text_in row
issued_text need job id row none = grind (arith, none)

cancelled_text : (n : ℕ) (row : RowState Value) → text_in (cancelled n row) ≡ text_in row
cancelled_text n row = grind (arith, nat_tests)

-- calls that collect no answer
calls_alike : (calls : List Call) (d e : BookState) → answers_in calls ≡ [] → ComesByAll calls d e → Alike d e
calls_alike [] d e none same = record { plan = ap (λ (k : BookState). k.plan) same; texts = λ id. ap (λ k. text_known k id) same }
calls_alike (issues job ∷ calls) d e none (next, (need, h), rest) =
    alike_then d next e
    (record {
      plan = h.is.document.plan;
      texts = λ id. texts_known d next id (ap text_in (h.is.rows (View id)) ∙ issued_text need job id (row_of d (View id))
          (λ hit. ap (λ k. text_in (row_of d k)) (sym (need_is need (View id) hit)) ∙ ap text_in h.empty));
    })
    (calls_alike calls next e none rest)
calls_alike (refuses NumbersSpent ∷ calls) d e none (next, h, rest) =
    alike_then d next e
    (record { plan = ap (λ (k : BookState). k.plan) h.2; texts = λ id. ap (λ k. text_known k id) h.2 })
    (calls_alike calls next e none rest)
calls_alike (refuses NoMemory ∷ calls) d e none (next, h, rest) =
    alike_then d next e
    (record { plan = ap (λ (k : BookState). k.plan) h.2; texts = λ id. ap (λ k. text_known k id) h.2 })
    (calls_alike calls next e none rest)
calls_alike (collects answer collected ∷ calls) d e none h = absurd (cc none)
calls_alike (cancels n ∷ calls) d e none (next, h, rest) =
    alike_then d next e
    (record {
      plan = h.book.document.plan;
      texts = λ id. texts_known d next id (ap text_in (h.rows (View id)) ∙ cancelled_text n (row_of d (View id)));
    })
    (calls_alike calls next e none rest)

nothing_behind : {A : Type 0} (xs ys : List A) → xs ≡ xs ++ ys → ys ≡ []
nothing_behind [] ys same = sym same
nothing_behind (x ∷ xs) ys same = nothing_behind xs ys (cc same)

left_alike : (ask : Ask) (r : Reply) (p q : PostView) (d e : BookState) → ShowsNoMore ask → IsLeftBy ask r p q d e
    → (¬ TakesAnswers ask → q.answers ≡ p.answers) → picture_of e ≡ picture_of d
left_alike (Obey command.Work) r p q d e no_more learned silent =
    alike_pictures d e (calls_alike learned.calls.calls d e
    (nothing_behind p.answers (answers_in learned.calls.calls) (sym (silent (λ takes. takes)) ∙ learned.calls.gave))
    learned.calls.comes)
left_alike (Obey (command.Peek id)) r p q d e no_more h silent = ap picture_of h.1
left_alike (Obey command.List) r p q d e no_more h silent = ap picture_of h.1
left_alike (Obey command.Script) r p q d e no_more h silent = ap picture_of h
left_alike (Obey command.Help) r p q d e no_more h silent = ap picture_of h
left_alike (Refuse fault) r p q d e no_more h silent = ap picture_of h
left_alike (Obey (command.Edit edit)) r p q d e no_more h silent = absurd no_more
left_alike (Obey command.Settle) r p q d e no_more h silent = absurd no_more
left_alike (Obey (command.Show id)) r p q d e no_more h silent = absurd no_more
left_alike (Obey command.Poll) r p q d e no_more h silent = absurd no_more
left_alike (Obey command.Quit) r p q d e no_more h silent = absurd no_more
left_alike (Take format bytes) r p q d e no_more h silent = absurd no_more

pub shows_the_same : ShowsTheSame
shows_the_same one old new no_more at =
    left_alike one.0 at.reply old.post new.post old.desk new.desk no_more at.left.by at.left.silent

-- what was computed before is entered for marks, and no text
entered_text : (d e : BookState) (id : ℕ) → EntersSteps d e → row_of e (View id) ≡ row_of d (View id)
entered_text d e id =
    recalls_all (λ a b. row_of b (View id) ≡ row_of a (View id))
    (λ a b same. ap (λ (x : BookState). row_of x (View id)) same)
    (λ mark s a b c h k. k ∙ h.puts.rows (View id)) d e

revised_kept : (asked : Asked) (d e : BookState) → Revises asked d e → ShowsKept asked d e
revised_kept asked d e h =
    let plan : e.plan ≡ h.kept.plan = (recalls_book h.kept e h.recalls).document.plan in
    record {
      felt = h.keeps.felt;
      is = subst (λ (p : Plan). IsFelt (arrival_known d) d.plan asked p h.keeps.felt) (sym plan) h.keeps.is;
      texts = λ id. subst (λ (p : Plan). text_known e id
          ≡ known (text_kept p.branches h.keeps.felt asked (bookmark_in d.plan.bookmarks id) (text_row d id))) (sym plan)
          (texts_known h.kept e id (ap text_in (entered_text h.kept e id h.recalls)) ∙ ap known (h.keeps.keeps.texts id));
    }

edit_kept : (asked : Asked) (d e : BookState) → RevisedOrSame asked d e
    → (picture_of e ≡ picture_of d) ⊎ ShowsKept asked d e
edit_kept asked d e (inl same) = inl (ap picture_of same)
edit_kept asked d e (inr made) = inr (revised_kept asked d e made.makes.revises)

pub shows_kept : ShowsWhatIsKept
shows_kept edit after old new at = edit_kept (asked_of edit) old.desk new.desk at.left.by
