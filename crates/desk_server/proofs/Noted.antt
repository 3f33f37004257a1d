-- What is noted of one part of a run after the other.
use Rattle.desk_server.proofs.Names.{After, Answered, Ask, AsksForAnswers, BookState, Command, Draws, Format, HasToCompute, IsReadAs, IsRefused, JobResult, List, Moment, NotesEach, Obey, PostView, PublishedOrCounted, Reply, Request}
use Rattle.desk_server.proofs.Names.{AnswersAtDesks, AnswersAtEach, AnswersOver, Bool, IsOpened, LeavesDesk, ScriptFault, KeptText, Standing, standing, WatchesNext, WatchesReply, [], ap, append-nil, arith, but_bye, cond, ends, false}
use Rattle.desk_server.proofs.Names.{moment, refl}
use Rattle.desk_server.proofs.Names.{reply_text, subst, sym, true, ℕ, ◌++◌, ◌∙◌, ◌∷◌, ◌≡◌}
use Rattle.desk_core.specs.Looks.{LooksOn}
use Rattle.desk_script.specs.declared.request.Request.TheVariants as request
use Rattle.desk_server.proofs.Jobs.{opened_right}

-- what is left after a reply
abbrev pub after_of : BookState → Reply → After
after_of k r = record { told = reply_text k r; plan = k.plan; ends = ends r }

-- no answer was taken
pub draws_none : (ask : Ask) (d : BookState) (p q : PostView) → q.answers ≡ p.answers → Draws ask d p q
draws_none ask d p q same = record { later = []; gave = same ∙ sym (append-nil p.answers); none = λ _. refl }

-- where answers are taken, any may be
pub draws_more : (ask : Ask) (d : BookState) (p q : PostView) (later : List JobResult) → AsksForAnswers ask d
    → q.answers ≡ p.answers ++ later → Draws ask d p q
draws_more ask d p q later takes gave = grind (arith)

at_each_then : (a b c : Standing) (xs ys : List Answered) → AnswersAtEach a b xs → AnswersAtEach b c ys
    → AnswersAtEach a c (xs ++ ys)
at_each_then a b c [] ys f g = subst (λ d. AnswersAtEach d c ys) f g
at_each_then a b c (x ∷ xs) ys f g = (f.0, f.1, at_each_then f.0 b c xs ys f.2 g)

-- the answer with this reply alone, or none where that ends the script
pub at_one : (a b : Standing) (ask : Ask) (r : Reply) → LeavesDesk ask r a.post b.post a.desk b.desk
    → (last : Standing) × AnswersAtEach a last (but_bye ((ask, after_of b.desk r) ∷ []))
at_one a b ask r left = by (ends r) refl
  where
    by : (v : Bool) → ends r ≡ v → (last : Standing) × AnswersAtEach a last (but_bye ((ask, after_of b.desk r) ∷ []))
    by true e = (a, subst (λ v. AnswersAtEach a a (cond v [] ((ask, after_of b.desk r) ∷ []) ++ [])) (sym e) refl)
    by false e = (
      b,
      subst (λ v. AnswersAtEach a b (cond v [] ((ask, after_of b.desk r) ∷ []) ++ [])) (sym e)
          (b, record { reply = r; gives = refl; left = left }, refl),
    )

module _ {V : Type 0} (notes : V → BookState → V → Type 0) where
  pub notes_join : (a b c : Moment V) (xs ys : List Answered) → NotesEach notes a b xs → NotesEach notes b c ys
      → NotesEach notes a c (xs ++ ys)
  notes_join a b c [] ys f g = subst (λ v. NotesEach notes v c ys) f g
  notes_join a b c (x ∷ xs) ys f g = (f.0, f.1, notes_join f.0 b c xs ys f.2 g)

  pub notes_none : (a : Moment V) → NotesEach notes a a []
  notes_none a = refl

  -- nothing changed
  pub notes_same : (m : ℕ) (p q : PostView) (d : BookState) (a b : V) → q ≡ p → b ≡ a
      → NotesEach notes (moment m p d a) (moment m q d b) []
  notes_same m p q d a b post same = grind (arith)

  -- nobody looked
  pub unwatched : (ask : Ask) (r : Reply) (p q : PostView) (d e : BookState) (a : V) → Draws ask d p q
      → (HasToCompute ask d → IsRefused r) → (ends r ≡ true → q ≡ p) → WatchesReply notes ask r p q d e a a
  unwatched ask r p q d e a post refused still = grind (arith)

  -- a settling was looked at
  pub watched : (ask : Ask) (r : Reply) (p q : PostView) (d e : BookState) (a b : V) → Draws ask d p q
      → HasToCompute ask d → e.plan ≡ d.plan → LooksOn notes p q d a b → ends r ≡ false
      → WatchesReply notes ask r p q d e a b
  watched ask r p q d e a b post computes same on goes_on = grind (arith)

  -- what a request asks
  pub looked_obeyed : (asked : Request) (command : Command) (r : Reply) (p q : PostView) (d e : BookState) (a b : V)
      → asked ≡ request.Obey command → WatchesReply notes (Obey command) r p q d e a b
      → (ask : Ask) → IsReadAs asked ask → WatchesReply notes ask r p q d e a b
  looked_obeyed asked command r p q d e a b is looked ask asks = grind (arith)

  pub looked_taken : (asked : Request) (format : Format) (text : KeptText) (r : Reply) (p : PostView) (d e : BookState)
      (a : V) → asked ≡ request.Take format text
      → (ask : Ask) → IsReadAs asked ask → WatchesReply notes ask r p p d e a a
  looked_taken asked format text r p d e a is ask asks = grind (arith, draws_none, unwatched)

  pub looked_refused : (asked : Request) (fault : ScriptFault) (r : Reply) (p : PostView) (d e : BookState) (a : V)
      → asked ≡ request.Refuse fault
      → (ask : Ask) → IsReadAs asked ask → WatchesReply notes ask r p p d e a a
  looked_refused asked fault r p d e a is ask asks = grind (arith, draws_none, unwatched)

  pub looked_none : (r : Reply) (p : PostView) (d e : BookState) (a : V) (asked : Request) → IsRefused r
      → (ask : Ask) → IsReadAs asked ask → WatchesReply notes ask r p p d e a a
  looked_none r p d e a asked refused ask asks = grind (arith, draws_none, unwatched)

  pub unwatched_next : (a : Moment V) (later : List Answered) → WatchesNext notes a later a.post a.seen
  unwatched_next a later = grind (arith)

  pub notes_one : (a b : Moment V) (w : V) (ask : Ask) (r : Reply)
      → WatchesReply notes ask r a.post b.post a.desk b.desk a.seen w → LeavesDesk ask r a.post b.post a.desk b.desk
      → PublishedOrCounted notes a.missed b.missed w b.desk b.seen → NotesEach notes a b ((ask, after_of b.desk r) ∷ [])
  notes_one a b w ask r before left noted = (
    b,
    record { reply = r; gives = refl; left = left; watched = w; before = before; noted = noted },
    refl,
  )

  -- whatever was noted, the answers were given at the desks that their commands left
  abbrev there : Moment V → Standing
  there m = standing m.post m.desk

  at_each : (a b : Moment V) (xs : List Answered) → NotesEach notes a b xs → AnswersAtEach (there a) (there b) xs
  at_each a b [] same = ap there same
  at_each a b (x ∷ xs) noted =
      let one = noted.1 in (
        there noted.0,
        record { reply = one.reply; gives = one.gives; left = one.left },
        at_each noted.0 b xs noted.2,
      )

  pub at_over : (a b : Moment V) → IsOpened a.desk → (xs : List Answered) → NotesEach notes a b xs
      → AnswersOver a.post b.post xs
  at_over a b opens xs noted = record {
    first = a.desk;
    opens = opens;
    right = opened_right a.desk opens;
    last = b.desk;
    each = at_each a b xs noted;
  }

  pub at_desks : (a b : Moment V) → IsOpened a.desk → (xs : List Answered) → NotesEach notes a b xs
      → AnswersAtDesks a.post.is_prompt xs
  at_desks a b opens xs noted =
      record { before = a.post; after = b.post; kind = refl; over = at_over a b opens xs noted }

  -- and so was one more, which wasn't noted
  pub at_desks_then : (a b : Moment V) (k : Standing) → IsOpened a.desk → (ps qs : List Answered)
      → NotesEach notes a b ps → AnswersAtEach (standing b.post b.desk) k qs → AnswersAtDesks a.post.is_prompt (ps ++ qs)
  at_desks_then a b k opens ps qs noted then = record {
    before = a.post;
    after = k.post;
    kind = refl;
    over = record {
      first = a.desk;
      opens = opens;
      right = opened_right a.desk opens;
      last = k.desk;
      each = at_each_then (there a) (there b) k ps qs (at_each a b ps noted) then;
    };
  }
