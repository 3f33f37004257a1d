-- One command after another.
use Rattle.desk_server.proofs.Names.{After, AllCausedOver, Answered, Answers, AnswersAll, AnswersAllOver, AnswersAtDesks, AnswersFront, AnswersRequest, AnswersWhole, Appends, AppendsFront, Ask, AsksIfAny, Between, BookState, Bool}
use Rattle.desk_server.proofs.Names.{BreaksOff, Completes, Consumes, Finishes}
use Rattle.desk_server.proofs.Names.{GivesAnswer, Hears, IfSome, IsAtEnd, IsCaused, KeepsText, List, Moment, None, NotesEach, NotesFront, NotesReplies, NotesRun, NotesScript, Ok, Option, PostView, Reply, Request, Result, Served}
use Rattle.desk_server.proofs.Names.{Session, Shortage, Some}
use Rattle.desk_server.proofs.Names.{IsOpened, LeavesDesk, StopsTelling, WatchesNext, WatchesReply, Works, [], afters, answer, answered, answered_by, answered_with, ap, append-nil, append_assoc, arith, asks, but_bye, cond, ends, false}
use Rattle.desk_server.proofs.Names.{first_shortage}
use Rattle.desk_server.proofs.Names.{front_then, inr, later_shortages, moment, opening_session, refl, replies_to, replies_with, reply_text, rule_text_after, session, session_after, subst, sym, texts_of, told_to, true, unless_bye}
use Rattle.desk_server.proofs.Names.{zip, ℕ, ◌++◌, ◌∙◌, ◌∷◌, ◌≡◌, ◌≢◌}
use Rattle.basics.proofs.Shared.Lists.{all_append}
use Rattle.std.proofs.lemmas.List.Concat.{flat_map-append}
use Rattle.std.proofs.KnownBytes.{Appends-nil, Appends-trans, Consumes-nil}
use Rattle.script_lines.specs.Ahead.{Ahead, TakesBytes, LineReading}
use Rattle.script_lines.specs.Counted.{CountedWriting}
use Rattle.script_lines.proofs.Shared.Ahead.{takes_none, takes_then}
use Rattle.text_lines.specs.Lines.{End, Ended, Broken, lines_until}
use Rattle.script_lines.specs.Script.{MayFollow}
use Rattle.desk_script.proofs.Shared.Asks.{follows-any}
use Rattle.desk_server.specs.declared.reply.Reply.TheVariants as reply
use Rattle.desk_server.proofs.Noted.{after_of, at_desks, at_over, unwatched_next}

-- no failure was counted, and then none
pub works_then : {R W : Type 0} (r s t : LineReading R) (w x y : CountedWriting W) → Works r s w x → Works s t x y
    → Works r t w y
works_then r s t w x y f g = grind (arith)

-- where each of two lists has causes, both together do
pub ends-other : (r : Reply) → r ≢ reply.Bye → ends r ≡ false
ends-other r h = grind (arith)

pub bye-ends : (r : Reply) → ends r ≡ true → r ≡ reply.Bye
bye-ends r h = grind (arith)

pub goes-on : (r : Reply) → ends r ≡ false → r ≢ reply.Bye
goes-on r h e = grind (arith)

-- nothing is left of what is at its end
at_end_nil : (new : Option (List ℕ)) (rest : List ℕ) → IsAtEnd new → new ≡ Some rest → rest ≡ []
at_end_nil new rest h e = grind (arith)

follows_nothing : (last : Bool) (new : Option (List ℕ)) (rest : List ℕ) → (last ≡ true → IsAtEnd new) → new ≡ Some rest
    → MayFollow last Ended rest
follows_nothing last new rest h e = grind (arith, at_end_nil)

-- one that was answered, with what is left after its reply
abbrev pub one_of : Ask → BookState → Reply → Answered
one_of ask k r = (ask, after_of k r)

zip_none : {K X : Type 0} (ks : List K) → zip {K = K} {X = X} ks [] ≡ []
zip_none [] = refl
zip_none (k ∷ ks) = refl

-- the answer to one command, and those to the rest
after_is : (short : Shortage) (s : Session) (ask : Ask) (r : Reply) (k : BookState) (t : Option (List ℕ))
    → GivesAnswer (answer short s ask) r k → t ≡ rule_text_after s ask k.plan → (rest : List Ask) (later : List Shortage)
    → answered s (ask ∷ rest) (short ∷ later) ≡ one_of ask k r ∷ cond (ends r) [] (answered (session k t) rest later)
after_is short s ask r k t e kept rest later = grind (arith, zip_none)

-- of two lists of answers, the texts and those but `bye`
texts-append : (xs ys : List Answered) → told_to (xs ++ ys) ≡ told_to xs ++ told_to ys
texts-append = flat_map-append (λ (one : Answered). one.1.told)

but_bye-append : (xs ys : List Answered) → but_bye (xs ++ ys) ≡ but_bye xs ++ but_bye ys
but_bye-append = flat_map-append unless_bye

-- the replies are those to each that was answered
told_unless : (b : Bool) (asked : List Ask) (given : List After) → texts_of given ≡ told_to (zip asked given)
    → texts_of (cond b [] given) ≡ told_to (zip asked (cond b [] given))
told_unless b asked given same = grind (arith, zip_none)

replies_told : (p : Session) (asked : List Ask) (shortages : List Shortage)
    → replies_to p asked shortages ≡ told_to (answered p asked shortages)
replies_told p [] shortages = refl
replies_told p (ask ∷ rest) shortages =
    let after : After = answer (first_shortage shortages) p ask in
    let next = session_after p ask after.plan in
    let later = afters next rest (later_shortages shortages) in
    ap (λ v. after.told ++ v) (told_unless after.ends rest later (replies_told next rest (later_shortages shortages)))

-- one answer alone
-- nothing was asked
module _ (noted : List Answered → Type 0) (prompt : Bool) (old new : Ahead) (told : Option (List ℕ))
    (heard : Option Request) (last : Bool) (k : Session) (n m : ℕ) (notes : noted []) (none : heard ≡ None)
    (h : Hears old new Between heard last n m) where
  silent : (stop : End) (more : List ℕ) → MayFollow last stop more
      → asks stop Between n (lines_until stop (h.bytes ++ more)) ≡ asks stop Between m (lines_until stop more)
  silent stop more f = grind (arith, h.law)

  pub goes_on_silent : last ≡ false → Answers noted prompt old new told told k k n m
  goes_on_silent e = record {
    bytes = h.bytes;
    shortages = [];
    caused = λ _. tt;
    given = [];
    taken = h.taken;
    wrote = Appends-nil told;
    notes = notes;
    law = λ stop more later. ap (λ v. answered k v later) (silent stop more (follows-any last stop more e));
  }

  pub done_silent : last ≡ true → Finishes noted prompt old new told told k n
  done_silent e = record {
    bytes = h.bytes;
    shortages = [];
    caused = λ _. tt;
    taken = h.taken;
    given = [];
    wrote = Appends-nil told;
    notes = notes;
    law = λ rest x. ap (λ v. answered k v []) (silent Ended rest
        (follows_nothing last new.bytes rest h.at_end x)
        ∙ ap (λ v. asks Ended Between m (lines_until Ended v)) (at_end_nil new.bytes rest (h.at_end e) x));
  }

-- one thing was asked, and the reply to it found
pub served : (prompt : Bool) (heard : Option Request) (request : Request) (asked : List Ask) (j : Session)
    (k : BookState) (t : Option (List ℕ)) (r : Reply) → heard ≡ Some request → AsksIfAny heard asked
    → AnswersRequest prompt request r j k → KeepsText request j k t → Served prompt request r asked j k t
served prompt heard request asked j k t r e is gives keeps = grind (arith)

module _ (prompt : Bool) (old new : Ahead) (heard : Option Request) (last : Bool) (j : Session)
    (k : BookState) (t : Option (List ℕ)) (n m : ℕ) (q : Request) (r : Reply)
    (h : Hears old new Between heard last n m) (s : Served prompt q r h.asked j k t) where
  -- what is answered behind this reply, unless it ends the script
  abbrev behind : End → List ℕ → List Shortage → List Answered
  behind stop more later = answered (session k t) (asks stop Between m (lines_until stop more)) later

  -- the answers from here on
  afters_from : (stop : End) (more : List ℕ) (later : List Shortage) → MayFollow last stop more
      → answered j (asks stop Between n (lines_until stop (h.bytes ++ more))) (s.2.0 ∷ later)
      ≡ one_of s.0 k r ∷ cond (ends r) [] (behind stop more later)
  afters_from stop more later f = grind (arith, after_is, h.law)

  pub goes_on_told : (noted : List Answered → Type 0) (before after : Option (List ℕ)) → last ≡ false
      → r ≢ reply.Bye → noted (one_of s.0 k r ∷ []) → Appends before after (reply_text k r)
      → Answers noted prompt old new before after j (session k t) n m
  goes_on_told noted before after e b notes w = record {
    bytes = h.bytes;
    shortages = s.2.0 ∷ [];
    caused = λ e. (s.2.1 e, tt);
    given = one_of s.0 k r ∷ [];
    taken = h.taken;
    wrote = grind (arith, append-nil, w);
    notes = grind (arith, ends-other);
    law = λ stop more later. afters_from stop more later (follows-any last stop more e)
        ∙ ap (λ v. one_of s.0 k r ∷ cond v [] (behind stop more later)) (ends-other r b);
  }

  -- the last answer, behind which no command is answered
  done_told : (noted : List Answered → Type 0) (before after : Option (List ℕ))
      → noted (but_bye (one_of s.0 k r ∷ [])) → Appends before after (reply_text k r)
      → ((rest : List ℕ) → new.bytes ≡ Some rest
      → one_of s.0 k r ∷ cond (ends r) [] (behind Ended rest []) ≡ one_of s.0 k r ∷ [])
      → Finishes noted prompt old new before after j n
  done_told noted before after notes w ended = record {
    bytes = h.bytes;
    shortages = s.2.0 ∷ [];
    caused = λ e. (s.2.1 e, tt);
    taken = h.taken;
    given = one_of s.0 k r ∷ [];
    wrote = grind (arith, append-nil, w);
    notes = notes;
    law = λ rest x. afters_from Ended rest [] (follows_nothing last new.bytes rest h.at_end x) ∙ ended rest x;
  }

  pub done_last : (noted : List Answered → Type 0) (before after : Option (List ℕ)) → r ≢ reply.Bye
      → last ≡ true → noted (one_of s.0 k r ∷ []) → Appends before after (reply_text k r)
      → Finishes noted prompt old new before after j n
  done_last noted before after b e notes w = done_told noted before after (grind (arith, ends-other)) w
      (λ rest x. ap (λ v. one_of s.0 k r ∷ cond (ends r) [] (behind Ended v []))
      (at_end_nil new.bytes rest (h.at_end e) x) ∙ grind (arith))

  pub done_bye : (noted : List Answered → Type 0) (before after : Option (List ℕ)) → noted [] → r ≡ reply.Bye
      → Appends before after (reply_text k r) → Finishes noted prompt old new before after j n
  done_bye noted before after notes b w = done_told noted before after (grind (arith)) w
      (λ rest _. ap (λ v. one_of s.0 k r ∷ cond (ends v) [] (behind Ended rest [])) b)

  pub stops_telling : (noted : List Answered → Type 0) (before after : Option (List ℕ))
      → noted (but_bye (one_of s.0 k r ∷ [])) → AppendsFront before after (reply_text k r)
      → StopsTelling noted prompt old new before after j n
  stops_telling noted before after notes w = record {
    bytes = h.bytes;
    shortages = s.2.0 ∷ [];
    caused = λ e. (s.2.1 e, tt);
    taken = h.taken;
    given = one_of s.0 k r ∷ [];
    wrote = subst (AppendsFront before after) (sym (append-nil (reply_text k r))) w;
    notes = notes;
    law = λ rest x. (
      cond (ends r) [] (behind Ended rest []),
      afters_from Ended rest [] (follows_nothing last new.bytes rest h.at_end x),
    );
  }

notes_both : (first next both : List Answered → Type 0) → ((ps qs : List Answered) → first ps → next qs → both (ps ++ qs))
    → (xs ys : List Answered) → first (but_bye xs) → next (but_bye ys) → both (but_bye (xs ++ ys))
notes_both first next both join xs ys f g = grind (arith, but_bye-append)

-- what was answered, and then what was answered next
module _ (first : List Answered → Type 0) (prompt : Bool) (a b c : Ahead) (x y z : Option (List ℕ))
    (p q : Session) (n m : ℕ) (f : Answers first prompt a b x y p q n m) where
  -- the answers to more bytes, for more shortages
  end_on : (bytes : List ℕ) (shortages : List Shortage) (stop : End) (more : List ℕ)
      → answered p (asks stop Between n (lines_until stop ((f.bytes ++ bytes) ++ more)))
      (f.shortages ++ shortages)
      ≡ f.given ++ answered q (asks stop Between m (lines_until stop (bytes ++ more))) shortages
  end_on bytes shortages stop more = grind (arith, append_assoc, f.law)

  pub answers_answers : (next both : List Answered → Type 0) (s : Session) (k : ℕ)
      → ((ps qs : List Answered) → first ps → next qs → both (ps ++ qs))
      → Answers next prompt b c y z q s m k → Answers both prompt a c x z p s n k
  answers_answers next both s k join g = record {
    bytes = f.bytes ++ g.bytes;
    shortages = f.shortages ++ g.shortages;
    caused = λ e. all_append IsCaused f.shortages g.shortages (f.caused e) (g.caused e);
    given = f.given ++ g.given;
    taken = takes_then a b c f.bytes g.bytes f.taken g.taken;
    wrote = grind (arith, Appends-trans, texts-append, f.wrote, g.wrote);
    notes = notes_both first next both join f.given g.given f.notes g.notes;
    law = λ stop more later. grind (arith, append_assoc, f.law, g.law);
  }

  pub answers_finishes : (next both : List Answered → Type 0)
      → ((ps qs : List Answered) → first ps → next qs → both (ps ++ qs))
      → Finishes next prompt b c y z q m → Finishes both prompt a c x z p n
  answers_finishes next both join g = record {
    bytes = f.bytes ++ g.bytes;
    shortages = f.shortages ++ g.shortages;
    caused = λ e. all_append IsCaused f.shortages g.shortages (f.caused e) (g.caused e);
    taken = takes_then a b c f.bytes g.bytes f.taken g.taken;
    given = f.given ++ g.given;
    wrote = grind (arith, Appends-trans, texts-append, f.wrote, g.wrote);
    notes = notes_both first next both join f.given g.given f.notes g.notes;
    law = λ rest e. end_on g.bytes g.shortages Ended rest ∙ ap (λ v. f.given ++ v) (g.law rest e);
  }

  pub answers_stops : (next both : List Answered → Type 0)
      → ((ps qs : List Answered) → first ps → next qs → both (ps ++ qs))
      → StopsTelling next prompt b c y z q m → StopsTelling both prompt a c x z p n
  answers_stops next both join g = record {
    bytes = f.bytes ++ g.bytes;
    shortages = f.shortages ++ g.shortages;
    caused = λ e. all_append IsCaused f.shortages g.shortages (f.caused e) (g.caused e);
    taken = takes_then a b c f.bytes g.bytes f.taken g.taken;
    given = f.given ++ g.given;
    wrote = subst (AppendsFront x z) (sym (texts-append f.given g.given))
        (front_then x y z (told_to f.given) (told_to g.given) f.wrote g.wrote);
    notes = notes_both first next both join f.given g.given f.notes g.notes;
    law = λ rest e. (
      (g.law rest e).0,
      end_on g.bytes g.shortages Ended rest ∙ ap (λ v. f.given ++ v) (g.law rest e).1
          ∙ sym (append_assoc f.given g.given (g.law rest e).0),
    );
  }

pub answers_breaks : (noted : List Answered → Type 0) (prompt : Bool) (a b c : Ahead) (x y : Option (List ℕ)) (q : Session)
    (m : ℕ) → ((xs : List Answered) → noted xs → AnswersAtDesks prompt xs) → Answers noted prompt a b x y opening_session q 1 m
    → BreaksOff b c Between m → AnswersWhole prompt a c x y
answers_breaks noted prompt a b c x y q m at f g =
    let given : answered_by Broken (f.bytes ++ g.bytes) (f.shortages ++ []) ≡ f.given =
    f.law Broken g.bytes [] ∙ ap (λ v. f.given ++ answered q v []) g.law ∙ append-nil f.given in
    record {
      read = f.bytes ++ g.bytes;
      shortages = f.shortages ++ [];
      caused = λ e. all_append IsCaused f.shortages [] (f.caused e) tt;
      taken = takes_then a b c f.bytes g.bytes f.taken g.taken;
      wrote = subst (Appends x y) (sym (replies_told opening_session
          (asks Broken Between 1 (lines_until Broken (f.bytes ++ g.bytes))) (f.shortages ++ []) ∙ ap told_to given)) f.wrote;
      desks = subst (λ v. AnswersAtDesks prompt (but_bye v)) (sym given) (at (but_bye f.given) f.notes);
    }

-- at the beginning
pub answers_none : (noted : List Answered → Type 0) (prompt : Bool) (a b : Ahead) (x : Option (List ℕ)) (p q : Session) (n : ℕ)
    → noted [] → b ≡ a → q ≡ p → Answers noted prompt a b x x p q n n
answers_none noted prompt a b x p q n notes e same = record {
  bytes = [];
  shortages = [];
  caused = λ _. tt;
  given = [];
  taken = subst (λ o. TakesBytes a o []) (sym e) (takes_none a);
  wrote = Appends-nil x;
  notes = notes;
  law = λ stop more later. ap (λ r. answered r (asks stop Between n (lines_until stop more)) later) (sym same);
}

pub opens : (d : BookState) (t : Option (List ℕ)) → IsOpened d → t ≡ None → session d t ≡ opening_session
opens d t opened none = ap (session d) none ∙ ap (λ (k : BookState). session k None) opened

-- so are the replies to a script
told_script : (x z : Option (List ℕ)) (script : List ℕ) (shortages : List Shortage)
    → Appends x z (told_to (answered_with script shortages)) → Appends x z (replies_with script shortages)
told_script x z script shortages wrote = grind (arith, replies_told)

-- what holds of all that was read and of what is left holds of the script
if_read : (P : List ℕ → Type 0) (a c : Option (List ℕ)) (bytes : List ℕ) → Consumes a c bytes
    → ((rest : List ℕ) → c ≡ Some rest → P (bytes ++ rest)) → IfSome a P
if_read P None c bytes taken law = tt
if_read P (Some script) None bytes taken law = absurd taken
if_read P (Some script) (Some rest) bytes taken law = subst P (sym taken) (law rest refl)

-- at the end its run completes, and what was noted of it is known
pub completed : {R W V : Type 0} (notes : V → BookState → V → Type 0) (missed : ℕ) (p q : PostView)
    (first last : BookState) (old new : V) (r s : LineReading R) (w x : CountedWriting W) → IsOpened first
    → Finishes (NotesEach notes (moment 0 p first old) (moment missed q last new)) p.is_prompt r.ahead s.ahead w.contents
    x.contents opening_session 1
    → Works r s w x → Completes p.is_prompt r s w x × NotesReplies notes missed p q r w x old new
completed notes missed p q first last old new r s w x opens f works =
    let wrote = λ (rest : List ℕ) (e : s.ahead.bytes ≡ Some rest).
    told_script w.contents x.contents (f.bytes ++ rest) f.shortages
    (subst (λ v. Appends w.contents x.contents (told_to v)) (sym (f.law rest e)) f.wrote) in (
      record {
        answered = if_read (AnswersAll p.is_prompt w.contents x.contents) r.ahead.bytes s.ahead.bytes f.bytes
            f.taken.consumed (λ rest e. record {
              shortages = f.shortages;
              caused = f.caused;
              wrote = wrote rest e;
              desks = subst (λ v. AnswersAtDesks p.is_prompt (but_bye v)) (sym (f.law rest e))
                  (at_desks notes (moment 0 p first old) (moment missed q last new) opens (but_bye f.given) f.notes);
            });
        works = works;
      },
      if_read (NotesScript notes missed p q w.contents x.contents old new) r.ahead.bytes s.ahead.bytes f.bytes
          f.taken.consumed (λ rest e. record {
            shortages = f.shortages;
            caused = f.caused;
            wrote = wrote rest e;
            first = first;
            opens = opens;
            last = last;
            noted = subst (λ v. NotesEach notes (moment 0 p first old) (moment missed q last new) (but_bye v))
                (sym (f.law rest e)) f.notes;
          }),
    )

pub stops_front : (prompt : Bool) (a c : Ahead) (x z : Option (List ℕ))
    → StopsTelling (AnswersAtDesks prompt) prompt a c x z opening_session 1 → IfSome a.bytes (AnswersFront prompt x z)
stops_front prompt a c x z f = if_read (AnswersFront prompt x z) a.bytes c.bytes f.bytes f.taken.consumed
    (λ rest e.
    let so = f.law rest e in record {
      shortages = f.shortages;
      caused = f.caused;
      given = f.given;
      later = so.0;
      front = so.1;
      wrote = f.wrote;
      desks = f.notes;
    })

-- where it stops before the end
front_noted : {V : Type 0} (notes : V → BookState → V → Type 0) (p q : PostView) (first : BookState) (old new : V)
    (last : Moment V) (a c : Option (List ℕ)) (bytes : List ℕ) (given : List Answered) (shortages : List Shortage)
    → IsOpened first → AllCausedOver p.is_prompt shortages → Consumes a c bytes
    → NotesEach notes (moment 0 p first old) last (but_bye given)
    → ((rest : List ℕ) → c ≡ Some rest
    → (later : List Answered) × (answered_with (bytes ++ rest) shortages ≡ given ++ later)
    × WatchesNext notes last later q new)
    → IfSome a (NotesFront notes p q old new)
front_noted notes p q first old new last a c bytes given shortages opens caused taken noted law =
    if_read (NotesFront notes p q old new) a c bytes taken (λ rest e.
    let so = law rest e in record {
      shortages = shortages;
      caused = caused;
      given = given;
      later = so.0;
      front = so.1;
      first = first;
      opens = opens;
      last = last;
      noted = noted;
      unanswered = so.2;
    })

pub begun : {V : Type 0} (notes : V → BookState → V → Type 0) (p : PostView) (first : BookState) (old : V)
    (last : Moment V) (a c : Ahead) (x y : Option (List ℕ)) (j : Session) (m : ℕ) → IsOpened first
    → Answers (NotesEach notes (moment 0 p first old) last) p.is_prompt a c x y opening_session j 1 m
    → IfSome a.bytes (NotesFront notes p last.post old last.seen)
begun notes p first old last a c x y j m opens f =
    front_noted notes p last.post first old last.seen last a.bytes c.bytes f.bytes f.given (f.shortages ++ []) opens
    (λ e. all_append IsCaused f.shortages [] (f.caused e) tt) f.taken.consumed f.notes
    (λ rest _. let later = answered j (asks Ended Between m (lines_until Ended rest)) [] in
    (later, f.law Ended rest [], unwatched_next notes last later))

-- and the next reply wasn't written, while whose answer was computed desks were looked at
pub begun_watched : {V : Type 0} (notes : V → BookState → V → Type 0) (p q : PostView) (first k : BookState) (old new : V)
    (last : Moment V) (a b c : Ahead) (x y : Option (List ℕ)) (heard : Option Request) (is_last : Bool) (n m : ℕ)
    (request : Request) (r : Reply) (j : Session) (t : Option (List ℕ)) → IsOpened first
    → Answers (NotesEach notes (moment 0 p first old) last) p.is_prompt a b x y opening_session j 1 n
    → (h : Hears b c Between heard is_last n m) → (s : Served p.is_prompt request r h.asked j k t)
    → LeavesDesk s.0 r last.post q last.desk k
    → WatchesReply notes s.0 r last.post q last.desk k last.seen new → IfSome a.bytes (NotesFront notes p q old new)
begun_watched notes p q first k old new last a b c x y heard is_last n m request r j t opens f h s left watched =
    front_noted notes p q first old new last a.bytes c.bytes (f.bytes ++ h.bytes) f.given (f.shortages ++ s.2.0 ∷ []) opens
    (λ e. all_append IsCaused f.shortages (s.2.0 ∷ []) (f.caused e) (s.2.1 e, tt))
    (takes_then a b c f.bytes h.bytes f.taken h.taken).consumed f.notes
    (λ rest e. (
      one_of s.0 k r ∷ cond (ends r) [] (answered (session k t) (asks Ended Between m (lines_until Ended rest)) []),
      ap (λ v. answered opening_session (asks Ended Between 1 (lines_until Ended v)) (f.shortages ++ s.2.0 ∷ []))
          (append_assoc f.bytes h.bytes rest)
          ∙ f.law Ended (h.bytes ++ rest) (s.2.0 ∷ [])
          ∙ ap (λ v. f.given ++ v) (afters_from p.is_prompt b c heard is_last j k t n m request r h s Ended rest []
          (follows_nothing is_last c.bytes rest h.at_end e)),
      inr (record { reply = r; desk = k; gives = refl; left = left; watched = watched }),
    ))

-- where nothing was read
pub none_begun : {V : Type 0} (notes : V → BookState → V → Type 0) (p : PostView) (first : BookState) (v : V)
    (bytes : Option (List ℕ)) → IsOpened first → IfSome bytes (NotesFront notes p p v v)
none_begun notes p first v bytes opens = front_noted notes p p first v v (moment 0 p first v) bytes bytes []
    [] []
    opens (λ _. tt) (Consumes-nil bytes) refl
    (λ rest e. (
      answered_with rest [],
      refl,
      unwatched_next notes (moment 0 p first v)
          (answered_with rest []),
    ))

-- a script that was answered to its end was so over its post
pub answered_over : {R W V E : Type 0} (notes : V → BookState → V → Type 0) (result : Result ℕ E) (missed : ℕ)
    (p q : PostView) (r : LineReading R) (w x : CountedWriting W) (old new : V) → result ≡ Ok missed
    → NotesRun notes result p q r w x old new → IfSome r.ahead.bytes (AnswersAllOver p q w.contents x.contents)
answered_over notes result missed p q r w x old new is noted =
    over r.ahead.bytes (subst (λ o. NotesRun notes o p q r w x old new) is noted)
  where
    over : (bytes : Option (List ℕ)) → IfSome bytes (NotesScript notes missed p q w.contents x.contents old new)
        → IfSome bytes (AnswersAllOver p q w.contents x.contents)
    over None h = tt
    over (Some script) h = record {
      shortages = h.shortages;
      caused = h.caused;
      wrote = h.wrote;
      desks = at_over notes (moment 0 p h.first old) (moment missed q h.last new) h.opens
          (but_bye (answered_with script h.shortages)) h.noted;
    }
