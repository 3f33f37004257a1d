-- What the desk's answers are by the definition of the replies.
use Rattle.desk_server.proofs.Names.{After, AnswersRequest, Ask, Asked, BookState, Bookmark, Bool, CanLackMemory, Cause, Changed, Command, Current, EditFault, Edited, Err, Fault, Format, GivesAnswer, GivesAnswerBy, IfNone, IfSome}
use Rattle.desk_server.proofs.Names.{IsReadAs, IsShortOf, IsSome, KeepsTaken, KeepsText, Known, List, MayWant, Memory, NoMemory, NoShortage, NoSuch, None, Option, Pending, Plan, PollsBy, PostView, Refuse, Reply, Request, Result}
use Rattle.desk_server.proofs.Names.{ScriptFault, Session, Shortage, Some, Still, TakesBytes, TakesText, KeptText, Unread, Unsettled, accepted, answer, answer_to_text, ap, arith, changed, cond, edited_as, ends, false, inl, inr}
use Rattle.desk_server.proofs.Names.{kept_text, length}
use Rattle.desk_server.proofs.Names.{nat_tests, no_memory, not, of_edit, of_script, only, pending_of, pending_text, polled, refusal, refused, refused_text, reply_text, session, settled, shown_id, shown_text, subst, taken, text_known, true}
use Rattle.desk_server.proofs.Names.{unless_fault, unless_memory, unless_refused, unless_unread, ℕ, ◌==◌, ◌∙◌, ◌≡◌, ◌≢◌, ◌≤◌, ◌⊎◌}
use Rattle.desk_server.proofs.Names.{Ok, ReplaceRule, edited, of_macrocell, of_pattern, of_rule, refl, started, sym}
use Rattle.desk_server.specs.Answer.{shown as shown_by}
use Rattle.std.specs.Prelude.{IsOk}
use Rattle.basics.specs.Results.{◌>>=◌}
use Rattle.rule_file.proofs.Shared.Readings.{then-ok}
use Rattle.rule_file.specs.RuleFile.{file_of}
use Rattle.rule_tree.specs.declared.rule.Rule.{Rule as FileRule}
use Rattle.rule_tree.specs.Rule.{kind_of, rule_of}
use Rattle.plane_core.specs.declared.loaded.Loaded.{Loaded}
use Rattle.multistate_rle.specs.Pattern as rle
use Rattle.multistate_macrocell.specs.Pattern as macrocells
use Rattle.desk_script.specs.declared.format.Format.TheVariants as format
use Rattle.desk_core.specs.Edited.{Refuses}
use Rattle.desk_server.specs.Shortage.{IsCausedOver}
use Rattle.script_lines.specs.KeptText.{IsText}
use Rattle.desk_events.specs.Wanted.{bookmark_in}
use Rattle.dependency_book.specs.Shown.{IsPending, Shows}
use Rattle.dependency_book.specs.declared.shown.Shown.{Shown}
use Rattle.dependency_book.specs.declared.shown.Shown.TheVariants as shown
use Rattle.desk_script.specs.declared.request.Request.TheVariants as request
use Rattle.desk_server.proofs.Shared.RuleTexts.{rule-same}
use Rattle.desk_server.specs.declared.reply.Reply.TheVariants as reply

-- a reply that changes nothing
pub gives-only : (p : Plan) (new : BookState) (r : Reply) (told : List ℕ) → new.plan ≡ p → reply_text new r ≡ told
    → ends r ≡ false → GivesAnswer (only p told) r new
gives-only p new r told same is goes = grind (arith)

-- an edit was refused for its fault, or it has none and memory ran out
refused_by : (p : Plan) (new : BookState) (r : Reply) (done : Changed → After) (fault : EditFault)
    (first : Option EditFault) (c : Changed) → new.plan ≡ p → (fault ≡ NoMemory) ⊎ (unless_refused first c ≡ Err fault)
    → IfSome first (λ f. fault ≡ f) → ((k : BookState) → reply_text k r ≡ refused_text (of_edit fault)) → ends r ≡ false
    → GivesAnswerBy true (λ short. unless_fault p of_edit (λ (d : Changed). unless_memory short p (done d))
    (unless_refused first c)) r new
refused_by p new r done fault None c same (inl memory) told is goes =
    (Memory, λ _. tt, grind (arith, gives-only, is new))
refused_by p new r done fault None c same (inr refused) told is goes = absurd (cc refused)
refused_by p new r done fault (Some f) c same why told is goes = (NoShortage, λ _. tt, grind (arith, gives-only, is new))

first_told : (o : Option EditFault) (result : Result Edited EditFault) (fault : EditFault) → result ≡ Err fault
    → IfSome o (λ f. result ≡ Err f) → IfSome o (λ f. fault ≡ f)
first_told o result fault e told = grind (arith)

pub gives-refused : (asked : Asked) (old new : BookState) (r : Reply) (word : List ℕ) (number : Changed → Option ℕ)
    (result : Result Edited EditFault) (fault : EditFault) → result ≡ Err fault → new ≡ old → Refuses asked old fault
    → IfSome (refusal old.plan asked) (λ f. result ≡ Err f)
    → ((k : BookState) → reply_text k r ≡ refused_text (of_edit fault)) → ends r ≡ false
    → GivesAnswerBy true (λ short. edited_as short old.plan asked word number) r new
gives-refused asked old new r word number result fault e same why told is goes =
    refused_by old.plan new r (λ c. accepted c word (number c)) fault (refusal old.plan asked) (changed old.plan asked)
    (ap (λ (k : BookState). k.plan) same) why (first_told (refusal old.plan asked) result fault e told) is goes

-- an answer that doesn't ask whether it was read, of what may be unread
pub may-be-unread : (prompt : Bool) (p : Plan) (after : Shortage → After) (r : Reply) (new : BookState)
    → after Unread ≡ after NoShortage → GivesAnswerBy prompt after r new
    → GivesAnswerBy prompt (λ short. unless_unread short p (after short)) r new
may-be-unread prompt p after r new same (NoShortage, caused, e) = (NoShortage, caused, e)
may-be-unread prompt p after r new same (Unread, caused, e) = (NoShortage, λ _. tt, sym same ∙ e)
may-be-unread prompt p after r new same (Memory, caused, e) = (Memory, caused, e)
may-be-unread prompt p after r new same (Unsettled n cause, caused, e) = (Unsettled n cause, caused, e)
may-be-unread prompt p after r new same (Pending, caused, e) = (Pending, caused, e)
may-be-unread prompt p after r new same (Still n cause, caused, e) = (Still n cause, caused, e)
may-be-unread prompt p after r new same (Known known, caused, e) = (Known known, caused, e)

pub read-edited : (asked : Asked) (old new : BookState) (r : Reply) (word : List ℕ) (number : Changed → Option ℕ)
    → GivesAnswerBy true (λ short. edited_as short old.plan asked word number) r new
    → GivesAnswerBy true (λ short. unless_unread short old.plan (edited_as short old.plan asked word number)) r new
read-edited asked old new r word number =
    may-be-unread true old.plan (λ short. edited_as short old.plan asked word number) r new refl

-- a bookmark that is shown
shown-unread : (p : Plan) (id : ℕ) (o : Option Bookmark) → shown_by Unread p id o ≡ shown_by NoShortage p id o
shown-unread p id None = refl
shown-unread p id (Some b) = refl

pub read-shown : (prompt : Bool) (p : Plan) (id : ℕ) (r : Reply) (new : BookState)
    → GivesAnswerBy prompt (λ short. shown_id short p id) r new
    → GivesAnswerBy prompt (λ short. unless_unread short p (shown_id short p id)) r new
read-shown prompt p id r new =
    may-be-unread prompt p (λ short. shown_id short p id) r new (shown-unread p id (bookmark_in p.bookmarks id))

-- an answer that has its cause over a prompt post has it over any other
pub over-any : (prompt : Bool) (after : Shortage → After) (r : Reply) (new : BookState) → GivesAnswerBy true after r new
    → GivesAnswerBy prompt after r new
over-any prompt after r new h = (h.0, λ _. h.1 refl, h.2)

-- a text was read and the edit that it means made or refused, or memory was short
module _ (format : Format) (text : List ℕ) (old new : BookState) (r : Reply) where
  pub takes-read : (asked : Asked) (word : List ℕ) (number : Changed → Option ℕ) → MayWant format text
      → ((short : Shortage) → taken short old.plan format text ≡ edited_as short old.plan asked word number)
      → GivesAnswerBy true (λ short. unless_unread short old.plan (edited_as short old.plan asked word number)) r new
      → TakesBytes format text r old new
  takes-read asked word number may is (NoShortage, _, e) = (NoShortage, tt, is NoShortage ∙ e)
  takes-read asked word number may is (Memory, _, e) = (Memory, tt, is Memory ∙ e)
  takes-read asked word number may is (Unread, _, e) = (Unread, may, e)
  takes-read asked word number may is (Unsettled n cause, _, e) = (NoShortage, tt, is NoShortage ∙ e)
  takes-read asked word number may is (Pending, _, e) = (NoShortage, tt, is NoShortage ∙ e)
  takes-read asked word number may is (Still n cause, _, e) = (NoShortage, tt, is NoShortage ∙ e)
  takes-read asked word number may is (Known known, _, e) = (NoShortage, tt, is NoShortage ∙ e)

  -- or it was refused for its fault, or memory was short while it was read
  pub takes-refused : {A E : Type 0} (told : E → Fault) (done : A → After) (fault none : E) (read : Result A E)
      → told none ≡ of_edit NoMemory → new ≡ old
      → taken NoShortage old.plan format text ≡ unless_fault old.plan told done read
      → (fault ≡ none) ⊎ (read ≡ Err fault) → (fault ≡ none → MayWant format text)
      → ((k : BookState) → reply_text k r ≡ refused_text (told fault)) → ends r ≡ false → TakesBytes format text r old new
  takes-refused told done fault none read law same is (inl memory) may goes_by goes =
      (Unread, may memory, grind (arith, gives-only, goes_by new))
  takes-refused told done fault none read law same is (inr refused) may goes_by goes =
      (NoShortage, tt, grind (arith, gives-only, goes_by new))

-- where memory ran out, some may be wanted
pub wants-where : {A E : Type 0} (result : Result A E) (fault none : E) (may : Type 0) → result ≡ Err fault
    → (result ≡ Err none → may) → fault ≡ none → may
wants-where result fault none may e want same = want (e ∙ ap (λ f. Err f) same)

-- what a text means that was read
pub is-read : {A E : Type 0} (r : Result A E) (value : A) → r ≡ Ok value → IsOk r
is-read r value e = grind (arith)

pub rule-may : (text : List ℕ) (rule : FileRule) → rule_of text ≡ Ok rule → MayWant format.Rule text
rule-may text rule e =
    let file = then-ok (file_of text)
    (λ file. kind_of file.section >>= λ kind. Ok (record { name = file.name; kind = kind })) rule e in
    is-read (file_of text) file.0 file.1

pub rule-taken : (p : Plan) (text : List ℕ) (rule : FileRule) → rule_of text ≡ Ok rule → (short : Shortage)
    → taken short p format.Rule text ≡ edited short p (ReplaceRule rule)
rule-taken p text rule e short = ap (unless_fault p of_rule (λ (r : FileRule). edited short p (ReplaceRule r))) e

pub rle-taken : (p : Plan) (text : List ℕ) (found : Loaded) → rle.pattern_of text ≡ Ok found → (short : Shortage)
    → taken short p format.Rle text ≡ started short p found.generation found.plane
rle-taken p text found e short =
    ap (unless_fault p of_pattern (λ (l : Loaded). started short p l.generation l.plane)) e

pub macrocell-taken : (p : Plan) (text : List ℕ) (found : Loaded) → macrocells.pattern_of text ≡ Ok found
    → (short : Shortage) → taken short p format.Macrocell text ≡ started short p found.generation found.plane
macrocell-taken p text found e short =
    ap (unless_fault p of_macrocell (λ (l : Loaded). started short p l.generation l.plane)) e

-- settling that left bookmarks pending
pub gives-unsettled : (prompt : Bool) (p : Plan) (new : BookState) (n : ℕ) (cause : Option Cause) → new.plan ≡ p
    → (prompt ≡ true → IfNone cause (pending_of new ≡ 0)) → n ≡ pending_of new → n ≢ 0 → n ≤ length new.plan.bookmarks
    → GivesAnswerBy prompt (λ short. settled short p) (reply.Unsettled n cause) new
gives-unsettled prompt p new n cause same caused is some few =
    (Unsettled n cause, grind (arith), grind (arith, nat_tests))

-- a poll
pub gives_polled : (prompt : Bool) (p : Plan) (new : BookState) (n : ℕ) (cause : Option Cause) → new.plan ≡ p
    → n ≤ length new.plan.bookmarks → GivesAnswerBy prompt (λ short. polled short p) (reply.Polled n cause) new
gives_polled prompt p new n cause same few = (Still n cause, λ _. tt, grind (arith, nat_tests))

some_of : (o : Option Bookmark) → IsSome o → (b : Bookmark) × (o ≡ Some b)
some_of o h = grind (arith)

-- what is written of a pending one
pub pending-shown : (known : BookState) (id : ℕ) → IsPending known id
    → shown_text id (bookmark_in known.plan.bookmarks id) (text_known known id) ≡ pending_text id
pending-shown known id h = grind (arith, some_of)

-- what is shown of a bookmark, current or not
pub gives-shown : (prompt : Bool) (p : Plan) (new : BookState) (id : ℕ) (s : Shown) → new.plan ≡ p → Shows new id s
    → GivesAnswerBy prompt (λ short. shown_id short p id) (reply.Shown id) new
gives-shown prompt p new id s same shows =
    subst (λ q. GivesAnswerBy prompt (λ short. shown_id short q id) (reply.Shown id) new) same (now s shows)
  where
    now : (s : Shown) → Shows new id s → GivesAnswerBy prompt (λ short. shown_id short new.plan id) (reply.Shown id) new
    now NoSuch none = (NoShortage, λ _. tt, grind (arith))
    now (Current text) h = (NoShortage, λ _. tt, grind (arith))
    now shown.Pending h = (Pending, λ _. tt, grind (arith, some_of))

-- a bookmark that is shown otherwise isn't pending
pub not_pending : (d : BookState) (id : ℕ) (s : Shown) → Shows d id s → s ≢ shown.Pending → ¬ IsPending d id
not_pending d id s none other h = grind (arith, some_of)

-- what memory can run out for is answered so where it isn't read
lacks : (ask : Ask) (s : Session) → CanLackMemory ask → answer Unread s ask ≡ no_memory s.plan
lacks ask s can = grind (arith)

-- memory was short for what was asked
pub serves-memory : (prompt : Bool) (asked : Request) (r : Reply) (d : BookState) (rule : Option (List ℕ))
    → ((ask : Ask) → IsReadAs asked ask → CanLackMemory ask) → reply_text d r ≡ refused_text (of_edit NoMemory)
    → ends r ≡ false → AnswersRequest prompt asked r (session d rule) d
serves-memory prompt asked r d rule can is goes =
    λ ask asks. (Unread, λ _. tt, grind (arith, gives-only, lacks ask (session d rule) (can ask asks)))

-- what is out of it already can
pub none-lacks : (asked : Request) → asked ≡ request.NoMemory → (ask : Ask) → IsReadAs asked ask → CanLackMemory ask
none-lacks asked e ask asks = subst (λ q. IsReadAs q ask) e asks

plainly_refused : (s : Session) (fault : ScriptFault)
    → answer NoShortage s (Refuse fault) ≡ refused s.plan (of_script fault)
plainly_refused s fault = grind (arith)

-- what lines say was refused
pub serves-refused : (prompt : Bool) (asked : Request) (fault : ScriptFault) (r : Reply) (d : BookState)
    (rule : Option (List ℕ)) → asked ≡ request.Refuse fault → reply_text d r ≡ refused_text (of_script fault)
    → ends r ≡ false → AnswersRequest prompt asked r (session d rule) d
serves-refused prompt asked fault r d rule e is goes =
    λ ask asks. (NoShortage, λ _. tt, grind (arith, gives-only, plainly_refused))

-- the script goes on after a poll
pub polled_goes_on : (p q : PostView) (old new : BookState) (r : Reply) → PollsBy p q old new r → ends r ≡ false
polled_goes_on p q old new r h = grind (arith)

-- a text was taken, unless memory was short for it
caused-of : (prompt : Bool) (format : Format) (text : List ℕ) (short : Shortage) → IsShortOf format text short
    → IsCausedOver prompt short
caused-of prompt format text short of = grind (arith)

answers-text : (prompt : Bool) (format : Format) (text : Option (List ℕ)) (bytes : List ℕ) (r : Reply)
    (old new : BookState) → IsText text bytes → TakesText format text r old new
    → GivesAnswerBy prompt (λ short. answer_to_text short old.plan format bytes) r new
answers-text prompt format None bytes r old new says takes = (Unread, λ _. tt, takes)
answers-text prompt format (Some text) bytes r old new says takes =
    subst (λ v. GivesAnswerBy prompt (λ short. answer_to_text short old.plan format v) r new) says
    (takes.0, caused-of prompt format text takes.0 takes.1, takes.2)

pub serves_taken : (prompt : Bool) (asked : Request) (format : Format) (text : KeptText) (r : Reply)
    (old new : BookState)
    (rule : Option (List ℕ)) → asked ≡ request.Take format text → TakesText format text r old new
    → AnswersRequest prompt asked r (session old rule) new
serves_taken prompt asked format text r old new rule e takes = λ ask asks.
    let h : IsReadAs (request.Take format text) ask = subst (λ q. IsReadAs q ask) e asks in
    subst (λ a. GivesAnswerBy prompt (λ short. answer short (session old rule) a) r new) (sym h.1)
    (answers-text prompt format text h.0 r old new h.2 takes)

-- its bytes are kept if they are a rule's that was taken, and then there are some
kept-rule : (b is_taken : Bool) (text : Option (List ℕ)) (bytes : List ℕ) (rule : Option (List ℕ))
    → is_taken ≡ not b → (text ≡ None → b ≡ true) → IsText text bytes
    → cond is_taken text rule ≡ cond b rule (Some bytes)
kept-rule b is_taken text bytes rule is some says = grind (arith)

pub kept-taken : (format : Format) (text : KeptText) (old new : BookState) (rule kept : Option (List ℕ)) (is_taken : Bool)
    → is_taken ≡ not (new.plan.revision == old.plan.revision) → (text ≡ None → new.plan ≡ old.plan)
    → kept ≡ kept_text format is_taken text rule → KeepsTaken format text (session old rule) new kept
kept-taken format text old new rule kept is_taken is none keeps = grind (arith, kept-rule, nat_tests)

pub keeps_same : (asked : Request) (d : BookState) (rule : Option (List ℕ))
    → KeepsText asked (session d rule) d rule
keeps_same asked d rule = grind (arith, rule-same)

-- and with a command
pub keeps_obeyed : (asked : Request) (command : Command) (s : Session) (d : BookState)
    → asked ≡ request.Obey command → KeepsText asked s d s.rule_text
keeps_obeyed asked command s d e = grind (arith)

pub keeps_taken : (asked : Request) (format : Format) (text : KeptText) (s : Session) (d : BookState)
    (rule : Option (List ℕ)) → asked ≡ request.Take format text → KeepsTaken format text s d rule
    → KeepsText asked s d rule
keeps_taken asked format text s d rule e keeps = grind (arith)
