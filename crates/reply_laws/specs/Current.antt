-- What replies show as current, by the law of the calls on a desk.
use Rattle.std.specs.Prelude.{◌≡◌, ◌⊎◌, ℕ, Bool, true, false, List, [], ◌∷◌, IsSome, ⊤}
use Rattle.schedule.specs.declared.fault.EditFault.TheVariants.{NoSuchBookmark}
use Rattle.desk_events.specs.Core.{Core, Shown, current, no_such, pending, shown}
use Rattle.desk_events.specs.Right.{IsShown}
use Rattle.desk_events.specs.Wanted.{bookmark_in}
use Rattle.dependency_book.specs.BookState.{BookState}
use Rattle.dependency_book.specs.Core.{core_of}
use Rattle.desk_core.specs.Run.{AreCalls}
use Rattle.desk_script.specs.Asks.{Ask, Obey}
use Rattle.desk_script.specs.declared.command.Command.TheVariants as command
use Rattle.desk_server.specs.Listed.{listed_text}
use Rattle.desk_server.specs.Desks.{AnswersAtDesks}
use Rattle.desk_server.specs.Faults.{Fault, of_edit}
use Rattle.desk_server.specs.Reply.{current_text, pending_text, refused_text}
use Rattle.desk_server.specs.Script.{Answered}

-- the reply that shows a bookmark as a desk of the law shows it
abbrev pub text_of : ℕ → Shown → List ℕ
text_of id (current text) = current_text id text
text_of id pending = pending_text id
text_of id no_such = refused_text (of_edit NoSuchBookmark)

abbrev pub is_current : Shown → Bool
is_current (current text) = true
is_current pending = false
is_current no_such = false

-- the bookmark is shown as the desk shows it, or that is refused
abbrev pub ShowsAs : Core → ℕ → List ℕ → Type 0
ShowsAs c id told =
    (told ≡ text_of id (shown c id)) ⊎ ((fault : Fault) × (told ≡ refused_text fault))

-- bookmarks are listed as current just where the desk shows them so
pub record ListsAs (c : Core) (told : List ℕ) : Type 0 where
  pub known : ℕ → Bool
  pub lists : told ≡ listed_text c.plan known
  pub current : (id : ℕ) → IsSome (bookmark_in c.plan.bookmarks id)
      → known id ≡ is_current (shown c id)

-- what a reply says of bookmarks is what the desk shows of them
abbrev pub TellsAs : Core → Ask → List ℕ → Type 0
TellsAs c (Obey (command.Show id)) told = ShowsAs c id told
TellsAs c (Obey (command.Peek id)) told = ShowsAs c id told
TellsAs c (Obey command.List) told = ListsAs c told
TellsAs c _ told = ⊤

-- at this desk something was answered: each bookmark is shown there with the text that starting
-- over gives for the document that the answer leaves, or as pending; and so the reply says
pub record ShowsOnlyScratch (one : Answered) (d : BookState) : Type 0 where
  pub shows : (id : ℕ) → IsShown one.1.plan id (shown (core_of d) id)
  pub tells : TellsAs (core_of d) one.0 one.1.told

-- calls of which the law speaks lead from one desk to the other
abbrev pub LeadsByCalls : BookState → BookState → Type 0
LeadsByCalls old new = (desks : List BookState) × AreCalls desks old new

-- so it is for each of these answers in turn, from one desk to the next
abbrev pub ShowsEach : BookState → List Answered → Type 0
ShowsEach old [] = ⊤
ShowsEach old (one ∷ rest) =
    (next : BookState) × LeadsByCalls old next × ShowsOnlyScratch one next × ShowsEach next rest

-- so it is of a whole script, as `run` promises it (`AnswersAll`), from the opening desk on
abbrev pub CurrentIsScratch : Type 0
CurrentIsScratch =
    (prompt : Bool) (given : List Answered) → (at : AnswersAtDesks prompt given)
    → ShowsEach at.over.first given
