-- What a board shows of the replies to a script.
use Rattle.std.specs.Prelude.{◌≡◌, ◌⊎◌, ℕ, ◌+◌, ◌-◌, ◌^◌, ◌<◌, ◌≤◌, Bool, true, false, List, [], ◌∷◌, ◌++◌, Option, ⊤, length}
use Rattle.std.specs.Prelude.{IfSome, IsSome, Some, None, count_by, sum_by, flat_map, is_some, not}
use Rattle.std.specs.List.{AllByRecursion}
use Rattle.dependency_book.specs.BookState.{BookState, arrival_known, text_known, text_row}
use Rattle.dependency_book.specs.Kept.{text_kept}
use Rattle.dependency_book.specs.RowState.{known}
use Rattle.desk_events.specs.declared.mark.Mark.{Mark}
use Rattle.desk_events.specs.Felt.{IsFelt}
use Rattle.desk_events.specs.Wanted.{bookmark_in}
use Rattle.schedule.specs.declared.edit.Edit.{Edit}
use Rattle.schedule.specs.Asked.{Asked, asked_of}
use Rattle.schedule.specs.Plan.{Plan}
use Rattle.desk_board.specs.Picture.{Picture, IsRightPicture, picture_of}
use Rattle.desk_board.specs.BoardHistory.{BoardHistory, ShowsNext, history}
use Rattle.desk_board.specs.declared.row.ShownRow.{ShownRow}
use Rattle.desk_script.specs.Asks.{Ask, Obey, Refuse}
use Rattle.desk_script.specs.declared.command.Command.TheVariants as command
use Rattle.desk_server.specs.Answer.{After}
use Rattle.desk_server.specs.Desks.{AnswersAt, Standing, standing}
use Rattle.desk_server.specs.Script.{Answered}
use Rattle.desk_server.specs.Told.{TellsPending, shown_text}
use Rattle.desk_server.specs.Served.{GivesAnswer}
use Rattle.desk_server.specs.Watch.{Moment, NotesEach}
use Rattle.desk_server.specs.declared.reply.Reply.{Reply}
use Rattle.desk_server.specs.declared.reply.Reply.TheVariants.{Settled, Shown}

-- the picture of a desk at which this answer was given
pub record IsPictureAfter (after : After) (d : BookState) (s : Picture) : Type 0 where
  pub reply : Reply
  pub gives : GivesAnswer after reply d
  pub pending : TellsPending reply d
  pub is : s ≡ picture_of d
  pub right : IsRightPicture s

-- pictures of this document, whose texts are right
abbrev pub ArePicturesOf : Plan → List Picture → Type 0
ArePicturesOf plan = AllByRecursion (λ (s : Picture). (s.plan ≡ plan) × IsRightPicture s)

-- what a history shows of one answer: how many answers its post gave for it, pictures that were put
-- behind the history before, and the picture that was put there after it, unless it was left out
pub record Showing : Type 0 where
  pub gave : ℕ
  pub before : List Picture
  pub own : Option Picture

-- the picture, if there is one
abbrev pub if_any : Option Picture → List Picture
if_any None = []
if_any (Some s) = s ∷ []

abbrev pub pictures_in : Showing → List Picture
pictures_in showing = showing.before ++ if_any showing.own

abbrev pub is_left_out : Showing → Bool
is_left_out showing = not (is_some showing.own)

-- what computes if it has to: a settling and a show
abbrev pub may_compute : Ask → Bool
may_compute (Obey command.Settle) = true
may_compute (Obey (command.Show id)) = true
may_compute _ = false

-- what was asked at one desk left the other, at which it was answered; pictures of the document
-- that the answer leaves, at most one more than answers of its post and none where nothing is
-- computed, and then the picture of that desk
pub record ShowsAnswer (one : Answered) (old new : Standing) (showing : Showing) : Type 0 where
  pub answers : AnswersAt one old new
  pub before : ArePicturesOf one.1.plan showing.before
  pub few : length showing.before ≤ showing.gave + 1
  pub none : may_compute one.0 ≡ false → showing.before ≡ []
  pub own : IfSome showing.own (IsPictureAfter one.1 new.desk)

-- so it is for each of these answers, in order, each at the desk that the one before left
abbrev pub ShowAnswers : Standing → Standing → List Showing → List Answered → Type 0
ShowAnswers old new [] [] = new ≡ old
ShowAnswers old new [] (one ∷ given) = ⊥
ShowAnswers old new (showing ∷ showings) [] = ⊥
ShowAnswers old new (showing ∷ showings) (one ∷ given) =
    (next : Standing) × ShowsAnswer one old next showing × ShowAnswers next new showings given

-- where a run stands then
abbrev pub there : Moment BoardHistory → Standing
there m = standing m.post m.desk

-- the history went on by what it shows of these answers, in order, for which the post gave all that
-- it gave; so many pictures of their own were left out, where 2 ^ 64 - 1 may stand for more
pub record ShowsOrCounts (old new : Moment BoardHistory) (given : List Answered) : Type 0 where
  pub showings : List Showing
  pub goes_on : new.seen
      ≡ history old.seen.board (old.seen.pictures ++ flat_map pictures_in showings)
  pub answers : ShowAnswers (there old) (there new) showings given
  pub gave : length new.post.answers
      ≡ length old.post.answers + sum_by (λ (showing : Showing). showing.gave) showings
  pub left_out : new.missed < 2 ^ 64 - 1 → count_by is_left_out showings ≡ new.missed
  pub all : new.missed ≡ 0 → AllByRecursion (λ (showing : Showing). IsSome showing.own) showings

-- what was noted or passed over in turn, told of the whole history: where none was passed over, it
-- shows for each answer, in order, the picture of the desk that gave it
abbrev pub ShowsAllUnlessCounted : Type 0
ShowsAllUnlessCounted =
    (old new : Moment BoardHistory) (given : List Answered) → old.missed ≡ 0
    → NotesEach ShowsNext old new given → ShowsOrCounts old new given

-- what a reply tells is what a picture shows: with all settled each row has its text, and a
-- bookmark that is shown, current or pending, is so in its row
pub record IsAsTold (reply : Reply) (told : List ℕ) (s : Picture) : Type 0 where
  pub settled : reply ≡ Settled → AllByRecursion (λ (row : ShownRow). IsSome row.text) s.rows
  pub shown : (id : ℕ) → reply ≡ Shown id
      → AllByRecursion (λ (row : ShownRow). row.bookmark.id ≡ id
      → told ≡ shown_text id (bookmark_in s.plan.bookmarks id) row.text) s.rows

-- the picture of the desk at which an answer was given shows what its reply tells
abbrev pub ShowsWhatIsTold : Type 0
ShowsWhatIsTold =
    (after : After) (d : BookState) (s : Picture) → (is : IsPictureAfter after d s)
    → IsAsTold is.reply after.told s

-- what is asked changes nothing that a desk shows: it sends jobs, tells what is known, or is
-- refused by its line
abbrev pub ShowsNoMore : Ask → Type 0
ShowsNoMore (Obey command.Work) = ⊤
ShowsNoMore (Obey (command.Peek id)) = ⊤
ShowsNoMore (Obey command.List) = ⊤
ShowsNoMore (Obey command.Script) = ⊤
ShowsNoMore (Obey command.Help) = ⊤
ShowsNoMore (Refuse fault) = ⊤
ShowsNoMore _ = ⊥

-- the picture after its reply is the picture of the desk before it
abbrev pub ShowsTheSame : Type 0
ShowsTheSame =
    (one : Answered) (old new : Standing) → ShowsNoMore one.0 → AnswersAt one old new
    → picture_of new.desk ≡ picture_of old.desk

-- a text after an edit is one that was known before, and each that the edit keeps is known
pub record ShowsKept (asked : Asked) (old new : BookState) : Type 0 where
  pub felt : Option Mark
  pub is : IsFelt (arrival_known old) old.plan asked new.plan felt
  pub texts : (id : ℕ) → text_known new id
      ≡ known (text_kept new.plan.branches felt asked (bookmark_in old.plan.bookmarks id)
      (text_row old id))

-- the picture after the reply to an edit shows the texts that the edit keeps, and no others; it is
-- the one before where the edit was refused
abbrev pub ShowsWhatIsKept : Type 0
ShowsWhatIsKept =
    (edit : Edit) (after : After) (old new : Standing)
    → AnswersAt (Obey (command.Edit edit), after) old new
    → (picture_of new.desk ≡ picture_of old.desk) ⊎ ShowsKept (asked_of edit) old.desk new.desk
