-- What a history shows of answers that were noted one after the other.
use Rattle.std.proofs.Common.{◌≡◌, ◌∙◌, ◌⊎◌, inl, inr, ℕ, suc, ◌+◌, ◌-◌, ◌^◌, ◌<◌, ◌≤◌, List, [], ◌∷◌, ◌++◌, Some, None, refl, sym, ap, subst, arith, append_assoc, append-nil, length, length-append, Bool, false, cond}
use Rattle.std.specs.Prelude.{IsSome, count_by, sum_by, flat_map}
use Rattle.std.specs.List.{AllByRecursion}
use Rattle.std.proofs.lemmas.List.Sums.{sum_by-cons}
use Rattle.std.specs.Io.Iter.{u64_saturate}
use Rattle.revision_jobs.specs.Posted.{PostView}
use Rattle.dependency_book.specs.BookState.{BookState}
use Rattle.desk_board.specs.Picture.{Picture, IsRightPicture, picture_of}
use Rattle.desk_board.specs.BoardHistory.{BoardHistory, ShowsNext, history, and_then}
use Rattle.schedule.specs.Plan.{Plan}
use Rattle.desk_core.specs.Looks.{AreOfPlan, LooksAt, LooksAtEach}
use Rattle.desk_script.specs.Asks.{Ask}
use Rattle.desk_server.specs.Answer.{After}
use Rattle.desk_server.specs.Served.{GivesAnswer}
use Rattle.desk_server.specs.Script.{Answered}
use Rattle.desk_server.specs.Told.{IsRefused}
use Rattle.desk_server.specs.Desks.{LeavesDesk}
use Rattle.desk_server.specs.Watch.{HasToCompute, WatchesComputing, WatchesReply, Moment, PublishedOrCounted, NotesReply, NotesEach}
use Rattle.board_laws.specs.Showings.{ArePicturesOf, Showing, ShowAnswers, may_compute, pictures_in, is_left_out, there, ShowsAllUnlessCounted}
use Rattle.desk_server.specs.declared.reply.Reply.{Reply}

module _ {V : Type 0} (notes : V → BookState → V → Type 0) where
  -- a count doesn't fall
  count_up : (m n : ℕ) (a b : V) (k : BookState) → m ≤ 2 ^ 64 - 1 → PublishedOrCounted notes m n a k b → (m ≤ n) × (n ≤ 2 ^ 64 - 1)
  count_up m n a b k low h1 = grind (arith)

  counts_up : (a b : Moment V) (xs : List Answered) → a.missed ≤ 2 ^ 64 - 1 → NotesEach notes a b xs
      → a.missed ≤ b.missed
  counts_up a b [] low f = grind (arith)
  counts_up a b (x ∷ xs) low f = grind (arith, count_up, counts_up f.0 b xs)

-- one history goes on from another, and a third from that
goes_over : (old next new : BoardHistory) (xs ys : List Picture) → next ≡ history old.board (old.pictures ++ xs)
    → new ≡ history next.board (next.pictures ++ ys) → new ≡ history old.board (old.pictures ++ (xs ++ ys))
goes_over old next new xs ys first more = grind (arith, append_assoc)

goes_nowhere : (old new : BoardHistory) → new ≡ old → new ≡ history old.board (old.pictures ++ [])
goes_nowhere old new same = grind (arith, append-nil)

-- desks with a document were looked at: at most so many pictures of it
record Seen (plan : Plan) (most : ℕ) (old new : BoardHistory) : Type 0 where
  pictures : List Picture
  goes_on : new ≡ history old.board (old.pictures ++ pictures)
  are : ArePicturesOf plan pictures
  few : length pictures ≤ most

seen_one : (plan : Plan) (n : ℕ) (d : BookState) (old next new : BoardHistory) → d.plan ≡ plan → LooksAt ShowsNext old d next
    → Seen plan n next new → Seen plan (suc n) old new
seen_one plan n d old next new is (inl seen) rest = record {
  pictures = picture_of d ∷ rest.pictures;
  goes_on = goes_over old next new (picture_of d ∷ []) rest.pictures seen.1 rest.goes_on;
  are = ((is, seen.0), rest.are);
  few = let few = rest.few in omega (arith, few);
}
seen_one plan n d old next new is (inr same) rest = record {
  pictures = rest.pictures;
  goes_on = goes_over old next new [] rest.pictures (goes_nowhere old next same) rest.goes_on;
  are = rest.are;
  few = let few = rest.few in omega (arith, few);
}

seen_each : (plan : Plan) (ds : List BookState) (old new : BoardHistory) → AreOfPlan plan ds
    → LooksAtEach ShowsNext old ds new → Seen plan (length ds) old new
seen_each plan [] old new all looks =
    record { pictures = []; goes_on = goes_nowhere old new looks; are = tt; few = omega arith }
seen_each plan (d ∷ ds) old new all looks =
    seen_one plan (length ds) d old looks.0 new all.0 looks.1 (seen_each plan ds looks.0 new all.1 looks.2)

-- what was looked at before a reply, by how many answers the post gave
record Shown (one : Answered) (p q : PostView) (old new : BoardHistory) : Type 0 where
  gave : ℕ
  came : length q.answers ≡ length p.answers + gave
  seen : Seen one.1.plan (gave + 1) old new
  none : may_compute one.0 ≡ false → seen.pictures ≡ []

cannot : (ask : Ask) (d : BookState) → may_compute ask ≡ false → HasToCompute ask d → ⊥
cannot ask d idle has = grind (arith)

shown_before : (one : Answered) (r : Reply) (p q : PostView) (d e : BookState) (old new : BoardHistory) → GivesAnswer one.1 r e
    → WatchesReply ShowsNext one.0 r p q d e old new → Shown one p q old new
shown_before one r p q d e old new gives watched = by watched.looks
  where
    plan : one.1.plan ≡ e.plan
    plan = ap (λ (a : After). a.plan) gives

    by : WatchesComputing ShowsNext one.0 p q d e old new ⊎ ((new ≡ old) × (HasToCompute one.0 d → IsRefused r))
        → Shown one p q old new
    by (inl on) = record {
      gave = length on.looks.later;
      came = on.looks.answers;
      seen = subst (λ v. Seen v (length on.looks.later + 1) old new) (sym (plan ∙ on.document))
          (subst (λ n. Seen d.plan n old new) (omega arith)
          (seen_each d.plan (d ∷ on.looks.later) old new (refl, on.looks.document) on.looks.looks));
      none = λ idle. absurd (cannot one.0 d idle on.computes);
    }
    by (inr still) = record {
      gave = length watched.post.later;
      came = ap length watched.post.gave ∙ length-append p.answers watched.post.later;
      seen = record { pictures = []; goes_on = goes_nowhere old new still.0; are = tt; few = omega arith };
      none = λ _. refl;
    }

-- what `ShowsOrCounts` says, where the count began at what was passed over before
record Shows (old new : Moment BoardHistory) (given : List Answered) : Type 0 where
  showings : List Showing
  goes_on : new.seen ≡ history old.seen.board (old.seen.pictures ++ flat_map pictures_in showings)
  answers : ShowAnswers (there old) (there new) showings given
  gave : length new.post.answers ≡ length old.post.answers + sum_by (λ (showing : Showing). showing.gave) showings
  left_out : new.missed < 2 ^ 64 - 1 → count_by is_left_out showings + old.missed ≡ new.missed
  all : new.missed ≡ 0 → AllByRecursion (λ (showing : Showing). IsSome showing.own) showings

abbrev one_if : Bool → ℕ
one_if b = cond b 1 0

shows_one : (old next new : Moment BoardHistory) (watched : BoardHistory) (x : Answered) (xs : List Answered) (r : Reply)
    → old.missed ≤ 2 ^ 64 - 1 → next.missed ≤ new.missed → Shown x old.post next.post old.seen watched
    → GivesAnswer x.1 r next.desk → LeavesDesk x.0 r old.post next.post old.desk next.desk
    → PublishedOrCounted ShowsNext old.missed next.missed watched next.desk next.seen → Shows next new xs
    → Shows old new (x ∷ xs)
shows_one old next new watched x xs r low up shown gives left (inl noted) rest =
    let d = next.desk in
    let s = picture_of d in
    let right : IsRightPicture s = noted.0.0 in
    let is : next.seen ≡ and_then watched s = noted.0.1 in
    let same : next.missed ≡ old.missed = noted.1 in
    let seen = shown.seen in
    let showing : Showing = record { gave = shown.gave; before = seen.pictures; own = Some s } in
    let counted : count_by is_left_out (showing ∷ rest.showings) ≡ 0 + count_by is_left_out rest.showings =
    sum_by-cons (λ (y : Showing). one_if (is_left_out y)) showing rest.showings in
    let summed = sum_by-cons (λ (y : Showing). y.gave) showing rest.showings in
    let came = shown.came in
    let gave = rest.gave in record {
      showings = showing ∷ rest.showings;
      goes_on = goes_over old.seen next.seen new.seen (seen.pictures ++ s ∷ []) (flat_map pictures_in rest.showings)
          (goes_over old.seen watched next.seen seen.pictures (s ∷ []) seen.goes_on is) rest.goes_on;
      answers = (
        there next,
        record {
          answers = record { reply = r; gives = gives; left = left };
          before = seen.are;
          few = seen.few;
          none = shown.none;
          own = record { reply = r; gives = gives; pending = left.pending; is = refl; right = right };
        },
        rest.answers,
      );
      gave = omega (arith, came, gave, summed);
      left_out = λ small. omega (arith, rest.left_out small, same, counted);
      all = λ none. (refl, rest.all none);
    }
shows_one old next new watched x xs r low up shown gives left (inr passed) rest =
    let is : next.missed ≡ u64_saturate (old.missed + 1) = passed.1 in
    let seen = shown.seen in
    let showing : Showing = record { gave = shown.gave; before = seen.pictures; own = None } in
    let counted : count_by is_left_out (showing ∷ rest.showings) ≡ 1 + count_by is_left_out rest.showings =
    sum_by-cons (λ (y : Showing). one_if (is_left_out y)) showing rest.showings in
    let summed = sum_by-cons (λ (y : Showing). y.gave) showing rest.showings in
    let came = shown.came in
    let gave = rest.gave in record {
      showings = showing ∷ rest.showings;
      goes_on = goes_over old.seen next.seen new.seen (seen.pictures ++ []) (flat_map pictures_in rest.showings)
          (goes_over old.seen watched next.seen seen.pictures [] seen.goes_on (goes_nowhere watched next.seen passed.0))
          rest.goes_on;
      answers = (
        there next,
        record {
          answers = record { reply = r; gives = gives; left = left };
          before = seen.are;
          few = seen.few;
          none = shown.none;
          own = tt;
        },
        rest.answers,
      );
      gave = omega (arith, came, gave, summed);
      left_out = λ small. omega (arith, rest.left_out small, up, small, is, counted);
      all = λ none. absurd (omega (arith, up, none, is));
    }

shows : (old new : Moment BoardHistory) (xs : List Answered) → old.missed ≤ 2 ^ 64 - 1 → NotesEach ShowsNext old new xs
    → Shows old new xs
shows old new [] low noted = record {
  showings = [];
  goes_on = goes_nowhere old.seen new.seen (ap (λ (m : Moment BoardHistory). m.seen) noted);
  answers = ap there noted;
  gave = let same = ap (λ (m : Moment BoardHistory). length m.post.answers) noted in omega (arith, same);
  left_out = λ _. let same = ap (λ (m : Moment BoardHistory). m.missed) noted in omega (arith, same);
  all = λ _. tt;
}
shows old new (x ∷ xs) low noted =
    let next : Moment BoardHistory = noted.0 in
    let one : NotesReply ShowsNext old x next = noted.1 in
    let low_next = (count_up ShowsNext old.missed next.missed one.watched next.seen next.desk low one.noted).1 in
    shows_one old next new one.watched x xs one.reply low
    (counts_up ShowsNext next new xs low_next noted.2)
    (shown_before x one.reply old.post next.post old.desk next.desk old.seen one.watched one.gives one.before)
    one.gives one.left one.noted
    (shows next new xs low_next noted.2)

pub shows_all : ShowsAllUnlessCounted
shows_all old new given none noted =
    let all = shows old new given (omega (arith, none)) noted in record {
      showings = all.showings;
      goes_on = all.goes_on;
      answers = all.answers;
      gave = all.gave;
      left_out = λ small. omega (arith, all.left_out small, none);
      all = all.all;
    }
