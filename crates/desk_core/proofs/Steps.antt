-- How a settling goes on by what is issued, sent, answered and cancelled.
use Rattle.desk_core.proofs.Names.{BookState, CanSendNext, CancelsAny, Cause, CollectsAs, Err, EvolveFault, Explains, GivesAtMost, GoesByCalls, GoesOn, HasCome}
use Rattle.desk_core.proofs.Names.{IfSome, IsOf, IsOwnAnswer, IsRightBook, IssueFault, IssuesFor, Job, JobResult, KeepsJobs, KeepsKnown}
use Rattle.desk_core.proofs.Names.{KeepsWhatIsKnown, List, Need, None, Nothing, Option, PostView, Progress, Receives, RefusesIssue, SameBook, SameDocument, SawStop, Sends, Sent, Serves, ServesOn, Settles, Some, Stage, Taken, TellsCause, []}
use Rattle.desk_core.proofs.Names.{ap, append-nil, append_assoc, arith, cause_of_answer, cause_of_issue, empty_rows_of, expected, false, few_rows, given_of, inl}
use Rattle.desk_core.proofs.Names.{inr, is_some, job_in, job_of, keys, length, length-map, met_by, ready, refl, row_of}
use Rattle.desk_core.proofs.Names.{stage, subst, sym, true, unwrap_or, ℕ, ◌++◌, ◌+◌, ◌<◌, ◌∙◌, ◌∷◌, ◌≡◌, ◌≤◌, ◌⊎◌}
use Rattle.std.specs.Option.{option_or}
use Rattle.revision_jobs.specs.declared.post.Received.TheVariants as received
use Rattle.desk_core.specs.Calls as call
use Rattle.dependency_book.specs.declared.row.Row.{Row}
use Rattle.desk_core.specs.declared.collect.Collected.{Collected}
use Rattle.desk_core.specs.declared.collect.Collected.TheVariants.{Released}
use Rattle.desk_core.specs.Collected.{IsCollected}
use Rattle.desk_core.proofs.Shared.Causes.{explains-kept, explains-refused, explains-released, saw-more, saw-on, saw-refused, saw-released}
use Rattle.desk_core.proofs.Calls.{calls-cancelled, calls-first, calls-refused, calls-same, calls-then, or-none}
use Rattle.desk_core.proofs.Known.{KeepsKnown-cancelled, KeepsKnown-filled, KeepsKnown-stays, stays-issued}
use Rattle.desk_core.proofs.Out.{cancelled_out, filled_out, held_alone, issued_out, not_numbered}
use Rattle.desk_core.proofs.Shared.Given.{same_given, issued_given}

SameDocument-on : (c d e : BookState) → SameDocument c d → SameDocument d e → SameDocument c e
SameDocument-on c d e h k = record { table = cc; plan = cc; marks = cc; bookmarks = cc }

-- a post of which nothing came: it is as it was but for what it was asked
pub record Idles (p q : PostView) : Type 0 where
  pub table : q.table ≡ p.table
  pub limit : q.limit ≡ p.limit
  pub kind : q.is_prompt ≡ p.is_prompt
  pub floor : q.floor ≡ p.floor
  pub answers : q.answers ≡ p.answers
  pub stops : p.stops ≤ q.stops
  pub held : p.is_prompt ≡ true → q.held ≡ p.held

-- one that didn't take a job
pub Idles-refused : (job : Job) (p q : PostView) (said : Sent) → (said ≡ Taken → ⊥) → Sends job p q said → Idles p q
Idles-refused job p q said other h = grind arith

-- and one that gave no answer
pub Idles-nothing : (p q : PostView) → Receives p q received.Nothing → Idles p q
Idles-nothing p q h = grind arith

pub Idles-ended : (p q : PostView) → Receives p q received.Ended → Idles p q
Idles-ended p q h = grind arith

-- a cause that was met stays

still_caused : (a b c : Option Cause) → IfSome a (λ cause. b ≡ Some cause) → IfSome b (λ cause. c ≡ Some cause)
    → IfSome a (λ cause. c ≡ Some cause)
still_caused a b c h k = grind arith

pub same_cause : (a b : Option Cause) → b ≡ a → IfSome a (λ cause. b ≡ Some cause)
same_cause a b same = grind arith

pub none_before : (a b : Option Cause) → IfSome a (λ cause. b ≡ Some cause) → b ≡ None → a ≡ None
none_before a b h none = grind arith

pub no_cause : (cause : Option Cause) → false ≡ is_some cause → cause ≡ None
no_cause cause h = grind arith

first_stays : (before after met : Option Cause) → after ≡ option_or before met
    → IfSome before (λ cause. after ≡ Some cause)
first_stays before after met is = grind arith

-- where a settling begins
pub HasCome-first : (d : BookState) (post : PostView) (p : Progress) → p.unsent ≡ Nothing → p.cause ≡ None
    → Serves d post → HasCome d post (stage d post p)
HasCome-first d post p nothing none serves =
    let calls : GoesByCalls post post d d p.cause = subst (GoesByCalls post post d d) (sym none) (calls-first post d) in
    grind (arith, append-nil post.answers)

-- how settlings go on

pub GoesOn-on : {most more : ℕ} (s t u : Stage) → GoesOn most s t → GoesOn more t u → GoesOn (most + more) s u
GoesOn-on s t u h k = record {
  cause = still_caused s.progress.cause t.progress.cause u.progress.cause h.cause k.cause;
  fits = λ fit. k.fits (h.fits fit);
  comes = λ first begun come. k.comes first begun (h.comes first begun come);
  given = omega (arith, h.given, k.given);
}

-- nothing came of the post, and nothing changes but how the progress is told
pub GoesOn-idle : (d : BookState) (p q : PostView) (before after : Progress) → Idles p q
    → job_in after.unsent ≡ job_in before.unsent → after.cause ≡ before.cause
    → GoesOn 0 (stage d p before) (stage d q after)
GoesOn-idle d p q before after idles unsent cause = grind (arith, calls-same)

pub GoesOn-told : (d : BookState) (post : PostView) (p q : Progress) → job_in q.unsent ≡ job_in p.unsent
    → q.cause ≡ p.cause → GoesOn 0 (stage d post p) (stage d post q)
GoesOn-told d post p q unsent cause = grind (arith, calls-same)

-- a job is issued, where there is none to send and no cause
pub GoesOn-issued : (old new : BookState) (post : PostView) (p : Progress) (need : Need) (job : Job)
    → p.unsent ≡ Nothing → p.cause ≡ None → IssuesFor old new job need
    → GoesOn 1 (stage old post p) (stage new post (ready job p))
GoesOn-issued old new post p need job was none issued =
    let one = issued_given issued in
    let is = issued.next.number in
    let nothing : job_in p.unsent ≡ None = ap job_in was in
    record {
      cause = grind arith;
      given = omega (arith, one);
      fits = fits one is issued.next.own issued.is.document.table;
      comes = λ first begun h. record {
        known = λ other value there.
            KeepsKnown-stays old new (stays-issued old new need job issued) other value (h.known other value there);
        document = SameDocument-on first old new h.document issued.is.document;
        jobs = record {
          fits = fits one is issued.next.own issued.is.document.table h.jobs.fits;
          out = λ other out k. elim (issued_out old new need job issued.is.rows other out k) [
            | inl before ↦ newly nothing (h.jobs.out other out before)
            | inr this ↦ inr (inl this)
          ];
          at_hand = λ all other out k. elim (issued_out old new need job issued.is.rows other out k) [
            | inl before ↦ inr (held_alone post.held out
                (subst (λ u. (u ≡ Some out) ⊎ (post.held ≡ Some out)) nothing (h.jobs.at_hand all other out before)))
            | inr this ↦ inl this
          ];
        };
        calls = calls-then begun post post first old new p.cause p.cause (call.issues job) h.calls (need, issued)
            (sym (append-nil post.answers)) (sym (or-none p.cause)) (λ issue. none);
        told = record {
          later = h.told.later;
          gave = h.told.gave;
          explained = subst (λ c. IfSome c (Explains begun.limit first new h.told.later)) (sym none) tt;
          stopped = h.told.stopped;
        };
        refused = omega (arith, h.refused, issued.is.refused);
        stops = h.stops;
        limit = h.limit;
        kind = h.kind;
      };
    }
  where
    newly : {u : Option Job} {out : Job} {f : ℕ} {A : Type 0} → u ≡ None → A ⊎ ((u ≡ Some out) ⊎ (out.number < f))
        → A ⊎ ((Some job ≡ Some out) ⊎ (out.number < f))
    newly without h = grind arith

    fits : given_of new ≡ given_of old + 1 → job.number ≡ given_of old → IsOf old.table job.place
        → new.table ≡ old.table → CanSendNext old post (job_in p.unsent) → CanSendNext new post (Some job)
    fits one is own table fit = grind arith

-- no job is issued or sent, and no answer comes: what is out was so before, and of it is to be sent what was
lost : (most : ℕ) (old new : BookState) (post : PostView) (p q : Progress) → KeepsKnown old new → SameDocument old new
    → given_of new ≡ given_of old → old.refused ≤ new.refused
    → ((job : Job) → job_in q.unsent ≡ Some job → job_in p.unsent ≡ Some job)
    → ((need : Need) (job : Job) → expected new need ≡ Some job
    → (expected old need ≡ Some job) × (job_in p.unsent ≡ Some job → job_in q.unsent ≡ Some job))
    → IfSome p.cause (λ cause. q.cause ≡ Some cause)
    → ((first : BookState) (begun : PostView) → HasCome first begun (stage old post p)
    → GoesByCalls begun post first new q.cause × TellsCause begun post first new q.cause)
    → GoesOn most (stage old post p) (stage new post q)
lost most old new post p q known document given more none out cause told = record {
  cause = cause;
  given = omega (arith, given);
  fits = fits (job_in p.unsent) (job_in q.unsent) none;
  comes = λ first begun h. record {
    known = λ need value is. known need value (h.known need value is);
    document = SameDocument-on first old new h.document document;
    jobs = record {
      fits = fits (job_in p.unsent) (job_in q.unsent) none h.jobs.fits;
      out = λ need job k. let was = out need job k in still was.1 (h.jobs.out need job was.0);
      at_hand = λ all need job k. let was = out need job k in at_hand was.1 (h.jobs.at_hand all need job was.0);
    };
    calls = (told first begun h).0;
    told = (told first begun h).1;
    refused = omega (arith, h.refused, more);
    stops = h.stops;
    limit = h.limit;
    kind = h.kind;
  };
}
  where
    fits : (u v : Option Job) → ((job : Job) → v ≡ Some job → u ≡ Some job) → CanSendNext old post u → CanSendNext new post v
    fits u v none fit = let table = document.table in grind arith

    still : {u v : Option Job} {job : Job} {f : ℕ} {A : Type 0} → (u ≡ Some job → v ≡ Some job)
        → A ⊎ ((u ≡ Some job) ⊎ (job.number < f)) → A ⊎ ((v ≡ Some job) ⊎ (job.number < f))
    still on h = grind arith

    at_hand : {u v held : Option Job} {job : Job} → (u ≡ Some job → v ≡ Some job)
        → (u ≡ Some job) ⊎ (held ≡ Some job) → (v ≡ Some job) ⊎ (held ≡ Some job)
    at_hand on h = grind arith

-- an issue is refused: nothing changes, or one more refusal is counted
pub record IsBarred (old new : BookState) : Type 0 where
  pub document : SameDocument old new
  pub given : given_of new ≡ given_of old
  pub refused : old.refused ≤ new.refused
  pub rows : (need : Need) → row_of new need ≡ row_of old need

pub barred : (old new : BookState) (fault : IssueFault) → RefusesIssue old new fault → IsBarred old new
barred old new fault refuses = grind arith

pub GoesOn-refused : (old new : BookState) (post : PostView) (p q : Progress) (fault : IssueFault)
    → p.cause ≡ None → q.unsent ≡ p.unsent → q.cause ≡ Some (cause_of_issue fault) → RefusesIssue old new fault
    → GoesOn 1 (stage old post p) (stage new post q)
GoesOn-refused old new post p q fault none unsent cause refuses =
    let bars = barred old new fault refuses in
    lost 1 old new post p q (λ need value is. bars.rows need ∙ is) bars.document bars.given bars.refused
    (λ job is. sym (ap job_in unsent) ∙ is)
    (λ need job k. (sym (ap job_of (bars.rows need)) ∙ k, λ is. ap job_in unsent ∙ is))
    (subst (λ c. IfSome c (λ first. q.cause ≡ Some first)) (sym none) tt)
    (λ first begun h. (
      calls-refused begun post first old new p.cause q.cause fault none cause refuses h.calls,
      record {
        later = h.told.later;
        gave = h.told.gave;
        explained = subst (λ c. IfSome c (Explains begun.limit first new h.told.later)) (sym cause)
            (explains-refused begun.limit first old new h.told.later fault h.refused refuses);
        stopped = subst (λ c. IfSome c (SawStop begun post)) (sym cause) (saw-refused begun post fault);
      },
    ))

-- an answer is collected, with which the cause is told anew

jobs-answered : (old new : BookState) (p q : PostView) (before after : Option Job) (answer : JobResult)
    → Receives p q (received.Answer answer) → SameBook old new → after ≡ before
    → ((need : Need) (out : Job) → expected new need ≡ Some out
    → (expected old need ≡ Some out) × (Some answer.job ≡ Some out → ⊥))
    → (first : BookState) (begun : PostView) → p.is_prompt ≡ begun.is_prompt → KeepsJobs first begun old p before
    → KeepsJobs first begun new q after
jobs-answered old new p q before after answer receives same unsent out first begun kind h = grind arith

pub GoesOn-answered : (old new : BookState) (p q : PostView) (before after : Progress) (answer : JobResult)
    (collected : Collected) → Receives p q (received.Answer answer) → CollectsAs answer collected old new
    → after.unsent ≡ before.unsent → after.cause ≡ option_or before.cause (met_by (call.collects answer collected))
    → ((first : BookState) (begun : PostView) → HasCome first begun (stage old p before)
    → TellsCause begun q first new after.cause)
    → GoesOn 0 (stage old p before) (stage new q after)
GoesOn-answered old new p q before after answer collected receives collects unsent cause told =
    let known = KeepsKnown-filled old new answer collects.fills in
    let out = filled_out old new answer collects.fills in
    let same = collects.book in
    record {
      cause = first_stays before.cause after.cause (met_by (call.collects answer collected)) cause;
      fits = fits same;
      given = let given = same_given same in omega (arith, given);
      comes = λ first begun h. record {
        known = λ need value is. known need value (h.known need value is);
        document = SameDocument-on first old new h.document same.document;
        jobs = jobs-answered old new p q (job_in before.unsent) (job_in after.unsent) answer receives same
            (ap job_in unsent) out first begun h.kind h.jobs;
        calls = calls-then begun p q first old new before.cause after.cause (call.collects answer collected)
            h.calls collects receives.answers cause (λ issue. absurd (cc));
        told = told first begun h;
        refused = omega (arith, h.refused, same.refused);
        stops = omega (arith, h.stops, saw-more p q answer receives);
        limit = receives.same.limit ∙ h.limit;
        kind = receives.same.kind ∙ h.kind;
      };
    }
  where
    fits : SameBook old new → CanSendNext old p (job_in before.unsent) → CanSendNext new q (job_in after.unsent)
    fits same fit = grind arith

-- the cause stays
pub tells-answered : (old new : BookState) (p q : PostView) (before : Progress) (answer : JobResult)
    → Receives p q (received.Answer answer) → SameBook old new → (first : BookState) (begun : PostView)
    → HasCome first begun (stage old p before) → TellsCause begun q first new before.cause
tells-answered old new p q before answer receives same first begun h = record {
  later = h.told.later ++ answer ∷ [];
  gave = receives.answers ∙ ap (λ xs. xs ++ answer ∷ []) h.told.gave
      ∙ append_assoc begun.answers h.told.later (answer ∷ []);
  explained = explains-kept begun.limit first old new h.told.later (answer ∷ []) before.cause same h.told.explained;
  stopped = saw-on begun p q before.cause (saw-more p q answer receives) h.told.stopped;
}

-- or is that of an answer that its job gave up
pub tells-released : (old new : BookState) (p q : PostView) (before after : Progress) (answer : JobResult)
    (fault : EvolveFault) (told : Cause) → Receives p q (received.Answer answer) → SameBook old new
    → answer.outcome ≡ Err fault → told ≡ cause_of_answer fault
    → after.cause ≡ Some (unwrap_or before.cause told) → (first : BookState) (begun : PostView)
    → HasCome first begun (stage old p before) → TellsCause begun q first new after.cause
unfolding tells-answered
tells-released old new p q before after answer fault told receives same gave is caused first begun h =
    let found = explains-released begun.limit p.table first new h.told.later answer fault
    (subst (λ n. IsOwnAnswer p.table n answer) h.limit receives.own) gave in
    let saw = saw-released begun p q answer fault h.stops receives gave in
    record {
      later = h.told.later ++ answer ∷ [];
      gave = (tells-answered old new p q before answer receives same first begun h).gave;
      explained = first_told (Explains begun.limit first new (h.told.later ++ answer ∷ [])) before.cause after.cause told
          caused (subst (Explains begun.limit first new (h.told.later ++ answer ∷ [])) (sym is) found)
          (explains-kept begun.limit first old new h.told.later (answer ∷ []) before.cause same h.told.explained);
      stopped = first_told (SawStop begun q) before.cause after.cause told caused (subst (SawStop begun q) (sym is) saw)
          (saw-on begun p q before.cause (saw-more p q answer receives) h.told.stopped);
    }
  where
    first_told : (P : Cause → Type 0) (before after : Option Cause) (told : Cause) → after ≡ Some (unwrap_or before told)
        → P told → IfSome before P → IfSome after P
    first_told P before after told caused new was = grind arith

-- the job that isn't sent yet is cancelled

given_up : (unsent : Option Job) (old new : BookState) → CancelsAny unsent old new
    → SameBook old new × KeepsKnown old new × ((need : Need) (job : Job) → expected new need ≡ Some job
    → (expected old need ≡ Some job) × (unsent ≡ Some job → ⊥))
given_up None old new same =
    (grind arith, λ need value is. grind arith, λ need job k. (grind arith, λ is. cc))
given_up (Some job) old new h = (
  h.book,
  KeepsKnown-cancelled old new job.number h.rows,
  λ need out k.
      let left = cancelled_out job.number old new h.rows need out k in (left.0, not_numbered job out left.1),
)

pub GoesOn-cancelled : (old new : BookState) (post : PostView) (p q : Progress) → CancelsAny (job_in p.unsent) old new
    → job_in q.unsent ≡ None → q.cause ≡ p.cause → GoesOn 0 (stage old post p) (stage new post q)
GoesOn-cancelled old new post p q cancels nothing cause =
    let up = given_up (job_in p.unsent) old new cancels in
    lost 0 old new post p q up.1 up.0.document (same_given up.0) (omega (arith, up.0.refused))
    (λ job is. absurd (cc)) (λ need job k. ((up.2 need job k).0, λ is. absurd ((up.2 need job k).1 is)))
    (same_cause p.cause q.cause cause)
    (λ first begun h. (
      calls-cancelled begun post first old new p.cause q.cause (job_in p.unsent) cause cancels h.calls,
      record {
        later = h.told.later ++ [];
        gave = h.told.gave ∙ ap (λ xs. begun.answers ++ xs) (sym (append-nil h.told.later));
        explained = subst (λ c. IfSome c (Explains begun.limit first new (h.told.later ++ []))) (sym cause)
            (explains-kept begun.limit first old new h.told.later [] p.cause up.0 h.told.explained);
        stopped = subst (λ c. IfSome c (SawStop begun post)) (sym cause) h.told.stopped;
      },
    ))

-- a job is sent
pub GoesOn-sent : (d : BookState) (p q : PostView) (progress : Progress) (job : Job) → Sends job p q Taken
    → progress.unsent ≡ Nothing → GoesOn 0 (stage d p (ready job progress)) (stage d q progress)
GoesOn-sent d p q progress job sends none = grind (arith, calls-same)

-- after an answer that isn't that a job gave up no more rows are wanting
pub wanting-collected : (old new : BookState) (answer : JobResult) (collected : Collected)
    → ((fault : EvolveFault) → collected ≡ Released fault → ⊥) → IsCollected old new answer collected
    → empty_rows_of new ≤ empty_rows_of old
wanting-collected old new answer collected kept h = grind arith

-- what a settling leaves that has nothing left to send

pub Keeps-come : (first d : BookState) (begun post : PostView) (progress : Progress) → progress.unsent ≡ Nothing
    → HasCome first begun (stage d post progress) → KeepsWhatIsKnown first d post
Keeps-come first d begun post progress none h = grind arith

pub ServesOn-come : (first d : BookState) (begun post : PostView) (progress : Progress) → progress.unsent ≡ Nothing
    → HasCome first begun (stage d post progress) → ServesOn begun post first d
ServesOn-come first d begun post progress none h = grind arith

same_length : {K V : Type 0} (xs ys : List (Row K V)) → keys xs ≡ keys ys → length xs ≡ length ys
same_length xs ys same = sym (length-map xs (λ r. r.key)) ∙ ap length same ∙ length-map ys (λ r. r.key)

-- a settling as a whole, whose last job that isn't sent is cancelled

module _ (first mid last : BookState) (begun post : PostView) (p : Progress)
    (come : HasCome first begun (stage mid post p)) (cancels : CancelsAny (job_in p.unsent) mid last) where
  abbrev end : Progress
  end = record { unsent = Nothing; cause = p.cause }

  pub whole : HasCome first begun (stage last post end)
  whole = (GoesOn-cancelled mid last post p end cancels refl refl).comes first begun come

  pub settles-whole : (turns : ℕ) → GivesAtMost turns first mid → IsRightBook last → Settles first last turns post
  settles-whole turns given right =
      let same = same_given (given_up (job_in p.unsent) mid last cancels).0 in
      let few = few_rows last right in
      let marks = same_length last.arrivals first.arrivals whole.document.marks in
      let bookmarks = same_length last.texts first.texts whole.document.bookmarks in
      record {
        keeps = Keeps-come first last begun post end refl whole;
        right = right;
        given = (omega (arith, given.0, same), omega (arith, given.1, same));
        enough = omega (arith, few, marks, bookmarks);
      }

  pub serves-whole : ServesOn begun post first last
  serves-whole = ServesOn-come first last begun post end refl whole
