-- The desks that commands leave.
use Rattle.desk_server.proofs.Names.{Ask, Asked, BookState, CanLackMemory, Cause, Command, ComputedFor, Format, IsDoneWith, IsLeftBy, IsReadAs, IsRefused, KeepsCalls, LeavesDesk, LeavesOver, List, MeansEdit, Obey, Option, PostView}
use Rattle.desk_server.proofs.Names.{Reply, Request, Refuse, RevisedOrSame}
use Rattle.desk_server.proofs.Names.{KeptText, None, ScriptFault, Some, Take, TakenOrSame, TakesAnswers, TellsPending, [], append-nil, arith, inl, inr, pending_of, refl, subst, sym, true, ℕ, ◌≡◌, ◌≢◌, ◌⊎◌}
use Rattle.script_lines.specs.KeptText.{IsText}
use Rattle.std.specs.Option.{option_map}
use Rattle.dependency_book.specs.Right.{IsRightBook}
use Rattle.dependency_book.specs.Shown.{IsPending}
use Rattle.desk_core.specs.declared.polling.Polled.{Polled}
use Rattle.desk_core.specs.declared.settling.Settling.{Settling}
use Rattle.desk_core.specs.declared.settling.Settling.TheVariants as settling
use Rattle.desk_core.specs.Calls.{GoesByCalls}
use Rattle.desk_core.specs.Cause.{cause_of_issue}
use Rattle.desk_core.specs.Feed.{FeedsAll}
use Rattle.desk_core.specs.Polling.{Polls, PollsPromptly}
use Rattle.desk_core.specs.Settling.{EndsOver, KeepsKnown, KeepsWhatIsKnown, Settles, TellsCause}
use Rattle.desk_script.specs.declared.command.Command.TheVariants as command
use Rattle.desk_script.specs.declared.request.Request.TheVariants as request
use Rattle.desk_server.specs.declared.reply.Reply.TheVariants as reply
use Rattle.desk_server.proofs.Jobs.{nothing_out}
use Rattle.desk_server.proofs.Known.{all_known}

-- the edit that a text means was made or refused
pub taken-or-same : (format : Format) (text : List ℕ) (asked : Asked) (old new : BookState) → MeansEdit format text asked
    → RevisedOrSame asked old new → TakenOrSame format text old new
taken-or-same format text asked old new means (inl same) = inl same
taken-or-same format text asked old new means (inr made) = inr (asked, means, made)

-- the bytes of a text that was kept
pub says-bytes : (text : Option (List ℕ)) (kept bytes : List ℕ) → text ≡ Some kept → IsText text bytes → kept ≡ bytes
says-bytes text kept bytes is says = subst (λ o. IsText o bytes) is says

-- what a settling computed
none_pending : (turns : ℕ) (p q : PostView) (old new : BookState) (ending : Settling) → ending ≡ settling.Settled
    → EndsOver turns p q old new ending → pending_of new ≡ 0
none_pending turns p q old new ending is ends = grind (arith, ends.ends)

first_told : (turns : ℕ) (p q : PostView) (old new : BookState) (ending : Settling) (n : ℕ) (cause : Option Cause)
    → ending ≡ settling.Unsettled n cause → (ends : EndsOver turns p q old new ending) → cause ≡ ends.first
first_told turns p q old new ending n cause is ends = grind (arith, ends.tells)

pub computed_all : (turns : ℕ) (p q : PostView) (old new : BookState) (ending : Settling) → ending ≡ settling.Settled
    → Settles old new turns q → EndsOver turns p q old new ending → ComputedFor None p q old new
computed_all turns p q old new ending is settles ends = (
  record { first = ends.first; calls = ends.calls; known = settles.keeps.known; right = settles.right },
  inl (none_pending turns p q old new ending is ends),
)

-- and then what was out was given up
pub computed_some : (turns : ℕ) (p q : PostView) (old mid new : BookState) (ending : Settling) (n : ℕ)
    (cause : Option Cause) → ending ≡ settling.Unsettled n cause → Settles old mid turns q
    → EndsOver turns p q old mid ending → KeepsCalls mid new → KeepsKnown mid new
    → (IsRightBook mid → IsRightBook new) → ComputedFor cause p q old new
computed_some turns p q old mid new ending n cause is settles ends calls known right = (
  record {
    first = ends.first;
    calls = calls p q old ends.first ends.calls;
    known = λ need value was. known need value (settles.keeps.known need value was);
    right = right settles.right;
  },
  inr (first_told turns p q old mid ending n cause is ends),
)

module _ (p q : PostView) (old new : BookState) (kind : q.is_prompt ≡ p.is_prompt) where
  -- a settling
  pub left_settled : (cause : Option Cause) → ComputedFor cause p q old new → TellsCause p q old new cause
      → pending_of new ≡ 0 → LeavesDesk (Obey command.Settle) reply.Settled p q old new
  left_settled cause computed told none = record {
    by = (computed.0, tt);
    pending = all_known new computed.0.right none;
    jobs = λ _. record { later = told.later; gave = told.gave; leaves = none; prompt = λ _. tt };
    silent = λ idle. absurd (idle tt);
    kind = kind;
  }

  pub left_unsettled : (n : ℕ) (cause : Option Cause) → ComputedFor cause p q old new → TellsCause p q old new cause
      → IsDoneWith new → n ≡ pending_of new → n ≢ 0
      → LeavesDesk (Obey command.Settle) (reply.Unsettled n cause) p q old new
  left_unsettled n cause computed told done is some = record {
    by = (computed.0, is_first computed.0.first computed.1);
    pending = is;
    jobs = λ _. record {
      later = told.later;
      gave = told.gave;
      leaves = (is, nothing_out new n done is some, told.explained);
      prompt = λ _. tt;
    };
    silent = λ idle. absurd (idle tt);
    kind = kind;
  }
    where
      is_first : (first : Option Cause) → (pending_of new ≡ 0) ⊎ (cause ≡ first) → cause ≡ first
      is_first first h = grind (arith)

  -- a show of what is pending
  pub left_shown : (id : ℕ) (cause : Option Cause) → IsPending old id → ComputedFor cause p q old new
      → TellsCause p q old new cause → IsDoneWith new → LeavesDesk (Obey (command.Show id)) (reply.Shown id) p q old new
  left_shown id cause pending computed told done = record {
    by = (inl refl, inr (pending, computed.0));
    pending = tt;
    jobs = λ _. record { later = told.later; gave = told.gave; leaves = λ _. done; prompt = λ _. tt };
    silent = λ idle. absurd (idle tt);
    kind = kind;
  }

  -- a poll
  pub left_polled : (polled : Polled) → GoesByCalls p q old new polled.cause → KeepsWhatIsKnown old new q
      → TellsCause p q old new polled.cause → Polls p q old new polled → (p.is_prompt ≡ true → PollsPromptly p q polled)
      → LeavesDesk (Obey command.Poll) (reply.Polled polled.pending polled.cause) p q old new
  left_polled polled calls keeps told polls prompt = record {
    by = (record { first = polled.cause; calls = calls; known = keeps.known; right = polls.right }, refl);
    pending = polls.pending;
    jobs = λ _. record {
      later = told.later;
      gave = told.gave;
      leaves = (polls.pending, told.explained);
      prompt = prompt;
    };
    silent = λ idle. absurd (idle tt);
    kind = kind;
  }

  -- what sends jobs
  pub left_working : (taken : ℕ) → FeedsAll p q old new taken
      → LeavesDesk (Obey command.Work) reply.Working p q old new
  left_working taken feeds = record {
    by = record {
      first = option_map cause_of_issue feeds.refused;
      calls = feeds.feeds.calls;
      known = feeds.feeds.keeps.known;
      right = feeds.feeds.right;
    };
    pending = tt;
    jobs = λ takes. absurd takes;
    silent = λ _. feeds.feeds.silent;
    kind = kind;
  }

-- a show at once
pub left_at_once : (p : PostView) (d : BookState) (id : ℕ) → ¬ IsPending d id
    → LeavesDesk (Obey (command.Show id)) (reply.Shown id) p p d d
left_at_once p d id none = record {
  by = (inl refl, inl (refl, refl));
  pending = tt;
  jobs = λ _. record {
    later = [];
    gave = sym (append-nil p.answers);
    leaves = λ pending. absurd (none pending);
    prompt = λ _. tt;
  };
  silent = λ _. refl;
  kind = refl;
}

-- what takes no answers
pub left_idle : (ask : Ask) (r : Reply) (p : PostView) (old new : BookState) → IsLeftBy ask r p p old new
    → TellsPending r new → ¬ TakesAnswers ask → LeavesDesk ask r p p old new
left_idle ask r p old new by pending idle =
    record { by = by; pending = pending; jobs = λ takes. absurd (idle takes); silent = λ _. refl; kind = refl }

-- what is out of memory leaves the desk as it is
lacks_left : (ask : Ask) (r : Reply) (p : PostView) (d : BookState) → CanLackMemory ask → IsRefused r
    → IsLeftBy ask r p p d d
lacks_left ask r p d can refused = grind (arith)

lacks_jobs : (ask : Ask) (r : Reply) (p : PostView) (d : BookState) → IsRefused r → CanLackMemory ask → TakesAnswers ask
    → LeavesOver p p r d d
lacks_jobs ask r p d refused can takes =
    record { later = []; gave = sym (append-nil p.answers); leaves = grind (arith); prompt = λ _. grind (arith) }

-- what a request asks
pub left_obeyed : (asked : Request) (command : Command) (r : Reply) (p q : PostView) (old new : BookState)
    → asked ≡ request.Obey command → LeavesDesk (Obey command) r p q old new
    → (ask : Ask) → IsReadAs asked ask → LeavesDesk ask r p q old new
left_obeyed asked command r p q old new is left ask asks =
    let same : ask ≡ Obey command = subst (λ q. IsReadAs q ask) is asks in
    subst (λ a. LeavesDesk a r p q old new) (sym same) left

pub left_taken : (asked : Request) (format : Format) (text : KeptText) (r : Reply) (p : PostView) (old new : BookState)
    → asked ≡ request.Take format text → ((bytes : List ℕ) → IsText text bytes → TakenOrSame format bytes old new)
    → TellsPending r new → (ask : Ask) → IsReadAs asked ask → LeavesDesk ask r p p old new
left_taken asked format text r p old new is left pending ask asks =
    let h : IsReadAs (request.Take format text) ask = subst (λ q. IsReadAs q ask) is asks in
    subst (λ a. LeavesDesk a r p p old new) (sym h.1)
    (left_idle (Take format h.0) r p old new (left h.0 h.2) pending (λ takes. takes))

pub left_refused : (asked : Request) (fault : ScriptFault) (r : Reply) (p : PostView) (d : BookState)
    → asked ≡ request.Refuse fault → TellsPending r d → (ask : Ask) → IsReadAs asked ask → LeavesDesk ask r p p d d
left_refused asked fault r p d is pending ask asks =
    let same : ask ≡ Refuse fault = subst (λ q. IsReadAs q ask) is asks in
    subst (λ a. LeavesDesk a r p p d d) (sym same) (left_idle (Refuse fault) r p d d refl pending (λ takes. takes))

pub left_none : (asked : Request) (r : Reply) (p : PostView) (d : BookState) → asked ≡ request.NoMemory → IsRefused r
    → TellsPending r d → (ask : Ask) → IsReadAs asked ask → LeavesDesk ask r p p d d
left_none asked r p d is refused pending ask asks =
    let can : CanLackMemory ask = subst (λ q. IsReadAs q ask) is asks in
    record {
      by = lacks_left ask r p d can refused;
      pending = pending;
      jobs = lacks_jobs ask r p d refused can;
      silent = λ _. refl;
      kind = refl;
    }
