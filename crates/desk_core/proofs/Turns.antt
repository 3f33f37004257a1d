-- How a turn brings a settling nearer to its end.
use Rattle.desk_core.proofs.Names.{Advances, ArrivalRow, Asks, BookState, Break, CancelsAny, Cause, Continue, ControlFlow, Ends, Explains, Frees, GoesOn, HasCause, IfSome, IsAnyOut, IsAtHand, IsDone, IsDoneBy, IsEnding, IsSome, IsWhy, Job}
use Rattle.desk_core.proofs.Names.{JobResult, List, Nears, None, Nothing, NothingOut, Option, PostView, Progress, Ready, RunsOut, SawStop, Some, Stage, TextRow, Unsent, Waiting, arith, empty_rows_of, expected, inl, inr, is_empty, job_in}
use Rattle.desk_core.proofs.Names.{length, pending_of, rows_of, stage, subst, sym, true, turns_at, turns_for, turns_from, ℕ, ◌*◌, ◌+◌, ◌<◌, ◌∙◌, ◌≡◌, ◌≤◌, ◌⊎◌}
use Rattle.std.proofs.lemmas.List.Sums.{count_by-le-length}
use Rattle.desk_core.specs.declared.settling.Settling.{Settling}
use Rattle.desk_core.specs.Settling.{Tells}
use Rattle.desk_core.proofs.Out.{held_out}

pub nears_on : (s mid t : Stage) (next : ControlFlow Unit Unit) → turns_at mid ≤ turns_at s → Nears mid t next
    → Nears s t next
nears_on s mid t next h k = grind arith

nearer : (s t : Stage) (next : ControlFlow Unit Unit) → next ≡ Continue tt → t.post.held ≡ None
    → empty_rows_of t.desk ≤ empty_rows_of s.desk
    → turns_for t.progress.unsent None < turns_for s.progress.unsent s.post.held → Nears s t next
nearer s t next goes held wanting fewer = grind arith

-- a turn that receives, while `shown` is what isn't sent yet
pub advances-received : (d : BookState) (post : PostView) (issued shown : Progress) (t : Stage)
    (next : ControlFlow Unit Unit) → shown.cause ≡ issued.cause → GoesOn 0 (stage d post shown) t
    → (IsAtHand (job_in issued.unsent) post.held d → turns_for shown.unsent None < turns_for issued.unsent post.held)
    → (post.is_prompt ≡ true → Frees (stage d post shown) t next) → Advances (stage d post issued) t next
advances-received d post issued shown t next cause after fewer h first begun comes all none =
    let frees = h (comes.kind ∙ all.prompt) in
    nearer (stage d post issued) t next frees.goes_on frees.held (frees.wanting none)
    (subst (λ u. turns_for u None < turns_for issued.unsent post.held) (sym (frees.unsent none))
    (fewer (comes.jobs.at_hand all)))

-- a turn that receives since the post had no room for the job
pub fewer-waiting : (job : Job) (unsent : Unsent) (held : Option Job) → unsent ≡ Waiting job
    → turns_for (Ready job) None < turns_for unsent held
fewer-waiting job unsent held is = grind arith

-- a turn that receives with nothing to send since a job is out
pub fewer-nothing : (d : BookState) (shown unsent : Unsent) (held : Option Job) → shown ≡ Nothing → unsent ≡ Nothing
    → IsAnyOut d true → IsAtHand (job_in unsent) held d → turns_for shown None < turns_for unsent held
fewer-nothing d shown unsent held nothing is any at_hand =
    let out = held_out d held any (subst (λ u. IsAtHand (job_in u) held d) is at_hand) in
    let there = out.1 in
    grind arith

-- the turns that are enough at first
pub turns-at_first : (d : BookState) (unsent : Unsent) (held : Option Job) (turns : ℕ) → unsent ≡ Nothing
    → 4 * rows_of d ≤ turns → turns_from d unsent held + 0 ≤ turns
turns-at_first d unsent held turns nothing enough =
    let arrivals = count_by-le-length (λ (r : ArrivalRow). is_empty r.state) d.arrivals in
    let texts = count_by-le-length (λ (r : TextRow). is_empty r.state) d.texts in
    grind (arith, arrivals, texts)

nothing_left : (unsent : Unsent) (held : Option Job) → turns_for unsent held ≡ 0 → (unsent ≡ Nothing) × (held ≡ None)
nothing_left unsent held h = grind arith

-- a settling whose turns are spent
pub turns-spent : (s : Stage) (counter turns : ℕ) → turns ≤ counter
    → IsAtHand (job_in s.progress.unsent) s.post.held s.desk → turns_at s + counter ≤ turns
    → (s.progress.unsent ≡ Nothing) × IsDone s.desk
turns-spent s counter turns spent at_hand h =
    let left = nothing_left s.progress.unsent s.post.held (omega arith) in (
      left.0,
      inr (
        λ need.
            nowhere s.progress.unsent s.post.held (expected s.desk need) left (at_hand need),
        omega arith,
      ),
    )
  where
    nowhere : (unsent : Unsent) (held job : Option Job) → (unsent ≡ Nothing) × (held ≡ None)
        → ((out : Job) → job ≡ Some out → (job_in unsent ≡ Some out) ⊎ (held ≡ Some out)) → job ≡ None
    nowhere unsent held job none at_hand = grind arith

-- a turn after which a settling goes on
pub turns-on : (s t : Stage) (next : ControlFlow Unit Unit) (counter turns : ℕ) → next ≡ Continue tt
    → turns_at s + counter ≤ turns → Nears s t next → turns_at t + (counter + 1) ≤ turns
turns-on s t next counter turns goes h nears = let less = subst (Nears s t) goes nears in omega arith

pub asked-on : (s t : Stage) (next : ControlFlow Unit Unit) (first counter : ℕ) → next ≡ Continue tt → Asks s t next
    → s.post.asked ≡ first + counter → t.post.asked ≡ first + (counter + 1)
asked-on s t next first counter goes asks h =
    let one : t.post.asked ≡ s.post.asked + 1 = subst (Asks s t) goes asks in omega (arith, one, h)

-- a turn with which a settling ends
pub done-at_end : (s t : Stage) (next : ControlFlow Unit Unit) → next ≡ Break tt → Nears s t next
    → (t.progress.unsent ≡ Nothing) × IsDone t.desk
done-at_end s t next ends nears = let done = subst (Nears s t) ends nears in (done.0, inl done.1)

pub ended-at_end : (turns : ℕ) (begun : PostView) (s t : Stage) (next : ControlFlow Unit Unit) → next ≡ Break tt
    → Asks s t next → RunsOut turns begun t
ended-at_end turns begun s t next ends asks = grind arith

-- a settling that leaves some pending has a cause
pub cause-left : (old new : BookState) (post : PostView) (progress : Progress) (pending : ℕ)
    → IsDoneBy (stage old post progress) → CancelsAny (job_in progress.unsent) old new → pending ≡ pending_of new
    → (NothingOut new → empty_rows_of new ≡ 0 → pending ≡ 0) → 0 < pending → IsSome progress.cause
cause-left old new post progress pending done cancels count none some = grind arith

-- and where it has none, the post is over or was asked in every turn
pub why-left : (turns : ℕ) (first old new : BookState) (p q : PostView) (progress : Progress) (pending : ℕ)
    (later : List JobResult) → RunsOut turns p (stage old q progress) → CancelsAny (job_in progress.unsent) old new
    → pending ≡ pending_of new → 0 < pending → IfSome progress.cause (Explains p.limit first new later)
    → IfSome progress.cause (SawStop p q) → IsWhy turns p q first new later progress.cause
why-left turns first old new p q progress pending later runs cancels count some explained saw = grind arith

-- how a settling ends

pub ends-so : (turns : ℕ) (p q : PostView) (first d : BookState) (later : List JobResult) (pending : ℕ)
    (cause : Option Cause) (ending : Settling) → IsEnding pending cause ending → pending ≡ pending_of d
    → pending ≤ length d.plan.bookmarks → (0 < pending → IsWhy turns p q first d later cause)
    → Ends turns p q first d later ending
ends-so turns p q first d later pending cause ending h count bound why = grind arith

pub tells-so : (pending : ℕ) (cause : Option Cause) (ending : Settling) → IsEnding pending cause ending
    → Tells cause ending
tells-so pending cause ending h = grind arith

pub caused-so : (pending : ℕ) (cause : Option Cause) (ending : Settling) → IsEnding pending cause ending
    → (0 < pending → IsSome cause) → HasCause ending
caused-so pending cause ending h caused = grind arith
