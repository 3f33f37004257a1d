-- What feeding a post does with each job.
use Rattle.desk_core.proofs.Names.{BookState, Bool, Cancels, Cause, Comes, Empty, Expected, FeedsOn, HoldsAllOut, IsRightBook, IsSome, IssueFault, IssuesFor, Job, Need, None, NothingOut, Option, PostView, RefusesIssue, RowState, Sends}
use Rattle.desk_core.proofs.Names.{Sent, Serves, Some, Taken, Value, ap, arith, at_rest, cancelled, cause_of_issue, expected, given_of, if◌then◌else◌, inl, inr, is_need, job_of, nat_tests, need_is, need_same, pending_of, ready, refl}
use Rattle.desk_core.proofs.Names.{row_of, stage, subst, sym, true, ℕ, ◌+◌, ◌∙◌, ◌≡◌, ◌⊎◌}
use Rattle.std.specs.Option.{option_map}
use Rattle.revision_jobs.specs.Posted.{SendsPromptly}
use Rattle.desk_core.specs.Issued.{IsIssued}
use Rattle.desk_core.specs.Polling.{IsCauseOf}
use Rattle.desk_core.specs.Settling.{HoldsJobsOut}
use Rattle.desk_core.specs.Feed.{FedUntil, HoldsWork, floor_after}
use Rattle.desk_core.proofs.Known.{stays-issued}
use Rattle.desk_core.proofs.Steps.{GoesOn-cancelled, GoesOn-idle, GoesOn-issued, GoesOn-on, GoesOn-refused, GoesOn-sent, HasCome-first, Idles-refused, Keeps-come, ServesOn-come, barred}
use Rattle.desk_core.proofs.Shared.Given.{same_given, issued_given}
use Rattle.dependency_book.proofs.Shared.Cores.{once}

-- so many jobs were taken so far, and all that were given
pub record HasFed (first d : BookState) (p q : PostView) (taken : ℕ) : Type 0 where
  pub stays : (need : Need) → (row_of first need ≡ Empty) ⊎ (row_of d need ≡ row_of first need)
  pub floor : q.floor ≡ floor_after p.floor (given_of first) taken
  pub given : given_of d ≡ given_of first + taken
  pub asked : q.asked ≡ p.asked + taken
  pub silent : q.answers ≡ p.answers
  pub refused : d.refused ≡ first.refused
  pub began : Serves first p
  pub serves : Serves d q
  pub comes : Comes (stage first p (at_rest None)) (stage d q (at_rest None))

pub HasFed-first : (d : BookState) (post : PostView) → Serves d post → HasFed d d post post 0
HasFed-first d post serves = grind arith

some_more : (before first taken given number floor : ℕ) → floor ≡ number + 1 → number ≡ given → given ≡ first + taken
    → floor ≡ floor_after before first (taken + 1)
some_more before first taken given number floor rises is was = grind (arith, nat_tests)

-- what stood in a row stands there still after more
stays_on : (first old new : RowState Value) → (first ≡ Empty) ⊎ (old ≡ first) → (old ≡ Empty) ⊎ (new ≡ old)
    → (first ≡ Empty) ⊎ (new ≡ first)
stays_on first old new h k = grind arith

-- a job was taken
pub HasFed-taken : (first old new : BookState) (need : Need) (job : Job) (p q r : PostView) (taken : ℕ)
    → IssuesFor old new job need → Sends job q r Taken → HasFed first old p q taken
    → HasFed first new p r (taken + 1)
HasFed-taken first old new need job p q r taken issued sends h =
    let is = issued.next.number in
    let one = issued_given issued in
    let was = h.given in
    let none = at_rest None in
    let goes = GoesOn-on (stage old q none) (stage new q (ready job none)) (stage new r none)
    (GoesOn-issued old new q none need job refl refl issued) (GoesOn-sent new q r none job sends refl) in
    record {
      stays = λ other. stays_on (row_of first other) (row_of old other) (row_of new other) (h.stays other)
          (stays-issued old new need job issued other);
      floor = some_more p.floor (given_of first) taken (given_of old) job.number r.floor sends.sent is was;
      given = omega (arith, one, was);
      asked = omega (arith, sends.same.asked, h.asked);
      silent = sends.answers ∙ h.silent;
      refused = issued.is.refused ∙ h.refused;
      began = h.began;
      serves = (goes.fits (record { serves = h.serves; unsent = tt })).serves;
      comes = λ start begun come. goes.comes start begun (h.comes start begun come);
    }

-- a job that is cancelled leaves the rows as they were before it was issued
pub rows-undone : (old mid new : BookState) (need : Need) (job : Job) → IssuesFor old mid job need → IsRightBook mid
    → ((other : Need) → row_of new other ≡ cancelled job.number (row_of mid other)) → (other : Need)
    → row_of new other ≡ row_of old other
rows-undone old mid new need job issued right rows other =
    rows other ∙ undone (is_need need other) (row_of old other) (row_of mid other) (issued.is.rows other)
    (λ this. ap (row_of old) (sym (need_is need other this)) ∙ issued.empty)
    (λ out is number. subst (λ n. is_need need n ≡ true)
    (once mid need other job out right (ap job_of there) is (sym number)) (need_same need))
  where
    there : row_of mid need ≡ Expected job
    there = issued.is.rows need ∙ ap (λ b. if b then Expected job else row_of old need) (need_same need)

    undone : (b : Bool) (was is : RowState Value) → is ≡ (if b then Expected job else was) → (b ≡ true → was ≡ Empty)
        → ((out : Job) → job_of is ≡ Some out → out.number ≡ job.number → b ≡ true) → cancelled job.number is ≡ was
    undone b was is issues empty alone = grind (arith, nat_tests)

cause_is : (refused : Option IssueFault) (told : Option Cause) → IsCauseOf refused told
    → told ≡ option_map cause_of_issue refused
cause_is None told is = is
cause_is (Some fault) told is = is

-- where nothing is pending unless a job is out, a post that holds whatever is out holds one
holds_work : (d : BookState) (held : Option Job) → (NothingOut d → pending_of d ≡ 0) → HoldsJobsOut held d
    → HoldsWork (pending_of d) held
holds_work d (Some job) none out = inr refl
holds_work d None none out = inl (none (λ need. nowhere (expected d need) (out need)))
  where
    nowhere : (job : Option Job) → ((other : Job) → job ≡ Some other → None ≡ Some other) → job ≡ None
    nowhere None h = refl
    nowhere (Some job) h = sym (h job refl)

-- so does a prompt one that didn't take a job
refused_holds : (job : Job) (before after : Option Job) (said : Sent) → (said ≡ Taken → ⊥)
    → SendsPromptly job before after said → IsSome after
refused_holds job before after said other h = grind arith

-- what a feeding leaves
fed : (first new : BookState) (p q : PostView) (taken : ℕ) (refused : Option IssueFault) → Serves first p
    → Comes (stage first p (at_rest None)) (stage new q (at_rest (option_map cause_of_issue refused)))
    → ((need : Need) → (row_of first need ≡ Empty) ⊎ (row_of new need ≡ row_of first need)) → IsRightBook new
    → q.floor ≡ floor_after p.floor (given_of first) taken → q.answers ≡ p.answers
    → FedUntil p q first new taken refused → (HoldsAllOut new q → refused ≡ None → HoldsWork (pending_of new) q.held)
    → FeedsOn p q first new taken refused
fed first new p q taken refused serves comes stays right floor silent ended prompt =
    let cause = option_map cause_of_issue refused in
    let come = comes first p (HasCome-first first p (at_rest None) refl refl serves) in
    let on = ServesOn-come first new p q (at_rest cause) refl come in
    record {
      feeds = record {
        stays = stays;
        keeps = Keeps-come first new p q (at_rest cause) refl come;
        right = right;
        floor = floor;
        document = come.document;
        silent = silent;
        ended = ended;
        calls = come.calls;
        prompt = λ all. prompt (on.held all);
      };
      serves = on;
      comes = λ told is.
          subst (λ c. Comes (stage first p (at_rest None)) (stage new q (at_rest c)))
          (sym (cause_is refused told is)) comes;
    }

-- no more job was issued
pub fed-ended : (first old new : BookState) (p q : PostView) (taken : ℕ) → IsIssued old new None → IsRightBook new
    → HasFed first old p q taken → FeedsOn p q first new taken None
fed-ended first old new p q taken none right h =
    subst (λ d. FeedsOn p q first d taken None) (sym none.1)
    (fed first old p q taken None h.began h.comes h.stays (subst IsRightBook none.1 right)
    h.floor h.silent (inl (record { given = h.given; asked = h.asked }, none.0))
    (λ all refused. holds_work old q.held (subst (λ d. NothingOut d → pending_of d ≡ 0) none.1 none.2) all.held))

-- an issue was refused
pub fed-unissued : (first old new : BookState) (p q : PostView) (taken : ℕ) (fault : IssueFault)
    → RefusesIssue old new fault → IsRightBook new → HasFed first old p q taken → FeedsOn p q first new taken (Some fault)
fed-unissued first old new p q taken fault refuses right h =
    let bars = barred old new fault refuses in
    let cause = Some (cause_of_issue fault) in
    let goes = GoesOn-refused old new q (at_rest None) (at_rest cause) fault refl refl refl refuses in
    fed first new p q taken (Some fault) h.began
    (λ start begun come. goes.comes start begun (h.comes start begun come))
    (λ need. stays_on (row_of first need) (row_of old need) (row_of new need) (h.stays need) (inr (bars.rows need)))
    right h.floor h.silent (
      record { given = bars.given ∙ h.given; asked = h.asked },
      record { before = old; none = h.refused; refuses = refuses },
    ) (λ all none. absurd (cc))

-- the last job wasn't taken
pub fed-refused : (first old mid new : BookState) (need : Need) (job : Job) (p q r : PostView) (taken : ℕ) (said : Sent)
    → IssuesFor old mid job need → IsRightBook mid → Cancels job.number mid new → (said ≡ Taken → ⊥) → Sends job q r said
    → HasFed first old p q taken → IsRightBook new → FeedsOn p r first new taken None
fed-refused first old mid new need job p q r taken said issued middle cancels other sends h right =
    let idles = Idles-refused job q r said other sends in
    let none = at_rest None in
    let held = ready job none in
    let one = issued_given issued in
    let still = same_given cancels.book in
    fed first new p r taken None h.began
    (λ start begun come. (GoesOn-cancelled mid new r held none cancels refl refl).comes start begun
    ((GoesOn-idle mid q r held held idles refl refl).comes start begun
    ((GoesOn-issued old mid q none need job refl refl issued).comes start begun (h.comes start begun come))))
    (λ other. stays_on (row_of first other) (row_of old other) (row_of new other) (h.stays other)
    (inr (rows-undone old mid new need job issued middle cancels.rows other)))
    right (idles.floor ∙ h.floor) (sends.answers ∙ h.silent)
    (inr (record {
      given = omega (arith, one, h.given, still);
      asked = omega (arith, sends.same.asked, h.asked);
    })) (λ all refused. inr (refused_holds job q.held r.held said other (sends.prompt (sym sends.same.kind ∙ all.prompt))))
