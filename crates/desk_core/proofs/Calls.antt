-- A list of calls with one more behind it.
use Rattle.desk_core.proofs.Names.{BookState, Bool, Call, CancelsAny, Cause, ComesBy, ComesByAll, GoesByCalls, IsSome, IssueFault, IssuesNone, Job, List, None, Option}
use Rattle.desk_core.proofs.Names.{PostView, RefusesIssue, Some, StopsAtCause, [], answer_in, answers_in, ap, append-nil, append_assoc, arith, cause_of_issue, false}
use Rattle.desk_core.proofs.Names.{first_cause, is_issue, met_by, refl, subst, sym, true, ◌++◌, ◌∙◌, ◌∷◌, ◌≡◌}
use Rattle.std.specs.Option.{option_or}
use Rattle.desk_core.specs.Calls as call
use Rattle.std.proofs.lemmas.List.Elements.{filter_map-append}

comes-then : (calls : List Call) (call : Call) (c d e : BookState) → ComesByAll calls c d → ComesBy call d e
    → ComesByAll (calls ++ call ∷ []) c e
comes-then [] call c d e same comes = (e, subst (λ x. ComesBy call x e) same comes, refl)
comes-then (x ∷ calls) call c d e h comes = (h.0, h.1, comes-then calls call h.0 d e h.2 comes)

pub or-none : (met : Option Cause) → option_or met None ≡ met
or-none met = grind arith

or-or : (a b c : Option Cause) → option_or a (option_or b c) ≡ option_or (option_or a b) c
or-or a b c = grind arith

first-then : (calls : List Call) (call : Call)
    → first_cause (calls ++ call ∷ []) ≡ option_or (first_cause calls) (met_by call)
first-then [] call = or-none (met_by call)
first-then (x ∷ calls) call =
    ap (option_or (met_by x)) (first-then calls call) ∙ or-or (met_by x) (first_cause calls) (met_by call)

none-then : (calls : List Call) (call : Call) → IssuesNone calls → is_issue call ≡ false
    → IssuesNone (calls ++ call ∷ [])
none-then [] call h none = (none, tt)
none-then (x ∷ calls) call h none = (h.0, none-then calls call h.1 none)

none_issued : (issue : Bool) (met later : Option Cause) → IsSome met → (issue ≡ true → option_or met later ≡ None)
    → issue ≡ false
none_issued issue met later some none = grind arith

none_later : (met later : Option Cause) → option_or met later ≡ None → later ≡ None
none_later met later none = grind arith

stops-then : (calls : List Call) (call : Call) → StopsAtCause calls → (is_issue call ≡ true → first_cause calls ≡ None)
    → StopsAtCause (calls ++ call ∷ [])
stops-then [] call h none = (λ met. tt, tt)
stops-then (x ∷ calls) call h none = (
  λ met. none-then calls call (h.0 met) (none_issued (is_issue call) (met_by x) (first_cause calls) met none),
  stops-then calls call h.1 (λ issue. none_later (met_by x) (first_cause calls) (none issue)),
)

-- no call yet
pub calls-first : (p : PostView) (d : BookState) → GoesByCalls p p d d None
calls-first p d = record {
  calls = [];
  comes = refl;
  gave = sym (append-nil p.answers);
  first = refl;
  stops = tt;
}

-- the same, where the post gave no answer
pub calls-same : (p q r : PostView) (c d : BookState) (before after : Option Cause) → r.answers ≡ q.answers
    → after ≡ before → GoesByCalls p q c d before → GoesByCalls p r c d after
calls-same p q r c d before after same told h = record {
  calls = h.calls;
  comes = h.comes;
  gave = same ∙ h.gave;
  first = told ∙ h.first;
  stops = h.stops;
}

-- one more, which is an issue only where no cause was met
pub calls-then : (p q r : PostView) (c d e : BookState) (before after : Option Cause) (call : Call)
    → GoesByCalls p q c d before → ComesBy call d e → r.answers ≡ q.answers ++ answers_in (call ∷ [])
    → after ≡ option_or before (met_by call) → (is_issue call ≡ true → before ≡ None) → GoesByCalls p r c e after
calls-then p q r c d e before after call h comes gave met none = record {
  calls = h.calls ++ call ∷ [];
  comes = comes-then h.calls call c d e h.comes comes;
  gave = gave ∙ ap (λ xs. xs ++ answers_in (call ∷ [])) h.gave
      ∙ append_assoc p.answers (answers_in h.calls) (answers_in (call ∷ []))
      ∙ ap (λ xs. p.answers ++ xs) (sym (filter_map-append answer_in h.calls (call ∷ [])));
  first = met ∙ ap (λ first. option_or first (met_by call)) h.first ∙ sym (first-then h.calls call);
  stops = stops-then h.calls call h.stops (λ issue. sym h.first ∙ none issue);
}

-- an issue that is refused, where no cause was met
pub calls-refused : (p q : PostView) (c d e : BookState) (before after : Option Cause) (fault : IssueFault)
    → before ≡ None → after ≡ Some (cause_of_issue fault) → RefusesIssue d e fault → GoesByCalls p q c d before
    → GoesByCalls p q c e after
calls-refused p q c d e before after fault none told refuses h =
    calls-then p q q c d e before after (call.refuses fault) h refuses (sym (append-nil q.answers))
    (told ∙ sym (ap (λ first. option_or first (Some (cause_of_issue fault))) none)) (λ issue. none)

-- the job that isn't sent yet, if there is one, is cancelled
pub calls-cancelled : (p q : PostView) (c d e : BookState) (before after : Option Cause) (unsent : Option Job)
    → after ≡ before → CancelsAny unsent d e → GoesByCalls p q c d before → GoesByCalls p q c e after
calls-cancelled p q c d e before after None told same h =
    calls-same p q q c e before after refl told (subst (λ x. GoesByCalls p q c x before) (sym same) h)
calls-cancelled p q c d e before after (Some job) told cancels h =
    calls-then p q q c d e before after (call.cancels job.number) h cancels (sym (append-nil q.answers))
    (told ∙ sym (or-none before)) (λ issue. absurd (cc))
