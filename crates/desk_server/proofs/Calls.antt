-- A list of calls with one more behind it, by which a job is cancelled.
use Rattle.desk_server.proofs.Names.{BookState, KeepsCalls, List, [], ap, refl, subst, sym, ℕ, ◌++◌, ◌∙◌, ◌∷◌, ◌≡◌}
use Rattle.std.specs.List.{cons_option}
use Rattle.std.specs.Option.{option_or}
use Rattle.desk_core.specs.Calls.{Call, Cancels, ComesByAll, IssuesNone, StopsAtCause, answer_in, answers_in, first_cause, met_by}
use Rattle.desk_core.specs.Calls as call

-- the same answers are collected, the same cause is met first, and nothing more is issued
record CancelsBehind (calls : List Call) (c e : BookState) : Type 0 where
  all : List Call
  comes : ComesByAll all c e
  answers : answers_in all ≡ answers_in calls
  first : first_cause all ≡ first_cause calls
  none : IssuesNone calls → IssuesNone all
  stops : StopsAtCause calls → StopsAtCause all

cancels_behind : (calls : List Call) (n : ℕ) (c d e : BookState) → ComesByAll calls c d → Cancels n d e
    → CancelsBehind calls c e
cancels_behind [] n c d e same cancels = record {
  all = call.cancels n ∷ [];
  comes = (e, subst (λ x. Cancels n x e) same cancels, refl);
  answers = refl;
  first = refl;
  none = λ _. (refl, tt);
  stops = λ _. (λ _. tt, tt);
}
cancels_behind (x ∷ calls) n c d e h cancels =
    let rest = cancels_behind calls n h.0 d e h.2 cancels in record {
      all = x ∷ rest.all;
      comes = (h.0, h.1, rest.comes);
      answers = ap (cons_option (answer_in x)) rest.answers;
      first = ap (option_or (met_by x)) rest.first;
      none = λ none. (none.0, rest.none none.1);
      stops = λ stops. (λ met. rest.none (stops.0 met), rest.stops stops.1);
    }

-- calls that led to a desk lead on with it
pub keeps_calls : (n : ℕ) (old new : BookState) → Cancels n old new → KeepsCalls old new
keeps_calls n old new cancels p q first cause h =
    let behind = cancels_behind h.calls n first old new h.comes cancels in record {
      calls = behind.all;
      comes = behind.comes;
      gave = h.gave ∙ ap (λ xs. p.answers ++ xs) (sym behind.answers);
      first = h.first ∙ sym behind.first;
      stops = behind.stops h.stops;
    }
