-- What a poll collects, and what it feeds then.
use Rattle.desk_core.proofs.Names.{BookState, Cause, CollectsOn, GivesAtMost, HasCome, JobResult, List, None, Nothing, Option, PostView, Progress, Receives, Some, [], ap, arith, at_rest, common_steps, given_of, inl, inr, job_in, length}
use Rattle.desk_core.proofs.Names.{refl, stage, subst, sym, true, ℕ, ◌++◌, ◌+◌, ◌∙◌, ◌∷◌, ◌≡◌, ◌≤◌, ◌⊎◌}
use Rattle.revision_jobs.specs.declared.post.Received.TheVariants as received
use Rattle.desk_core.specs.Polling.{AnswersHeld}
use Rattle.desk_core.proofs.Steps.{GoesOn-idle, GoesOn-told, Idles, Keeps-come, ServesOn-come}

-- how many answers came
many_later : (before later all : List JobResult) (count : ℕ) → all ≡ before ++ later
    → length all ≡ length before + count → length later ≡ count
many_later before later all count gave many = grind (arith, common_steps)

-- an answer more was collected
pub many_on : (before all : List JobResult) (answer : JobResult) (first count : ℕ) → all ≡ before ++ answer ∷ []
    → length before ≡ first + count → length all ≡ first + (count + 1)
many_on before all answer first count gave many = grind (arith, common_steps)

pub given_on : (first old new : BookState) → GivesAtMost 0 old new → given_of old ≡ given_of first
    → given_of new ≡ given_of first
given_on first old new h same = omega (arith, h.0, h.1, same)

-- a prompt post holds still what it held, or it answered that and holds none
abbrev pub HasWorked : PostView → PostView → Type 0
HasWorked p q =
    ((q.held ≡ p.held) × (q.answers ≡ p.answers)) ⊎ ((q.held ≡ None) × AnswersHeld p.held p.answers q.answers)

-- it gave an answer
pub worked_on : (p q r : PostView) (answer : JobResult) → Receives q r (received.Answer answer)
    → q.is_prompt ≡ p.is_prompt → (p.is_prompt ≡ true → HasWorked p q) → p.is_prompt ≡ true → HasWorked p r
worked_on p q r answer receives kind worked prompt =
    let said = receives.prompt (kind ∙ prompt) in
    elim (worked prompt) [
      | inl same ↦ inr (
        said.1,
        subst (λ held. AnswersHeld held p.answers r.answers) (sym said.0 ∙ same.0)
            (answer, refl, receives.answers ∙ ap (λ xs. xs ++ answer ∷ []) same.1),
      )
      | inr done ↦ absurd (cc)
    ]

-- it has none left to answer
pub worked_out : (p q : PostView) → (q.answers ≡ p.answers → q.held ≡ None) → HasWorked p q
    → AnswersHeld p.held p.answers q.answers
worked_out p q none (inl same) =
    subst (λ held. AnswersHeld held p.answers q.answers) (sym (none same.1) ∙ same.0) same.1
worked_out p q none (inr done) = done.1

-- what was collected where it ends
pub Collects-come : (old new : BookState) (p q : PostView) (progress : Progress) (count : ℕ)
    → HasCome old p (stage new q progress) → progress.unsent ≡ Nothing → given_of new ≡ given_of old
    → length q.answers ≡ length p.answers + count → (q.asked ≡ p.asked + (count + 1)) ⊎ (64 ≤ count)
    → (p.is_prompt ≡ true → AnswersHeld p.held p.answers q.answers) → CollectsOn p q old new progress.cause
Collects-come old new p q progress count come none given many all prompt = record {
  collects = record {
    told = come.told;
    refused = come.refused;
    all = subst (λ n. (q.asked ≡ p.asked + (n + 1)) ⊎ (64 ≤ n))
        (sym (many_later p.answers come.told.later q.answers count come.told.gave many)) all;
    given = given;
    keeps = Keeps-come old new p q progress none come;
    serves = ServesOn-come old new p q progress none come;
    prompt = prompt;
  };
  comes = (GoesOn-told new q progress (at_rest progress.cause) (ap job_in (sym none)) refl).comes old p come;
}

-- the post has no answer
pub nothing_more : (old new : BookState) (p q r : PostView) (progress : Progress) (count : ℕ) → Idles q r
    → r.asked ≡ q.asked + 1 → HasCome old p (stage new q progress) → progress.unsent ≡ Nothing
    → given_of new ≡ given_of old → q.asked ≡ p.asked + count → length q.answers ≡ length p.answers + count
    → (p.is_prompt ≡ true → HasWorked p q) → (q.is_prompt ≡ true → q.held ≡ None) → CollectsOn p r old new progress.cause
nothing_more old new p q r progress count idles one come nothing given asked many worked free =
    let goes = GoesOn-idle new q r progress progress idles refl refl in
    Collects-come old new p r progress count (goes.comes old p come) nothing given
    (ap (λ xs. length xs) idles.answers ∙ many) (inl (omega (arith, one, asked)))
    (λ is. subst (AnswersHeld p.held p.answers) (sym idles.answers)
    (worked_out p q (λ same. free (come.kind ∙ is)) (worked is)))

-- no cause was met
pub none_of : (cause : Option Cause) → ((other : Cause) → cause ≡ Some other → ⊥) → cause ≡ None
none_of cause h = grind arith
