-- What a run leaves of its counted devices, as what it leaves of the devices themselves.
use Rattle.std.proofs.Common.{◌≡◌, ◌≢◌, ◌∙◌, ℕ, ◌-◌, ◌^◌, Bool, List, Option, Result, Ok, Err, IfSome, OnOk, MatchResult, sym, ap, ap₂, subst}
use Rattle.script_lines.specs.Ahead.{Ahead, LineReading, fresh_reader}
use Rattle.script_lines.specs.Counted.{CountedWriting, fresh_writer}
use Rattle.desk_server.specs.Run.{AnswersAll, AnswersFront, AnswersWhole}
use Rattle.desk_server.specs.Ending.{Completes, ReadStops, WriteStops}
use Rattle.desk_server.specs.declared.server.RunFault.{RunFault}
use Rattle.desk_server.specs.declared.server.RunFault.TheVariants.{Read, Write, NoMemory}
use Rattle.desk_program.specs.declared.ending.Ending.{Ending}
use Rattle.desk_program.specs.declared.ending.Ending.TheVariants.{Done, Failed, NoWorker, Refused}
use Rattle.desk_program.specs.Start.{Answers}

moved : (P : Option (List ℕ) → Option (List ℕ) → Option (List ℕ) → Type 0) (a b c d e f : Option (List ℕ)) → a ≡ b
    → c ≡ d → e ≡ f → P a c e → P b d f
moved P a b c d e f first second third h =
    subst (λ v. P v d f) first (subst (λ v. P a v f) second (subst (λ v. P a c v) third h))

whole_moved : (prompt : Bool) (a b : Ahead) (bytes : Option (List ℕ)) (room : ℕ) (c d e f : Option (List ℕ))
    → b.bytes ≡ bytes → b.room ≡ room → c ≡ d → e ≡ f → AnswersWhole prompt a b c e
    → AnswersWhole prompt a (record { bytes = bytes; room = room }) d f
whole_moved prompt a b bytes room c d e f left most second third h =
    let pair : Option (List ℕ) → ℕ → Ahead = λ p q. record { bytes = p; room = q } in
    subst (λ v. AnswersWhole prompt a v d f) (ap₂ pair left most)
    (subst (λ v. AnswersWhole prompt a b v f) second (subst (λ v. AnswersWhole prompt a b c v) third h))

-- the ending is that of a run
abbrev IsOfRun : Result (Unit {0}) RunFault → Ending → Type 0
IsOfRun answered ending = MatchResult answered (λ _. ending ≡ Done) (λ fault. ending ≡ Failed fault)

completed : {R W : Type 0} (prompt : Bool) (a b : LineReading R) (u v : CountedWriting W)
    (answered : Result (Unit {0}) RunFault) (ending : Ending) → IsOfRun answered ending
    → OnOk answered (Completes prompt a b u v)
    → ending ≡ Done → IfSome a.ahead.bytes (AnswersAll prompt u.contents v.contents)
completed prompt a b u v (Ok done) ending is h e = h.answered
completed prompt a b u v (Err fault) ending is h e = let bad : Failed fault ≡ Done = sym is ∙ e in absurd (cc bad)

failed : (answered : Result (Unit {0}) RunFault) (ending : Ending) (fault : RunFault) → IsOfRun answered ending
    → ending ≡ Failed fault → answered ≡ Err fault
failed (Ok done) ending fault is e = let bad : Done ≡ Failed fault = sym is ∙ e in absurd (cc bad)
failed (Err other) ending fault is e = let same : Failed other ≡ Failed fault = sym is ∙ e in cc same

no_refusal : (answered : Result (Unit {0}) RunFault) (ending : Ending) → IsOfRun answered ending → ending ≢ Refused
no_refusal (Ok done) ending is e = let bad : Done ≡ Refused = sym is ∙ e in absurd (cc bad)
no_refusal (Err fault) ending is e = let bad : Failed fault ≡ Refused = sym is ∙ e in absurd (cc bad)

no_want : (answered : Result (Unit {0}) RunFault) (ending : Ending) → IsOfRun answered ending → ending ≢ NoWorker
no_want (Ok done) ending is e = let bad : Done ≡ NoWorker = sym is ∙ e in absurd (cc bad)
no_want (Err fault) ending is e = let bad : Failed fault ≡ NoWorker = sym is ∙ e in absurd (cc bad)

pub answers_of : {R W : Type 0} (prompt : Bool) (remaining : R → Option (List ℕ)) (contents : W → Option (List ℕ))
    (r : R) (w : W) (answered : Result (Unit {0}) RunFault) (ending : Ending) (s : R) (x : W) (a b : LineReading R)
    (u v : CountedWriting W)
    → IsOfRun answered ending → a ≡ fresh_reader remaining r → u ≡ fresh_writer contents w → s ≡ b.inner → x ≡ v.inner
    → contents x ≡ v.contents
    → OnOk answered (Completes prompt a b u v) → (answered ≡ Err Read → ReadStops remaining prompt a b u v)
    → (answered ≡ Err Write → WriteStops prompt a u v) → (answered ≡ Err NoMemory → (b ≡ a) × (v ≡ u))
    → Answers prompt remaining contents r w ending s x
answers_of {R = R} {W = W} prompt remaining contents r w answered ending s x a b u v is opened begun left held same done
    read write memory =
    let script : a.ahead.bytes ≡ remaining r = ap (λ (q : LineReading R). q.ahead.bytes) opened in
    let before : u.contents ≡ contents w = ap (λ (q : CountedWriting W). q.contents) begun in
    record {
      ran = no_refusal answered ending is;
      done = λ e. moved (λ o p q. IfSome o (AnswersAll prompt p q)) _ _ _ _ _ _ script before (sym same)
          (completed prompt a b u v answered ending is done e);
      read = λ e.
          let stops = read (failed answered ending Read is e) in
          let drawn = stops.fails.1 in (
            b.given,
            subst (λ o. AnswersWhole prompt o (record { bytes = remaining s; room = 2 ^ 64 - 1 - b.given }) (contents w)
                (contents x)) (ap (λ (q : LineReading R). q.ahead) opened)
                (whole_moved prompt a.ahead b.ahead (remaining s) (2 ^ 64 - 1 - b.given) _ _ _ _
                (drawn.bytes ∙ ap remaining (sym left)) drawn.room before (sym same) stops.answered),
          );
      write = λ e. moved (λ o p q. IfSome o (AnswersFront prompt p q)) _ _ _ _ _ _ script before (sym same)
          (write (failed answered ending Write is e)).answered;
      memory = λ e.
          let kept = memory (failed answered ending NoMemory is e) in (
            left ∙ ap (λ (q : LineReading R). q.inner) (kept.0 ∙ opened),
            held ∙ ap (λ (q : CountedWriting W). q.inner)
                (kept.1 ∙ begun),
          );
      worker = λ e. absurd (no_want answered ending is e);
    }
