-- The worked document.
use Rattle.replay_laws.proofs.Names.{AllByRecursion, Asked, IsSound, Lead, List, Plan, [], arith, blank, changed, opening, refl, states_of, states_of-still, still, subst, sym, ◌<◌, ◌∷◌}
use Rattle.schedule.specs.Repeats.{has_too_many_marks}
use Rattle.schedule.proofs.Shared.Changed.{HasStates, some_changed, sound_changed}
use Rattle.schedule.proofs.Sounds.{IsSound-opening}
use Rattle.replay_laws.specs.Example.{WorkedDocument, edits_once, worked}
use Rattle.replay_laws.proofs.Shared.Made.{documents_are_made_anew}

sound_all : (edits : List Asked) (p q : Plan) → IsSound p → 0 < states_of p.rule → AllByRecursion HasStates edits
    → Lead edits p q → IsSound q
sound_all [] p q sound some states is = subst IsSound (sym is) sound
sound_all (asked ∷ edits) p q sound some states lead =
    sound_all edits (changed p asked).plan q (sound_changed p asked sound some states.0 lead.0)
    (some_changed p asked some states.0) states.1 lead.1

made : Lead edits_once (opening 0) worked
unfolding has_too_many_marks
made = (refl, (refl, (refl, (refl, (refl, (refl, (refl, (refl, (refl, (refl, (refl, (refl, refl))))))))))))

-- no rule is asked for
states : AllByRecursion HasStates edits_once
states = (tt, (tt, (tt, (tt, (tt, (tt, (tt, (tt, (tt, (tt, (tt, (tt, tt))))))))))))

sound : IsSound worked
sound = sound_all edits_once (opening 0) worked (IsSound-opening still blank [] [] [] 0 refl refl refl refl refl)
    (let n = states_of-still in omega (arith, n)) states made

pub worked_document : WorkedDocument
worked_document = record {
  sound = sound;
  made = made;
  left = omega arith;
  edits = refl;
  anew = documents_are_made_anew 0 edits_once worked sound made (omega arith);
}
