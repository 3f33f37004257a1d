-- What is written in each session of a script makes its document anew.
use Rattle.reply_laws.proofs.Names.{AllByRecursion, Asked, Between, Change, Ended, Fits, HasStates, HasText, Insert, Intervention, IsMadeAnew, IsWrittenDistance, LineFits, List, Plan, RemoveIntervention, Session, SetsSome}
use Rattle.reply_laws.proofs.Names.{WhateverIsScriptedIsMadeAnew, [], acting, all_append, all_so, arith, asks, asks-fit, changed, length, lines_until, next_intervention, not, opening, opening_session, sessions, ◌<◌, ◌==◌, ◌∷◌}
use Rattle.schedule.proofs.Shared.Ids.{each_filter, each_map}
use Rattle.replay_laws.proofs.Shared.Made.{IsNumbered, made, numbered_opening, numbered_step, rows_few}
use Rattle.reply_laws.proofs.OneLine.{KeepsLimits, Stays, answer-keeps, each-line}
use Rattle.reply_laws.proofs.OneLine.{limits-stay, opening-keeps}
use Rattle.reply_laws.proofs.Remade.{scripts_anew}
use Rattle.reply_laws.proofs.RuleTexts.{kept_texts, sessions-keep}

-- an intervention that can be written
abbrev CanStand : Intervention → Type 0
CanStand i = (0 < length i.cells) × IsWrittenDistance i.acts

abbrev AllStand : Plan → Type 0
AllStand p = AllByRecursion CanStand p.interventions

stand-step : (p : Plan) (asked : Asked) → SetsSome asked → AllStand p → AllStand (changed p asked).plan
stand-step p (Insert b acts cells) h k =
    all_append CanStand p.interventions (next_intervention p b acts cells ∷ []) k (h, tt)
stand-step p (Change id acts cells) h k =
    each_map CanStand (λ (i : Intervention). i.id == id) (acting acts cells) p.interventions (λ i _. h) k
stand-step p (RemoveIntervention id) h k =
    each_filter CanStand (λ (i : Intervention). not (i.id == id)) p.interventions k
stand-step p asked h k = k

-- what stays of a document that a script edits
record IsKept (p : Plan) : Type 0 where
  limits : KeepsLimits p
  numbered : IsNumbered p
  stand : AllStand p

abbrev IsSuch : Asked → Type 0
IsSuch asked = HasStates asked × SetsSome asked

kept-stays : Stays IsKept IsSuch
kept-stays = record {
  step = λ p asked has k free. record {
    limits = limits-stay.step p asked has.0 k.limits free;
    numbered = numbered_step p asked k.numbered free;
    stand = stand-step p asked has.1 k.stand;
  };
  rules = λ text rule is. (limits-stay.rules text rule is, tt);
  starts = λ start. (tt, tt);
}

opening-kept : IsKept (opening 0)
opening-kept = record { limits = opening-keeps; numbered = numbered_opening 0; stand = tt }

session-anew : (s : Session) → IsKept s.plan → HasText s.plan s.rule_text → IsMadeAnew s
session-anew s k has few left = grind (arith, all_so, made, rows_few, scripts_anew)

all-anew : (ss : List Session) → AllByRecursion (λ (t : Session). IsKept t.plan) ss
    → AllByRecursion (λ (t : Session). HasText t.plan t.rule_text) ss → AllByRecursion IsMadeAnew ss
all-anew [] k h = tt
all-anew (s ∷ ss) k h = (session-anew s k.0 h.0, all-anew ss k.1 h.1)

pub scripted_anew : WhateverIsScriptedIsMadeAnew
scripted_anew script shortages =
    let lines = lines_until Ended script in
    let asked = asks Ended Between 1 lines in
    all-anew (sessions opening_session asked shortages)
    (sessions-keep (λ (t : Session). IsKept t.plan) (Fits IsSuch)
    (λ short s ask fits k. answer-keeps IsKept IsSuch kept-stays short s ask fits k) opening_session asked shortages
    (asks-fit IsSuch Ended Between 1 lines (each-line (LineFits IsSuch)
    (λ line a said. (said.states, said.rows)) lines))
    opening-kept)
    (kept_texts script shortages)
