-- What a script that makes a document anew leaves.
use Rattle.std.specs.Prelude.{◌≡◌, ℕ, ◌+◌, ◌<◌, ◌≤◌, ◌^◌, List, [], ◌∷◌, length}
use Rattle.std.specs.Prelude.{false, if◌then◌else◌, Option, None, Some, Ok}
use Rattle.std.specs.List.{AllByRecursion}
use Rattle.text_lines.specs.LineEnds.{text_of_lines}
use Rattle.text_lines.specs.Lines.{Ended, NoLineFeed, full_line, lines_until}
use Rattle.script_lines.specs.ScriptLine.{is_end}
use Rattle.rule_tree.specs.declared.rule.Rule.{Rule}
use Rattle.rule_tree.specs.Rule.{rule_of, still}
use Rattle.plane_core.specs.WorldRows.{rows_of}
use Rattle.schedule.specs.declared.document.Intervention.{Intervention}
use Rattle.schedule.specs.Plan.{Plan, opening}
use Rattle.schedule.specs.Sound.{IsSound}
use Rattle.replay_laws.specs.Law.{IsMade, remade}
use Rattle.replay_laws.specs.Replay.{edits_for}
use Rattle.desk_script.specs.ReadsBack.{IsCount, IsWrittenDistance}
use Rattle.desk_script.specs.Asks.{Ask, Between, asks}
use Rattle.desk_script.specs.Scripted.{script_text}
use Rattle.desk_server.specs.Answer.{After, Session, answer, opening_session, session_after}
use Rattle.desk_server.specs.Reply.{accepted_text}
use Rattle.desk_server.specs.Script.{afters_with, first_shortage, later_shortages}
use Rattle.desk_server.specs.Shortage.{Shortage}

-- the text of a rule: lines of which none ends a text, each with its line feed, that mean the rule
pub record IsTextOf (rule : Rule) (text : List ℕ) : Type 0 where
  pub lines : List (List ℕ)
  pub is : text_of_lines lines ≡ text
  pub whole : AllByRecursion NoLineFeed lines
  pub inside : AllByRecursion (λ line. is_end (full_line line).says ≡ false) lines
  pub means : rule_of text ≡ Ok rule

-- a document's rule has this text, or none and is the opening document's
abbrev pub HasText : Plan → Option (List ℕ) → Type 0
HasText p None = p.rule ≡ still
HasText p (Some text) = IsTextOf p.rule text

-- a reply that accepts an edit
pub record IsAccepted (after : After) : Type 0 where
  pub revision : ℕ
  pub word : List ℕ
  pub number : Option ℕ
  pub told : after.told ≡ accepted_text revision word number

-- the document after the last of some answers, or this one where there are none
abbrev pub last_plan : Plan → List After → Plan
last_plan p [] = p
last_plan p (after ∷ rest) = last_plan after.plan rest

-- each command of a script is accepted where nothing is short, and the last leaves this document
-- but for its revision and the last ids
pub record MakesAnew (script : List ℕ) (p : Plan) : Type 0 where
  pub accepted : AllByRecursion IsAccepted (afters_with script [])
  pub revision : ℕ
  pub made : last_plan (opening 0) (afters_with script []) ≡ remade revision p

-- what can be written of a document and read again: each intervention sets a cell, its distance and
-- the revision have 64 bits, the start has no more distinct squares than a macrocell text may have,
-- and there are revisions enough
pub record CanBeWritten (p : Plan) : Type 0 where
  pub cells : AllByRecursion (λ (i : Intervention). 0 < length i.cells) p.interventions
  pub distances : AllByRecursion (λ (i : Intervention). IsWrittenDistance i.acts) p.interventions
  pub start : length (rows_of p.start) ≤ 16777216
  pub revision : IsCount p.revision
  pub revisions : IsCount (length (edits_for p))

-- the script that is written of a document makes it anew
abbrev pub ScriptsMakeAnew : Type 0
ScriptsMakeAnew =
    (p : Plan) (rule : Option (List ℕ)) → IsSound p → IsMade p → CanBeWritten p → HasText p rule
    → MakesAnew (script_text rule p) p

-- the sessions in which commands are answered, and the one after the last of them
abbrev pub sessions : Session → List Ask → List Shortage → List Session
sessions s [] shortages = s ∷ []
sessions s (ask ∷ rest) shortages =
    let after = answer (first_shortage shortages) s ask in
    s ∷ (if after.ends then []
    else sessions (session_after s ask after.plan) rest (later_shortages shortages))

-- those of a script
abbrev pub sessions_with : List ℕ → List Shortage → List Session
sessions_with script shortages =
    sessions opening_session (asks Ended Between 1 (lines_until Ended script)) shortages

-- whatever a script says and whatever is short, the text that is kept is that of the document's
-- rule, and where none is kept it is the opening document's
abbrev pub KeptTextsAreRules : Type 0
KeptTextsAreRules =
    (script : List ℕ) (shortages : List Shortage)
    → AllByRecursion (λ (s : Session). HasText s.plan s.rule_text) (sessions_with script shortages)

-- and the script that is written in each of these sessions makes its document anew, where the start
-- has no more distinct squares than a macrocell text may have, and two revisions are left
abbrev pub IsMadeAnew : Session → Type 0
IsMadeAnew s =
    length (rows_of s.plan.start) ≤ 16777216 → s.plan.revision + 2 < 2 ^ 64
    → MakesAnew (script_text s.rule_text s.plan) s.plan

abbrev pub WhateverIsScriptedIsMadeAnew : Type 0
WhateverIsScriptedIsMadeAnew =
    (script : List ℕ) (shortages : List Shortage)
    → AllByRecursion IsMadeAnew (sessions_with script shortages)
