-- What stays of a document while a script is answered.
use Rattle.reply_laws.proofs.Names.{AddsNone, After, AllByRecursion, Ask, Asked, Between, Bookmark, Bool, Branch, Changed, Ended, Fault, Fits, Format, HasStates, Intervention, IsPlaced, IsSound, Line, LineFits, List, Loaded, None, Ok}
use Rattle.reply_laws.proofs.Names.{Option, Plan, ReplaceRule, ReplaceStart, Result, Session, Shortage, Some, World, [], accepted, adds_branch, afters, all_so, answer, arith, asks, asks-fit, blank, changed, codes, cond, documents_of}
use Rattle.reply_laws.proofs.Names.{documents_with, edited, false, first_of, first_shortage, id_word, later_shortages, lines_until, nat_tests, of_edit, of_macrocell, of_pattern, of_rule, opening, opening_session, pattern_of, refl, refusal}
use Rattle.reply_laws.proofs.Names.{rule_of, session_after, some_changed, sound_changed, started, states_of, states_of-still, still, taken, unless_fault, unless_memory, unless_refused, unless_unread, words, ℕ, ◌++◌, ◌<◌, ◌∷◌, ◌≡◌}
use Rattle.rule_tree.specs.declared.rule.Rule.{Rule as FileRule}
use Rattle.multistate_macrocell.specs.Pattern as macrocells
use Rattle.schedule.specs.declared.fault.EditFault.{EditFault}
use Rattle.schedule.proofs.Sounds.{IsSound-opening}
use Rattle.schedule.proofs.Shared.Lines.{one_line}
use Rattle.desk_script.specs.declared.format.Format.TheVariants as format
use Rattle.reply_laws.specs.OneLine.{AddsNoBranch, HasOneLine}
use Rattle.reply_laws.proofs.RuleStates.{rule_of-few}

-- something that holds of documents stays, whatever of these edits is made
pub record Stays (K : Plan → Type 0) (Q : Asked → Type 0) : Type 0 where
  pub step : (p : Plan) (asked : Asked) → Q asked → K p → refusal p asked ≡ None → K (changed p asked).plan
  pub rules : (text : List ℕ) (rule : FileRule) → rule_of text ≡ Ok rule → Q (ReplaceRule rule)
  pub starts : (start : World) → Q (ReplaceStart start)

pub unless_memory-keeps : (K : Plan → Type 0) (short : Shortage) (p : Plan) (after : After) → K p → K after.plan
    → K (unless_memory short p after).plan
unless_memory-keeps K short p after k h = grind (arith)

pub unless_unread-keeps : (K : Plan → Type 0) (short : Shortage) (p : Plan) (after : After) → K p → K after.plan
    → K (unless_unread short p after).plan
unless_unread-keeps K short p after k h = grind (arith)

pub unless_fault-keeps : {A E : Type 0} (K : Plan → Type 0) (p : Plan) (refusal : E → Fault) (done : A → After)
    (r : Result A E) → K p → ((value : A) → r ≡ Ok value → K (done value).plan) → K (unless_fault p refusal done r).plan
unless_fault-keeps K p refusal done r k h = grind (arith)

pub made-keeps : (K : Plan → Type 0) (short : Shortage) (p : Plan) (c : Changed) (word : List ℕ)
    (number : Changed → Option ℕ) (o : Option EditFault) → K p → (o ≡ None → K c.plan)
    → K (unless_fault p of_edit (λ (d : Changed). unless_memory short p (accepted d word (number d)))
    (unless_refused o c)).plan
made-keeps K short p c word number (Some fault) k h = k
made-keeps K short p c word number None k h =
    unless_memory-keeps K short p (accepted c word (number c)) k (h refl)

edited-keeps : (K : Plan → Type 0) (Q : Asked → Type 0) → Stays K Q → (short : Shortage) (p : Plan) (asked : Asked)
    → Q asked → K p → K (edited short p asked).plan
edited-keeps K Q stays short p asked q k =
    made-keeps K short p (changed p asked) (id_word asked) (λ (d : Changed). d.edited.id)
    (refusal p asked) k (stays.step p asked q k)

started-keeps : (K : Plan → Type 0) (Q : Asked → Type 0) → Stays K Q → (short : Shortage) (p : Plan) (generation : ℕ)
    (start : World) → K p → K (started short p generation start).plan
started-keeps K Q stays short p generation start k =
    made-keeps K short p (changed p (ReplaceStart start)) (codes " gen ") (λ (d : Changed). Some generation)
    (refusal p (ReplaceStart start)) k (stays.step p (ReplaceStart start) (stays.starts start) k)

taken-keeps : (K : Plan → Type 0) (Q : Asked → Type 0) → Stays K Q → (short : Shortage) (p : Plan) (format : Format)
    (text : List ℕ) → K p → K (taken short p format text).plan
taken-keeps K Q stays short p format.Rule text k =
    unless_fault-keeps K p of_rule (λ (rule : FileRule). edited short p (ReplaceRule rule)) (rule_of text) k
    (λ rule is. edited-keeps K Q stays short p (ReplaceRule rule) (stays.rules text rule is) k)
taken-keeps K Q stays short p format.Rle text k =
    unless_fault-keeps K p of_pattern (λ (loaded : Loaded). started short p loaded.generation loaded.plane)
    (pattern_of text) k
    (λ loaded is. started-keeps K Q stays short p loaded.generation loaded.plane k)
taken-keeps K Q stays short p format.Macrocell text k =
    unless_fault-keeps K p of_macrocell (λ (loaded : Loaded). started short p loaded.generation loaded.plane)
    (macrocells.pattern_of text) k
    (λ loaded is. started-keeps K Q stays short p loaded.generation loaded.plane k)

pub answer-keeps : (K : Plan → Type 0) (Q : Asked → Type 0) → Stays K Q → (short : Shortage) (s : Session) (ask : Ask)
    → Fits Q ask → K s.plan → K (answer short s ask).plan
answer-keeps K Q stays short s ask q k = grind (arith, edited-keeps, taken-keeps, unless_unread-keeps)

-- the document after a reply, and those after what follows
documents-more : (K : Plan → Type 0) (q : Plan) (ends : Bool) (more : List After) → K q
    → AllByRecursion K (documents_of more)
    → AllByRecursion K (cond ends [] (q ∷ []) ++ documents_of (cond ends [] more))
documents-more K q ends more k h = grind (arith)

documents-keep : (K : Plan → Type 0) (Q : Asked → Type 0) → Stays K Q
    → (s : Session) (asked : List Ask) (shortages : List Shortage) → AllByRecursion (Fits Q) asked → K s.plan
    → AllByRecursion K (documents_of (afters s asked shortages))
documents-keep K Q stays s [] shortages h k = tt
documents-keep K Q stays s (ask ∷ rest) shortages h k =
    let after : After = answer (first_shortage shortages) s ask in
    let next : Session = session_after s ask after.plan in
    let kept : K after.plan = answer-keeps K Q stays (first_shortage shortages) s ask h.0 k in
    documents-more K after.plan after.ends (afters next rest (later_shortages shortages)) kept
    (documents-keep K Q stays next rest (later_shortages shortages) h.1 kept)

pub each-line : (P : Line → Type 0) → ((line : Line) → P line) → (lines : List Line) → AllByRecursion P lines
each-line P f [] = tt
each-line P f (line ∷ lines) = (f line, each-line P f lines)

-- the limits of documents, and a rule with states
abbrev pub KeepsLimits : Plan → Type 0
KeepsLimits p = IsSound p × (0 < states_of p.rule)

pub opening-keeps : KeepsLimits (opening 0)
opening-keeps =
    (IsSound-opening still blank [] [] [] 0 refl refl refl refl refl, (let n = states_of-still in omega (arith, n)))

pub limits-stay : Stays KeepsLimits HasStates
limits-stay = record {
  step = λ p asked has k free. (sound_changed p asked k.0 k.1 has free, some_changed p asked k.1 has);
  rules = rule_of-few;
  starts = λ start. tt;
}

pub documents_sound : (script : List ℕ) (shortages : List Shortage)
    → AllByRecursion IsSound (documents_with script shortages)
documents_sound script shortages =
    let lines = lines_until Ended script in
    let fit = asks-fit HasStates Ended Between 1 lines (each-line (LineFits HasStates)
    (λ line a said. said.states) lines) in
    all_so KeepsLimits IsSound (documents_with script shortages) (λ p k. k.0)
    (documents-keep KeepsLimits HasStates limits-stay opening_session
    (asks Ended Between 1 lines) shortages fit opening-keeps)

-- and no branch
abbrev IsAlone : Plan → Type 0
IsAlone p = KeepsLimits p × (p.branches ≡ [])

abbrev AsksAlone : Asked → Type 0
AsksAlone asked = HasStates asked × AddsNone asked

branches-none : (p : Plan) (asked : Asked) → AddsNone asked → p.branches ≡ [] → (changed p asked).plan.branches ≡ []
branches-none p asked none e = grind (arith)

alone-stays : Stays IsAlone AsksAlone
alone-stays = record {
  step = λ p asked has k free. (limits-stay.step p asked has.0 k.0 free, branches-none p asked has.1 k.1);
  rules = λ text rule is. (rule_of-few text rule is, tt);
  starts = λ start. (tt, tt);
}

-- without branches all is in branch 0
placed-alone : (branches : List Branch) (b g : ℕ) → branches ≡ [] → IsPlaced branches b g → b ≡ 0
placed-alone branches b g none placed = grind (arith, nat_tests)

alone-one_line : (p : Plan) → IsAlone p → HasOneLine p
alone-one_line p k = record {
  branches = k.1;
  interventions = all_so (λ (i : Intervention). IsPlaced p.branches i.branch (first_of i.acts))
      (λ (i : Intervention). i.branch ≡ 0) p.interventions
      (λ i. placed-alone p.branches i.branch (first_of i.acts) k.1) k.0.0.branches_sound.interventions_placed;
  bookmarks = all_so (λ (b : Bookmark). IsPlaced p.branches b.branch b.generation)
      (λ (b : Bookmark). b.branch ≡ 0) p.bookmarks
      (λ b. placed-alone p.branches b.branch b.generation k.1) k.0.0.branches_sound.bookmarks_placed;
  line = one_line p k.0.0 k.1;
}

pub documents_one_line : (script : List ℕ) (shortages : List Shortage) → AddsNoBranch script
    → AllByRecursion HasOneLine (documents_with script shortages)
documents_one_line script shortages none =
    let lines = lines_until Ended script in
    let fit =
    asks-fit AsksAlone Ended Between 1 lines
    (all_so (λ (line : Line). adds_branch (words line.says) ≡ false) (LineFits AsksAlone) lines
    (λ line e a said. (said.states, said.none e)) none) in
    all_so IsAlone HasOneLine (documents_with script shortages) alone-one_line
    (documents-keep IsAlone AsksAlone alone-stays opening_session (asks Ended Between 1 lines) shortages fit
    (opening-keeps, refl))
