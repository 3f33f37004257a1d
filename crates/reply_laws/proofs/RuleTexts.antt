-- The text that is kept is that of the document's rule.
use Rattle.reply_laws.proofs.Names.{After, AllByRecursion, Ask, Asked, BadCommand, Between, Bool, Changed, Command, Ended, Fault, Fits, Format, HasText, InText, KeptTextsAreRules, Line, LineFits, LinePlace, List, Loaded, NoEnd, NoLineFeed}
use Rattle.reply_laws.proofs.Names.{Obey, Ok, Option, Plan, Refuse, ReplaceRule, Result, Session, Shortage, Take, TakesNoRule, World, [], all_append, answer, ap, append-nil, arith, asked_at, asked_by, asks, asks-fit, changed, cond, differs}
use Rattle.reply_laws.proofs.Names.{edited, false, first_shortage, format_of, full_line, id_word, is_end, is_passed_over, last_line, later_shortages, lines_from, lines_until, nat_tests, no_line_feed-append, obeyed, of_macrocell, of_pattern}
use Rattle.reply_laws.proofs.Names.{of_rule, of_script, opening_session, pattern_of, place_behind, refl, refusal, refused, rule_of, rule_text_after, session_after, sessions, started, subst, sym, taken, text_of_lines, unless_fault}
use Rattle.reply_laws.proofs.Names.{unless_unread, ℕ, ◌++◌, ◌+◌, ◌==◌, ◌∙◌, ◌∷◌, ◌≡◌}
use Rattle.std.specs.Prelude.{⊤}
use Rattle.std.proofs.lemmas.List.Concat.{flat_map-append}
use Rattle.multistate_macrocell.specs.Pattern as macrocells
use Rattle.rule_tree.specs.declared.rule.Rule.{Rule as FileRule}
use Rattle.desk_script.specs.declared.format.Format.TheVariants as format
use Rattle.reply_laws.proofs.OneLine.{each-line, made-keeps}
use Rattle.reply_laws.proofs.OneLine.{unless_fault-keeps, unless_unread-keeps}
use Rattle.reply_laws.proofs.Remade.{AreTextLines}
use Rattle.desk_server.proofs.Shared.RuleTexts.{rule-same}

-- a text that is made of lines of which none ends it
record IsText (text : List ℕ) : Type 0 where
  lines : List (List ℕ)
  is : text_of_lines lines ≡ text
  are : AreTextLines lines

-- a line that ends with its line feed
record IsFull (line : Line) : Type 0 where
  bytes : List ℕ
  is : line ≡ full_line bytes
  whole : NoLineFeed bytes

-- each line does but the last, which may lack it
abbrev AreFull : List Line → Type 0
AreFull [] = ⊤
AreFull (line ∷ []) = ⊤
AreFull (line ∷ next ∷ rest) = IsFull line × AreFull (next ∷ rest)

full-more : (bytes : List ℕ) (rest : List Line) → NoLineFeed bytes → AreFull rest → AreFull (full_line bytes ∷ rest)
full-more bytes rest h more = grind (arith)

last-full : (bytes : List ℕ) → AreFull (last_line Ended bytes)
last-full bytes = grind (arith)

from-full : (begun bytes : List ℕ) → NoLineFeed begun → AreFull (lines_from Ended begun bytes)
from-full begun [] h = last-full begun
from-full begun (b ∷ bs) h = either (b == 10) refl (from-full [] bs tt) (from-full (begun ++ b ∷ []) bs)
  where
    either : (v : Bool) → (b == 10) ≡ v → AreFull (lines_from Ended [] bs)
        → (NoLineFeed (begun ++ b ∷ []) → AreFull (lines_from Ended (begun ++ b ∷ []) bs))
        → AreFull (cond v (full_line begun ∷ lines_from Ended [] bs) (lines_from Ended (begun ++ b ∷ []) bs))
    either v e ended on = grind (arith, full-more, no_line_feed-append)

-- a text that is asked to be taken is such a text
abbrev AsksText : Ask → Type 0
AsksText (Take f text) = IsText text
AsksText _ = ⊤

abbrev BeginsText : LinePlace → Type 0
BeginsText Between = ⊤
BeginsText (InText at f text) = IsText text

no-text : IsText []
no-text = record { lines = []; is = refl; are = record { whole = tt; inside = tt } }

text-more : (text : List ℕ) (line : Line) → IsText text → IsFull line → is_end line.says ≡ false → IsText (text ++ line.raw)
text-more text line h full inside =
    let ls : List (List ℕ) = h.lines ++ full.bytes ∷ [] in record {
      lines = ls;
      is = grind (arith, flat_map-append, append-nil, h.is, full.is);
      are = record {
        whole = all_append NoLineFeed h.lines (full.bytes ∷ []) h.are.whole (full.whole, tt);
        inside = all_append (λ l. is_end (full_line l).says ≡ false) h.lines (full.bytes ∷ []) h.are.inside
            (ap (λ (l : Line). is_end l.says) (sym full.is) ∙ inside, tt);
      };
    }

rest-full : (line : Line) (rest : List Line) → AreFull (line ∷ rest) → AreFull rest
rest-full line rest h = grind (arith)

asked-none : (n : ℕ) (c : Option Command) → AsksText (asked_by n c)
asked-none n c = grind (arith)

unless-last : (at n : ℕ) (f : Format) (text : List ℕ) (line : Line) (rest : List Line) → AreFull (line ∷ rest)
    → (IsFull line → AllByRecursion AsksText (asks Ended (InText at f text) n rest))
    → AllByRecursion AsksText (asks Ended (InText at f text) n rest)
unless-last at n f text line rest full more = grind (arith)

asks-texts : (place : LinePlace) (n : ℕ) (lines : List Line) → BeginsText place → AreFull lines
    → AllByRecursion AsksText (asks Ended place n lines)
asks-texts Between n [] begun full = tt
asks-texts (InText at f text) n [] begun full = (tt, tt)
asks-texts Between n (line ∷ rest) begun full =
    between (is_passed_over line.says) (format_of line.says)
    (λ place begun. asks-texts place (n + 1) rest begun (rest-full line rest full))
  where
    between : (passed : Bool) (o : Option Format)
        → ((place : LinePlace) → BeginsText place → AllByRecursion AsksText (asks Ended place (n + 1) rest))
        → AllByRecursion AsksText
        (cond passed (asks Ended Between (n + 1) rest)
        (asked_at n line.says o ++ asks Ended (place_behind n o) (n + 1) rest))
    between passed o more = grind (arith, asked-none, no-text, more Between, more)
asks-texts (InText at f text) n (line ∷ rest) begun full =
    inside (is_end line.says) refl (asks-texts Between (n + 1) rest tt (rest-full line rest full))
    (λ goes_on. unless-last at (n + 1) f (text ++ line.raw) line rest full (λ whole.
    asks-texts (InText at f (text ++ line.raw)) (n + 1) rest (text-more text line begun whole goes_on)
    (rest-full line rest full)))
  where
    inside : (ends : Bool) → is_end line.says ≡ ends → AllByRecursion AsksText (asks Ended Between (n + 1) rest)
        → (is_end line.says ≡ false → AllByRecursion AsksText (asks Ended (InText at f (text ++ line.raw)) (n + 1) rest))
        → AllByRecursion AsksText
        (cond ends (Take f text ∷ asks Ended Between (n + 1) rest)
        (asks Ended (InText at f (text ++ line.raw)) (n + 1) rest))
    inside ends e ended on = grind (arith)

-- where the rule stays, its text does
text-same : (p q : Plan) (text : Option (List ℕ)) → q.rule ≡ p.rule → HasText p text → HasText q text
text-same p q text same has = grind (arith)

rule-stays : (p : Plan) (asked : Asked) → TakesNoRule asked → (changed p asked).plan.rule ≡ p.rule
rule-stays p asked h = grind (arith)

-- what a command that takes no rule leaves has the same one
command-rule : (short : Shortage) (s : Session) (c : Command) → Fits TakesNoRule (Obey c)
    → (obeyed short s c).plan.rule ≡ s.plan.rule
command-rule short s c h = grind (arith, rule-stays)

start-rule : (short : Shortage) (p : Plan) (generation : ℕ) (start : World)
    → (started short p generation start).plan.rule ≡ p.rule
start-rule short p generation start = grind (arith)

unread-rule : (short : Shortage) (p : Plan) (after : After) → after.plan.rule ≡ p.rule
    → (unless_unread short p after).plan.rule ≡ p.rule
unread-rule short p after e = grind (arith)

loaded-rule : {E : Type 0} (short : Shortage) (p : Plan) (told : E → Fault) (r : Result Loaded E)
    → (unless_fault p told (λ (l : Loaded). started short p l.generation l.plane) r).plan.rule ≡ p.rule
loaded-rule short p told r = grind (arith, start-rule)

taken-text : (s : Session) (text : List ℕ) (rule : FileRule) → IsText text → rule_of text ≡ Ok rule
    → HasText (changed s.plan (ReplaceRule rule)).plan
    (rule_text_after s (Take format.Rule text) (changed s.plan (ReplaceRule rule)).plan)
taken-text s text rule h means = grind (arith, nat_tests, differs)

next-text : (short : Shortage) (s : Session) (ask : Ask) → Fits TakesNoRule ask → AsksText ask
    → HasText s.plan s.rule_text
    → HasText (answer short s ask).plan (rule_text_after s ask (answer short s ask).plan)
next-text short s (Obey c) h text has =
    text-same s.plan (obeyed short s c).plan s.rule_text (command-rule short s c h) has
next-text short s (Take format.Rule text) h is has =
    let K : Plan → Type 0 = λ q. HasText q (rule_text_after s (Take format.Rule text) q) in
    let now : K s.plan = subst (HasText s.plan) (sym (rule-same s (Take format.Rule text))) has in
    unless_unread-keeps K short s.plan (taken short s.plan format.Rule text) now
    (unless_fault-keeps K s.plan of_rule (λ (rule : FileRule). edited short s.plan (ReplaceRule rule)) (rule_of text) now
    (λ rule means. made-keeps K short s.plan (changed s.plan (ReplaceRule rule)) (id_word (ReplaceRule rule))
    (λ (d : Changed). d.edited.id) (refusal s.plan (ReplaceRule rule)) now (λ free. taken-text s text rule is means)))
next-text short s (Take format.Rle text) h is has =
    text-same s.plan (answer short s (Take format.Rle text)).plan s.rule_text
    (unread-rule short s.plan (taken short s.plan format.Rle text) (loaded-rule short s.plan of_pattern
    (pattern_of text))) has
next-text short s (Take format.Macrocell text) h is has =
    text-same s.plan (answer short s (Take format.Macrocell text)).plan s.rule_text
    (unread-rule short s.plan (taken short s.plan format.Macrocell text)
    (loaded-rule short s.plan of_macrocell (macrocells.pattern_of text))) has
next-text short s (Refuse (BadCommand line)) h is has =
    text-same s.plan (answer short s (Refuse (BadCommand line))).plan s.rule_text
    (unread-rule short s.plan (refused s.plan (of_script (BadCommand line))) refl) has
next-text short s (Refuse (NoEnd line)) h is has = has

-- what each answer keeps of a session holds in each session
pub sessions-keep : (K : Session → Type 0) (fits : Ask → Type 0)
    → ((short : Shortage) (s : Session) (ask : Ask) → fits ask
    → K s → K (session_after s ask (answer short s ask).plan)) → (s : Session) (asked : List Ask)
    (shortages : List Shortage)
    → AllByRecursion fits asked → K s → AllByRecursion K (sessions s asked shortages)
sessions-keep K fits step s [] shortages fit k = (k, tt)
sessions-keep K fits step s (ask ∷ rest) shortages fit k =
    let after = answer (first_shortage shortages) s ask in
    let next = session_after s ask after.plan in (
      k,
      unless_ends after.ends (sessions next rest (later_shortages shortages))
          (sessions-keep K fits step next rest
          (later_shortages shortages) fit.1 (step (first_shortage shortages) s ask fit.0 k)),
    )
  where
    unless_ends : (v : Bool) (later : List Session) → AllByRecursion K later
        → AllByRecursion K (cond v [] later)
    unless_ends v later h = grind (arith)

pub kept_texts : KeptTextsAreRules
kept_texts script shortages =
    let lines = lines_until Ended script in
    let asked = asks Ended Between 1 lines in
    sessions-keep (λ (t : Session). HasText t.plan t.rule_text) (λ ask. Fits TakesNoRule ask × AsksText ask)
    (λ short s ask fits has. next-text short s ask fits.0 fits.1 has) opening_session asked shortages
    (all_both (Fits TakesNoRule) AsksText asked
    (asks-fit TakesNoRule Ended Between 1 lines (each-line (LineFits TakesNoRule)
    (λ line a said. said.rule) lines)) (asks-texts Between 1 lines tt (from-full [] script tt))) refl
  where
    all_both : (F G : Ask → Type 0) (asked : List Ask) → AllByRecursion F asked → AllByRecursion G asked
        → AllByRecursion (λ ask. F ask × G ask) asked
    all_both F G [] h k = tt
    all_both F G (ask ∷ rest) h k = ((h.0, k.0), all_both F G rest h.1 k.1)
