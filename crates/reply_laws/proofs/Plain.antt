-- Answers for which nothing is short.
use Rattle.reply_laws.proofs.Names.{After, AllByRecursion, AllCausedOver, Ask, Asked, BadCommand, Bookmark, Bool, Changed, Command, Fault, Format, IsCaused, IsCausedOver, Known, List, Loaded, NoEnd, NoShortage, None, Obey, Ok, Option}
use Rattle.reply_laws.proofs.Names.{Plan, Refuse, ReplaceRule, ReplaceStart, Result, Session, Shortage, Some, Take, Unsettled, [], accepted, afters, answer, ap, arith, asked_of, change, codes, cond, decimal, edited, edited_as, false}
use Rattle.reply_laws.proofs.Names.{first_shortage, flat_map, id_word, inl, inr, later_shortages, length, list_all, listed, nat_le, obeyed, of_edit, of_macrocell, of_pattern, of_rule, of_script, only, pattern_of, polled, refl, refused}
use Rattle.reply_laws.proofs.Names.{rule_of, scripted, session_after, settled, shown, shown_id, started, suc, taken, true, unless_fault, unless_memory, unless_unread, zero, ℕ, ◌&&◌, ◌++◌, ◌∷◌, ◌≡◌, ◌⊎◌}
use Rattle.std.specs.Prelude.{Err}
use Rattle.desk_server.specs.Shortage.{Memory, Pending, Still, Unread}
use Rattle.rule_tree.specs.declared.rule.Rule.{Rule as FileRule}
use Rattle.multistate_macrocell.specs.Pattern as macrocells
use Rattle.schedule.specs.declared.fault.EditFault.{EditFault}
use Rattle.desk_script.specs.declared.format.Format.TheVariants as format
use Rattle.desk_core.specs.declared.cause.Cause.{Cause}
use Rattle.desk_events.specs.Wanted.{bookmark_in}
use Rattle.desk_script.specs.declared.command.Command.TheVariants as command
use Rattle.desk_server.specs.Reply.{unsettled_text, settled_text, polled_text}
use Rattle.desk_server.specs.Listed.{bookmark_line, branch_line, intervention_line, lines_of, listed_text}
use Rattle.reply_laws.specs.Plain.{ShowsShortage, NoneShows}

-- an answer is the plain one, or its reply shows the shortage
abbrev IsPlain : Bool → After → After → Type 0
IsPlain prompt after plain = (after ≡ plain) ⊎ ShowsShortage prompt after.told

unless-plain : (prompt : Bool) (short : Shortage) (p : Plan) (plain : After)
    → IsPlain prompt (unless_memory short p plain) plain
unless-plain prompt short p plain = grind (arith)

unread-plain : (prompt : Bool) (short : Shortage) (p : Plan) (after plain : After) → IsPlain prompt after plain
    → IsPlain prompt (unless_unread short p after) plain
unread-plain prompt Unread p after plain h = inr (inl refl)
unread-plain prompt NoShortage p after plain h = h
unread-plain prompt Memory p after plain h = h
unread-plain prompt (Unsettled n cause) p after plain h = h
unread-plain prompt Pending p after plain h = h
unread-plain prompt (Still n cause) p after plain h = h
unread-plain prompt (Known known) p after plain h = h

-- an edit that is made or refused
edited-plain : (prompt : Bool) (short : Shortage) (p : Plan) (asked : Asked) (word : List ℕ)
    (number : Changed → Option ℕ)
    → IsPlain prompt (edited_as short p asked word number) (edited_as NoShortage p asked word number)
edited-plain prompt short p asked word number = by (change p asked)
  where
    by : (r : Result Changed EditFault)
        → IsPlain prompt (unless_fault p of_edit (λ (c : Changed). unless_memory short p (accepted c word (number c))) r)
        (unless_fault p of_edit (λ (c : Changed). accepted c word (number c)) r)
    by (Ok c) = unless-plain prompt short p (accepted c word (number c))
    by (Err fault) = inl refl

fault-plain : {A E : Type 0} (prompt : Bool) (p : Plan) (told : E → Fault) (done plain : A → After)
    (r : Result A E) → ((value : A) → IsPlain prompt (done value) (plain value))
    → IsPlain prompt (unless_fault p told done r) (unless_fault p told plain r)
fault-plain prompt p told done plain (Ok value) h = h value
fault-plain prompt p told done plain (Err fault) h = inl refl

started-plain : (prompt : Bool) (short : Shortage) (p : Plan) (loaded : Loaded)
    → IsPlain prompt (started short p loaded.generation loaded.plane) (started NoShortage p loaded.generation loaded.plane)
started-plain prompt short p loaded =
    edited-plain prompt short p (ReplaceStart loaded.plane) (codes " gen ") (λ _. Some loaded.generation)

taken-plain : (prompt : Bool) (short : Shortage) (p : Plan) (format : Format) (text : List ℕ)
    → IsPlain prompt (taken short p format text) (taken NoShortage p format text)
taken-plain prompt short p format.Rule text =
    fault-plain prompt p of_rule (λ (rule : FileRule). edited short p (ReplaceRule rule))
    (λ (rule : FileRule). edited NoShortage p (ReplaceRule rule)) (rule_of text)
    (λ rule. edited-plain prompt short p (ReplaceRule rule) (id_word (ReplaceRule rule)) (λ (c : Changed). c.edited.id))
taken-plain prompt short p format.Rle text =
    fault-plain prompt p of_pattern (λ (l : Loaded). started short p l.generation l.plane)
    (λ (l : Loaded). started NoShortage p l.generation l.plane) (pattern_of text) (started-plain prompt short p)
taken-plain prompt short p format.Macrocell text =
    fault-plain prompt p of_macrocell (λ (l : Loaded). started short p l.generation l.plane)
    (λ (l : Loaded). started NoShortage p l.generation l.plane) (macrocells.pattern_of text) (started-plain prompt short p)

left-plain : (prompt b : Bool) (p : Plan) (n : ℕ) (cause : Option Cause) → IsCausedOver prompt (Unsettled n cause)
    → IsPlain prompt (cond b (only p (unsettled_text n cause)) (only p settled_text)) (only p settled_text)
left-plain prompt true p n cause h = inr (inr (inl (n, cause, h, refl)))
left-plain prompt false p n cause h = inl refl

settled-plain : (prompt : Bool) (short : Shortage) (p : Plan) → IsCausedOver prompt short
    → IsPlain prompt (settled short p) (settled NoShortage p)
settled-plain prompt (Unsettled n cause) p h =
    left-plain prompt (nat_le 1 n && nat_le n (length p.bookmarks)) p n cause h
settled-plain prompt short p h = inl refl

still-plain : (prompt b : Bool) (p : Plan) (n : ℕ) (cause : Option Cause)
    → IsPlain prompt (cond b (only p (polled_text n cause)) (only p (polled_text 0 None))) (only p (polled_text 0 None))
still-plain prompt false p n cause = inl refl
still-plain prompt true p zero None = inl refl
still-plain prompt true p zero (Some cause) = inr (inr (inr (inr (inl (0, Some cause, inr refl, refl)))))
still-plain prompt true p (suc n) cause = inr (inr (inr (inr (inl (suc n, cause, inl (omega arith), refl)))))

polled-plain : (prompt : Bool) (short : Shortage) (p : Plan) → IsPlain prompt (polled short p) (polled NoShortage p)
polled-plain prompt short p = grind (arith, still-plain)

-- of two that both hold
-- the lines of bookmarks whose texts are all known
known-lines : (known : ℕ → Bool) (bs : List Bookmark) → list_all (λ b. known b.id) bs ≡ true
    → flat_map (λ (b : Bookmark). bookmark_line b (known b.id)) bs
    ≡ flat_map (λ (b : Bookmark). bookmark_line b true) bs
known-lines known [] h = refl
known-lines known (b ∷ bs) h = grind (arith, known-lines known bs)

listed-plain : (prompt : Bool) (short : Shortage) (p : Plan) → IsPlain prompt (listed short p) (listed NoShortage p)
listed-plain prompt (Known known) p = either (list_all (λ b. known b.id) p.bookmarks) refl
  where
    either : (v : Bool) → list_all (λ b. known b.id) p.bookmarks ≡ v
        → IsPlain prompt (only p (listed_text p known)) (only p (listed_text p (λ _. true)))
    either true e = inl
        (ap (λ lines. only p (flat_map branch_line p.branches
        ++ (flat_map intervention_line p.interventions
        ++ (lines ++ (codes "listed " ++ (decimal (lines_of p) ++ codes "\n"))))))
        (known-lines known p.bookmarks e))
    either false e = inr (inr (inr (inr (inr (p, known, e, refl)))))
listed-plain prompt short p = inl refl

shown-plain : (prompt : Bool) (short : Shortage) (p : Plan) (id : ℕ) (b : Option Bookmark)
    → IsPlain prompt (shown short p id b) (shown NoShortage p id b)
shown-plain prompt short p id b = grind (arith)

asked-plain : (prompt : Bool) (short : Shortage) (p : Plan) (id : ℕ)
    → IsPlain prompt (unless_unread short p (shown_id short p id)) (shown_id NoShortage p id)
asked-plain prompt short p id =
    unread-plain prompt short p (shown_id short p id) (shown_id NoShortage p id)
    (shown-plain prompt short p id (bookmark_in p.bookmarks id))

obeyed-plain : (prompt : Bool) (short : Shortage) (s : Session) (command : Command) → IsCausedOver prompt short
    → IsPlain prompt (obeyed short s command) (obeyed NoShortage s command)
obeyed-plain prompt short s (command.Edit edit) h =
    unread-plain prompt short s.plan (edited short s.plan (asked_of edit)) (edited NoShortage s.plan (asked_of edit))
    (edited-plain prompt short s.plan (asked_of edit) (id_word (asked_of edit)) (λ (c : Changed). c.edited.id))
obeyed-plain prompt short s command.Settle h = settled-plain prompt short s.plan h
obeyed-plain prompt short s (command.Show id) h = asked-plain prompt short s.plan id
obeyed-plain prompt short s (command.Peek id) h = asked-plain prompt short s.plan id
obeyed-plain prompt short s command.Poll h = polled-plain prompt short s.plan
obeyed-plain prompt short s command.List h = listed-plain prompt short s.plan
obeyed-plain prompt short s command.Script h =
    unread-plain prompt short s.plan (scripted short s) (scripted NoShortage s)
    (unless-plain prompt short s.plan (scripted NoShortage s))
obeyed-plain prompt short s command h = inl refl

answer-plain : (prompt : Bool) (short : Shortage) (s : Session) (ask : Ask) → IsCausedOver prompt short
    → IsPlain prompt (answer short s ask) (answer NoShortage s ask)
answer-plain prompt short s (Obey command) h = obeyed-plain prompt short s command h
answer-plain prompt short s (Take format text) h =
    unread-plain prompt short s.plan (taken short s.plan format text) (taken NoShortage s.plan format text)
    (taken-plain prompt short s.plan format text)
answer-plain prompt short s (Refuse (BadCommand line)) h =
    unread-plain prompt short s.plan (refused s.plan (of_script (BadCommand line)))
    (refused s.plan (of_script (BadCommand line))) (inl refl)
answer-plain prompt short s (Refuse (NoEnd line)) h = inl refl

-- the plain answer was given, and what follows is plain where the script goes on
goes_on : (prompt : Bool) (s : Session) (ask : Ask) (after plain : After) (rest : List Ask) (later : List Shortage)
    → IsPlain prompt after plain → (ShowsShortage prompt after.told → ⊥)
    → (after.ends ≡ false → afters (session_after s ask after.plan) rest later
    ≡ afters (session_after s ask after.plan) rest [])
    → after ∷ cond after.ends [] (afters (session_after s ask after.plan) rest later)
    ≡ plain ∷ cond plain.ends [] (afters (session_after s ask plain.plan) rest [])
goes_on prompt s ask after plain rest later h silent more = grind (arith)

-- none of the replies behind one that doesn't end the script shows a shortage
none_behind : (prompt ends : Bool) (later : List After) → NoneShows prompt (cond ends [] later) → ends ≡ false
    → NoneShows prompt later
none_behind prompt ends later h e = grind (arith)

-- the first of shortages that have causes has one, and so do those after it
first_caused : (shortages : List Shortage) → AllByRecursion IsCaused shortages → IsCaused (first_shortage shortages)
    × AllByRecursion IsCaused (later_shortages shortages)
first_caused shortages h = grind (arith)

pub afters_plain : (prompt : Bool) (s : Session) (asked : List Ask) (shortages : List Shortage)
    → AllCausedOver prompt shortages → NoneShows prompt (afters s asked shortages)
    → afters s asked shortages ≡ afters s asked []
afters_plain prompt s [] shortages caused h = refl
afters_plain prompt s (ask ∷ rest) shortages caused h =
    let after = answer (first_shortage shortages) s ask in
    let next = session_after s ask after.plan in
    goes_on prompt s ask after (answer NoShortage s ask) rest (later_shortages shortages)
    (answer-plain prompt (first_shortage shortages) s ask (λ e. (first_caused shortages (caused e)).0)) h.0
    (λ e. afters_plain prompt next rest (later_shortages shortages)
    (λ k. (first_caused shortages (caused k)).1)
    (none_behind prompt after.ends (afters next rest (later_shortages shortages)) h.1 e))
