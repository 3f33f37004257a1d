-- The script of a document makes it anew.
use Rattle.reply_laws.proofs.Names.{AllBelow, AllByRecursion, Ask, Asked, Between, Bool, CanBeWritten, Changed, End, Ended, Format, HasMargin, HasText, InText, IsAccepted, IsDigit, IsInside, IsName, IsSound, IsVisible, IsWritten, List}
use Rattle.reply_laws.proofs.Names.{Loaded, MakesAnew, NoLineFeed, NoShortage, None, NoneEnds, Obey, Ok, Option, Plan, ReplaceRule, ReplaceStart, ScriptsMakeAnew, Session, Some, Take, World, [], accepted, afters, all_so, answer, ap}
use Rattle.reply_laws.proofs.Names.{append_assoc, arith, asked_of, asks, changed, codes, cond, decimal, differs, digit-visible, edited, edited_as}
use Rattle.reply_laws.proofs.Names.{edits_for, false, filter, format_of, full_line, get_or, id_word, ints, is_end, is_passed_over}
use Rattle.reply_laws.proofs.Names.{is_word, join_with_byte, last_plan, length, line-first, lines_until, map, name_of, of_edit, of_macrocell, of_rule, onto_first, opening, opening_session, printed-tested, raw_bytes, refl, refusal}
use Rattle.reply_laws.proofs.Names.{row_edits, rule_of, session_after, slice_split, squashed, started, subst, sym, text_of_lines, true, unless_fault, unless_refused, visible-printed, ℕ, ℤ, ◌++◌, ◌+◌, ◌<◌, ◌==◌, ◌^◌, ◌∙◌, ◌∷◌, ◌≡◌, ◌≢◌, ◌≤◌}
use Rattle.std.proofs.lemmas.Slice.Eq.{bytes_eq-Decides}
use Rattle.text_lines.specs.Blanks.{trim}
use Rattle.text_lines.specs.Numbers.{numbers_line}
use Rattle.text_lines.proofs.Shared.Decimals.{decimal-bytes, decimal-some}
use Rattle.text_lines.proofs.Shared.PrintedLines.{IsLine, ends-append, ends-visible, line-between, name-visible}
use Rattle.text_lines.proofs.Shared.PrintedLines.{printed-one, strip-printed}
use Rattle.rule_tree.specs.declared.rule.Rule.{Rule as FileRule}
use Rattle.plane_core.specs.declared.row.SquareRow.{SquareRow}
use Rattle.plane_core.specs.Rows.{AreRows, kid}
use Rattle.plane_core.specs.WorldRows.{rows_of}
use Rattle.plane_core.proofs.Shared.WorldRows.{squares-rows_of}
use Rattle.macrocell_lines.specs.declared.node.Node.{Node}
use Rattle.macrocell_lines.specs.declared.node.Node.TheVariants.{Cells, Square as Quartered}
use Rattle.macrocell_lines.specs.Nodes.{EachFollows, Follows}
use Rattle.macrocell_lines.specs.WrittenText.{node_line, written_lines}
use Rattle.macrocell_lines.proofs.WrittenNodes.{node-lines}
use Rattle.multistate_macrocell.specs.Pattern as macrocells
use Rattle.multistate_macrocell.specs.PatternText.{macrocell_text, node_of, nodes_of}
use Rattle.multistate_macrocell.proofs.RowNodes.{rows-nodes, written-means}
use Rattle.schedule.specs.declared.edit.Edit.{Edit}
use Rattle.replay_laws.specs.Law.{IsMade, Lead, bare, remade}
use Rattle.replay_laws.proofs.Shared.Leading.{lead_on}
use Rattle.replay_laws.proofs.Shared.Remade.{made_anew, rows_are_made_anew}
use Rattle.replay_laws.proofs.Shared.Worlds.{start_leads}
use Rattle.desk_script.specs.declared.format.Format.TheVariants as format
use Rattle.desk_script.specs.declared.command.Command.TheVariants as command
use Rattle.desk_script.specs.Scripted.{edit_lines, script_text, start_lines}
use Rattle.desk_script.proofs.Shared.ReadsBack.{lines_read_back}
use Rattle.desk_script.proofs.Shared.Asks.{asks-text, asks-text_command}
use Rattle.reply_laws.proofs.Written.{rows-written, text-named}

-- an edit was asked
record IsEdit (asked : Asked) (ask : Ask) : Type 0 where
  edit : Edit
  of : asked_of edit ≡ asked
  is : ask ≡ Obey (command.Edit edit)

abbrev AreEdits : List Asked → List Ask → Type 0
AreEdits [] [] = Unit {0}
AreEdits [] (ask ∷ rest) = ⊥
AreEdits (asked ∷ edits) [] = ⊥
AreEdits (asked ∷ edits) (ask ∷ rest) = IsEdit asked ask × AreEdits edits rest

-- what the lines of edits ask
record Asks (edits : List Asked) (n : ℕ) : Type 0 where
  asked : List Ask
  are : AreEdits edits asked
  law : asks Ended Between n (lines_until Ended (edit_lines edits)) ≡ asked

edits-asked : (edits : List Asked) (n : ℕ) → AllByRecursion IsWritten edits → Asks edits n
edits-asked [] n h = record { asked = []; are = tt; law = refl }
edits-asked (x ∷ edits) n h =
    let first = lines_read_back x h.0 in
    let rest = edits-asked edits (n + 1) h.1 in record {
      asked = Obey (command.Edit first.edit) ∷ rest.asked;
      are = (record { edit = first.edit; of = first.is; is = refl }, rest.are);
      law = first.law Ended n (edit_lines edits) ∙ ap (λ v. Obey (command.Edit first.edit) ∷ v) rest.law;
    }

-- each of these is accepted in this session, and the last leaves this document
abbrev Makes : Session → List Ask → Plan → Type 0
Makes s asked q = AllByRecursion IsAccepted (afters s asked []) × (last_plan s.plan (afters s asked []) ≡ q)

makes-more : (s : Session) (ask : Ask) (c : Changed) (word : List ℕ) (number : Option ℕ) (rest : List Ask) (q : Plan)
    → answer NoShortage s ask ≡ accepted c word number → Makes (session_after s ask c.plan) rest q
    → Makes s (ask ∷ rest) q
makes-more s ask c word number rest q is makes = grind (arith)

-- an edit that isn't refused is accepted
unrefused : (p : Plan) (asked : Asked) (word : List ℕ) (number : Changed → Option ℕ) → refusal p asked ≡ None
    → edited_as NoShortage p asked word number ≡ accepted (changed p asked) word (number (changed p asked))
unrefused p asked word number free =
    ap (λ o. unless_fault p of_edit (λ (c : Changed). accepted c word (number c)) (unless_refused o (changed p asked))) free

edits-made : (edits : List Asked) (rest : List Ask) (s : Session) (q : Plan) → AreEdits edits rest → Lead edits s.plan q
    → Makes s rest q
edits-made [] [] s q are lead = (tt, sym lead)
edits-made [] (ask ∷ rest) s q are lead = absurd are
edits-made (x ∷ edits) [] s q are lead = absurd are
edits-made (x ∷ edits) (ask ∷ rest) s q are lead =
    let one = are.0 in
    makes-more s ask (changed s.plan x) (id_word x) (changed s.plan x).edited.id rest q
    (ap (answer NoShortage s) one.is ∙ ap (edited NoShortage s.plan) one.of
    ∙ unrefused s.plan x (id_word x) (λ (c : Changed). c.edited.id) lead.0)
    (edits-made edits rest (session_after s ask (changed s.plan x).plan) q are.1 lead.1)

-- a text that means a rule, and one that means a start
rule-made : (text : List ℕ) (rule : FileRule) (rest : List Ask) (s : Session) (q : Plan) → rule_of text ≡ Ok rule
    → refusal s.plan (ReplaceRule rule) ≡ None
    → Makes (session_after s (Take format.Rule text) (changed s.plan (ReplaceRule rule)).plan) rest q
    → Makes s (Take format.Rule text ∷ rest) q
rule-made text rule rest s q means free makes =
    let c = changed s.plan (ReplaceRule rule) in
    makes-more s (Take format.Rule text) c (id_word (ReplaceRule rule)) c.edited.id rest q
    (ap (unless_fault s.plan of_rule (λ (r : FileRule). edited NoShortage s.plan (ReplaceRule r))) means
    ∙ unrefused s.plan (ReplaceRule rule) (id_word (ReplaceRule rule)) (λ (d : Changed). d.edited.id) free) makes

start-made : (text name : List ℕ) (start : World) (rest : List Ask) (s : Session) (q : Plan)
    → macrocells.pattern_of text ≡ Ok (record { plane = start; rule_name = name; generation = 0 })
    → refusal s.plan (ReplaceStart start) ≡ None
    → Makes (session_after s (Take format.Macrocell text) (changed s.plan (ReplaceStart start)).plan) rest q
    → Makes s (Take format.Macrocell text ∷ rest) q
start-made text name start rest s q means free makes =
    makes-more s (Take format.Macrocell text) (changed s.plan (ReplaceStart start)) (codes " gen ") (Some 0) rest q
    (ap (unless_fault s.plan of_macrocell (λ (l : Loaded). started NoShortage s.plan l.generation l.plane)) means
    ∙ unrefused s.plan (ReplaceStart start) (codes " gen ") (λ _. Some 0) free) makes

-- the lines of a text
pub record AreTextLines (ls : List (List ℕ)) : Type 0 where
  pub whole : AllByRecursion NoLineFeed ls
  pub inside : AllByRecursion (λ line. is_end (full_line line).says ≡ false) ls

lines-first : (stop : End) (ls : List (List ℕ)) (more : List ℕ) → AllByRecursion NoLineFeed ls
    → lines_until stop (text_of_lines ls ++ more) ≡ map full_line ls ++ lines_until stop more
lines-first stop [] more h = refl
lines-first stop (l ∷ ls) more h = grind (arith, append_assoc, line-first, lines-first stop ls more)

lines-raw : (ls : List (List ℕ)) → raw_bytes (map full_line ls) ≡ text_of_lines ls
lines-raw [] = refl
lines-raw (l ∷ ls) = ap (λ v. (l ++ 10 ∷ []) ++ v) (lines-raw ls)

none-end : (ls : List (List ℕ)) → AllByRecursion (λ line. is_end (full_line line).says ≡ false) ls
    → NoneEnds (map full_line ls)
none-end [] h = tt
none-end (l ∷ ls) h = (h.0, none-end ls h.1)

-- a text behind its command
text-asked : (stop : End) (f : Format) (head : List ℕ) (ls : List (List ℕ)) (more : List ℕ) (n : ℕ) → NoLineFeed head
    → is_passed_over (full_line head).says ≡ false → format_of (full_line head).says ≡ Some f → AreTextLines ls
    → asks stop Between n (lines_until stop ((head ++ 10 ∷ (text_of_lines ls ++ codes "end\n")) ++ more))
    ≡ Take f (text_of_lines ls) ∷ asks stop Between (n + 1 + length (map full_line ls) + 1) (lines_until stop more)
text-asked stop f head ls more n one passed opens are =
    let all = map full_line ls in
    ap (λ v. asks stop Between n (lines_until stop v))
    (append_assoc head (10 ∷ (text_of_lines ls ++ codes "end\n")) more
    ∙ ap (λ v. head ++ 10 ∷ v) (append_assoc (text_of_lines ls) (codes "end\n") more))
    ∙ ap (asks stop Between n) (line-first stop [] head (text_of_lines ls ++ (codes "end\n" ++ more)) one)
    ∙ asks-text_command stop n f (full_line head) (lines_until stop (text_of_lines ls ++ (codes "end\n" ++ more))) passed opens
    ∙ ap (asks stop (InText n f []) (n + 1)) (lines-first stop ls (codes "end\n" ++ more) are.whole
    ∙ ap (λ v. all ++ v) (line-first stop [] (codes "end") more (refl, (refl, (refl, tt)))))
    ∙ asks-text stop n f [] (n + 1) all (full_line (codes "end")) (lines_until stop more) (none-end ls are.inside) refl
    ∙ ap (λ v. Take f v ∷ asks stop Between (n + 1 + length all + 1) (lines_until stop more)) (lines-raw ls)

-- a line that begins with neither a space nor the letter e doesn't end a text
pub first-byte : (b : ℕ) (w : List ℕ) (ws : List (List ℕ)) → (rest : List ℕ) × (join_with_byte 32 ((b ∷ w) ∷ ws) ≡ b ∷ rest)
first-byte b w [] = (w, refl)
first-byte b w (v ∷ ws) = (w ++ 32 ∷ join_with_byte 32 (v ∷ ws), refl)

first-word : (b : ℕ) (ws : List (List ℕ)) → (rest : List ℕ) × (join_with_byte 32 (filter is_word (onto_first b ws)) ≡ b ∷ rest)
first-word b [] = first-byte b [] []
first-word b (w ∷ ws) = first-byte b w (filter is_word ws)

never : (v : Bool) → (v ≡ true → ⊥) → v ≡ false
never v h = grind (arith)

not-end : (b : ℕ) (bs : List ℕ) → (b == 32) ≡ false → b ≢ 101 → is_end (b ∷ bs) ≡ false
not-end b bs space other =
    let first = first-word b (slice_split (λ c. c == 32) bs) in
    let same : squashed (b ∷ bs) ≡ b ∷ first.0 =
    ap (λ v. join_with_byte 32 (filter is_word (cond v ([] ∷ slice_split (λ c. c == 32) bs)
    (onto_first b (slice_split (λ c. c == 32) bs))))) space ∙ first.1 in
    never (is_end (b ∷ bs)) (λ e.
    other (heads b first.0 (sym same ∙ (bytes_eq-Decides (squashed (b ∷ bs)) (codes "end")).0 e)))
  where
    heads : (b : ℕ) (rest : List ℕ) → b ∷ rest ≡ codes "end" → b ≡ 101
    heads b rest e = ap (λ xs. get_or xs 0 0) e

-- a line that is printed says what it is
said : (l : List ℕ) → IsLine l → (full_line l).says ≡ l
said l h = ap trim (strip-printed l h.printed) ∙ h.trimmed

unended : (b : ℕ) (bs : List ℕ) → IsLine (b ∷ bs) → (b == 32) ≡ false → b ≢ 101
    → is_end (full_line (b ∷ bs)).says ≡ false
unended b bs h space other = ap is_end (said (b ∷ bs) h) ∙ not-end b bs space other

digits-unended : (ds rest : List ℕ) → 0 < length ds → AllByRecursion IsDigit ds → IsLine (ds ++ rest)
    → is_end (full_line (ds ++ rest)).says ≡ false
digits-unended [] rest some h line = absurd (omega (arith, some))
digits-unended (d ∷ ds) rest some h line =
    let low : 48 ≤ d = h.0.0 in
    let high : d ≤ 57 = h.0.1 in
    unended d (ds ++ rest) line (differs d 32 (λ e. omega arith)) (λ e. omega arith)

number-unended : (n m : ℕ) (ns : List ℕ) → n < 2 ^ 64 → IsLine (numbers_line (n ∷ m ∷ ns))
    → is_end (full_line (numbers_line (n ∷ m ∷ ns))).says ≡ false
number-unended n m ns h line =
    digits-unended (decimal n) (32 ∷ numbers_line (m ∷ ns)) (decimal-some n h) (decimal-bytes n h) line

-- the lines of a macrocell text
row-unended : (nodes : List Node) (v : Bool) (level a b c d : ℕ) → Follows nodes (cond v (Cells a b c d) (Quartered level a b c d))
    → IsLine (node_line (cond v (Cells a b c d) (Quartered level a b c d)))
    → is_end (full_line (node_line (cond v (Cells a b c d) (Quartered level a b c d)))).says ≡ false
row-unended nodes true level a b c d h line = number-unended 1 a (b ∷ c ∷ d ∷ []) (omega arith) line
row-unended nodes false level a b c d h line =
    let high = h.high in number-unended level a (b ∷ c ∷ d ∷ []) (omega arith) line

rows-unended : (front : List Node) (rows : List SquareRow) → EachFollows front (map node_of rows)
    → AllByRecursion IsLine (map node_line (map node_of rows))
    → AllByRecursion (λ line. is_end (full_line line).says ≡ false) (map node_line (map node_of rows))
rows-unended front [] h lines = tt
rows-unended front (row ∷ rows) h lines = (
  row-unended front (row.level == 1) row.level (kid row 0) (kid row 1) (kid row 2) (kid row 3) h.0 lines.0,
  rows-unended (front ++ node_of row ∷ []) rows h.1 lines.1,
)

mark-line : (letter : ℕ) (bs : List ℕ) → IsVisible letter → 0 < length bs → AllByRecursion IsVisible bs
    → IsLine (35 ∷ letter ∷ 32 ∷ bs)
mark-line letter bs h some visible = grind
    (arith, line-between, visible-printed, all_so, ends-append, ends-visible)

first-line : IsLine (codes "[M2] (experiment desk)")
first-line = record { printed = printed-tested (codes "[M2] (experiment desk)") refl; trimmed = refl }

macrocell-lines : (name : List ℕ) (rows : List SquareRow) → IsName name → AreRows rows → length rows ≤ 16777216
    → AreTextLines (written_lines name 0 (nodes_of rows))
macrocell-lines name rows h valid few =
    let are = rows-nodes rows valid few in
    let number : 0 < length (decimal 0) = decimal-some 0 (omega arith) in
    let digits = all_so IsDigit IsVisible (decimal 0) digit-visible (decimal-bytes 0 (omega arith)) in
    let named = mark-line 82 name (omega arith, omega arith) h.some (name-visible name h.bytes) in
    let counted = mark-line 71 (decimal 0) (omega arith, omega arith) number digits in
    let low = are.few in
    let lines = node-lines [] (nodes_of rows) (omega arith) are.each in record {
      whole = all_so IsLine NoLineFeed (written_lines name 0 (nodes_of rows))
          (λ l k. printed-one l k.printed) (first-line, (named, (counted, lines)));
      inside = (
        unended 91 _ first-line refl (λ e. omega (arith, e)),
        (
          unended 35 _ named refl (λ e. omega (arith, e)),
          (unended 35 _ counted refl (λ e. omega (arith, e)), rows-unended [] rows are.each lines),
        ),
      );
    }

-- the start of a sound document
narrow : (x y : ℤ) → IsInside (2 ^ 60) x y → IsInside 0 x y
narrow x y h = grind (arith, ints)

margin : (p : Plan) → IsSound p → HasMargin 0 p.start
margin p sound x y live = narrow x y (sound.start_inside x y live)

states : (p : Plan) → IsSound p → AllBelow 256 p.start
states p sound x y = let few = sound.few_states in omega (arith, sound.start_below x y)

-- what was asked makes it anew
made-by : (script : List ℕ) (asked : List Ask) (p : Plan) (k : ℕ)
    → asks Ended Between 1 (lines_until Ended script) ≡ asked → Makes opening_session asked (remade k p)
    → MakesAnew script p
made-by script asked p k is makes = record {
  accepted = subst (λ v. AllByRecursion IsAccepted (afters opening_session v [])) (sym is) makes.0;
  revision = k;
  made = ap (λ v. last_plan (opening 0) (afters opening_session v [])) is ∙ makes.1;
}

start-asked : (p : Plan) (n : ℕ) → AreTextLines (written_lines (name_of p.rule) 0 (nodes_of (rows_of p.start)))
    → AllByRecursion IsWritten (row_edits p)
    → (m : ℕ) × (a : Asks (row_edits p) m) × (asks Ended Between n (lines_until Ended (start_lines p ++ edit_lines (row_edits p)))
    ≡ Take format.Macrocell (macrocell_text p.start (name_of p.rule) 0) ∷ a.asked)
start-asked p n are written =
    let ls = written_lines (name_of p.rule) 0 (nodes_of (rows_of p.start)) in
    let m = n + 1 + length (map full_line ls) + 1 in
    let a = edits-asked (row_edits p) m written in (
      m,
      a,
      text-asked Ended format.Macrocell (codes "start mc") ls (edit_lines (row_edits p)) n
          (refl, (refl, (refl, (refl, (refl, (refl, (refl, (refl, tt)))))))) refl refl are
          ∙ ap (λ v. Take format.Macrocell (macrocell_text p.start (name_of p.rule) 0) ∷ v) a.law,
    )

start-means : (p : Plan) → IsSound p → CanBeWritten p → IsName (name_of p.rule)
    → macrocells.pattern_of (macrocell_text p.start (name_of p.rule) 0)
    ≡ Ok (record { plane = p.start; rule_name = name_of p.rule; generation = 0 })
start-means p sound can name = written-means p.start (name_of p.rule) 0 (margin p sound) (states p sound) can.start name (omega arith)

anew : (p : Plan) (rule : Option (List ℕ)) → IsSound p → IsMade p → CanBeWritten p
    → AreTextLines (written_lines (name_of p.rule) 0 (nodes_of (rows_of p.start))) → HasText p rule
    → MakesAnew (script_text rule p) p
anew p None sound made can are has =
    let mc = macrocell_text p.start (name_of p.rule) 0 in
    let left = can.revisions in
    let start = start-asked p 1 are (rows-written p sound can) in
    let k = 1 + length (row_edits p) in
    let lead : Lead (ReplaceStart p.start ∷ row_edits p) (record (opening 0) { rule = p.rule }) (remade k p) =
    lead_on (ReplaceStart p.start ∷ []) (row_edits p) (record (opening 0) { rule = p.rule }) (bare 1 p) (remade k p)
    (start_leads p sound 0 (omega arith)) (rows_are_made_anew p sound made 1 (omega (arith, left))) in
    let from : Lead (ReplaceStart p.start ∷ row_edits p) (opening 0) (remade k p) =
    subst (λ (r : FileRule). Lead (ReplaceStart p.start ∷ row_edits p) (record (opening 0) { rule = r }) (remade k p)) has lead in
    made-by (script_text None p) _ p k start.2
    (start-made mc (name_of p.rule) p.start start.1.asked opening_session (remade k p) (start-means p sound can (text-named p None has)) from.0
    (edits-made (row_edits p) start.1.asked
    (session_after opening_session (Take format.Macrocell mc) (changed (opening 0) (ReplaceStart p.start)).plan)
    (remade k p) start.1.are from.1))
anew p (Some text) sound made can are has =
    let mc = macrocell_text p.start (name_of p.rule) 0 in
    let left = can.revisions in
    let k = length (edits_for p) in
    let lead = made_anew p sound made left in
    let ls = has.lines in
    let n = 1 + 1 + length (map full_line ls) + 1 in
    let start = start-asked p n are (rows-written p sound can) in
    let take : Ask = Take format.Rule (text_of_lines ls) in
    let next = session_after opening_session take (changed (opening 0) (ReplaceRule p.rule)).plan in
    made-by (script_text (Some text) p) _ p k
    (ap (λ t. asks Ended Between 1 (lines_until Ended (script_text (Some t) p))) (sym has.is)
    ∙ text-asked Ended format.Rule (codes "rule") ls (start_lines p ++ edit_lines (row_edits p)) 1
    (refl, (refl, (refl, (refl, tt)))) refl refl (record { whole = has.whole; inside = has.inside })
    ∙ ap (λ v. Take format.Rule (text_of_lines ls) ∷ v) start.2)
    (rule-made (text_of_lines ls) p.rule (Take format.Macrocell mc ∷ start.1.asked) opening_session (remade k p)
    (ap rule_of has.is ∙ has.means) lead.0
    (start-made mc (name_of p.rule) p.start start.1.asked next (remade k p) (start-means p sound can (text-named p (Some text) has)) lead.1.0
    (edits-made (row_edits p) start.1.asked
    (session_after next (Take format.Macrocell mc) (changed next.plan (ReplaceStart p.start)).plan)
    (remade k p) start.1.are lead.1.1)))

pub scripts_anew : ScriptsMakeAnew
scripts_anew p rule sound made can has =
    let valid = (squares-rows_of p.start (margin p sound) (states p sound)).canonical.valid in
    anew p rule sound made can (macrocell-lines (name_of p.rule) (rows_of p.start) (text-named p rule has) valid can.start) has
