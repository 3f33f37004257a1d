-- Lines of edits, read back.
use Rattle.desk_script.proofs.Names.{AddBookmark, AddBranch, All, AllByRecursion, AreCounts, AreWritten, Asked, Between, CellSet, Edit, EditLinesReadBack, Every, FitsSigned, Insert, IsCount, IsWrittenCell, IsWrittenView, List, None, Once}
use Rattle.desk_script.proofs.Names.{ReadsBack, RemoveBookmark, RemoveBranch, RemoveIntervention, Some, View, [], alone, ap, append-nil, append_assoc, ap₂, arith, asked_by, asked_of, asks, before, cell_of, cell_words, cells_said, cells_set}
use Rattle.desk_script.proofs.Names.{codes, command_of_words, count_of, decimal, edit_line, false, flat_map, format_of_words, full_line, is_passed_over, is_word, length, lines_until, list_all, negsuc, option_map, pos, refl, subst, suc, sym}
use Rattle.desk_script.proofs.Names.{true, view_of, view_words, w64, words, ℕ, ℤ, ◌++◌, ◌+◌, ◌-◌, ◌<◌, ◌==◌, ◌^◌, ◌∙◌, ◌∷◌, ◌≡◌, ◌≤◌}
use Rattle.std.specs.Fmt.{signed_decimal}
use Rattle.std.proofs.lemmas.Int.{ints}
use Rattle.std.proofs.lemmas.List.Elements.{All-from_recursion}
use Rattle.std.proofs.lemmas.List.Splits.{slice_split_at, slice_split_none}
use Rattle.basics.proofs.Shared.Lists.{all_append, all_so}
use Rattle.text_lines.specs.Blanks.{trim}
use Rattle.text_lines.specs.Numbers.{number_of}
use Rattle.text_lines.proofs.Shared.ByteRanges.{IsDigit, IsPrinted, IsVisible, differs, digit-visible, is_visible}
use Rattle.text_lines.proofs.Shared.ByteRanges.{visible-printed, visible-tested}
use Rattle.text_lines.proofs.Shared.Decimals.{decimal-bytes, decimal-some, number_of-decimal}
use Rattle.text_lines.proofs.Shared.LineEnds.{line-first}
use Rattle.text_lines.proofs.Shared.PrintedLines.{EndsSolid, IsLine, line-visible, ends-append, ends-behind}
use Rattle.text_lines.proofs.Shared.PrintedLines.{ends-visible, line-between, printed-one, strip-printed}
use Rattle.script_lines.specs.Numbers.{integer_of}
use Rattle.bookmarks.specs.declared.view.View.TheVariants as view
use Rattle.schedule.specs.declared.acts.Acts.{Acts}
use Rattle.schedule.specs.declared.edit.Edit.TheVariants as edit
use Rattle.desk_script.specs.Numbers.{coordinate, up_to}
use Rattle.desk_script.specs.declared.command.Command.TheVariants as command
use Rattle.desk_script.proofs.Shared.Asks.{asks-command}

-- a word: visible bytes, one at least
record IsPlainWord (w : List ℕ) : Type 0 where
  some : 0 < length w
  visible : AllByRecursion IsVisible w

-- a line that says these words
record SaysWords (says : List ℕ) (ws : List (List ℕ)) : Type 0 where
  are : words says ≡ ws
  line : IsLine says
  ends : EndsSolid says

no-space : (b : ℕ) → IsVisible b → (b == 32) ≡ false
no-space b h = grind (arith, differs)

unparted : (w : List ℕ) → IsPlainWord w → All (λ b. (b == 32) ≡ false) w
unparted w h =
    All-from_recursion (λ b. (b == 32) ≡ false) w (all_so IsVisible (λ b. (b == 32) ≡ false) w no-space h.visible)

word-some : (w : List ℕ) → 0 < length w → is_word w ≡ true
word-some w some = grind (arith)

solid : (w rest : List ℕ) → IsPlainWord w → AllByRecursion IsPrinted (w ++ rest) → EndsSolid (w ++ rest)
    → IsLine (w ++ rest)
solid [] rest h printed ends = let some = h.some in absurd (omega arith)
solid (b ∷ bs) rest h printed ends = let visible = h.visible in line-between b (bs ++ rest) visible.0 printed.1 ends

says-last : (w : List ℕ) → IsPlainWord w → SaysWords w (w ∷ [])
says-last w h = record {
  are = rw (slice_split_none (λ b. b == 32) w (unparted w h), word-some w h.some) refl;
  line = line-visible w h.some h.visible;
  ends = ends-visible w h.some h.visible;
}

says-more : (w rest : List ℕ) (ws : List (List ℕ)) → IsPlainWord w → SaysWords rest ws
    → SaysWords (w ++ 32 ∷ rest) (w ∷ ws)
says-more w rest ws h more =
    let ends = ends-append w (32 ∷ rest) (ends-behind 32 rest more.ends) in record {
      are = rw (slice_split_at (λ b. b == 32) w 32 rest (unparted w h) refl, word-some w h.some)
          (ap (λ v. w ∷ v) more.are);
      line = solid w (32 ∷ rest) h (all_append IsPrinted w (32 ∷ rest)
          (all_so IsVisible IsPrinted w visible-printed h.visible) ((omega arith, omega arith), more.line.printed)) ends;
      ends = ends;
    }

-- a text that is the line of some words
record IsLineOf (text : List ℕ) (ws : List (List ℕ)) : Type 0 where
  says : List ℕ
  split : text ≡ says ++ 10 ∷ []
  is : SaysWords says ws

abbrev line-last : (w : List ℕ) → IsPlainWord w → IsLineOf (w ++ 10 ∷ []) (w ∷ [])
line-last w h = record { says = w; split = refl; is = says-last w h }

abbrev line-more : (w rest : List ℕ) (ws : List (List ℕ)) → IsPlainWord w → IsLineOf rest ws → IsLineOf (w ++ 32 ∷ rest) (w ∷ ws)
line-more w rest ws h more = record {
  says = w ++ 32 ∷ more.says;
  split = ap (λ v. w ++ 32 ∷ v) more.split ∙ sym (append_assoc w (32 ∷ more.says) (10 ∷ []));
  is = says-more w more.says ws h more.is;
}

-- words that are written
plain : (w : List ℕ) → 0 < length w → AllByRecursion IsVisible w → IsPlainWord w
plain w some visible = record { some = some; visible = visible }

number : (n : ℕ) → IsCount n → IsPlainWord (decimal n)
number n h =
    plain (decimal n) (decimal-some n h) (all_so IsDigit IsVisible (decimal n) digit-visible (decimal-bytes n h))

signed : (z : ℤ) → FitsSigned w64 z → IsPlainWord (signed_decimal z)
signed (pos n) h = number n (grind (arith, ints))
signed (negsuc n) h =
    let digits = number (suc n) (grind (arith, ints)) in
    plain (45 ∷ decimal (suc n)) (omega arith) ((omega arith, omega arith), digits.visible)

-- the numbers that they write
reads-up_to : (most n : ℕ) → n ≤ most → IsCount n → up_to most (decimal n) ≡ Some n
reads-up_to most n low h = grind (arith, number_of-decimal)

counts : (n : ℕ) → IsCount n → count_of (decimal n) ≡ Some n
counts n h = reads-up_to (2 ^ 64 - 1) n (omega (arith, h)) h

digits-first : (ds rest : List ℕ) → 0 < length ds → AllByRecursion IsDigit ds
    → integer_of (ds ++ rest) ≡ option_map pos (number_of (ds ++ rest))
digits-first [] rest some h = absurd (omega (arith, some))
digits-first (d ∷ ds) rest some h =
    let low : 48 ≤ d = h.0.0 in rw (differs d 45 (λ e. omega arith)) refl

reads-signed : (z : ℤ) → FitsSigned w64 z → coordinate (signed_decimal z) ≡ Some z
reads-signed (pos n) h =
    let wide : IsCount n = grind (arith, ints) in
    let first = digits-first (decimal n) [] in
    grind (arith, ints, first, decimal-some, decimal-bytes, append-nil, number_of-decimal)
reads-signed (negsuc n) h =
    let wide : IsCount (suc n) = grind (arith, ints) in grind (arith, ints, number_of-decimal)

-- three words, and what stands behind them
three : (x y s rest : List ℕ) → (x ++ 32 ∷ (y ++ 32 ∷ s)) ++ rest ≡ x ++ 32 ∷ (y ++ 32 ∷ (s ++ rest))
three x y s rest = grind (arith, append_assoc)

-- cells
abbrev words_of_cells : List CellSet → List (List ℕ)
words_of_cells [] = []
words_of_cells (c ∷ cs) = signed_decimal c.x ∷ signed_decimal c.y ∷ decimal c.state ∷ words_of_cells cs

cell-read : (c : CellSet) → IsWrittenCell c
    → cell_of (signed_decimal c.x) (signed_decimal c.y) (decimal c.state) ≡ Some c
cell-read c h = grind (arith, reads-signed, reads-up_to)

cells-read : (cs : List CellSet) → AllByRecursion IsWrittenCell cs → cells_said (words_of_cells cs) ≡ Some cs
cells-read [] h = refl
cells-read (c ∷ cs) h = ap₂ before (cell-read c h.0) (cells-read cs h.1)

-- what stands behind a word that cells follow
record IsCellsTail (cs : List CellSet) : Type 0 where
  rest : List ℕ
  split : flat_map cell_words cs ++ codes "\n" ≡ 32 ∷ rest
  line : IsLineOf rest (words_of_cells cs)

cell-tail : (c : CellSet) (cs : List CellSet) (behind : List ℕ) (ws : List (List ℕ)) → IsWrittenCell c
    → IsLineOf (decimal c.state ++ behind) (decimal c.state ∷ ws) → behind ≡ flat_map cell_words cs ++ codes "\n"
    → words_of_cells cs ≡ ws → IsCellsTail (c ∷ cs)
cell-tail c cs behind ws h line is same =
    let low = h.state in record {
      rest = signed_decimal c.x ++ 32 ∷ (signed_decimal c.y ++ 32 ∷ (decimal c.state ++ behind));
      split = append_assoc (cell_words c) (flat_map cell_words cs) (codes "\n")
          ∙ ap (λ v. 32 ∷ v) (three (signed_decimal c.x) (signed_decimal c.y) (decimal c.state)
          (flat_map cell_words cs ++ codes "\n"))
          ∙ ap (λ v. 32 ∷ (signed_decimal c.x ++ 32 ∷ (signed_decimal c.y ++ 32 ∷ (decimal c.state ++ v)))) (sym is);
      line = subst (λ vs. IsLineOf (signed_decimal c.x ++ 32 ∷ (signed_decimal c.y ++ 32 ∷ (decimal c.state ++ behind)))
          (signed_decimal c.x ∷ signed_decimal c.y ∷ decimal c.state ∷ vs)) (sym same)
          (line-more (signed_decimal c.x) _ _ (signed c.x h.x)
          (line-more (signed_decimal c.y) _ _ (signed c.y h.y) line));
    }

cells-tail : (c : CellSet) (cs : List CellSet) → IsWrittenCell c → AllByRecursion IsWrittenCell cs → IsCellsTail (c ∷ cs)
cells-tail c [] h hs =
    let low = h.state in
    cell-tail c [] (10 ∷ []) [] h (line-last (decimal c.state) (number c.state (omega (arith, low)))) refl refl
cells-tail c (d ∷ ds) h hs =
    let low = h.state in
    let tail = cells-tail d ds hs.0 hs.1 in
    cell-tail c (d ∷ ds) (32 ∷ tail.rest) (words_of_cells (d ∷ ds)) h
    (line-more (decimal c.state) tail.rest _ (number c.state (omega (arith, low))) tail.line) (sym tail.split) refl

set-line : (cs : List CellSet) → AreWritten cs
    → IsLineOf (codes "set" ++ (flat_map cell_words cs ++ codes "\n")) (codes "set" ∷ words_of_cells cs)
set-line [] h = let some = h.some in absurd (omega arith)
set-line (c ∷ cs) h =
    let each = h.each in
    let tail = cells-tail c cs each.0 each.1 in
    subst (λ v. IsLineOf (codes "set" ++ v) (codes "set" ∷ words_of_cells (c ∷ cs))) (sym tail.split)
    (line-more (codes "set") tail.rest _ (plain (codes "set") (omega arith) (visible-tested (codes "set") refl)) tail.line)

set-read : (cs : List CellSet) → AreWritten cs → cells_set (codes "set" ∷ words_of_cells cs) ≡ Some cs
set-read cs h = grind (arith, cells-read)

-- a word of letters
letters : (w : List ℕ) → 0 < length w → list_all is_visible w ≡ true → IsPlainWord w
letters w some h = plain w some (visible-tested w h)

-- the line of an edit asks for it
module _ (asked : Asked) (ws : List (List ℕ)) (e : Edit) where
  reads : (l : IsLineOf (edit_line asked) ws) → asked_of e ≡ asked → is_passed_over l.says ≡ false
      → format_of_words ws ≡ None → command_of_words ws ≡ Some (command.Edit e) → ReadsBack asked
  reads l is passed text command = record {
    edit = e;
    is = is;
    law = λ stop n more.
        let line = l.is.line in
        let said : (full_line l.says).says ≡ l.says = ap trim (strip-printed l.says line.printed) ∙ line.trimmed in
        ap (λ v. asks stop Between n (lines_until stop v))
        (ap (λ v. v ++ more) l.split ∙ append_assoc l.says (10 ∷ []) more)
        ∙ ap (asks stop Between n) (line-first stop [] l.says more (printed-one l.says line.printed))
        ∙ asks-command stop n (full_line l.says) (lines_until stop more) (ap is_passed_over said ∙ passed)
        (ap format_of_words (ap words said ∙ l.is.are) ∙ text)
        ∙ ap (λ c. asked_by n c ∷ asks stop Between (n + 1) (lines_until stop more))
        (ap command_of_words (ap words said ∙ l.is.are) ∙ command);
  }

branch-line : (parent generation : ℕ) → IsCount parent → IsCount generation → ReadsBack (AddBranch parent generation)
branch-line parent generation h k =
    reads (AddBranch parent generation) (codes "branch" ∷ decimal parent ∷ decimal generation ∷ [])
    (edit.AddBranch parent generation)
    (line-more (codes "branch") _ _ (letters (codes "branch") (omega arith) refl)
    (line-more (decimal parent) _ _ (number parent h) (line-last (decimal generation) (number generation k))))
    refl refl refl
    (grind (arith, counts))

-- a line of a word and an id
id-line : (asked : Asked) (word : List ℕ) (id : ℕ) (e : Edit) → edit_line asked ≡ word ++ 32 ∷ (decimal id ++ 10 ∷ [])
    → asked_of e ≡ asked → IsPlainWord word → IsCount id → is_passed_over (word ++ 32 ∷ decimal id) ≡ false
    → format_of_words (word ∷ decimal id ∷ []) ≡ None
    → command_of_words (word ∷ decimal id ∷ []) ≡ Some (command.Edit e) → ReadsBack asked
id-line asked word id e split is plain h passed text command =
    reads asked (word ∷ decimal id ∷ []) e
    (record {
      says = word ++ 32 ∷ decimal id;
      split = split ∙ sym (append_assoc word (32 ∷ decimal id) (10 ∷ []));
      is = says-more word (decimal id) (decimal id ∷ []) plain (says-last (decimal id) (number id h));
    }) is passed text command

unbranch-line : (id : ℕ) → IsCount id → ReadsBack (RemoveBranch id)
unbranch-line id h = id-line (RemoveBranch id) (codes "unbranch") id (edit.RemoveBranch id) refl refl
    (letters (codes "unbranch") (omega arith) refl) h refl refl
    (ap (λ o. option_map command.Edit (option_map edit.RemoveBranch (alone o []))) (counts id h))

unmark-line : (id : ℕ) → IsCount id → ReadsBack (RemoveBookmark id)
unmark-line id h = id-line (RemoveBookmark id) (codes "unmark") id (edit.RemoveBookmark id) refl refl
    (letters (codes "unmark") (omega arith) refl) h refl refl
    (ap (λ o. option_map command.Edit (option_map edit.RemoveBookmark (alone o []))) (counts id h))

drop-line : (id : ℕ) → IsCount id → ReadsBack (RemoveIntervention id)
drop-line id h = id-line (RemoveIntervention id) (codes "drop") id (edit.RemoveIntervention id) refl refl
    (letters (codes "drop") (omega arith) refl) h refl refl
    (ap (λ o. option_map command.Edit (option_map edit.RemoveIntervention (alone o []))) (counts id h))

-- a view behind the generation
abbrev view_words_of : View → List (List ℕ)
view_words_of view.Counts = codes "counts" ∷ []
view_words_of view.Rle = codes "rle" ∷ []
view_words_of view.Macrocell = codes "mc" ∷ []
view_words_of (view.Window left top width height) =
    codes "window" ∷ signed_decimal left ∷ signed_decimal top ∷ decimal width ∷ decimal height ∷ []

view-line : (v : View) → IsWrittenView v → IsLineOf (view_words v ++ codes "\n") (view_words_of v)
view-line view.Counts h = line-last (codes "counts") (letters (codes "counts") (omega arith) refl)
view-line view.Rle h = line-last (codes "rle") (letters (codes "rle") (omega arith) refl)
view-line view.Macrocell h = line-last (codes "mc") (letters (codes "mc") (omega arith) refl)
view-line (view.Window left top width height) h =
    subst (λ v. IsLineOf (codes "window " ++ v) (view_words_of (view.Window left top width height)))
    (sym (append_assoc (signed_decimal left) (32 ∷ (signed_decimal top ++ 32 ∷ (decimal width ++ 32 ∷ decimal height)))
    (10 ∷ []) ∙ ap (λ v. signed_decimal left ++ 32 ∷ v)
    (three (signed_decimal top) (decimal width) (decimal height) (10 ∷ []))))
    (line-more (codes "window") _ _ (letters (codes "window") (omega arith) refl)
    (line-more (signed_decimal left) _ _ (signed left h.0)
    (line-more (signed_decimal top) _ _ (signed top h.1)
    (line-more (decimal width) _ _ (number width (omega (arith, h.2)))
    (line-last (decimal height) (number height (omega (arith, h.3))))))))

view-read : (v : View) → IsWrittenView v → view_of (view_words_of v) ≡ Some v
view-read v h = grind (arith, reads-signed, reads-up_to)

bookmark-line : (b generation : ℕ) (v : View) → IsCount b → IsCount generation → IsWrittenView v
    → ReadsBack (AddBookmark b generation v)
bookmark-line b generation v h k w =
    reads (AddBookmark b generation v)
    (codes "on" ∷ decimal b ∷ codes "mark" ∷ decimal generation ∷ view_words_of v) (edit.AddBookmark b generation v)
    (line-more (codes "on") _ _ (letters (codes "on") (omega arith) refl)
    (line-more (decimal b) _ _ (number b h)
    (line-more (codes "mark") _ _ (letters (codes "mark") (omega arith) refl)
    (line-more (decimal generation) _ _ (number generation k) (view-line v w)))))
    refl refl refl
    (grind (arith, counts, view-read))

-- what is inserted
insert-line : (b : ℕ) (acts : Acts) (cs : List CellSet) → IsCount b → AreCounts acts → AreWritten cs
    → ReadsBack (Insert b acts cs)
insert-line b (Once generation) cs h k w =
    reads (Insert b (Once generation) cs)
    (codes "on" ∷ decimal b ∷ codes "at" ∷ decimal generation ∷ codes "set" ∷ words_of_cells cs)
    (edit.Insert b (Once generation) cs)
    (line-more (codes "on") _ _ (letters (codes "on") (omega arith) refl)
    (line-more (decimal b) _ _ (number b h)
    (line-more (codes "at") _ _ (letters (codes "at") (omega arith) refl)
    (line-more (decimal generation) _ _ (number generation k) (set-line cs w)))))
    refl refl refl
    (grind (arith, counts, set-read))
insert-line b (Every first every last) cs h k w =
    let behind = 32 ∷ (codes "set" ++ (flat_map cell_words cs ++ codes "\n")) in
    reads (Insert b (Every first every last) cs)
    (codes "on" ∷ decimal b ∷ codes "every" ∷ decimal every ∷ decimal first ∷ decimal last ∷ codes "set"
    ∷ words_of_cells cs)
    (edit.Insert b (Every first every last) cs)
    (line-more (codes "on") _ _ (letters (codes "on") (omega arith) refl)
    (line-more (decimal b) _ _ (number b h)
    (line-more (codes "every") _ _ (letters (codes "every") (omega arith) refl)
    (subst (λ v. IsLineOf v (decimal every ∷ decimal first ∷ decimal last ∷ codes "set" ∷ words_of_cells cs))
    (sym (three (decimal every) (decimal first) (decimal last) behind))
    (line-more (decimal every) _ _ (number every k.1)
    (line-more (decimal first) _ _ (number first k.0)
    (line-more (decimal last) _ _ (number last k.2) (set-line cs w))))))))
    refl refl refl
    (grind (arith, counts, set-read))

pub lines_read_back : EditLinesReadBack
lines_read_back asked h = grind
    (arith, bookmark-line, branch-line, drop-line, insert-line, unbranch-line, unmark-line)
