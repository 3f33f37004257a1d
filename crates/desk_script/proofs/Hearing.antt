-- What was heard of lines.
use Rattle.desk_script.proofs.Names.{Between, Bool, BreaksOff, Broken, Ended, Err, Format, Hears, IfOk, InText, IsAtEnd, IsReadAs, LineTaken, List, NoEndAmong, None, Ok, OnErr, OnOk, Option, ReadsText, Refuse, Result, Some, Take, TextTaken}
use Rattle.desk_script.proofs.Names.{[], ap, append-nil, append_assoc, arith, asked_by, command_of, false, format_of, is_passed_over, lines_until, raw_bytes, refl, subst, sym, true, ℕ, ◌++◌, ◌+◌, ◌<◌, ◌∷◌, ◌≡◌, ◌≤◌}
use Rattle.script_lines.specs.Ahead.{Ahead}
use Rattle.script_lines.proofs.Shared.Ahead.{takes_then}
use Rattle.script_lines.proofs.Shared.Taking.{line_falls}
use Rattle.script_lines.specs.declared.reader.TextFound.{TextFound}
use Rattle.script_lines.specs.declared.reader.TextFound.TheVariants as found_text
use Rattle.script_lines.specs.declared.kept_line.KeptLine.{KeptLine}
use Rattle.desk_script.specs.declared.fault.ScriptFault.TheVariants.{NoEnd}
use Rattle.desk_script.specs.declared.request.Request.{Request}
use Rattle.desk_script.specs.declared.request.Request.TheVariants as request
use Rattle.desk_script.proofs.Shared.Asks.{asks-text, asks-open_text, asks-command, asks-text_command, follows-any}

pub hears-command : (old new : Ahead) (kept : KeptLine) (last : Bool) (r : Request) (n k : ℕ) → k ≡ n
    → (t : LineTaken last old new kept) → is_passed_over t.line.says ≡ false → format_of t.line.says ≡ None
    → IsReadAs r (asked_by k (command_of t.line.says)) → Hears old new Between (Some r) last n (n + 1)
hears-command old new kept last r n k same t passed text is = record {
  bytes = t.line.raw;
  asked = asked_by k (command_of t.line.says) ∷ [];
  taken = t.taken;
  law = λ stop more f. grind (arith, asks-command, t.law stop more f);
  is = (asked_by k (command_of t.line.says), refl, is);
  at_end = t.at_end;
}

-- the command of a text
pub hears-text : (old mid new : Ahead) (format : Format) (kept : KeptLine) (first : Bool) (heard : Option Request)
    (last : Bool) (n m : ℕ) → first ≡ false → (t : LineTaken first old mid kept) → is_passed_over t.line.says ≡ false
    → format_of t.line.says ≡ Some format
    → Hears mid new (InText n format []) heard last (n + 1) m → Hears old new Between heard last n m
hears-text old mid new format kept first heard last n m e t passed text h = record {
  bytes = t.line.raw ++ h.bytes;
  asked = h.asked;
  taken = takes_then old mid new t.line.raw h.bytes t.taken h.taken;
  law = λ stop more f. grind (arith, append_assoc, follows-any, asks-text_command, t.law, h.law stop more f);
  is = h.is;
  at_end = h.at_end;
}

pub breaks-text : (old mid new : Ahead) (format : Format) (kept : KeptLine) (first : Bool) (n : ℕ) → first ≡ false
    → (t : LineTaken first old mid kept) → is_passed_over t.line.says ≡ false → format_of t.line.says ≡ Some format
    → BreaksOff mid new (InText n format []) (n + 1) → BreaksOff old new Between n
breaks-text old mid new format kept first n e t passed text b = record {
  bytes = t.line.raw ++ b.bytes;
  taken = takes_then old mid new t.line.raw b.bytes t.taken b.taken;
  law = grind (arith, follows-any, asks-text_command, t.law, b.law);
}

-- nothing follows the command of a text
pub hears-last_text : (old new : Ahead) (format : Format) (kept : KeptLine) (last : Bool) (n k : ℕ) → last ≡ true
    → k ≡ n → (t : LineTaken last old new kept) → is_passed_over t.line.says ≡ false
    → format_of t.line.says ≡ Some format
    → Hears old new Between (Some (request.Refuse (NoEnd k))) last n (n + 1)
hears-last_text old new format kept last n k e same t passed text = record {
  bytes = t.line.raw;
  asked = Refuse (NoEnd n) ∷ [];
  taken = t.taken;
  law = λ stop more f. grind (arith, asks-text_command, t.law stop more f, e, f);
  is = (Refuse (NoEnd n), refl, ap (λ v. Refuse (NoEnd v)) (sym same));
  at_end = t.at_end;
}

-- a text with its end
hears-whole_text : (format : Format) (text : Option (List ℕ)) (old new : Ahead) (last : Bool) (n m : ℕ)
    → TextTaken last text old new n m → Hears old new (InText n format []) (Some (request.Take format text)) last
    (n + 1) (m + 1)
hears-whole_text format text old new last n m t = record {
  bytes = raw_bytes t.lines ++ t.closing.raw;
  asked = Take format (raw_bytes t.lines) ∷ [];
  taken = t.taken;
  law = λ stop more f. grind (arith, asks-text, t.law stop more f, t.inside, t.ends, t.number);
  is = (Take format (raw_bytes t.lines), refl, (raw_bytes t.lines, refl, t.is));
  at_end = t.at_end;
}

-- a text without one
hears-open_text : (format : Format) (old new : Ahead) (n m : ℕ) → NoEndAmong Ended old new → IsAtEnd new.bytes
    → Hears old new (InText n format []) (Some (request.Refuse (NoEnd n))) true (n + 1) m
hears-open_text format old new n m t end = record {
  bytes = t.bytes;
  asked = Refuse (NoEnd n) ∷ [];
  taken = t.taken;
  law = λ stop more f. grind (arith, append-nil, asks-open_text, t.inside, f);
  is = (Refuse (NoEnd n), refl, refl);
  at_end = λ _. end;
}

pub reads-ended : (format : Format) (found : TextFound) (text : Option (List ℕ)) (last : Bool) (old new : Ahead)
    (n m : ℕ) → found ≡ found_text.Ended text last → ReadsText found old new n m
    → Hears old new (InText n format []) (Some (request.Take format text)) last (n + 1) (m + 1)
reads-ended format found text last old new n m e h =
    hears-whole_text format text old new last n m (subst (λ f. ReadsText f old new n m) e h)

pub reads-open : (format : Format) (found : TextFound) (old new : Ahead) (n m : ℕ) → found ≡ found_text.NoEnd
    → ReadsText found old new n m → Hears old new (InText n format []) (Some (request.Refuse (NoEnd n))) true (n + 1)
    (m + 1)
reads-open format found old new n m e h = let parts = subst (λ f. ReadsText f old new n m) e h in
    hears-open_text format old new n (m + 1) parts.0 parts.1

pub breaks-open_text : (format : Format) (old new : Ahead) (n : ℕ) → NoEndAmong Broken old new
    → BreaksOff old new (InText n format []) (n + 1)
breaks-open_text format old new n t = record {
  bytes = t.bytes;
  taken = t.taken;
  law = asks-open_text Broken n format [] (n + 1) (lines_until Broken t.bytes) t.inside;
}

-- what follows from a clause
pub if_ok_map : {T E : Type 0} (r : Result T E) (P Q : T → Type 0) → ((x : T) → P x → Q x) → IfOk r P → IfOk r Q
if_ok_map r P Q f h = grind (arith)

pub on_err_map : {T E : Type 0} (r : Result T E) (P Q : Type 0) → (P → Q) → OnErr r P → OnErr r Q
on_err_map r P Q f h = grind (arith)

-- a text takes no room back
pub reads-most : (found : TextFound) (old new : Ahead) (n m : ℕ) → ReadsText found old new n m → new.room ≤ old.room
reads-most found old new n m h = grind (arith)

-- behind a line less can come
pub falls-behind : {T E : Type 0} (r : Result T E) (P : T → Type 0) (last : Bool) (old mid new : Ahead)
    (kept : KeptLine) → LineTaken last old mid kept → OnOk r (new.room ≤ mid.room)
    → IfOk r (λ h. P h → new.room < old.room)
falls-behind (Ok x) P last old mid new kept t most = λ _. let less = line_falls last old mid kept t in
    omega (arith, less, most)
falls-behind (Err e) P last old mid new kept t most = tt
