-- What lines ask.
use Rattle.desk_script.proofs.Names.{Between, Bool, End, Format, InText, Line, List, MayFollow, None, NoneEnds, Some, Take, [], append-nil, append_assoc, arith, asked_by, asks, command_of, false, format_of, is_end, is_passed_over, length}
use Rattle.desk_script.proofs.Names.{raw_bytes, refl, true, without_end, ℕ, ◌++◌, ◌+◌, ◌∷◌, ◌≡◌}

-- lines up to one that is `end` are the text
pub asks-text : (stop : End) (at : ℕ) (f : Format) (kept : List ℕ) (n : ℕ) (lines : List Line) (closing : Line)
    (rest : List Line) → NoneEnds lines → is_end closing.says ≡ true
    → asks stop (InText at f kept) n (lines ++ closing ∷ rest) ≡ Take f (kept ++ raw_bytes lines) ∷ asks stop Between
    (n + length lines + 1) rest
asks-text stop at f kept n [] closing rest inside ends = grind (arith, append-nil)
asks-text stop at f kept n (line ∷ lines) closing rest inside ends =
    let rest_is = asks-text stop at f (kept ++ line.raw) (n + 1) lines closing rest inside.1 ends in
    grind (arith, append_assoc, rest_is)

-- where none is `end`, the text has no end
pub asks-open_text : (stop : End) (at : ℕ) (f : Format) (kept : List ℕ) (n : ℕ) (lines : List Line) → NoneEnds lines
    → asks stop (InText at f kept) n lines ≡ without_end stop at
asks-open_text stop at f kept n [] inside = refl
asks-open_text stop at f kept n (line ∷ lines) inside =
    grind (arith, asks-open_text stop at f (kept ++ line.raw) (n + 1) lines inside.1)

pub asks-command : (stop : End) (n : ℕ) (line : Line) (rest : List Line) → is_passed_over line.says ≡ false
    → format_of line.says ≡ None
    → asks stop Between n (line ∷ rest) ≡ asked_by n (command_of line.says) ∷ asks stop Between (n + 1) rest
asks-command stop n line rest passed text = grind (arith)

pub asks-text_command : (stop : End) (n : ℕ) (f : Format) (line : Line) (rest : List Line)
    → is_passed_over line.says ≡ false → format_of line.says ≡ Some f
    → asks stop Between n (line ∷ rest) ≡ asks stop (InText n f []) (n + 1) rest
asks-text_command stop n f line rest passed text = grind (arith)

-- anything may follow a line that isn't the last
pub follows-any : (last : Bool) (stop : End) (more : List ℕ) → last ≡ false → MayFollow last stop more
follows-any last stop more e = grind (arith)
