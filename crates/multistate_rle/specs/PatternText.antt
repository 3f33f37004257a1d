-- The text of a pattern in run-length encoding.
use Rattle.std.specs.Prelude.{ℕ, ◌-◌, nat_le, if◌then◌else◌, List, [], ◌∷◌, ◌++◌, length, map, codes, decimal}
use Rattle.std.specs.Fmt.{signed_decimal}
use Rattle.worlds.specs.World.{World}
use Rattle.worlds.specs.Live.{live}
use Rattle.multistate_rle.specs.declared.frame.Frame.{Frame}
use Rattle.multistate_rle.specs.Frame.{box_of, frame_of}
use Rattle.multistate_rle.specs.Token.{tokens, token_text}

-- where the pattern lies: the beginning of the first line
abbrev pub place_text : Frame → List ℕ
place_text f = codes "#CXRLE Pos=" ++ signed_decimal f.left ++ codes "," ++ signed_decimal f.top

-- its generation: the rest of that line
abbrev pub generation_text : ℕ → List ℕ
generation_text generation = codes " Gen=" ++ decimal generation ++ codes "\n"

-- the line of the pattern's size and its rule's name
abbrev pub size_line : Frame → List ℕ → List ℕ
size_line f name =
    codes "x = " ++ decimal f.width ++ codes ", y = " ++ decimal f.height
    ++ codes ", rule = " ++ name ++ codes "\n"

-- pieces packed into lines of at most 70 bytes, of which the first has so much room left: a piece
-- goes on the present line if it fits whole, else on the next
abbrev pub packed : ℕ → List (List ℕ) → List ℕ
packed room [] = codes "\n"
packed room (p ∷ ps) =
    if nat_le (length p) room then p ++ packed (room - length p) ps
    else codes "\n" ++ p ++ packed (70 - length p) ps

-- the text of a pattern in this frame, by its rule's name and number of states and its generation
abbrev pub framed_text : Frame → World → List ℕ → ℕ → ℕ → List ℕ
framed_text f w name generation states =
    place_text f ++ generation_text generation ++ size_line f name
    ++ packed 70 (map (token_text states) (tokens f.left (f.top, f.left) (live w)))

-- the text of a world's pattern, in the frame of its bounding box
abbrev pub rle_text : World → List ℕ → ℕ → ℕ → List ℕ
rle_text w name generation states =
    framed_text (frame_of (box_of (live w))) w name generation states
