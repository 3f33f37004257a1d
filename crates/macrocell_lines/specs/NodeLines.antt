-- Lines that say nodes.
use Rattle.std.specs.Prelude.{ℕ, ◌==◌, ◌||◌, nat_lt, nat_le, if◌then◌else◌, List, [], ◌∷◌, length, Result, Ok, Err, ok_or}
use Rattle.std.specs.Char.{is_ascii_digit}
use Rattle.basics.specs.Results.{◌>>=◌}
use Rattle.macrocell_lines.specs.declared.fault.McFault.{McFault}
use Rattle.macrocell_lines.specs.declared.fault.McFault.TheVariants.{BadRow, BadChild, TooDeep, NoRoom}
use Rattle.macrocell_lines.specs.declared.node.Node.{Node}
use Rattle.macrocell_lines.specs.declared.node.Node.TheVariants.{Bitmap}
use Rattle.macrocell_lines.specs.declared.numbers.FiveNumbers.{FiveNumbers}
use Rattle.macrocell_lines.specs.Bitmaps.{bitmap_of}
use Rattle.macrocell_lines.specs.Pieces.{five_numbers}
use Rattle.macrocell_lines.specs.Quadrants.{leaf_of, square_of}

-- there is room for one more node
abbrev pub check_room : List Node → Result (Unit {0}) McFault
check_room nodes = if nat_lt (length nodes) 16777216 then Ok tt else Err NoRoom

-- the node of a level and four quadrants, behind these nodes: four states at level 1, and else four
-- numbers of nodes
abbrev pub quartered : ℕ → List Node → FiveNumbers → Result Node McFault
quartered line nodes said =
    if said.level == 0 then Err (BadRow line) else
    (if said.level == 1
    then (ok_or (leaf_of said) (BadRow line) >>= λ cells. check_room nodes >>= λ _. Ok cells)
    else (if nat_le said.level 62
    then (check_room nodes >>= λ _. ok_or (square_of nodes said.level said) (BadChild line))
    else Err TooDeep))

-- the node that a line says, behind these nodes
abbrev pub node_of : ℕ → List Node → List ℕ → Result Node McFault
node_of line nodes [] = Err (BadRow line)
node_of line nodes (b ∷ bs) =
    if is_ascii_digit b
    then (ok_or (five_numbers (b ∷ bs)) (BadRow line) >>= λ said. quartered line nodes said)
    else
    (if (b == 46) || ((b == 42) || (b == 36))
    then (ok_or (bitmap_of (b ∷ bs)) (BadRow line) >>= λ bitmap. check_room nodes
    >>= λ _. Ok (Bitmap bitmap)) else
    Err (BadRow line))
