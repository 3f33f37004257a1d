-- The text of a view of counts.
use Rattle.std.specs.Prelude.{◌≡◌, ℕ, zero, suc, List, [], ◌∷◌, ◌++◌, codes, decimal}
use Rattle.std.proofs.Common.{refl}
use Rattle.worlds.specs.World.{World}
use Rattle.worlds.specs.Live.{count_of}

-- the line of a state that so many live cells have: none where no cell has it
abbrev pub count_line : ℕ → ℕ → List ℕ
count_line s zero = []
count_line s (suc n) = decimal s ++ codes " " ++ decimal (suc n) ++ codes "\n"

-- the lines of the n states from s on
unfoldable pub count_lines : World → ℕ → ℕ → List ℕ
count_lines w s zero = []
count_lines w s (suc n) = count_line s (count_of w s) ++ count_lines w (suc s) n

-- the lines, or the one line `empty` where there are none
abbrev pub or_empty : List ℕ → List ℕ
or_empty [] = codes "empty\n"
or_empty (b ∷ bs) = b ∷ bs

-- one line for each state from 1 on that a cell has, with how many have it
abbrev pub counts_text : World → List ℕ
counts_text w = or_empty (count_lines w 1 255)

pub count_lines-none : (w : World) (s : ℕ) → count_lines w s 0 ≡ []
unfolding count_lines
count_lines-none w s = refl

pub count_lines-more : (w : World) (s n : ℕ)
    → count_lines w s (suc n) ≡ count_line s (count_of w s) ++ count_lines w (suc s) n
unfolding count_lines
count_lines-more w s n = refl
