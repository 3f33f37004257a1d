-- HashLife as a function of squares: what the middle of a square is some generations later.
use Rattle.std.specs.Prelude.{◌≡◌, ℕ, zero, suc, ◌-◌, ◌≤◌, ◌^◌, min, List, [], ◌∷◌, ℤ, pos, ◌+ℤ◌}
use Rattle.worlds.specs.World.{World}
use Rattle.worlds.specs.Step.{step, nine_zeros}
use Rattle.worlds.specs.Iterate.{iterate}
use Rattle.worlds.specs.Square.{Square, one, four, square_at}

-- the square between two that stand side by side
abbrev pub between : Square → Square → Square
between (four a b c d) (four e f g h) = four b e d g
between s t = s

-- the square between two that stand one above the other
abbrev pub amid : Square → Square → Square
amid (four a b c d) (four i j k l) = four c d i j
amid s t = s

-- the square of half the side in the middle
abbrev pub middle : Square → Square
middle (four (four a b c d) (four e f g h) (four i j k l) (four m n o p)) = four d g j m
middle s = s

-- the state of a cell
abbrev pub state_of : Square → ℕ
state_of (one s) = s
state_of (four a b c d) = 0

-- the cell that nine make, in the order C, N, NE, E, SE, S, SW, W, NW
abbrev pub next_of : (List ℕ → ℕ) → Square → Square → Square → Square → Square → Square → Square
    → Square → Square → Square
next_of next c n ne e se s sw w nw =
    one (next
    (state_of c ∷ state_of n ∷ state_of ne ∷ state_of e ∷ state_of se ∷ state_of s ∷ state_of sw
    ∷ state_of w ∷ state_of nw ∷ []))

-- the four cells in the middle of a square of level 2 one generation later
abbrev pub later : (List ℕ → ℕ) → Square → Square
later next (four (four a b c d) (four e f g h) (four i j k l) (four m n o p)) =
    four (next_of next d b e g m j i c a) (next_of next g e f h n m j d b)
    (next_of next j d g m o l k i c) (next_of next m g h n p o l j d)
later next s = s

-- four results of the squares that nine results make, which are given by rows
abbrev pub four_of_nine : (Square → Square) → Square → Square → Square → Square → Square → Square
    → Square → Square → Square → Square
four_of_nine r a b c d e f g h i =
    four (r (four a b d e)) (r (four b c e f)) (r (four d e g h)) (r (four e f h i))

-- nine results by f of the squares that overlap in a square, and four by g of what they make
abbrev pub in_two : (Square → Square) → (Square → Square) → Square → Square
in_two f g (four nw ne sw se) =
    four_of_nine g (f nw) (f (between nw ne)) (f ne) (f (amid nw sw))
    (f (middle (four nw ne sw se))) (f (amid ne se)) (f sw) (f (between sw se)) (f se)
in_two f g s = s

-- the middle of a square of level k + 2, n generations later: first as many as 2^k of them, and
-- then the others
unfoldable pub result : (List ℕ → ℕ) → ℕ → ℕ → Square → Square
result next k zero s = middle s
result next zero (suc n) s = later next s
result next (suc k) (suc n) s =
    in_two (result next k (min (suc n) (2 ^ k))) (result next k (suc n - min (suc n) (2 ^ k))) s

-- the result of a square of a world, for up to 2^k generations, is the square in its middle so many
-- single steps later
abbrev pub ResultIsSteps : Type 0
ResultIsSteps =
    (next : List ℕ → ℕ) → next nine_zeros ≡ 0 → (w : World) (k n : ℕ) (x y : ℤ) → n ≤ 2 ^ k →
    result next k n (square_at w (suc (suc k)) x y)
    ≡ square_at (iterate n (step next) w) (suc k) (x +ℤ pos (2 ^ k)) (y +ℤ pos (2 ^ k))
