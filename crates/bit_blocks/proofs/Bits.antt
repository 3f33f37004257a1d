-- Squares of two states by their numbers.
use Rattle.std.proofs.Common.{◌≡◌, ℕ, ◌+◌, ◌*◌, ◌/◌, ◌<◌, ◌≤◌, List, ap, ◌∙◌, arith}
use Rattle.worlds.specs.Square.{Square, one, four, IsSquare}
use Rattle.hash_life_laws.specs.Puts.{IsBelow}
use Rattle.bit_blocks.specs.Numbers.{two_of, block_of, eight_of, sixteen_of}

-- four cells, by their states
cells : (a b c d e f g h : ℕ) → a ≡ e → b ≡ f → c ≡ g → d ≡ h → four (one a) (one b) (one c) (one d) ≡ four (one e) (one f) (one g) (one h)
cells a b c d e f g h nw ne sw se i = four (one (nw i)) (one (ne i)) (one (sw i)) (one (se i))

-- the number of four bits
pub two_of-bits : (a b c d : ℕ) → a ≤ 1 → b ≤ 1 → c ≤ 1 → d ≤ 1 → two_of (a + 2 * b + 4 * c + 8 * d) ≡ four (one a) (one b) (one c) (one d)
unfolding two_of
two_of-bits a b c d ha hb hc hd = cells _ _ _ _ _ _ _ _ (omega arith) (omega arith) (omega arith) (omega arith)

-- bits from the fifth on don't count
pub two_of-low : (n m : ℕ) → two_of (n + 16 * m) ≡ two_of n
unfolding two_of
two_of-low n m = cells _ _ _ _ _ _ _ _ (omega arith) (omega arith) (omega arith) (omega arith)

-- a block by the numbers of its quadrants
pub block_of-parts : (a b c d : ℕ) → a < 16 → b < 16 → c < 16 → block_of ((a + 256 * c) + 16 * (b + 256 * d)) ≡ four (two_of a) (two_of b) (two_of c) (two_of d)
unfolding block_of
block_of-parts a b c d ha hb hc =
    let n = (a + 256 * c) + 16 * (b + 256 * d) in
    let nw : n ≡ a + 16 * (b + 16 * c + 256 * d) = omega arith in
    let ne : n / 16 ≡ b + 16 * (c + 16 * d) = omega arith in
    let sw : n / 256 ≡ c + 16 * d = omega arith in
    let se : n / 4096 ≡ d = omega arith in
    let nw_is = ap two_of nw ∙ two_of-low a _ in
    let ne_is = ap two_of ne ∙ two_of-low b _ in
    let sw_is = ap two_of sw ∙ two_of-low c d in
    λ i. four (nw_is i) (ne_is i) (sw_is i) (two_of (se i))

-- the states of a block are 0 and 1
two_below : (c n : ℕ) → 2 ≤ c → IsBelow c (two_of n)
unfolding IsBelow two_of
two_below c n two = (omega arith, omega arith, omega arith, omega arith)

pub block_below : (c n : ℕ) → 2 ≤ c → IsBelow c (block_of n)
unfolding IsBelow block_of
block_below c n two = (two_below c _ two, two_below c _ two, two_below c _ two, two_below c _ two)

-- it has a level
two_square : (n : ℕ) → IsSquare 1 (two_of n)
unfolding IsSquare two_of
two_square n = (omega arith, omega arith, omega arith, omega arith)

block_square : (n : ℕ) → IsSquare 2 (block_of n)
unfolding IsSquare block_of
block_square n = (two_square _, two_square _, two_square _, two_square _)

eight_square : (blocks : List ℕ) → IsSquare 3 (eight_of blocks)
unfolding IsSquare eight_of
eight_square blocks = (block_square _, block_square _, block_square _, block_square _)

pub sixteen_square : (squares : List (List ℕ)) → IsSquare 4 (sixteen_of squares)
unfolding IsSquare sixteen_of
sixteen_square squares = (eight_square _, eight_square _, eight_square _, eight_square _)

-- a block by the states of its quadrants
pub of_quadrants : (n : ℕ) (nw ne sw se : Square) → nw ≡ two_of n → ne ≡ two_of (n / 16) → sw ≡ two_of (n / 256) → se ≡ two_of (n / 4096) → block_of n ≡ four nw ne sw se
unfolding block_of
of_quadrants n nw ne sw se a b c d = cc
