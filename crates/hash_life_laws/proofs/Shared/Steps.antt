-- HashLife's results are single steps.
use Rattle.std.proofs.Common.{◌≡◌, ℕ, zero, suc, ◌+◌, ◌-◌, ◌≤◌, ◌^◌, min, List, [], ◌∷◌, ℤ, pos, negsuc, ◌+ℤ◌, refl, sym, ◌∙◌, ap, arith}
use Rattle.std.proofs.lemmas.Int.{ints}
use Rattle.worlds.specs.World.{World, cell}
use Rattle.worlds.specs.Step.{step, nine_zeros, cell-step}
use Rattle.worlds.specs.Iterate.{iterate}
use Rattle.worlds.specs.Square.{Square, one, four, square_at}
use Rattle.worlds.proofs.Shared.Steps.{iterate-add}
use Rattle.hash_life_laws.specs.Result.{middle, later, in_two, result, ResultIsSteps}
use Rattle.hash_life_laws.proofs.Shared.Grids.{same_square, joined, sixteen}

-- a function takes squares of level k + 2 of one world to the squares in their middle of another
abbrev pub Takes : ℕ → World → World → (Square → Square) → Type 0
Takes k w v f = (x y : ℤ) → f (square_at w (suc (suc k)) x y) ≡ square_at v (suc k) (x +ℤ pos (2 ^ k)) (y +ℤ pos (2 ^ k))

-- so it takes four squares that meet
taken : (k : ℕ) (w v : World) (f : Square → Square) → Takes k w v f → (x0 x1 x y0 y1 y : ℤ) →
    x0 +ℤ pos (2 ^ suc k) ≡ x1 → y0 +ℤ pos (2 ^ suc k) ≡ y1 → x0 +ℤ pos (2 ^ k) ≡ x → y0 +ℤ pos (2 ^ k) ≡ y →
    f (four (square_at w (suc k) x0 y0) (square_at w (suc k) x1 y0) (square_at w (suc k) x0 y1) (square_at w (suc k) x1 y1)) ≡ square_at v (suc k) x y
taken k w v f takes x0 x1 x y0 y1 y right below at_x at_y =
    ap f (sym (joined w (suc k) x0 x1 y0 y1 right below)) ∙ takes x0 y0 ∙ same_square v (suc k) _ _ _ _ at_x at_y

-- nine results and then four
pub Takes-in_two : (k : ℕ) (u v w : World) (f g : Square → Square) → Takes k u v f → Takes k v w g → Takes (suc k) u w (in_two f g)
Takes-in_two k u v w f g first second x y =
    let h = pos (2 ^ suc k) in
    let m = pos (2 ^ k) in
    let x1 = x +ℤ h in
    let x2 = x1 +ℤ h in
    let x3 = x2 +ℤ h in
    let y1 = y +ℤ h in
    let y2 = y1 +ℤ h in
    let y3 = y2 +ℤ h in
    let across : (z : ℤ) → (z +ℤ m) +ℤ h ≡ (z +ℤ h) +ℤ m = λ z. omega (arith, ints) in
    let double : 2 ^ suc k ≡ 2 ^ k + 2 ^ k = omega arith in
    let inner : (z : ℤ) → (z +ℤ m) +ℤ m ≡ z +ℤ h = λ z. omega (arith, ints) in
    let whole = sixteen u (suc k) x x1 x2 x3 y y1 y2 y3 refl refl refl refl refl refl in
    let a = taken k u v f first x x1 (x +ℤ m) y y1 (y +ℤ m) refl refl refl refl in
    let b = taken k u v f first x1 x2 (x1 +ℤ m) y y1 (y +ℤ m) refl refl refl refl in
    let c = taken k u v f first x2 x3 (x2 +ℤ m) y y1 (y +ℤ m) refl refl refl refl in
    let d = taken k u v f first x x1 (x +ℤ m) y1 y2 (y1 +ℤ m) refl refl refl refl in
    let e = taken k u v f first x1 x2 (x1 +ℤ m) y1 y2 (y1 +ℤ m) refl refl refl refl in
    let i = taken k u v f first x2 x3 (x2 +ℤ m) y1 y2 (y1 +ℤ m) refl refl refl refl in
    let j = taken k u v f first x x1 (x +ℤ m) y2 y3 (y2 +ℤ m) refl refl refl refl in
    let l = taken k u v f first x1 x2 (x1 +ℤ m) y2 y3 (y2 +ℤ m) refl refl refl refl in
    let o = taken k u v f first x2 x3 (x2 +ℤ m) y2 y3 (y2 +ℤ m) refl refl refl refl in
    let nw = taken k v w g second (x +ℤ m) (x1 +ℤ m) (x +ℤ h) (y +ℤ m) (y1 +ℤ m) (y +ℤ h) (across x) (across y) (inner x) (inner y) in
    let ne = taken k v w g second (x1 +ℤ m) (x2 +ℤ m) (x1 +ℤ h) (y +ℤ m) (y1 +ℤ m) (y +ℤ h) (across x1) (across y) (inner x1) (inner y) in
    let sw = taken k v w g second (x +ℤ m) (x1 +ℤ m) (x +ℤ h) (y1 +ℤ m) (y2 +ℤ m) (y1 +ℤ h) (across x) (across y1) (inner x) (inner y1) in
    let se = taken k v w g second (x1 +ℤ m) (x2 +ℤ m) (x1 +ℤ h) (y1 +ℤ m) (y2 +ℤ m) (y1 +ℤ h) (across x1) (across y1) (inner x1) (inner y1) in
    let made = joined w (suc k) (x +ℤ h) (x1 +ℤ h) (y +ℤ h) (y1 +ℤ h) refl refl in
    cc

-- a cell one generation later, by the nine around it
stepped : (next : List ℕ → ℕ) → next nine_zeros ≡ 0 → (w : World) (xw x xe yn y ys : ℤ) →
    xw +ℤ pos 1 ≡ x → x +ℤ pos 1 ≡ xe → yn +ℤ pos 1 ≡ y → y +ℤ pos 1 ≡ ys →
    next (cell w x y ∷ cell w x yn ∷ cell w xe yn ∷ cell w xe y ∷ cell w xe ys ∷ cell w x ys ∷ cell w xw ys ∷ cell w xw y ∷ cell w xw yn ∷ []) ≡ cell (step next w) x y
stepped next quiet w xw x xe yn y ys west east north south =
    let x0 : x +ℤ pos 0 ≡ x = omega (arith, ints) in
    let y0 : y +ℤ pos 0 ≡ y = omega (arith, ints) in
    let w1 : x +ℤ negsuc 0 ≡ xw = omega (arith, ints) in
    let n1 : y +ℤ negsuc 0 ≡ yn = omega (arith, ints) in
    let is = cell-step next quiet w x y in
    cc

-- four cells, by their states
alike : (a b c d e f g h : ℕ) → a ≡ e → b ≡ f → c ≡ g → d ≡ h → four (one a) (one b) (one c) (one d) ≡ four (one e) (one f) (one g) (one h)
alike a b c d e f g h nw ne sw se = cc

-- no generations
Takes-middle : (k : ℕ) (w : World) → Takes k w w middle
Takes-middle k w x y =
    let h = pos (2 ^ k) in
    let x1 = x +ℤ h in
    let x2 = x1 +ℤ h in
    let y1 = y +ℤ h in
    let y2 = y1 +ℤ h in
    let whole = sixteen w k x x1 x2 (x2 +ℤ h) y y1 y2 (y2 +ℤ h) refl refl refl refl refl refl in
    let made = joined w k x1 x2 y1 y2 refl refl in
    cc

-- one generation
Takes-later : (next : List ℕ → ℕ) → next nine_zeros ≡ 0 → (w : World) → Takes 0 w (step next w) (later next)
unfolding square_at
Takes-later next quiet w x y =
    let x1 = x +ℤ pos 1 in
    let x2 = x1 +ℤ pos 1 in
    let x3 = x2 +ℤ pos 1 in
    let y1 = y +ℤ pos 1 in
    let y2 = y1 +ℤ pos 1 in
    let y3 = y2 +ℤ pos 1 in
    let whole = sixteen w 0 x x1 x2 x3 y y1 y2 y3 refl refl refl refl refl refl in
    let nw = stepped next quiet w x x1 x2 y y1 y2 refl refl refl refl in
    let ne = stepped next quiet w x1 x2 x3 y y1 y2 refl refl refl refl in
    let sw = stepped next quiet w x x1 x2 y1 y2 y3 refl refl refl refl in
    let se = stepped next quiet w x1 x2 x3 y1 y2 y3 refl refl refl refl in
    ap (later next) whole
    ∙ alike _ _ _ _ _ _ _ _ nw ne sw se
    ∙ sym (joined (step next w) 0 x1 x2 y1 y2 refl refl)

-- up to 2^k generations
pub Takes-result : (next : List ℕ → ℕ) → next nine_zeros ≡ 0 → (w : World) (k n : ℕ) → n ≤ 2 ^ k → Takes k w (iterate n (step next) w) (result next k n)
unfolding result iterate
Takes-result next quiet w k zero few x y = Takes-middle k w x y
Takes-result next quiet w zero (suc zero) few x y = Takes-later next quiet w x y
Takes-result next quiet w zero (suc (suc n)) few x y = absurd (omega arith)
Takes-result next quiet w (suc k) (suc i) few x y =
    let n = suc i in
    let m = min n (2 ^ k) in
    let rest = n - m in
    let v = iterate m (step next) w in
    let double : 2 ^ suc k ≡ 2 ^ k + 2 ^ k = omega arith in
    let few_first : m ≤ 2 ^ k = omega arith in
    let few_then : rest ≤ 2 ^ k = omega arith in
    let all : rest + m ≡ n = omega arith in
    Takes-in_two k w v (iterate rest (step next) v) (result next k m) (result next k rest) (Takes-result next quiet w k m few_first) (Takes-result next quiet v k rest few_then) x y
    ∙ ap (λ u. square_at u (suc (suc k)) (x +ℤ pos (2 ^ suc k)) (y +ℤ pos (2 ^ suc k))) (sym (iterate-add (step next) w rest m))
    ∙ ap (λ i. square_at (iterate i (step next) w) (suc (suc k)) (x +ℤ pos (2 ^ suc k)) (y +ℤ pos (2 ^ suc k))) all

-- the result of a square of a world is the square in its middle so many single steps later
pub result-steps : ResultIsSteps
result-steps next quiet w k n x y few = Takes-result next quiet w k n few x y
