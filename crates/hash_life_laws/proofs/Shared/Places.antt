-- The squares that are put to the rule stand in the world on the way.
use Rattle.std.proofs.Common.{◌≡◌, ℕ, zero, suc, ◌+◌, ◌-◌, ◌<◌, ◌≤◌, ◌^◌, min, List, [], ◌∷◌, map, ℤ, pos, ◌+ℤ◌, refl, sym, ◌∙◌, ap, subst, arith}
use Rattle.std.specs.Prelude.{All}
use Rattle.std.proofs.lemmas.Int.{ints}
use Rattle.worlds.specs.World.{World}
use Rattle.worlds.specs.Step.{step, nine_zeros}
use Rattle.worlds.specs.Iterate.{iterate, iterate-zero}
use Rattle.worlds.specs.Square.{Square, square_at}
use Rattle.worlds.proofs.Shared.Steps.{iterate-add}
use Rattle.hash_life_laws.specs.Result.{result}
use Rattle.hash_life_laws.specs.Puts.{nine_of, fours_of, Puts, Stands, PutsWhatStands}
use Rattle.hash_life_laws.proofs.Shared.Grids.{joined, sixteen}
use Rattle.hash_life_laws.proofs.Shared.Nine.{All-four, All-nine}
use Rattle.hash_life_laws.proofs.Shared.Steps.{Takes, Takes-result}

-- the nine squares that overlap in a square of a world
nine_places : (w : World) (k : ℕ) (x x1 x2 x3 y y1 y2 y3 : ℤ) →
    x +ℤ pos (2 ^ suc k) ≡ x1 → x1 +ℤ pos (2 ^ suc k) ≡ x2 → x2 +ℤ pos (2 ^ suc k) ≡ x3 → y +ℤ pos (2 ^ suc k) ≡ y1 → y1 +ℤ pos (2 ^ suc k) ≡ y2 → y2 +ℤ pos (2 ^ suc k) ≡ y3 →
    nine_of (square_at w (suc (suc (suc k))) x y) ≡
    square_at w (suc (suc k)) x y ∷ square_at w (suc (suc k)) x1 y ∷ square_at w (suc (suc k)) x2 y
    ∷ square_at w (suc (suc k)) x y1 ∷ square_at w (suc (suc k)) x1 y1 ∷ square_at w (suc (suc k)) x2 y1
    ∷ square_at w (suc (suc k)) x y2 ∷ square_at w (suc (suc k)) x1 y2 ∷ square_at w (suc (suc k)) x2 y2 ∷ []
nine_places w k x x1 x2 x3 y y1 y2 y3 p q r p' q' r' =
    let whole = sixteen w (suc k) x x1 x2 x3 y y1 y2 y3 p q r p' q' r' in
    let a = joined w (suc k) x x1 y y1 p p' in
    let b = joined w (suc k) x1 x2 y y1 q p' in
    let c = joined w (suc k) x2 x3 y y1 r p' in
    let d = joined w (suc k) x x1 y1 y2 p q' in
    let e = joined w (suc k) x1 x2 y1 y2 q q' in
    let f = joined w (suc k) x2 x3 y1 y2 r q' in
    let g = joined w (suc k) x x1 y2 y3 p r' in
    let h = joined w (suc k) x1 x2 y2 y3 q r' in
    let i = joined w (suc k) x2 x3 y2 y3 r r' in
    ap nine_of whole ∙ cc

-- the four that their results make
fours_places : (k : ℕ) (u v : World) (f : Square → Square) → Takes k u v f → (x x1 x2 x3 y y1 y2 y3 : ℤ) →
    x +ℤ pos (2 ^ suc k) ≡ x1 → x1 +ℤ pos (2 ^ suc k) ≡ x2 → x2 +ℤ pos (2 ^ suc k) ≡ x3 → y +ℤ pos (2 ^ suc k) ≡ y1 → y1 +ℤ pos (2 ^ suc k) ≡ y2 → y2 +ℤ pos (2 ^ suc k) ≡ y3 →
    fours_of (map f (nine_of (square_at u (suc (suc (suc k))) x y))) ≡
    square_at v (suc (suc k)) (x +ℤ pos (2 ^ k)) (y +ℤ pos (2 ^ k)) ∷ square_at v (suc (suc k)) (x1 +ℤ pos (2 ^ k)) (y +ℤ pos (2 ^ k))
    ∷ square_at v (suc (suc k)) (x +ℤ pos (2 ^ k)) (y1 +ℤ pos (2 ^ k)) ∷ square_at v (suc (suc k)) (x1 +ℤ pos (2 ^ k)) (y1 +ℤ pos (2 ^ k)) ∷ []
fours_places k u v f takes x x1 x2 x3 y y1 y2 y3 p q r p' q' r' =
    let m = pos (2 ^ k) in
    let shifted : (z z1 : ℤ) → z +ℤ pos (2 ^ suc k) ≡ z1 → (z +ℤ m) +ℤ pos (2 ^ suc k) ≡ z1 +ℤ m = λ z z1 is. omega (arith, ints, is) in
    let a = takes x y in
    let b = takes x1 y in
    let c = takes x2 y in
    let d = takes x y1 in
    let e = takes x1 y1 in
    let g = takes x2 y1 in
    let h = takes x y2 in
    let i = takes x1 y2 in
    let j = takes x2 y2 in
    let nw = joined v (suc k) (x +ℤ m) (x1 +ℤ m) (y +ℤ m) (y1 +ℤ m) (shifted x x1 p) (shifted y y1 p') in
    let ne = joined v (suc k) (x1 +ℤ m) (x2 +ℤ m) (y +ℤ m) (y1 +ℤ m) (shifted x1 x2 q) (shifted y y1 p') in
    let sw = joined v (suc k) (x +ℤ m) (x1 +ℤ m) (y1 +ℤ m) (y2 +ℤ m) (shifted x x1 p) (shifted y1 y2 q') in
    let se = joined v (suc k) (x1 +ℤ m) (x2 +ℤ m) (y1 +ℤ m) (y2 +ℤ m) (shifted x1 x2 q) (shifted y1 y2 q') in
    ap (λ ss. fours_of (map f ss)) (nine_places u k x x1 x2 x3 y y1 y2 y3 p q r p' q' r') ∙ cc

-- what holds of each square of level 2 that stands somewhere at an earlier generation holds of those that are put to the rule
pub Puts-standing : (next : List ℕ → ℕ) → next nine_zeros ≡ 0 → (w : World) (k n : ℕ) (x y : ℤ) (P : Square → Type 0) → n ≤ 2 ^ k →
    ((t : ℕ) (across down : ℤ) → t < n → P (square_at (iterate t (step next) w) 2 across down)) →
    Puts next k n (square_at w (suc (suc k)) x y) P
unfolding Puts
Puts-standing next quiet w k zero x y P few holds = tt
Puts-standing next quiet w zero (suc zero) x y P few holds = subst (λ v. P (square_at v 2 x y)) (iterate-zero (step next) w) (holds 0 x y (omega arith))
Puts-standing next quiet w zero (suc (suc n)) x y P few holds = absurd (omega (arith, few))
Puts-standing next quiet w (suc k) (suc i) x y P few holds =
    let n = suc i in
    let m = min n (2 ^ k) in
    let v = iterate m (step next) w in
    let double : 2 ^ suc k ≡ 2 ^ k + 2 ^ k = omega arith in
    let few_first : m ≤ 2 ^ k = omega arith in
    let few_then : n - m ≤ 2 ^ k = omega (arith, few, double) in
    let h = pos (2 ^ suc k) in
    let x1 = x +ℤ h in
    let x2 = x1 +ℤ h in
    let y1 = y +ℤ h in
    let y2 = y1 +ℤ h in
    let Q : Square → Type 0 = λ q. Puts next k m q P in
    let R : Square → Type 0 = λ q. Puts next k (n - m) q P in
    let first : (a b : ℤ) → Q (square_at w (suc (suc k)) a b) = λ a b. Puts-standing next quiet w k m a b P few_first (λ t c d early. holds t c d (omega (arith, early))) in
    let then : (a b : ℤ) → R (square_at v (suc (suc k)) a b) = λ a b. Puts-standing next quiet v k (n - m) a b P few_then
    (λ t c d early. subst (λ z. P (square_at z 2 c d)) (iterate-add (step next) w t m) (holds (t + m) c d (omega (arith, early)))) in
    let nine = nine_places w k x x1 x2 (x2 +ℤ h) y y1 y2 (y2 +ℤ h) refl refl refl refl refl refl in
    let fours = fours_places k w v (result next k m) (Takes-result next quiet w k m few_first) x x1 x2 (x2 +ℤ h) y y1 y2 (y2 +ℤ h) refl refl refl refl refl refl in (
      subst (All Q) (sym nine) (All-nine Q _ _ _ _ _ _ _ _ _ (first x y) (first x1 y) (first x2 y) (first x y1) (first x1 y1) (first x2 y1) (first x y2) (first x1 y2) (first x2 y2)),
      subst (All R) (sym fours) (All-four R _ _ _ _ (then _ _) (then _ _) (then _ _) (then _ _)),
    )

pub what_is_put : PutsWhatStands
what_is_put next quiet w k n x y few = Puts-standing next quiet w k n x y (Stands next w n) few (λ t across down early. (t, across, down, early, refl))
