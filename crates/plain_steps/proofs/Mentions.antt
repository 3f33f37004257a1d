-- The places of listed cells, and the world once they are laid.
use Rattle.plain_steps.proofs.Names.{AllByRecursion, CellSet, List, None, Place, World, [], ap, arith, as_set, blank, cases_Bool, cell, cell-blank, cell-lay, cell-state_at, cond, false, last_mention, lay, list_any, live, live-states, map}
use Rattle.plain_steps.proofs.Names.{of_cell, refl, same_is, same_place, same_world, true, ℕ, ℤ, ◌<◌, ◌∙◌, ◌∷◌, ◌≡◌}
use Rattle.std.specs.Map.{lookup}
use Rattle.worlds.specs.declared.cell.Cell.{Cell}

-- the place of a cell that is laid
abbrev pub place_of : CellSet → Place
place_of c = (c.y, c.x)

unmentioned : (cs : List CellSet) (x y : ℤ) (s : ℕ) → list_any (same_place (y, x)) (map place_of cs) ≡ false → last_mention cs x y s ≡ s
unmentioned [] x y s h = refl
unmentioned (c ∷ cs) x y s h = grind (arith, unmentioned cs x y)

-- a place that no cell of the list has
pub cell-unmentioned : (cs : List CellSet) (x y : ℤ) → list_any (same_place (y, x)) (map place_of cs) ≡ false → cell (lay cs blank) x y ≡ 0
cell-unmentioned cs x y h = grind (arith, cell-lay, unmentioned, cell-blank)

-- a live cell is on the list
pub live-mentioned : (cs : List CellSet) (x y : ℤ) → 0 < cell (lay cs blank) x y → list_any (same_place (y, x)) (map place_of cs) ≡ true
live-mentioned cs x y h = grind (arith, cell-unmentioned, cases_Bool (list_any (same_place (y, x)) (map place_of cs)))

-- what each cell of the list has, each place on it has
pub each_mentioned : (P : ℤ → ℤ → Type 0) (cs : List CellSet) (x y : ℤ) → AllByRecursion (λ c. P c.x c.y) cs → list_any (same_place (y, x)) (map place_of cs) ≡ true → P x y
each_mentioned P [] x y all h = absurd (cc)
each_mentioned P (c ∷ cs) x y all h = grind (arith, same_is (y, x) (place_of c), each_mentioned P cs x y all.1)

-- a listed cell has its state in the world, and is live
abbrev pub IsListedIn : World → Place × ℕ → Type 0
IsListedIn w e = (cell w e.0.1 e.0.0 ≡ e.1) × (0 < e.1)

abbrev pub set_of : Place × ℕ → CellSet
set_of e = record { x = e.0.1; y = e.0.0; state = e.1 }

-- the last mention of a place has its state, where one that isn't mentioned has it already
mentioned : (w : World) (es : List (Place × ℕ)) (x y : ℤ) (s : ℕ) → AllByRecursion (IsListedIn w) es → (lookup (same_place (y, x)) es ≡ None → s ≡ cell w x y)
    → last_mention (map set_of es) x y s ≡ cell w x y
mentioned w [] x y s h other = other refl
mentioned w (e ∷ es) x y s h other = mentioned w es x y (cond (same_place (y, x) e.0) e.1 s) h.1 (λ none. grind (arith, same_is (y, x) e.0))

-- the live cells of a world, laid on the blank one, make it
pub lay-live : (w : World) → lay (map set_of (live w)) blank ≡ w
lay-live w = same_world (lay (map set_of (live w)) blank) w (λ x y.
    cell-lay (map set_of (live w)) blank x y ∙ mentioned w (live w) x y _ (live-states w) (λ none. grind (arith, cell-blank, cell-state_at)))

-- they are laid by their places
pub sets_by_place : (cs : List Cell) → map as_set cs ≡ map set_of (map of_cell cs)
sets_by_place [] = refl
sets_by_place (c ∷ cs) = ap (λ ds. as_set c ∷ ds) (sets_by_place cs)
