-- What contracts see of a patch: a level, and the states that it says of places.
use Rattle.std.specs.Prelude.{◌≡◌, ◌⊎◌, ℕ, ◌^◌, ◌/◌, List, ◌++◌, map, ℤ, pos, neg_ℤ, ◌+ℤ◌, ◌≤ℤ◌, Option, unwrap_or, refl}
use Rattle.std.specs.List.{range_with_len, concat}
use Rattle.std.specs.Coded.{Coded, code_by, coded_ℕ, coded_ℤ, coded×}
use Rattle.std.specs.FinMap as finite
use Rattle.square_tree.specs.Place.{place_cmp}

-- the level of the square, and a finite map from places to states, in which 0 is a state like the
-- others
pub record Cells : Type 0 where
  pub level : ℕ
  pub states : finite.FinMap place_cmp ℕ

-- the code by which proofs tell them apart
abbrev pub coded_cells : Coded Cells
coded_cells =
    code_by (ℕ × finite.FinMap place_cmp ℕ)
    (coded× coded_ℕ (finite.code (coded× coded_ℤ coded_ℤ) coded_ℕ)) (λ c. (c.level, c.states))
    (λ p. record { level = p.0; states = p.1 }) (λ _. refl)

-- how far the square of a level reaches to the west and to the north of (0, 0)
abbrev pub reach : ℕ → ℕ
reach level = 2 ^ level / 2

-- the x of its leftmost column, and the y of its topmost row
abbrev pub least : ℕ → ℤ
least level = neg_ℤ (pos (reach level))

-- so many columns or rows from z on are among those of the square
pub record SpansSquare (level : ℕ) (z : ℤ) (count : ℕ) : Type 0 where
  pub from : least level ≤ℤ z
  pub to : (z +ℤ pos count) ≤ℤ (least level +ℤ pos (2 ^ level))

-- (x, y) lies in the square
abbrev pub IsHeld : ℕ → ℤ → ℤ → Type 0
IsHeld level x y = SpansSquare level x 1 × SpansSquare level y 1

-- nothing is said of any place
abbrev pub blank : ℕ → Cells
blank l = record { level = l; states = finite.empty }

-- what is said of (x, y)
abbrev pub state_at : Cells → ℤ → ℤ → Option ℕ
state_at c x y = finite.get c.states (y, x)

-- the state s is said of (x, y), and of the others what c says
abbrev pub put : Cells → ℤ → ℤ → ℕ → Cells
put c x y s = record c { states = finite.insert c.states (y, x) s }

-- what the first says, and where it says nothing what the second says, in the square of the second
abbrev pub overlaid : Cells → Cells → Cells
overlaid c d =
    record d { states = finite.from_entries (finite.entries c.states ++ finite.entries d.states) }

-- of each place the new one says what the old one says, or what it says once the other is laid on
-- it
pub record IsPartlyOverlaid (other old new : Cells) : Type 0 where
  pub level : new.level ≡ old.level
  pub states : (x y : ℤ)
      → (state_at new x y ≡ state_at old x y)
      ⊎ (state_at new x y ≡ state_at (overlaid other old) x y)

-- the states of so many cells from (x, y) to the right, 0 where nothing is said
abbrev pub row_states : Cells → ℤ → ℤ → ℕ → List ℕ
row_states c x y width = map (λ k. unwrap_or (state_at c (x +ℤ pos k) y) 0) (range_with_len 0 width)

-- those of the rows of a rectangle, from the top
abbrev pub window_states : Cells → ℤ → ℤ → ℕ → ℕ → List ℕ
window_states c left top width height =
    concat (map (λ k. row_states c left (top +ℤ pos k) width) (range_with_len 0 height))
