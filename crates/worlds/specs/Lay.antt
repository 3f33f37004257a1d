-- Cells laid on a world: the last mention of a cell wins.
use Rattle.std.specs.Prelude.{◌≡◌, ℕ, cond, List, [], ◌∷◌, ◌++◌, ℤ}
use Rattle.std.proofs.Common.{refl, ap, ◌∙◌}
use Rattle.worlds.specs.declared.cell.CellSet.{CellSet}
use Rattle.worlds.specs.World.{World, cell, put, cell-put, same_place}

-- the world after the cells are set in turn; the state 0 takes a cell away
abbrev pub lay : List CellSet → World → World
lay [] w = w
lay (c ∷ cs) w = lay cs (put w c.x c.y c.state)

-- the state of the last mention of (x, y), or s where it isn't mentioned
abbrev pub last_mention : List CellSet → ℤ → ℤ → ℕ → ℕ
last_mention [] x y s = s
last_mention (c ∷ cs) x y s = last_mention cs x y (cond (same_place (y, x) (c.y, c.x)) c.state s)

-- each state after the cells are laid
pub cell-lay : (cs : List CellSet) (w : World) (x y : ℤ)
    → cell (lay cs w) x y ≡ last_mention cs x y (cell w x y)
cell-lay [] w x y = refl
cell-lay (c ∷ cs) w x y =
    cell-lay cs (put w c.x c.y c.state) x y
    ∙ ap (last_mention cs x y) (cell-put w c.x c.y c.state x y)

-- one more cell
pub lay-push : (cs : List CellSet) (c : CellSet) (w : World)
    → lay (cs ++ c ∷ []) w ≡ put (lay cs w) c.x c.y c.state
lay-push [] c w = refl
lay-push (d ∷ cs) c w = lay-push cs c (put w d.x d.y d.state)

-- one list after another
pub lay-append : (cs ds : List CellSet) (w : World) → lay (cs ++ ds) w ≡ lay ds (lay cs w)
lay-append [] ds w = refl
lay-append (c ∷ cs) ds w = lay-append cs ds (put w c.x c.y c.state)
