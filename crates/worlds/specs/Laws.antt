-- What the definitions are meant to say: each statement is proved by a function of the same name.
use Rattle.std.specs.Prelude.{◌≡◌, ℕ, ◌+◌, ◌<◌, List, [], ℤ, ◌-ℤ◌}
use Rattle.worlds.specs.declared.cell.CellSet.{CellSet}
use Rattle.worlds.specs.World.{World, cell, blank}
use Rattle.worlds.specs.Lay.{lay, last_mention}
use Rattle.worlds.specs.Step.{step, around, nine_zeros}
use Rattle.worlds.specs.Iterate.{iterate}
use Rattle.worlds.specs.Moved.{moved}
use Rattle.worlds.specs.Arrival.{arrive}
use Rattle.worlds.specs.Near.{AgreeNear, NoneNear}

-- two worlds with the same state everywhere are one
abbrev pub SameStatesSameWorld : Type 0
SameStatesSameWorld = (v w : World) → ((x y : ℤ) → cell v x y ≡ cell w x y) → v ≡ w

-- a cell that is laid has the state of its last mention, and any other keeps its own
abbrev pub StateAfterLay : Type 0
StateAfterLay =
    (cells : List CellSet) (w : World) (x y : ℤ)
    → cell (lay cells w) x y ≡ last_mention cells x y (cell w x y)

-- where an empty neighbourhood stays empty, each state after a step is the next of the nine around
abbrev pub StateAfterStep : Type 0
StateAfterStep =
    (next : List ℕ → ℕ) → next nine_zeros ≡ 0 → (w : World) (x y : ℤ)
    → cell (step next w) x y ≡ next (around w x y)

-- an empty world stays empty
abbrev pub EmptyStaysEmpty : Type 0
EmptyStaysEmpty = (next : List ℕ → ℕ) → step next blank ≡ blank

-- a step commutes with moving the world
abbrev pub StepCommutesWithMoving : Type 0
StepCommutesWithMoving =
    (next : List ℕ → ℕ) → next nine_zeros ≡ 0 → (dx dy : ℤ) (w : World)
    → step next (moved dx dy w) ≡ moved dx dy (step next w)

-- each state of a moved world is that of the place it came from
abbrev pub StateAfterMoving : Type 0
StateAfterMoving =
    (dx dy : ℤ) (w : World) (x y : ℤ) → cell (moved dx dy w) x y ≡ cell w (x -ℤ dx) (y -ℤ dy)

-- a place with no live cell at most one cell away is empty after a step
abbrev pub SpreadsOneCell : Type 0
SpreadsOneCell =
    (next : List ℕ → ℕ) → next nine_zeros ≡ 0 → (w : World) (x y : ℤ) → NoneNear 1 w x y
    → cell (step next w) x y ≡ 0

-- m + n steps are n steps and then m
abbrev pub StepsAdd : Type 0
StepsAdd =
    (next : List ℕ → ℕ) (w : World) (m n : ℕ)
    → iterate (m + n) (step next) w ≡ iterate m (step next) (iterate n (step next) w)

-- after n steps a cell depends on the cells at most n away, wherever they lie
abbrev pub DependsOnTheNear : Type 0
DependsOnTheNear =
    (next : List ℕ → ℕ) → next nine_zeros ≡ 0 → (n : ℕ) (v : World) (x y : ℤ) (w : World) (a b : ℤ)
    → AgreeNear n v x y w a b
    → cell (iterate n (step next) v) x y ≡ cell (iterate n (step next) w) a b

-- what arrives at a generation depends on what was laid before it alone
abbrev pub ArrivalDependsOnThePast : Type 0
ArrivalDependsOnThePast =
    (next : List ℕ → ℕ) (cells others : ℕ → List CellSet) (start : World) (g : ℕ)
    → ((k : ℕ) → k < g → cells k ≡ others k)
    → arrive next cells start g ≡ arrive next others start g

-- with nothing laid, what arrives is that many steps from the start
abbrev pub ArrivalUndisturbed : Type 0
ArrivalUndisturbed =
    (next : List ℕ → ℕ) (cells : ℕ → List CellSet) (start : World) (g : ℕ)
    → ((k : ℕ) → k < g → cells k ≡ []) → arrive next cells start g ≡ iterate g (step next) start
