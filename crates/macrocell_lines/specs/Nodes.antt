-- The nodes of a quadtree, of which each names its quadrants by the numbers of earlier ones.
use Rattle.std.specs.Prelude.{◌≡◌, ℕ, ◌+◌, ◌-◌, ◌==◌, ◌<◌, ◌≤◌, Bool, true, false, IsTrue, if◌then◌else◌, List, [], ◌∷◌, ◌++◌, length, slice_get, slice_index}
use Rattle.std.specs.Option.{option_map_or}
use Rattle.macrocell_lines.specs.declared.node.Node.{Node}
use Rattle.macrocell_lines.specs.declared.node.Node.TheVariants.{Cells, Square, Bitmap}

-- the level of the square of a node
abbrev pub level_of : Node → ℕ
level_of (Cells nw ne sw se) = 1
level_of (Square level nw ne sw se) = level
level_of (Bitmap bitmap) = 3

-- a square of a level may have this number as a quadrant: 0, or that of one of these nodes, counted
-- from 1, of one level less
abbrev pub is_child : List Node → ℕ → ℕ → Bool
is_child nodes level n =
    if n == 0 then true
    else option_map_or (λ node. level_of node + 1 == level) (slice_get nodes (n - 1)) false

-- the states of four cells
pub record AreStates (nw ne sw se : ℕ) : Type 0 where
  pub nw_state : nw < 256
  pub ne_state : ne < 256
  pub sw_state : sw < 256
  pub se_state : se < 256

-- a level above 1, and its four quadrants among these nodes
pub record AreQuadrants (nodes : List Node) (level nw ne sw se : ℕ) : Type 0 where
  pub low : 2 ≤ level
  pub high : level ≤ 62
  pub nw_child : IsTrue (is_child nodes level nw)
  pub ne_child : IsTrue (is_child nodes level ne)
  pub sw_child : IsTrue (is_child nodes level sw)
  pub se_child : IsTrue (is_child nodes level se)

-- eight rows of eight bits
pub record IsBitmap (rows : List ℕ) : Type 0 where
  pub long : length rows ≡ 8
  pub each : (y : ℕ) → slice_index rows y < 256

-- a node that may stand behind these
abbrev pub Follows : List Node → Node → Type 0
Follows nodes (Cells nw ne sw se) = AreStates nw ne sw se
Follows nodes (Square level nw ne sw se) = AreQuadrants nodes level nw ne sw se
Follows nodes (Bitmap bitmap) = IsBitmap bitmap.rows

-- each of some nodes may stand behind these and those before it
abbrev pub EachFollows : List Node → List Node → Type 0
EachFollows nodes [] = Unit {0}
EachFollows nodes (node ∷ others) = Follows nodes node × EachFollows (nodes ++ node ∷ []) others

-- the nodes of a quadtree in order, of which each follows those before it
pub record AreNodes (nodes : List Node) : Type 0 where
  pub few : length nodes ≤ 16777216
  pub each : EachFollows [] nodes
