-- What a job computes, by what it says: a step or a view.
use Rattle.std.specs.Prelude.{◌≡◌, ℕ, List}
use Rattle.worlds.specs.declared.cell.CellSet.{CellSet}
use Rattle.worlds.specs.World.{World}
use Rattle.worlds.specs.Lay.{lay}
use Rattle.worlds.specs.Iterate.{iterate}
use Rattle.worlds.specs.Step.{step}
use Rattle.rule_tree.specs.declared.rule.Rule.{Rule}
use Rattle.rule_tree.specs.Rule.{AreEqual, next_of}
use Rattle.bookmarks.specs.declared.view.View.{View}
use Rattle.bookmarks.specs.Text.{text_of}
use Rattle.bookmarks.specs.Value.{Value, pattern, text}

-- a rule, a pattern, the cells that are laid on it, and how many generations pass then
pub record Stepping : Type 0 where
  pub rule : Rule
  pub from : World
  pub cells : List CellSet
  pub gens : ℕ

-- a view, a pattern, the cells that are laid on it, and what its text says of rule and generation
pub record Viewing : Type 0 where
  pub view : View
  pub from : World
  pub cells : List CellSet
  pub name : List ℕ
  pub states : ℕ
  pub generation : ℕ

pub data Entry : Type 0 where
  steps : Stepping → Entry
  views : Viewing → Entry

-- the pattern with which a step begins
abbrev pub start_of : Stepping → World
start_of s = lay s.cells s.from

-- the pattern that comes of it, one generation after another
abbrev pub world_after : Stepping → World
world_after s = iterate s.gens (step (next_of s.rule)) (start_of s)

-- the pattern that is viewed
abbrev pub world_seen : Viewing → World
world_seen v = lay v.cells v.from

-- of a step the pattern that comes, of a view its text
abbrev pub value : Entry → Value
value (steps s) = pattern (world_after s)
value (views v) = text (text_of v.view (world_seen v) v.name v.states v.generation)

-- steps that are one, whatever their rules are called
pub record AreSameSteps (s t : Stepping) : Type 0 where
  pub rule : AreEqual s.rule t.rule
  pub from : s.from ≡ t.from
  pub cells : s.cells ≡ t.cells
  pub gens : s.gens ≡ t.gens
