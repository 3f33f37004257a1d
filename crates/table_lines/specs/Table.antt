-- A rule table.
use Rattle.std.specs.Prelude.{ℕ, List}
use Rattle.table_lines.specs.declared.descriptors.Head.{Head}
use Rattle.table_lines.specs.declared.neighborhood.Neighborhood.{Neighborhood}
use Rattle.table_lines.specs.declared.symmetry.Symmetry.{Symmetry}
use Rattle.table_lines.specs.declared.transition.Transition.{Transition}

-- a table: how many states there are, which cells are neighbours, in which arrangements they may
-- stand, and the transitions in order
pub record Table : Type 0 where
  pub states : ℕ
  pub neighborhood : Neighborhood
  pub symmetry : Symmetry
  pub transitions : List Transition

-- the table of this head and these transitions
abbrev pub headed : Head → List Transition → Table
headed head transitions =
    record {
      states = head.states;
      neighborhood = head.neighborhood;
      symmetry = head.symmetry;
      transitions = transitions;
    }
