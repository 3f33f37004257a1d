-- What an entry comes to, and when it can be worked.
use Rattle.std.specs.Prelude.{ℕ, List, All}
use Rattle.std.specs.Arc.{arc_value}
use Rattle.worlds.specs.World.{World}
use Rattle.worlds.specs.Lay.{lay}
use Rattle.worlds.specs.Iterate.{iterate}
use Rattle.worlds.specs.Step.{step}
use Rattle.worlds.specs.Range.{AllBelow, CanBeLaid}
use Rattle.step_engine.specs.Evolved.{CanEvolve}
use Rattle.rule_tree.specs.Rule.{next_of, states_of}
use Rattle.bookmarks.specs.Text.{text_of}
pub use Rattle.bookmarks.specs.Value.{Value, pattern, text}
use Rattle.bookmarks.specs.Within.{KeepsViewLimits}
use Rattle.revision_jobs.specs.declared.entry.Entry.{Entry}
use Rattle.revision_jobs.specs.declared.entry.Entry.TheVariants as entry
use Rattle.revision_jobs.specs.declared.entry.Step.{Step}
use Rattle.revision_jobs.specs.declared.entry.Rendering.{Rendering}

-- the pattern of a step on which its cells are laid
abbrev pub start_of : Step → World
start_of s = lay s.cells (arc_value s.from)

-- the pattern that comes of a step, one generation after another
abbrev pub world_after : Step → World
world_after s = iterate s.gens (step (next_of (arc_value s.rule))) (start_of s)

-- the pattern of which a rendering is a view, with its cells laid
abbrev pub world_in : Rendering → World
world_in r = lay r.cells (arc_value r.from)

-- the bytes of a rendering
abbrev pub bytes_of : Rendering → List ℕ
bytes_of r = text_of r.view (world_in r) r.name r.states r.generation

-- of a step the pattern that comes, of a view its text
abbrev pub value : Entry → Value
value (entry.Step s) = pattern (world_after s)
value (entry.View r) = text (bytes_of r)

-- the cells of a step can be laid, and what they give can evolve so long
abbrev pub CanBeStepped : Step → Type 0
CanBeStepped s = All CanBeLaid s.cells
    × CanEvolve (states_of (arc_value s.rule)) s.gens (start_of s)

-- the cells of a rendering can be laid, what they give has states of the rule, and the view keeps
-- its limits
abbrev pub CanBeRendered : Rendering → Type 0
CanBeRendered r = All CanBeLaid r.cells × AllBelow r.states (world_in r) × KeepsViewLimits r.view

-- the step or the view that the entry is can be computed
abbrev pub CanBeWorked : Entry → Type 0
CanBeWorked (entry.Step s) = CanBeStepped s
CanBeWorked (entry.View r) = CanBeRendered r
