-- When there is no room for the value of an entry.
use Rattle.std.specs.Prelude.{ℕ}
use Rattle.std.specs.Arc.{arc_value}
use Rattle.step_engine.specs.Evolved.{IsRoomSpent}
use Rattle.step_engine.specs.Pieces.{IsPieceSpent}
use Rattle.rule_tree.specs.Rule.{next_of}
use Rattle.revision_jobs.specs.declared.entry.Entry.{Entry}
use Rattle.revision_jobs.specs.declared.entry.Entry.TheVariants as entry
use Rattle.revision_jobs.specs.declared.entry.Step.{Step}
use Rattle.revision_jobs.specs.Value.{start_of}

-- as many different squares as may be kept are made on the way of the step, and on the way of a piece
-- of it that is at most a 4,096th
abbrev pub IsStepSpent : ℕ → Step → Type 0
IsStepSpent limit s = IsRoomSpent limit (next_of (arc_value s.rule)) (start_of s) s.gens
    × IsPieceSpent limit (next_of (arc_value s.rule)) (start_of s) s.gens

-- so it is with the step that the entry is; a view always has room
abbrev pub HasNoRoom : ℕ → Entry → Type 0
HasNoRoom limit (entry.Step s) = IsStepSpent limit s
HasNoRoom limit (entry.View r) = ⊥
