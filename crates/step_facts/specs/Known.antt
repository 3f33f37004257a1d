-- The steps whose patterns are known.
use Rattle.std.specs.Prelude.{◌≡◌, ◌⊎◌, ◌∷◌, ◌-◌, ℕ, IsSome, List, Option, take}
use Rattle.std.specs.Map.{lookup, lookup_entry, remove_entry}
use Rattle.std.specs.Option.{option_map_or}
use Rattle.worlds.specs.World.{World}
use Rattle.revision_jobs.specs.declared.entry.Step.{Step}
use Rattle.revision_jobs.specs.Value.{world_after}
use Rattle.step_facts.specs.Same.{asked_of, same_step}

-- a step with the pattern that comes of it
abbrev pub Fact : Type 0
Fact = Step × World

-- the pattern is the one that comes of the step
abbrev pub IsTrueFact : Fact → Type 0
IsTrueFact f = f.1 ≡ world_after f.0

-- facts, the last used first, and how many may be kept
pub record FactList : Type 0 where
  pub list : List Fact
  pub most : ℕ

-- the pattern of the first step that is the same
abbrev pub known : List Fact → Step → Option World
known facts step = lookup (same_step step) facts

-- the facts but the first of the step
abbrev pub without : Step → List Fact → List Fact
without step facts = remove_entry (same_step step) facts

-- the facts with the first of the step, if there is one, before all others
abbrev pub used : Step → List Fact → List Fact
used step facts =
    option_map_or (λ f. f ∷ without step facts) (lookup_entry (same_step step) facts) facts

-- the step is known by the first of the new facts. Then the others come in their order, as many as
-- may be kept beside it
pub record IsKeptFirst (step : Step) (old new : FactList) : Type 0 where
  pub kept : Step
  pub same : asked_of kept ≡ asked_of step
  pub list : new.list ≡ (kept, world_after step) ∷ take (old.most - 1) (without step old.list)
  pub most : new.most ≡ old.most

-- a step is known afterwards only if it was known before, or is the same as this one
abbrev pub AddsOnly : Step → List Fact → List Fact → Type 0
AddsOnly step old new =
    (other : Step) → IsSome (known new other)
    → (asked_of step ≡ asked_of other) ⊎ IsSome (known old other)
