-- The maps of each symmetry are all compositions of its generators.
use Rattle.table_symmetry.proofs.Names.{List, SymmetriesAreGenerated, [], east, eight_reversed, eighth, four_reversed, half, map, quarter, range_with_len, refl, replicate, six_reversed, sixth, third, two_eighths, west, ℕ, ◌++◌, ◌∷◌}
use Rattle.table_lines.specs.declared.neighborhood.Neighborhood.TheVariants.{VonNeumann, Moore, Hexagonal, OneDimensional}
use Rattle.table_lines.specs.declared.symmetry.Symmetry.TheVariants.{None, Rotate2, Rotate3, Rotate4, Rotate6, Rotate8, Rotate4Reflect, Rotate6Reflect, Rotate8Reflect, ReflectHorizontal, Reflect, Permute}

-- a turn, repeated
abbrev repeated : ℕ → List ℕ → List (List (List ℕ))
repeated n turn = map (λ i. replicate i turn) (range_with_len 0 n)

-- the same, and each before a reflection
abbrev reflected : ℕ → List ℕ → List ℕ → List (List (List ℕ))
reflected n turn reversed = repeated n turn ++ map (λ word. reversed ∷ word) (repeated n turn)

pub symmetries_generated : SymmetriesAreGenerated
symmetries_generated VonNeumann None h other = record { identity = refl; closed = refl; words = [] ∷ []; letters = refl; made = refl; undone = refl }
symmetries_generated VonNeumann Rotate4 h other = record { identity = refl; closed = refl; words = repeated 4 quarter; letters = refl; made = refl; undone = refl }
symmetries_generated VonNeumann Rotate4Reflect h other = record { identity = refl; closed = refl; words = reflected 4 quarter four_reversed; letters = refl; made = refl; undone = refl }
symmetries_generated VonNeumann ReflectHorizontal h other = record { identity = refl; closed = refl; words = [] ∷ (four_reversed ∷ []) ∷ []; letters = refl; made = refl; undone = refl }
symmetries_generated Moore None h other = record { identity = refl; closed = refl; words = [] ∷ []; letters = refl; made = refl; undone = refl }
symmetries_generated Moore Rotate4 h other = record { identity = refl; closed = refl; words = repeated 4 two_eighths; letters = refl; made = refl; undone = refl }
symmetries_generated Moore Rotate8 h other = record { identity = refl; closed = refl; words = repeated 8 eighth; letters = refl; made = refl; undone = refl }
symmetries_generated Moore Rotate4Reflect h other = record { identity = refl; closed = refl; words = reflected 4 two_eighths eight_reversed; letters = refl; made = refl; undone = refl }
symmetries_generated Moore Rotate8Reflect h other = record { identity = refl; closed = refl; words = reflected 8 eighth eight_reversed; letters = refl; made = refl; undone = refl }
symmetries_generated Moore ReflectHorizontal h other = record { identity = refl; closed = refl; words = [] ∷ (eight_reversed ∷ []) ∷ []; letters = refl; made = refl; undone = refl }
symmetries_generated Hexagonal None h other = record { identity = refl; closed = refl; words = [] ∷ []; letters = refl; made = refl; undone = refl }
symmetries_generated Hexagonal Rotate2 h other = record { identity = refl; closed = refl; words = repeated 2 half; letters = refl; made = refl; undone = refl }
symmetries_generated Hexagonal Rotate3 h other = record { identity = refl; closed = refl; words = repeated 3 third; letters = refl; made = refl; undone = refl }
symmetries_generated Hexagonal Rotate6 h other = record { identity = refl; closed = refl; words = repeated 6 sixth; letters = refl; made = refl; undone = refl }
symmetries_generated Hexagonal Rotate6Reflect h other = record { identity = refl; closed = refl; words = reflected 6 sixth six_reversed; letters = refl; made = refl; undone = refl }
symmetries_generated OneDimensional None h other = record { identity = refl; closed = refl; words = [] ∷ []; letters = refl; made = refl; undone = refl }
symmetries_generated OneDimensional Reflect h other = record { identity = refl; closed = refl; words = repeated 2 (east ∷ west ∷ []); letters = refl; made = refl; undone = refl }
symmetries_generated neighborhood Permute h other = absurd (other refl)
symmetries_generated neighborhood symmetry h other = absurd cc
