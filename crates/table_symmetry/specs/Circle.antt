-- The maps of a symmetry: where they put the neighbours that a transition lists, taken as a circle.
use Rattle.std.specs.Prelude.{ℕ, ◌+◌, ◌*◌, ◌/◌, List, [], ◌∷◌, ◌++◌, length, map, take, drop, reverse}
use Rattle.std.specs.List.{flat_map, range_with_len}
use Rattle.table_lines.specs.declared.symmetry.Symmetry.{Symmetry}
use Rattle.table_lines.specs.declared.symmetry.Symmetry.TheVariants.{None, Rotate2, Rotate3, Rotate4, Rotate6, Rotate8, Rotate4Reflect, Rotate6Reflect, Rotate8Reflect, ReflectHorizontal, Reflect, Permute}

-- a circle, turned by k places
abbrev pub turned : {X : Type 0} → ℕ → List X → List X
turned k circle = drop k circle ++ take k circle

-- a circle as n equal turns put it
abbrev pub turns : {X : Type 0} → ℕ → List X → List (List X)
turns n circle = map (λ i. turned (i * (length circle / n)) circle) (range_with_len 0 n)

-- a circle the other way round, from the same first place
abbrev pub mirrored : {X : Type 0} → List X → List X
mirrored [] = []
mirrored (x ∷ xs) = x ∷ reverse xs

-- a list with one more element, put in at each place
abbrev pub insertions : {X : Type 0} → X → List X → List (List X)
insertions x xs = map (λ i. take i xs ++ x ∷ drop i xs) (range_with_len 0 (length xs + 1))

-- all orders of a list
abbrev pub permutations : {X : Type 0} → List X → List (List X)
permutations [] = [] ∷ []
permutations (x ∷ xs) = flat_map (insertions x) (permutations xs)

-- a circle as each map of the symmetry puts it: as all compositions of its turns and reflections do
abbrev pub arrangements : {X : Type 0} → Symmetry → List X → List (List X)
arrangements None circle = turns 1 circle
arrangements Rotate2 circle = turns 2 circle
arrangements Rotate3 circle = turns 3 circle
arrangements Rotate4 circle = turns 4 circle
arrangements Rotate6 circle = turns 6 circle
arrangements Rotate8 circle = turns 8 circle
arrangements Rotate4Reflect circle = turns 4 circle ++ turns 4 (mirrored circle)
arrangements Rotate6Reflect circle = turns 6 circle ++ turns 6 (mirrored circle)
arrangements Rotate8Reflect circle = turns 8 circle ++ turns 8 (mirrored circle)
arrangements ReflectHorizontal circle = turns 1 circle ++ turns 1 (mirrored circle)
arrangements Reflect circle = turns 2 circle
arrangements Permute circle = permutations circle
