-- The generators of each symmetry, and what it is that maps are all their compositions.
use Rattle.std.specs.Prelude.{◌≡◌, ◌≢◌, ℕ, ◌==◌, ◌&&◌, Bool, true, List, [], ◌∷◌, length, map, nat_eq, slice_index, Some}
use Rattle.std.specs.List.{list_all, list_any, position_or_len}
use Rattle.std.specs.Str.{bytes_eq}
use Rattle.table_lines.specs.declared.neighborhood.Neighborhood.{Neighborhood}
use Rattle.table_lines.specs.declared.neighborhood.Neighborhood.TheVariants.{VonNeumann, Moore, Hexagonal, OneDimensional}
use Rattle.table_lines.specs.declared.symmetry.Symmetry.{Symmetry}
use Rattle.table_lines.specs.declared.symmetry.Symmetry.TheVariants.{Rotate2, Rotate3, Rotate4, Rotate6, Rotate8, Rotate4Reflect, Rotate6Reflect, Rotate8Reflect, ReflectHorizontal, Reflect, Permute}
use Rattle.table_lines.specs.Neighborhood.{places_of}
use Rattle.table_lines.specs.States.{has}
use Rattle.table_lines.specs.Symmetry.{name_of_symmetry, symmetry_named}
use Rattle.table_symmetry.specs.Circle.{arrangements}

-- the places of the neighbours in the order C, N, NE, E, SE, S, SW, W, NW

abbrev pub north : ℕ
north = 1

abbrev pub north_east : ℕ
north_east = 2

abbrev pub east : ℕ
east = 3

abbrev pub south_east : ℕ
south_east = 4

abbrev pub south : ℕ
south = 5

abbrev pub south_west : ℕ
south_west = 6

abbrev pub west : ℕ
west = 7

abbrev pub north_west : ℕ
north_west = 8

-- a quarter of a turn of four neighbours
abbrev pub quarter : List ℕ
quarter = east ∷ south ∷ west ∷ north ∷ []

-- an eighth and a quarter of a turn of eight neighbours
abbrev pub eighth : List ℕ
eighth = north_east ∷ east ∷ south_east ∷ south ∷ south_west ∷ west ∷ north_west ∷ north ∷ []

abbrev pub two_eighths : List ℕ
two_eighths = east ∷ south_east ∷ south ∷ south_west ∷ west ∷ north_west ∷ north ∷ north_east ∷ []

-- a sixth, a third and a half of a turn of the hexagon
abbrev pub sixth : List ℕ
sixth = east ∷ south_east ∷ south ∷ west ∷ north_west ∷ north ∷ []

abbrev pub third : List ℕ
third = south_east ∷ south ∷ west ∷ north_west ∷ north ∷ east ∷ []

abbrev pub half : List ℕ
half = south ∷ west ∷ north_west ∷ north ∷ east ∷ south_east ∷ []

-- the neighbours the other way round, from the north; of four and of eight this exchanges east and
-- west
abbrev pub four_reversed : List ℕ
four_reversed = north ∷ west ∷ south ∷ east ∷ []

abbrev pub eight_reversed : List ℕ
eight_reversed =
    north ∷ north_west ∷ west ∷ south_west ∷ south ∷ south_east ∷ east ∷ north_east ∷ []

abbrev pub six_reversed : List ℕ
six_reversed = north ∷ north_west ∷ west ∷ south ∷ south_east ∷ east ∷ []

-- the generators of a symmetry but `permute`, each as what it makes of the list of the neighbours
abbrev pub generators : Neighborhood → Symmetry → List (List ℕ)
generators VonNeumann Rotate4 = quarter ∷ []
generators VonNeumann Rotate4Reflect = quarter ∷ four_reversed ∷ []
generators VonNeumann ReflectHorizontal = four_reversed ∷ []
generators Moore Rotate4 = two_eighths ∷ []
generators Moore Rotate8 = eighth ∷ []
generators Moore Rotate4Reflect = two_eighths ∷ eight_reversed ∷ []
generators Moore Rotate8Reflect = eighth ∷ eight_reversed ∷ []
generators Moore ReflectHorizontal = eight_reversed ∷ []
generators Hexagonal Rotate2 = half ∷ []
generators Hexagonal Rotate3 = third ∷ []
generators Hexagonal Rotate6 = sixth ∷ []
generators Hexagonal Rotate6Reflect = sixth ∷ six_reversed ∷ []
generators OneDimensional Reflect = (east ∷ west ∷ []) ∷ []
generators neighborhood symmetry = []

-- whether a list is one of these
abbrev pub is_among : List (List ℕ) → List ℕ → Bool
is_among lists list = list_any (bytes_eq list) lists

-- one map after another: what stands where the second takes each neighbour from
abbrev pub then_map : List ℕ → List ℕ → List ℕ → List ℕ
then_map places first second =
    map (λ place. slice_index first (position_or_len (nat_eq place) places)) second

-- some maps, one after another
abbrev pub composed : List ℕ → List (List ℕ) → List ℕ
composed places [] = places
composed places (m ∷ ms) = then_map places m (composed places ms)

-- maps that are all compositions of some generators: the identity is there, with a map each that a
-- generator makes of it, each is composed of generators, and each is undone by another
pub record AreCompositions (places : List ℕ) (generators maps : List (List ℕ)) : Type 0 where
  pub identity : is_among maps places ≡ true
  pub closed : list_all (λ g. list_all (λ m. is_among maps (then_map places g m)) maps) generators
      ≡ true
  pub words : List (List (List ℕ))
  pub letters : list_all (λ word. list_all (is_among generators) word) words ≡ true
  pub made : maps ≡ map (composed places) words
  pub undone : list_all (λ m. list_any (λ k. bytes_eq (then_map places m k) places) maps) maps
      ≡ true

-- the maps of each symmetry that a neighbourhood has, but `permute`, are all compositions of its
-- generators
abbrev pub SymmetriesAreGenerated : Type 0
SymmetriesAreGenerated =
    (neighborhood : Neighborhood) (symmetry : Symmetry)
    → symmetry_named neighborhood (name_of_symmetry symmetry) ≡ Some symmetry → symmetry ≢ Permute
    → AreCompositions (places_of neighborhood) (generators neighborhood symmetry)
    (arrangements symmetry (places_of neighborhood))

-- whether a list is one of all neighbours, each once: it is as long, and each stands in it
abbrev pub is_order : List ℕ → List ℕ → Bool
is_order places list = (length list == length places) && list_all (has list) places

-- `permute` takes the neighbours in exactly all orders
abbrev pub PermuteTakesAllOrders : Type 0
PermuteTakesAllOrders =
    (neighborhood : Neighborhood) (list : List ℕ)
    → is_among (arrangements Permute (places_of neighborhood)) list
    ≡ is_order (places_of neighborhood) list
