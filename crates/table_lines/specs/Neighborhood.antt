-- Which cells are the neighbours of a cell.
use Rattle.std.specs.Prelude.{ℕ, if◌then◌else◌, List, [], ◌∷◌, Option, codes, Some, None}
use Rattle.table_lines.specs.declared.neighborhood.Neighborhood.{Neighborhood}
use Rattle.table_lines.specs.declared.neighborhood.Neighborhood.TheVariants.{VonNeumann, Moore, Hexagonal, OneDimensional}
use Rattle.std.specs.Str.{bytes_eq}

-- the neighbourhood of this name
abbrev pub neighborhood_named : List ℕ → Option Neighborhood
neighborhood_named name =
    if bytes_eq name (codes "vonNeumann") then Some VonNeumann else
    (if bytes_eq name (codes "Moore") then Some Moore else
    (if bytes_eq name (codes "hexagonal") then Some Hexagonal else
    (if bytes_eq name (codes "oneDimensional") then Some OneDimensional else None)))

-- the places of a cell's neighbours in the order C, N, NE, E, SE, S, SW, W, NW, as a transition
-- lists them
abbrev pub places_of : Neighborhood → List ℕ
places_of VonNeumann = 1 ∷ 3 ∷ 5 ∷ 7 ∷ []
places_of Moore = 1 ∷ 2 ∷ 3 ∷ 4 ∷ 5 ∷ 6 ∷ 7 ∷ 8 ∷ []
places_of Hexagonal = 1 ∷ 3 ∷ 4 ∷ 5 ∷ 7 ∷ 8 ∷ []
places_of OneDimensional = 7 ∷ 3 ∷ []
