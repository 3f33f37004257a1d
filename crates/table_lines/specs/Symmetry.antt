-- The symmetries that each neighbourhood has.
use Rattle.std.specs.Prelude.{ℕ, List, [], ◌∷◌, find, Option, codes}
use Rattle.table_lines.specs.declared.neighborhood.Neighborhood.{Neighborhood}
use Rattle.table_lines.specs.declared.neighborhood.Neighborhood.TheVariants.{VonNeumann, Moore, Hexagonal, OneDimensional}
use Rattle.std.specs.Str.{bytes_eq}
use Rattle.table_lines.specs.declared.symmetry.Symmetry.{Symmetry}
use Rattle.table_lines.specs.declared.symmetry.Symmetry.TheVariants as symmetry

-- the symmetries of each neighbourhood
abbrev pub symmetries_of : Neighborhood → List Symmetry
symmetries_of VonNeumann =
    symmetry.None ∷ symmetry.Rotate4 ∷ symmetry.Rotate4Reflect ∷ symmetry.ReflectHorizontal
    ∷ symmetry.Permute ∷ []
symmetries_of Moore =
    symmetry.None ∷ symmetry.Rotate4 ∷ symmetry.Rotate8 ∷ symmetry.Rotate4Reflect
    ∷ symmetry.Rotate8Reflect ∷ symmetry.ReflectHorizontal ∷ symmetry.Permute ∷ []
symmetries_of Hexagonal =
    symmetry.None ∷ symmetry.Rotate2 ∷ symmetry.Rotate3 ∷ symmetry.Rotate6 ∷ symmetry.Rotate6Reflect
    ∷ symmetry.Permute ∷ []
symmetries_of OneDimensional = symmetry.None ∷ symmetry.Reflect ∷ symmetry.Permute ∷ []

-- the name of a symmetry
abbrev pub name_of_symmetry : Symmetry → List ℕ
name_of_symmetry symmetry.None = codes "none"
name_of_symmetry symmetry.Rotate2 = codes "rotate2"
name_of_symmetry symmetry.Rotate3 = codes "rotate3"
name_of_symmetry symmetry.Rotate4 = codes "rotate4"
name_of_symmetry symmetry.Rotate6 = codes "rotate6"
name_of_symmetry symmetry.Rotate8 = codes "rotate8"
name_of_symmetry symmetry.Rotate4Reflect = codes "rotate4reflect"
name_of_symmetry symmetry.Rotate6Reflect = codes "rotate6reflect"
name_of_symmetry symmetry.Rotate8Reflect = codes "rotate8reflect"
name_of_symmetry symmetry.ReflectHorizontal = codes "reflect_horizontal"
name_of_symmetry symmetry.Reflect = codes "reflect"
name_of_symmetry symmetry.Permute = codes "permute"

-- the symmetry of this name among those of the neighbourhood
abbrev pub symmetry_named : Neighborhood → List ℕ → Option Symmetry
symmetry_named neighborhood name =
    find (λ s. bytes_eq name (name_of_symmetry s)) (symmetries_of neighborhood)
