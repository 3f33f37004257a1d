-- The view that a bookmark's words name.
use Rattle.std.specs.Prelude.{ℕ, ◌-◌, ◌^◌, ℤ, List, [], ◌∷◌, Option, Some, None, codes, if◌then◌else◌}
use Rattle.std.specs.Str.{bytes_eq}
use Rattle.bookmarks.specs.declared.view.View.{View}
use Rattle.bookmarks.specs.declared.view.View.TheVariants.{Window, Counts, Rle, Macrocell}
use Rattle.desk_script.specs.Numbers.{up_to, coordinate}

-- what no word follows
abbrev pub alone : {A : Type 0} → Option A → List (List ℕ) → Option A
alone named [] = named
alone named (w ∷ rest) = None

-- a window, where all four of its words are numbers
abbrev pub window_by : Option ℤ → Option ℤ → Option ℕ → Option ℕ → Option View
window_by (Some x) (Some y) (Some w) (Some h) = Some (Window x y w h)
window_by (Some x) (Some y) (Some w) None = None
window_by (Some x) (Some y) None h = None
window_by (Some x) None w h = None
window_by None y w h = None

-- a width or a height
abbrev pub extent : List ℕ → Option ℕ
extent word = up_to (2 ^ 32 - 1) word

-- the window that four words name: x and y of its top left cell, its width and its height
abbrev pub window_of : List (List ℕ) → Option View
window_of [] = None
window_of (x ∷ []) = None
window_of (x ∷ y ∷ []) = None
window_of (x ∷ y ∷ w ∷ []) = None
window_of (x ∷ y ∷ w ∷ h ∷ []) = window_by (coordinate x) (coordinate y) (extent w) (extent h)
window_of (x ∷ y ∷ w ∷ h ∷ v ∷ rest) = None

-- the view that words name
abbrev pub view_of : List (List ℕ) → Option View
view_of [] = None
view_of (name ∷ rest) =
    if bytes_eq name (codes "counts") then alone (Some Counts) rest
    else (if bytes_eq name (codes "rle") then alone (Some Rle) rest
    else (if bytes_eq name (codes "mc") then alone (Some Macrocell) rest
    else (if bytes_eq name (codes "window") then window_of rest
    else None)))
