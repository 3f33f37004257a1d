-- The limits of views.
use Rattle.std.specs.Prelude.{ℕ, ◌*◌, ◌^◌, ℤ, pos, neg_ℤ, ◌-ℤ◌, int_le, nat_lt, nat_le, Bool, true, ◌&&◌, IsTrue}
use Rattle.bookmarks.specs.declared.view.View.{View}
use Rattle.bookmarks.specs.declared.view.View.TheVariants.{Window, Counts, Rle, Macrocell}

-- a window has 1 to 65,536 cells
abbrev pub has_window_size : View → Bool
has_window_size (Window left top width height) =
    nat_lt 0 width && nat_lt 0 height && nat_le (width * height) 65536
has_window_size Counts = true
has_window_size Rle = true
has_window_size Macrocell = true

-- so many coordinates from z on are among those of planes, from -2^61 up to 2^61 - 1
abbrev pub spans_plane : ℤ → ℕ → Bool
spans_plane z n = int_le (neg_ℤ (pos (2 ^ 61))) z && int_le z (pos (2 ^ 61) -ℤ pos n)

-- the cells of a window lie in the range of planes
abbrev pub lies_in_range : View → Bool
lies_in_range (Window left top width height) = spans_plane left width && spans_plane top height
lies_in_range Counts = true
lies_in_range Rle = true
lies_in_range Macrocell = true

-- the view keeps both limits
abbrev pub KeepsViewLimits : View → Type 0
KeepsViewLimits view = IsTrue (has_window_size view) × IsTrue (lies_in_range view)
