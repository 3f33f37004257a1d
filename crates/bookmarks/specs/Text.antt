-- The text of a view.
use Rattle.std.specs.Prelude.{ℕ, List}
use Rattle.worlds.specs.World.{World}
use Rattle.bookmarks.specs.declared.view.View.{View}
use Rattle.bookmarks.specs.declared.view.View.TheVariants.{Window, Counts, Rle, Macrocell}
use Rattle.multistate_macrocell.specs.PatternText.{macrocell_text}
use Rattle.bookmarks.specs.Counts.{counts_text}
use Rattle.bookmarks.specs.Rle.{pattern_text}
use Rattle.bookmarks.specs.Window.{window_text}

-- what a view of a world shows, under a rule of this name with so many states, at a generation
abbrev pub text_of : View → World → List ℕ → ℕ → ℕ → List ℕ
text_of (Window left top width height) w name states generation =
    window_text w left top width height
text_of Counts w name states generation = counts_text w
text_of Rle w name states generation = pattern_text w name generation states
text_of Macrocell w name states generation = macrocell_text w name generation
