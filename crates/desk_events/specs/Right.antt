-- A desk that is right for its document.
use Rattle.std.specs.Prelude.{◌≡◌, ℕ, ◌≤◌, List, length, slice_get, None, Some, IsSome, ⊤}
use Rattle.schedule.specs.declared.document.Bookmark.{Bookmark}
use Rattle.schedule.specs.Plan.{Plan}
use Rattle.schedule.specs.Scratch.{scratch}
use Rattle.schedule.specs.Sound.{IsSound}
use Rattle.desk_events.specs.declared.need.Need.{Need}
use Rattle.desk_events.specs.Core.{Core, Row, Shown, awaits, current, holds, no_such, nothing, pending}
use Rattle.desk_events.specs.Entry.{Entry, value}
use Rattle.desk_events.specs.Wanted.{bookmark_in, wanted}

-- the entry of a number gives what a document wants for a need
pub record GivesWanted (entries : List Entry) (p : Plan) (need : Need) (number : ℕ) : Type 0 where
  pub entry : Entry
  pub there : slice_get entries number ≡ Some entry
  pub gives : wanted p need ≡ Some (value entry)

-- what stands for a need is right: nothing, a number whose entry gives what is wanted, or what is
-- wanted
abbrev pub Stands : List Entry → Plan → Need → Row → Type 0
Stands entries p need nothing = ⊤
Stands entries p need (awaits number) = GivesWanted entries p need number
Stands entries p need (holds found) = wanted p need ≡ Some found

-- the document keeps its limits; each arrival that is known is what arrives, each text that is
-- known is what starting over gives, and each job that is out gives that; no number is awaited
-- twice
pub record IsRight (c : Core) : Type 0 where
  pub sound : IsSound c.plan
  pub stands : (need : Need) → Stands c.entries c.plan need (c.rows need)
  pub once : (a b : Need) (number : ℕ) →
      c.rows a ≡ awaits number → c.rows b ≡ awaits number → a ≡ b
  pub few : length c.entries ≤ 16777216

-- a bookmark that is shown with a text is one of the document, and its text is what starting over
-- gives; one that is pending is there too, and any other isn't
abbrev pub IsShown : Plan → ℕ → Shown → Type 0
IsShown p id (current bytes) =
    (b : Bookmark) × (bookmark_in p.bookmarks id ≡ Some b) × (bytes ≡ scratch p b)
IsShown p id pending = IsSome (bookmark_in p.bookmarks id)
IsShown p id no_such = bookmark_in p.bookmarks id ≡ None
