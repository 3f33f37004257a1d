-- Whether an edit of a book's document is felt at a mark.
use Rattle.std.specs.Prelude.{◌≡◌, ℕ, MatchOption, None, Option, Some}
use Rattle.worlds.specs.World.{World}
use Rattle.schedule.specs.declared.acts.Acts.{Acts}
use Rattle.schedule.specs.Asked.{Asked}
use Rattle.schedule.specs.Change.{changed}
use Rattle.desk_events.specs.declared.mark.Mark.{Mark}
use Rattle.dependency_book.specs.BookState.{BookState, arrival_known}
use Rattle.desk_events.specs.Felt.{IsUnfeltAt, IsUnfeltWhere, IsUnfelt, IsFelt}

-- what is found is the world that is known, if one is
abbrev pub IsFoundBy : {A : Type 0} → (A → World) → Option World → Option A → Type 0
IsFoundBy world known found = MatchOption found (known ≡ None) (λ x. known ≡ Some (world x))

-- an edit of a book's document changes no pattern at a mark
abbrev pub BookIsUnfeltAt : BookState → Asked → Mark → Type 0
BookIsUnfeltAt d asked m = IsUnfeltAt (arrival_known d) d.plan (changed d.plan asked).plan m

-- nor at any at which something acts in a branch
abbrev pub BookIsUnfeltWhere : BookState → Asked → ℕ → Acts → Type 0
BookIsUnfeltWhere d asked branch acts =
    IsUnfeltWhere (arrival_known d) d.plan (changed d.plan asked).plan branch acts

-- it changes none at all
abbrev pub BookIsUnfelt : BookState → Asked → Type 0
BookIsUnfelt d asked = IsUnfelt (arrival_known d) d.plan asked (changed d.plan asked).plan

-- it is felt from there
abbrev pub BookFeels : BookState → Asked → Option Mark → Type 0
BookFeels d asked felt = IsFelt (arrival_known d) d.plan asked (changed d.plan asked).plan felt
