-- Lists of elements with ids.
use Rattle.std.specs.Prelude.{ℕ, ◌<◌, ◌==◌, not, Bool, List, [], ◌∷◌, map, filter, if◌then◌else◌}
use Rattle.std.specs.List.{AllByRecursion, list_any}
use Rattle.schedule.specs.declared.document.Intervention.{Intervention}
use Rattle.schedule.specs.declared.document.Bookmark.{Bookmark}
use Rattle.schedule.specs.declared.branch.Branch.{Branch}

abbrev pub intervention_id : Intervention → ℕ
intervention_id i = i.id

abbrev pub bookmark_id : Bookmark → ℕ
bookmark_id b = b.id

abbrev pub branch_id : Branch → ℕ
branch_id b = b.id

-- each element's id is below those of all later ones
abbrev pub IdsRise : {X : Type 0} → (X → ℕ) → List X → Type 0
IdsRise id [] = Unit {0}
IdsRise id (x ∷ xs) = AllByRecursion (λ y. id x < id y) xs × IdsRise id xs

-- whether an element has this id
abbrev pub has_id : {X : Type 0} → (X → ℕ) → List X → ℕ → Bool
has_id id xs n = list_any (λ x. id x == n) xs

-- the list with the element of this id changed
abbrev pub changed_at : {X : Type 0} → (X → ℕ) → (X → X) → List X → ℕ → List X
changed_at id f xs n = map (λ x. if id x == n then f x else x) xs

-- the list without the element of this id
abbrev pub without : {X : Type 0} → (X → ℕ) → List X → ℕ → List X
without id xs n = filter (λ x. not (id x == n)) xs
