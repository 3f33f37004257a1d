-- Each step keeps the rule of the two copies.
use Rattle.std.proofs.Common.{◌≡◌, ◌≢◌, ℕ, List, [], ◌∷◌, ◌++◌, Option, Some, None, IfSome, fold, set, refl, ap, sym, subst, ◌∙◌, ⊎_elim}
use Rattle.std.proofs.lemmas.List.Sums.{fold-append}
use mathlib.Core.Option.{some}
use lib.ListN.{get_elem?}
use Rattle.crossbeam_utils.specs.Register.{Admits, TurnsAt, Forks, Merges}
use Rattle.atomic_table.proofs.Lists.{at_set, at_snoc}
use Rattle.logbook.specs.Pages.{Book}
use Rattle.desk_board.specs.BoardHistory.{BoardHistory}
use Rattle.desk_board.specs.Copies.{KeepsToOneBoard, Sees}

-- what is known is of this board, if anything is
abbrev Fits : Book → Option BoardHistory → Type 0
Fits board v = IfSome v (λ h. h.board ≡ board)

keeps_set : (x : BoardHistory) (views : List (Option BoardHistory)) (seat : ℕ) (w : Option BoardHistory) → KeepsToOneBoard x views → Fits x.board w → KeepsToOneBoard x (set views seat w)
keeps_set x views seat w k fits j u e = ⊎_elim (λ (t : (j ≡ seat) × (w ≡ u)). subst (Fits x.board) t.1 fits) (λ (t : (j ≢ seat) × (get_elem? views j ≡ some u)). k j u t.1) (at_set views seat j w u e)

keeps_snoc : (x : BoardHistory) (views : List (Option BoardHistory)) (w : Option BoardHistory) → KeepsToOneBoard x views → Fits x.board w → KeepsToOneBoard x (views ++ w ∷ [])
keeps_snoc x views w k fits j u e = ⊎_elim (k j u) (λ (same : w ≡ u). subst (Fits x.board) same fits) (at_snoc views w u j e)

-- a thread that knows nothing may come
pub admits : Admits KeepsToOneBoard None
admits x views k = keeps_snoc x views None k tt

-- a step that stays with the board
pub sees : (seat : ℕ) (v : Option BoardHistory) (x y : BoardHistory) → y.board ≡ x.board → TurnsAt KeepsToOneBoard seat v x y Sees
sees seat v x y same views k at =
    let known : Fits x.board v = k seat v at in (
      Some y,
      keeps_set y views seat (Some y) (λ j u e. subst (λ (b : Book). Fits b u) (sym same) (k j u e)) refl,
      (refl, λ board knows. same ∙ (sym (subst (Fits x.board) knows.1 known) ∙ knows.2)),
    )

-- what one thread knows may be told to another
pub forks : (seat : ℕ) (v : Option BoardHistory) → Forks KeepsToOneBoard seat v v v
forks seat v x views k at = keeps_snoc x (set views seat v) v (keeps_set x views seat v k (k seat v at)) (k seat v at)

pub merges : (seat : ℕ) (v : Option BoardHistory) (other : ℕ) (w : Option BoardHistory) → Merges KeepsToOneBoard seat v other w w None
merges seat v other w x views k at apart there =
    let fits : Fits x.board w = ⊎_elim (λ (t : (other ≡ seat) × (w ≡ w)). absurd (apart t.0)) (λ (t : (other ≢ seat) × (get_elem? views other ≡ some w)). k other w t.1) (at_set views seat other w w there) in
    keeps_set x (set views seat w) other None (keeps_set x views seat w k fits) tt

-- the last of the operations that are applied is what is shown
pub last_shown : (y next now : BoardHistory) (pending old : List BoardHistory) → pending ≡ old ++ next ∷ [] → y ≡ fold (λ (_ x : BoardHistory). x) now pending → y ≡ next
last_shown y next now pending old is shown = let f : BoardHistory → BoardHistory → BoardHistory = λ _ x. x in shown ∙ (ap (fold f now) is ∙ fold-append f now old (next ∷ []))
