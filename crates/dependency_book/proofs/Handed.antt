-- Rows as they are handed out are those of the document's bookmarks, and their texts are right.
use Rattle.dependency_book.proofs.Names.{All-map, AllByRecursion, BookState, IsHeldBook, List, Row, TextRow, [], ap, ap₂, get_or, keys, known, map, refl, sym, ℕ, ◌∙◌, ◌∷◌, ◌≡◌}
use Rattle.dependency_book.specs.ShownRows.{IsScratch, handed, shown_row, shown_rows}
use Rattle.dependency_book.proofs.Placed.{in_at, text_stands}
use Rattle.dependency_book.proofs.Standing.{all_at}
use Rattle.dependency_book.proofs.Shared.Cores.{text_scratch}

-- what is made of each row is made of its key
by_map : {K V W : Type 0} (f : Row K V → W) (g : K → W) (rows : List (Row K V))
    → AllByRecursion (λ (r : Row K V). f r ≡ g r.key) rows → map f rows ≡ map g (keys rows)
by_map f g [] all = refl
by_map f g (r ∷ rs) all = ap₂ (λ x xs. x ∷ xs) all.0 (by_map f g rs all.1)

module _ {d : BookState} {places : List ℕ} (held : IsHeldBook d places) where
  pub handed_rows : map handed d.texts ≡ shown_rows d
  handed_rows =
      by_map handed (shown_row d) d.texts
      (all_at (λ (r : TextRow). handed r ≡ shown_row d r.key) d.texts
      (λ k x low. ap (λ s. ((get_or d.texts k x).key, known s)) (sym (text_stands held k x low))))
      ∙ ap (map (shown_row d)) held.right.bookmarks

  -- each text that is known is right
  pub are_scratch : AllByRecursion (IsScratch d.plan) (map handed d.texts)
  are_scratch =
      All-map (IsScratch d.plan) handed d.texts
      (all_at (λ (r : TextRow). IsScratch d.plan (handed r)) d.texts
      (λ k x low.
      let b = (get_or d.texts k x).key in
      rw (text_stands held k x low) at (text_scratch d b.id b held.right (in_at held k x low))))
