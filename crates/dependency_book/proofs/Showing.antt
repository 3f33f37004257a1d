-- What is shown of a bookmark, by the row of its id.
use Rattle.dependency_book.proofs.Names.{BookState, IsHeldBook, List, None, Some, TextRow, ap, bookmark_in, bookmark_rank, known, option_map, refl, text_row, ℕ, ◌∙◌, ◌≡◌}
use Rattle.dependency_book.specs.Shown.{IsCurrent, IsPending}
use Rattle.dependency_book.proofs.Placed.{bookmark_row, text_at}
use Rattle.dependency_book.proofs.Standing.{state_in, state_row}
use Rattle.dependency_book.proofs.Shared.Cores.{text_scratch}

module _ {d : BookState} {places : List ℕ} (held : IsHeldBook d places) (id : ℕ) where
  its_bookmark : (x : TextRow) → text_at d id ≡ Some x → bookmark_in d.plan.bookmarks id ≡ Some x.key
  its_bookmark x found = bookmark_row held id ∙ ap (option_map (λ (r : TextRow). r.key)) found

  its_text : (x : TextRow) → text_at d id ≡ Some x → text_row d id ≡ x.state
  its_text x found = state_row bookmark_rank id d.texts ∙ ap state_in found

  pub is_current : (x : TextRow) (bytes : List ℕ) → text_at d id ≡ Some x → known x.state ≡ Some bytes
      → IsCurrent d id bytes
  is_current x bytes found is =
      let there = its_bookmark x found in
      let text = ap known (its_text x found) ∙ is in
      record {
        bookmark = x.key;
        there = there;
        known = text;
        scratch_text = rw text at (text_scratch d id x.key held.right there);
      }

  pub is_pending : (x : TextRow) → text_at d id ≡ Some x → known x.state ≡ None → IsPending d id
  is_pending x found is =
      record { there = rw (its_bookmark x found) refl; unknown = ap known (its_text x found) ∙ is }

  pub is_absent : text_at d id ≡ None → bookmark_in d.plan.bookmarks id ≡ None
  is_absent none = bookmark_row held id ∙ ap (option_map (λ (r : TextRow). r.key)) none
