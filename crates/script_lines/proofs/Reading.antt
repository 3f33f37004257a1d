-- A line that is being read.
use Rattle.script_lines.proofs.Names.{Ahead, Bool, GrowsText, KeptLine, List, NoLineFeed, None, Option, Saw, Some, TakesBytes, Took, [], ap, append-nil, append_assoc, false, push_not_nil, refl, strip_carriage_return, sym, true, waiting, ℕ}
use Rattle.script_lines.proofs.Names.{◌++◌, ◌==◌, ◌∙◌, ◌∷◌, ◌≡◌, ◌≢◌}
use Rattle.script_lines.proofs.Shared.Ahead.{takes_then}

-- these bytes of the line were seen
pub record IsReading (old new : Ahead) (before after : Option (List ℕ)) (line : KeptLine) (empty : Bool) : Type 0 where
  pub seen : List ℕ
  pub no_line_feed : NoLineFeed seen
  pub taken : TakesBytes old new seen
  pub grows : GrowsText before after seen
  pub saw : Saw line seen
  pub nothing : empty ≡ true → seen ≡ []
  pub some : empty ≡ false → seen ≢ []

no_line_feed-push : (bs : List ℕ) (b : ℕ) → NoLineFeed bs → (b == 10) ≡ false → NoLineFeed (bs ++ b ∷ [])
no_line_feed-push [] b h k = (k, tt)
no_line_feed-push (c ∷ cs) b h k = (h.0, no_line_feed-push cs b h.1 k)

strip_return-push_return : (bs : List ℕ) → strip_carriage_return (bs ++ 13 ∷ []) ≡ bs
strip_return-push_return [] = refl
strip_return-push_return (b ∷ []) = refl
strip_return-push_return (b ∷ c ∷ bs) = ap (λ t. b ∷ t) (strip_return-push_return (c ∷ bs))

strip_return-push : (bs : List ℕ) (b : ℕ) → (b == 13) ≡ false → strip_carriage_return (bs ++ b ∷ []) ≡ bs ++ b ∷ []
strip_return-push [] b h = rw h refl
strip_return-push (c ∷ []) b h = ap (λ t. c ∷ t) (strip_return-push [] b h)
strip_return-push (c ∷ d ∷ bs) b h = ap (λ t. c ∷ t) (strip_return-push (d ∷ bs) b h)

pub grows-trans : (a b c : Option (List ℕ)) (xs ys : List ℕ) → GrowsText a b xs → GrowsText b c ys → GrowsText a c (xs ++ ys)
grows-trans a b None xs ys f g = tt
grows-trans a None (Some z) xs ys f g = absurd g
grows-trans None (Some y) (Some z) xs ys f g = absurd f
grows-trans (Some x) (Some y) (Some z) xs ys f g = g ∙ ap (λ t. t ++ ys) f ∙ append_assoc x xs ys

-- one more byte
pub reads_on : (old mid new : Ahead) (before between after : Option (List ℕ)) (line next : KeptLine) (empty : Bool) (b : ℕ) → (b == 10) ≡ false → TakesBytes mid new (b ∷ []) → GrowsText between after (b ∷ [])
    → ((seen : List ℕ) → Saw line seen → Saw next (seen ++ b ∷ [])) → IsReading old mid before between line empty → IsReading old new before after next false
reads_on old mid new before between after line next empty b k c g s r = record {
  seen = r.seen ++ b ∷ [];
  no_line_feed = no_line_feed-push r.seen b r.no_line_feed k;
  taken = takes_then old mid new r.seen (b ∷ []) r.taken c;
  grows = grows-trans before between after r.seen (b ∷ []) r.grows g;
  saw = s r.seen r.saw;
  nothing = λ e. absurd (cc);
  some = λ e. push_not_nil r.seen b;
}

pub saw_more : (line : KeptLine) (seen : List ℕ) (b : ℕ) → line.waits ≡ false → (b == 13) ≡ false → Took line (seen ++ b ∷ []) → Saw line (seen ++ b ∷ [])
saw_more line seen b w k t = record { taken = seen ++ b ∷ []; split = sym (append-nil (seen ++ b ∷ [])) ∙ ap (λ v. (seen ++ b ∷ []) ++ waiting v) (sym w); stripped = strip_return-push seen b k; took = t }

pub saw_return : (line : KeptLine) (seen : List ℕ) (b : ℕ) → line.waits ≡ true → b ≡ 13 → Took line seen → Saw line (seen ++ b ∷ [])
saw_return line seen b w k t = record { taken = seen; split = ap (λ v. seen ++ v ∷ []) k ∙ ap (λ v. seen ++ waiting v) (sym w); stripped = ap (λ v. strip_carriage_return (seen ++ v ∷ [])) k ∙ strip_return-push_return seen; took = t }
