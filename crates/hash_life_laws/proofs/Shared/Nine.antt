-- What holds of each of four or of nine.
use Rattle.std.proofs.Common.{[], ◌∷◌}
use Rattle.std.specs.Prelude.{All}
use Rattle.std.proofs.lemmas.List.Elements.{All-from_recursion}

pub All-four : {X : Type 0} (P : X → Type 0) (a b c d : X) → P a → P b → P c → P d → All P (a ∷ b ∷ c ∷ d ∷ [])
All-four P a b c d ha hb hc hd = All-from_recursion P (a ∷ b ∷ c ∷ d ∷ []) (ha, (hb, (hc, (hd, tt))))

pub All-nine : {X : Type 0} (P : X → Type 0) (a b c d e f g h i : X) → P a → P b → P c → P d → P e → P f → P g → P h → P i → All P (a ∷ b ∷ c ∷ d ∷ e ∷ f ∷ g ∷ h ∷ i ∷ [])
All-nine P a b c d e f g h i ha hb hc hd he hf hg hh hi = All-from_recursion P (a ∷ b ∷ c ∷ d ∷ e ∷ f ∷ g ∷ h ∷ i ∷ []) (ha, (hb, (hc, (hd, (he, (hf, (hg, (hh, (hi, tt)))))))))
