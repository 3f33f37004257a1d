use Rattle.std.proofs.Common.{All, [], rules, subst, sym, ℕ, ◌<◌, ◌∙◌, ◌∷◌, ◌≡◌}
use Rattle.hash_life_laws.specs.Puts.{IsBelow}
use Rattle.hash_life_laws.proofs.Shared.Nine.{All-nine}
use Rattle.bit_blocks.proofs.answers.ask_four.Goals as goal

-- nine states below a number that is the same
nine_below : (u v : ℕ) (a b c d e f g h i : ℕ) → v ≡ u → a < u → b < u → c < u → d < u → e < u → f < u → g < u → h < u → i < u → All (λ s. s < v) (a ∷ b ∷ c ∷ d ∷ e ∷ f ∷ g ∷ h ∷ i ∷ [])
nine_below u v a b c d e f g h i is ha hb hc hd he hf hg hh hi =
    subst (λ w. All (λ s. s < w) (a ∷ b ∷ c ∷ d ∷ e ∷ f ∷ g ∷ h ∷ i ∷ [])) (sym is) (All-nine (λ s. s < u) a b c d e f g h i ha hb hc hd he hf hg hh hi)

pub ask-requires : goal.ask-requires
unfolding IsBelow
ask-requires g c = search (rules, All-nine)

pub ask-requires-2 : goal.ask-requires-2
unfolding IsBelow
ask-requires-2 g c = search (rules, nine_below)

pub ask-requires-3 : goal.ask-requires-3
unfolding IsBelow
ask-requires-3 g c =
    let same = c.ask-2.ensures.states ∙ c.ask.ensures.states in
    search (rules, nine_below)

pub ask-requires-4 : goal.ask-requires-4
unfolding IsBelow
ask-requires-4 g c =
    let same = c.ask-3.ensures.states ∙ c.ask-2.ensures.states ∙ c.ask.ensures.states in
    search (rules, nine_below)
