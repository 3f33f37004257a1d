-- What holds of each element of a list.
use Rattle.schedule.proofs.Names.{AllByRecursion, Bool, List, [], and_parts, ap, list_all, refl, true, ◌&&◌, ◌∙◌, ◌∷◌, ◌≡◌}

-- what each passes
pub each_passes : {X : Type 0} (p : X → Bool) (P : X → Type 0) (xs : List X) → ((x : X) → p x ≡ true → P x)
    → list_all p xs ≡ true → AllByRecursion P xs
each_passes p P [] f h = tt
each_passes p P (x ∷ xs) f h = let parts = and_parts (p x) (list_all p xs) h in
    (f x parts.0, each_passes p P xs f parts.1)

pub all_pass : {X : Type 0} (p : X → Bool) (P : X → Type 0) (xs : List X) → ((x : X) → P x → p x ≡ true)
    → AllByRecursion P xs → list_all p xs ≡ true
all_pass p P [] f h = refl
all_pass p P (x ∷ xs) f h = ap (λ b. b && list_all p xs) (f x h.0) ∙ all_pass p P xs f h.1

pub all_are : {X : Type 0} (P : X → Type 0) (xs : List X) → ((x : X) → P x) → AllByRecursion P xs
all_are P [] h = tt
all_are P (x ∷ xs) h = (h x, all_are P xs h)
