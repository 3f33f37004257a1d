-- Lists: an element more, and what holds of each element.
use Rattle.std.proofs.Common.{◌≢◌, List, [], ◌∷◌, ◌++◌}
use Rattle.std.specs.List.{AllByRecursion}

pub push_not_nil : {X : Type 0} (xs : List X) (x : X) → xs ++ x ∷ [] ≢ []
push_not_nil [] x e = cc
push_not_nil (y ∷ xs) x e = cc

pub all_append : {X : Type 0} (P : X → Type 0) (xs ys : List X) → AllByRecursion P xs → AllByRecursion P ys → AllByRecursion P (xs ++ ys)
all_append P [] ys h k = k
all_append P (x ∷ xs) ys h k = (h.0, all_append P xs ys h.1 k)

pub all_so : {X : Type 0} (P Q : X → Type 0) (xs : List X) → ((x : X) → P x → Q x) → AllByRecursion P xs → AllByRecursion Q xs
all_so P Q [] f h = tt
all_so P Q (x ∷ xs) f h = (f x h.0, all_so P Q xs f h.1)
