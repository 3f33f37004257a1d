-- Two descriptors, one after the other, may stand in the other order.
use Rattle.table_lines.proofs.Names.{Described, Descriptor, DescriptorsInAnyOrder, GivesToo, Head, List, None, NumberedLine, Option, Result, RuleFault, Some, [], and_parts, arith, describe, descriptor_of, head_from, is_descriptor, is_some}
use Rattle.table_lines.proofs.Names.{list_all, then_too, true, ℕ, ◌++◌, ◌>>=◌, ◌∷◌, ◌≡◌}
use Rattle.table_lines.specs.declared.descriptors.Descriptor.TheVariants as descriptor
use Rattle.table_lines.proofs.Steps.{step, step-later}

abbrev Found : Type 0
Found = Head × List NumberedLine

module _ {A : Type 0} (k : Described → Result A RuleFault) where
  -- two descriptors one after the other, and what is made of them
  abbrev two : Described → ℕ → Descriptor → List ℕ → ℕ → Descriptor → List ℕ → Result A RuleFault
  two d m v value n w other = describe d m v value >>= λ e. describe e n w other >>= k

  -- what is made of two such descriptors is made of them in the other order too
  abbrev MaySwap : Descriptor → Descriptor → Type 0
  MaySwap v w = (d : Described) (m n : ℕ) (value other : List ℕ) → GivesToo (two d m v value n w other) (two d n w other m v value)

  -- the orders one by one, and any of them
  states_first : (w : Descriptor) → MaySwap descriptor.States w
  states_first w d m n value other x h = grind arith

  neighborhood_first : (w : Descriptor) → MaySwap descriptor.Neighborhood w
  neighborhood_first w d m n value other x h = grind arith

  states_last : MaySwap descriptor.Symmetries descriptor.States
  states_last d m n value other x h = grind arith

  neighborhood_last : MaySwap descriptor.Symmetries descriptor.Neighborhood
  neighborhood_last d m n value other x h = grind arith

  symmetries_twice : MaySwap descriptor.Symmetries descriptor.Symmetries
  symmetries_twice d m n value other x h = grind arith

  any_two : (v w : Descriptor) → MaySwap v w
  any_two descriptor.States w = states_first w
  any_two descriptor.Neighborhood w = neighborhood_first w
  any_two descriptor.Symmetries descriptor.States = states_last
  any_two descriptor.Symmetries descriptor.Neighborhood = neighborhood_last
  any_two descriptor.Symmetries descriptor.Symmetries = symmetries_twice

-- two lines that are descriptors, whatever comes where one is none
lines_swapped : (o p : Option (Descriptor × List ℕ)) (d : Described) (m n : ℕ) (k : Described → Result Found RuleFault) (f g : Described → Result Found RuleFault)
    (r s : Result Found RuleFault)
    → is_some o ≡ true → is_some p ≡ true
    → GivesToo (step o (λ x. describe d m x.0 x.1) (λ e. step p (λ y. describe e n y.0 y.1) k (f e)) r)
    (step p (λ y. describe d n y.0 y.1) (λ e. step o (λ x. describe e m x.0 x.1) k (g e)) s)
lines_swapped None p d m n k f g r s here there = absurd cc
lines_swapped (Some x) None d m n k f g r s here there = absurd cc
lines_swapped (Some x) (Some y) d m n k f g r s here there = any_two k x.0 y.0 d m n x.1 y.1

head_from-swapped : (front rest : List NumberedLine) (line next : NumberedLine) (d : Described) → list_all is_descriptor front ≡ true → is_descriptor line ≡ true
    → is_descriptor next ≡ true
    → GivesToo (head_from d (front ++ line ∷ next ∷ rest)) (head_from d (front ++ next ∷ line ∷ rest))
head_from-swapped [] rest line next d h k l = lines_swapped (descriptor_of line.text) (descriptor_of next.text) d line.number next.number (λ e. head_from e rest) _ _ _ _ k l
head_from-swapped (first ∷ front) rest line next d h k l =
    let parts = and_parts (is_descriptor first) (list_all is_descriptor front) h in
    step-later (descriptor_of first.text) _ _ _ _ _ parts.0 (λ e. head_from-swapped front rest line next e parts.1 k l)

pub descriptors_swapped : DescriptorsInAnyOrder
descriptors_swapped front line next rest table h k l = grind (arith, then_too, head_from-swapped)
