-- The faults of a tree's head, of which none is 'out of memory'.
use Rattle.decision_tree.proofs.Names.{BadTree, Described, Descriptor, List, NumberedLine, Ok, Option, WantsNone, [], arith, describe, descriptor_of, head_from, head_of, ok_or, option_map_or, ℕ, ◌>>=◌, ◌∷◌}

pub head_from-none : (last : ℕ) (d : Described) (lines : List NumberedLine) → WantsNone (head_from last d lines)
head_from-none last d [] = λ h. absurd cc
head_from-none last d (line ∷ lines) = by (descriptor_of line.text) (λ e. head_from-none last e lines)
  where
    by : (o : Option (Descriptor × List ℕ)) → ((e : Described) → WantsNone (head_from last e lines))
        → WantsNone (option_map_or (λ x. ok_or (describe d x.0 x.1) (BadTree line.number) >>= λ e. head_from last e lines) o
        (ok_or (head_of d) (BadTree line.number) >>= λ head. Ok (head, line ∷ lines)))
    by o rest h = grind (arith, rest)
