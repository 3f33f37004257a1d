-- The faults of a table's head, of which none is 'out of memory'.
use Rattle.table_lines.proofs.Names.{Described, Descriptor, Head, List, NumberedLine, Ok, WantsNone, [], arith, describe, descriptor_of, head_from, head_of, ℕ, ◌>>=◌, ◌∷◌}
use Rattle.table_lines.proofs.Steps.{step-none}

describe-none : (d : Described) (number : ℕ) (x : Descriptor) (value : List ℕ) → WantsNone (describe d number x value)
describe-none d number x value h = grind arith

head_of-none : (d : Described) (lines : List NumberedLine) → WantsNone {A = Head × List NumberedLine} (head_of d >>= λ head. Ok (head, lines))
head_of-none d lines h = grind arith

pub head_from-none : (d : Described) (lines : List NumberedLine) → WantsNone (head_from d lines)
head_from-none d [] = head_of-none d []
head_from-none d (line ∷ lines) =
    step-none (descriptor_of line.text) _ (λ e. head_from e lines) _ (λ x. describe-none d line.number x.0 x.1) (λ e. head_from-none e lines) (head_of-none d (line ∷ lines))
