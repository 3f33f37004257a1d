-- Two descriptors, one after the other, may stand in the other order.
use Rattle.decision_tree.proofs.Names.{BadTree, Described, Descriptor, DescriptorsInAnyOrder, GivesToo, List, Neighbors, None, NumberedLine, Option, Result, RuleFault, Some, [], and_parts, arith, describe, descriptor_of, head_from}
use Rattle.decision_tree.proofs.Names.{if_quiescent, is_descriptor, is_some, last_number, list_all, neighbors_in, node_count_in, nodes_from, ok_or, once, option_map, refl, states_in, then_too, tree_from, true, undescribed, ℕ, ◌++◌, ◌>>=◌}
use Rattle.decision_tree.proofs.Names.{◌∷◌, ◌≡◌}
use Rattle.decision_tree.specs.declared.descriptors.Descriptor.TheVariants as descriptor
use Rattle.decision_tree.proofs.Shared.Renumbered.{after_head, described, head_by, nodes_from-too}

-- what is read of a value, and what of it a descriptor puts where none is yet
record Readings : Type 0 where
  states : Option ℕ
  neighbors : Option Neighbors
  node_count : Option ℕ

abbrev readings : List ℕ → Readings
readings value = record { states = states_in value; neighbors = neighbors_in value; node_count = node_count_in value }

abbrev put : Descriptor → Readings → Described → Option Described
put descriptor.States read d = once d.states (option_map (λ n. record d { states = Some n }) read.states)
put descriptor.Neighbors read d = once d.neighbors (option_map (λ n. record d { neighbors = Some n }) read.neighbors)
put descriptor.Nodes read d = once d.node_count (option_map (λ n. record d { node_count = Some n }) read.node_count)

-- so a descriptor does with what is read of its value
describe-puts : (d : Described) (w : Descriptor) (value : List ℕ) → describe d w value ≡ put w (readings value) d
describe-puts d descriptor.States value = refl
describe-puts d descriptor.Neighbors value = refl
describe-puts d descriptor.Nodes value = refl

-- two may be put in the other order
put-swapped : {A : Type 0} (k l : Described → Result A RuleFault) → ((c : Described) → GivesToo (k c) (l c))
    → (v w : Descriptor) (first second : Readings) (e f : RuleFault) (d : Described)
    → GivesToo (ok_or (put v first d) e >>= λ c. ok_or (put w second c) f >>= k) (ok_or (put w second d) f >>= λ c. ok_or (put v first c) e >>= l)
put-swapped k l too v w first second e f d z h = grind (arith, too)

-- and said in the other order
swapped : {A : Type 0} (k l : Described → Result A RuleFault) → ((c : Described) → GivesToo (k c) (l c)) → (m n : ℕ) (d : Described) (v w : Descriptor) (value other : List ℕ)
    → GivesToo (described m v value d >>= λ e. described n w other e >>= k) (described n w other d >>= λ e. described m v value e >>= l)
swapped k l too m n d v w value other = simp describe-puts (put-swapped k l too v w (readings value) (readings other) (BadTree m) (BadTree n) d)

-- where missing lines show doesn't matter to a head
last-too : (last final : ℕ) (lines : List NumberedLine) (d : Described) → GivesToo (head_from last d lines) (head_from final d lines)
last-too last final [] d = λ head h. absurd cc
last-too last final (line ∷ lines) d = by_found (descriptor_of line.text) (λ e. last-too last final lines e)
  where
    by_found : (o : Option (Descriptor × List ℕ)) → ((e : Described) → GivesToo (head_from last e lines) (head_from final e lines))
        → GivesToo (head_by d line.number (line ∷ lines) (λ e. head_from last e lines) o)
        (head_by d line.number (line ∷ lines) (λ e. head_from final e lines) o)
    by_found o later head h = grind (arith, later)

two_swapped : (last final : ℕ) (o p : Option (Descriptor × List ℕ)) (d : Described) (m n : ℕ) (rest some others : List NumberedLine) (ends : List NumberedLine) (more : List NumberedLine) → is_some o ≡ true → is_some p ≡ true
    → GivesToo (head_by d m some (λ e. head_by e n ends (λ f. head_from last f rest) p) o) (head_by d n others (λ e. head_by e m more (λ f. head_from final f rest) o) p)
two_swapped last final None p d m n rest some others ends more h k = absurd cc
two_swapped last final (Some x) None d m n rest some others ends more h k = absurd cc
two_swapped last final (Some x) (Some y) d m n rest some others ends more h k = swapped (λ f. head_from last f rest) (λ f. head_from final f rest) (last-too last final rest) m n d x.0 y.0 x.1 y.1

head_from-swapped : (last final : ℕ) (front rest : List NumberedLine) (line next : NumberedLine) (d : Described) → list_all is_descriptor front ≡ true
    → is_descriptor line ≡ true → is_descriptor next ≡ true → GivesToo (head_from last d (front ++ line ∷ next ∷ rest))
    (head_from final d (front ++ next ∷ line ∷ rest))
head_from-swapped last final [] rest line next d h k l = two_swapped last final (descriptor_of line.text) (descriptor_of next.text) d line.number next.number rest (line ∷ next ∷ rest) (next ∷ line ∷ rest) (next ∷ rest) (line ∷ rest) k l
head_from-swapped last final (first ∷ front) rest line next d h k l =
    let parts = and_parts (is_descriptor first) (list_all is_descriptor front) h in
    by_found (descriptor_of first.text) parts.0 (λ e. head_from-swapped last final front rest line next e parts.1 k l)
  where
    by_found : (o : Option (Descriptor × List ℕ)) → is_some o ≡ true → ((e : Described) → GivesToo (head_from last e (front ++ line ∷ next ∷ rest)) (head_from final e (front ++ next ∷ line ∷ rest)))
        → GivesToo (head_by d first.number (first ∷ (front ++ line ∷ next ∷ rest)) (λ e. head_from last e (front ++ line ∷ next ∷ rest)) o)
        (head_by d first.number (first ∷ (front ++ next ∷ line ∷ rest)) (λ e. head_from final e (front ++ next ∷ line ∷ rest)) o)
    by_found o is later z h = grind (arith, is, later)

pub descriptors_swapped : DescriptorsInAnyOrder
descriptors_swapped section front line next rest tree h k l =
    let last = last_number section.opened (front ++ line ∷ next ∷ rest) in
    let final = last_number section.opened (front ++ next ∷ line ∷ rest) in
    then_too (head_from last undescribed (front ++ line ∷ next ∷ rest)) (head_from final undescribed (front ++ next ∷ line ∷ rest)) (after_head last) (after_head final)
    (head_from-swapped last final front rest line next undescribed h k l)
    (λ found. then_too (nodes_from last found.0 [] found.1) (nodes_from final found.0 [] found.1) (λ nodes. if_quiescent (tree_from found.0 nodes))
    (λ nodes. if_quiescent (tree_from found.0 nodes)) (nodes_from-too last final found.0 found.1 found.1 [] refl) (λ nodes t is. is)) tree
