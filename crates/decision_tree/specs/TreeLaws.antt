-- What holds of every tree that a file may have.
use Rattle.std.specs.Prelude.{◌≡◌, ℕ, zero, suc, All, ◌==◌, ◌<◌, ◌&&◌, Bool, true, List, [], ◌∷◌, length, slice_index, nat_lt}
use Rattle.std.specs.List.{list_all}
use Rattle.std.proofs.Common.{refl, arith, rules, tests}
use Rattle.std.proofs.lemmas.Bool.{and_parts}
use Rattle.std.proofs.lemmas.List.Sums.{AllPass-from_list_all}
use Rattle.worlds.specs.Step.{nine_zeros, AreNineBelow}
use Rattle.decision_tree.specs.declared.tree.Neighbors.{Neighbors}
use Rattle.decision_tree.specs.declared.tree.Neighbors.TheVariants.{Four, Eight}
use Rattle.decision_tree.specs.Tree.{Entries, Tree, node_at, follow, leads, inputs_of, places_of, root_of, next, is_quiescent, is_sound}

-- a cell of state 0 among such cells keeps it
pub next-quiet : (tree : Tree) → is_sound tree ≡ true → next tree nine_zeros ≡ 0
next-quiet tree sound =
    let quiet : is_quiescent tree ≡ true =
    (and_parts (is_quiescent tree)
    (leads tree.states tree.nodes (root_of tree) (places_of tree.neighbors)) sound).0 in
    search (rules, tests)

-- a node that leads on has n entries
pub leads-width : (n : ℕ) (nodes : List Entries) (number input : ℕ) (inputs : List ℕ)
    → leads n nodes number (input ∷ inputs) ≡ true → length (node_at nodes number) ≡ n
leads-width n nodes number input inputs h =
    let width : (length (node_at nodes number) == n) ≡ true =
    (and_parts (length (node_at nodes number) == n)
    (list_all (λ entry. leads n nodes entry inputs) (node_at nodes number)) h).0 in
    search (rules, tests)

-- the entry that an input chooses leads on
pub leads-on : (n : ℕ) (nodes : List Entries) (number input : ℕ) (inputs : List ℕ)
    → leads n nodes number (input ∷ inputs) ≡ true → input < n
    → leads n nodes (slice_index (node_at nodes number) input) inputs ≡ true
leads-on n nodes number input inputs h low =
    let node = node_at nodes number in
    let all : list_all (λ entry. leads n nodes entry inputs) node ≡ true =
    (and_parts (length node == n) (list_all (λ entry. leads n nodes entry inputs) node) h).1 in
    let width : length node ≡ n = leads-width n nodes number input inputs h in
    AllPass-from_list_all (λ entry. leads n nodes entry inputs) node all input 0 (omega arith)

-- inputs below n lead to a state below n
pub follow-below : (n : ℕ) (nodes : List Entries) (number : ℕ) (inputs : List ℕ)
    → leads n nodes number inputs ≡ true → list_all (λ s. nat_lt s n) inputs ≡ true
    → follow nodes number inputs < n
follow-below n nodes number [] h low = search (rules, tests)
follow-below n nodes number (input ∷ inputs) h low =
    let parts = and_parts (nat_lt input n) (list_all (λ s. nat_lt s n) inputs) low in
    let first : nat_lt input n ≡ true = parts.0 in
    follow-below n nodes (slice_index (node_at nodes number) input) inputs
    (leads-on n nodes number input inputs h (search (rules, tests))) parts.1

low_by : (n s : ℕ) (rest : Bool) → s < n → rest ≡ true → (nat_lt s n && rest) ≡ true
low_by n s rest low h =
    let test : nat_lt s n ≡ true = search (rules, tests) in
    rw test h

-- what the places of a neighbourhood lead to, the inputs at them do
pub leads-inputs : (n : ℕ) (nodes : List Entries) (number : ℕ) (neighbors : Neighbors)
    (states : List ℕ)
    → leads n nodes number (places_of neighbors) ≡ true
    → leads n nodes number (inputs_of neighbors states) ≡ true
leads-inputs n nodes number Four states h = h
leads-inputs n nodes number Eight states h = h

-- any of states below n is below n, and 0 where there is none
pub state-below : (n : ℕ) (states : List ℕ) → 0 < n → All (λ s. s < n) states → (k : ℕ)
    → slice_index states k < n
state-below n [] some low k = some
state-below n (s ∷ states) some low zero = low 0 0 (omega arith)
state-below n (s ∷ states) some low (suc k) =
    state-below n states some (λ i d l. low (suc i) d (omega (arith, l))) k

inputs-low : (n : ℕ) (neighbors : Neighbors) (states : List ℕ)
    → ((k : ℕ) → slice_index states k < n)
    → list_all (λ s. nat_lt s n) (inputs_of neighbors states) ≡ true
inputs-low n neighbors states low =
    elim neighbors as (λ m. list_all (λ s. nat_lt s n) (inputs_of m states) ≡ true) [
      | Four ↦ low_by n _ _ (low 1)
          (low_by n _ _ (low 7)
          (low_by n _ _ (low 3) (low_by n _ _ (low 5) (low_by n _ _ (low 0) refl))))
      | Eight ↦ low_by n _ _ (low 8)
          (low_by n _ _ (low 2)
          (low_by n _ _ (low 6)
          (low_by n _ _ (low 4)
          (low_by n _ _ (low 1)
          (low_by n _ _ (low 7)
          (low_by n _ _ (low 3)
          (low_by n _ _ (low 5) (low_by n _ _ (low 0) refl))))))))
    ]

-- the inputs are states where the states at and around the cell are
pub inputs-below : (n : ℕ) (neighbors : Neighbors) (states : List ℕ) → 0 < n
    → All (λ s. s < n) states → list_all (λ s. nat_lt s n) (inputs_of neighbors states) ≡ true
inputs-below n neighbors states some low =
    inputs-low n neighbors states (state-below n states some low)

-- the next state is a state
pub next-below : (tree : Tree) (states : List ℕ) → is_sound tree ≡ true
    → AreNineBelow tree.states states → next tree states < tree.states
next-below tree states sound nine =
    let some : slice_index states 0 < tree.states = nine.below 0 0 (omega (arith, nine.nine)) in
    follow-below tree.states tree.nodes (root_of tree) (inputs_of tree.neighbors states)
    (leads-inputs tree.states tree.nodes (root_of tree) tree.neighbors states
    (and_parts (is_quiescent tree)
    (leads tree.states tree.nodes (root_of tree) (places_of tree.neighbors)) sound).1)
    (inputs-below tree.states tree.neighbors states (omega (arith, some)) nine.below)
