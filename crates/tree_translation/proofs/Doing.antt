-- Nodes that do what lists of tails do.
use Rattle.tree_translation.proofs.Names.{All, AreLeaves, Does, Entries, IsLayer, Layer, LeftOf, List, None, Option, Some, [], ap, arith, cond, first_some, follow, get_or_append_left, get_or_default, leads, leads-on, leads-width, length}
use Rattle.tree_translation.proofs.Names.{lets, list_all, list_all-from_AllPass, nat_lt, nat_tests, node_at, none-past, outcome, refl, rest_at, result_of, slice_index, subst, suc, true, unwrap_or, ℕ, ◌++◌, ◌<◌, ◌∙◌, ◌∷◌, ◌≡◌}
use Rattle.decision_tree.proofs.Shared.Growing.{leads-append, leads-node}
use Rattle.tree_translation.proofs.NodeLists.{firsts-all}

-- more nodes change nothing of what is followed from those before
follow-append : (n : ℕ) (nodes more : List Entries) (number : ℕ) (inputs : List ℕ) → leads n nodes number inputs ≡ true → list_all (λ s. nat_lt s n) inputs ≡ true → follow (nodes ++ more) number inputs ≡ follow nodes number inputs
follow-append n nodes more number [] h low = refl
follow-append n nodes more number (input ∷ inputs) h low =
    let under : input < n = grind (arith, nat_tests) in
    let inside : number < length nodes = none-past nodes number n (omega (arith, under)) (leads-width n nodes number input inputs h) in
    rw (get_or_append_left nodes more [] number inside) (follow-append n nodes more _ inputs (leads-on n nodes number input inputs h under) (grind arith))

-- nor of what they do
pub Does-append : (states : ℕ) (layers : List Layer) (nodes more : List Entries) (list : List ℕ) (number : ℕ) → 0 < states → Does states layers nodes list number → Does states layers (nodes ++ more) list number
Does-append states layers nodes more list number some does = record {
  leading = λ inputs long. leads-append states nodes more number inputs some (does.leading inputs long);
  follows = λ inputs long low. follow-append states nodes more number inputs (does.leading inputs long) low ∙ does.follows inputs long low;
}

-- the first result that is left is a state, as the input is
first-below : (layer : Layer) (states state : ℕ) (list : List ℕ) → IsLayer layer states → All (λ n. n < length layer.tails.items) list
    → state < states → unwrap_or (first_some (λ number. cond (lets layer number state) (Some (rest_at layer number)) None) list) state < states
first-below layer states state [] fits inside low = low
first-below layer states state (number ∷ list) fits inside low =
    grind (arith, fits.rests number (record { set = 0; rest = 0 }) (inside 0 0 (omega arith)), first-below layer states state list fits (λ k d l. inside (suc k) d (omega (arith, l))) low)

pub leaves-below : (states : ℕ) (layer : Layer) (list leaf : List ℕ) → IsLayer layer states → All (λ n. n < length layer.tails.items) list → AreLeaves states layer list leaf → list_all (λ s. nat_lt s states) leaf ≡ true
leaves-below states layer list leaf fits inside leaves =
    list_all-from_AllPass (λ s. nat_lt s states) leaf (λ k d l.
    grind (arith, nat_tests, leaves.width, leaves.each k, first-below layer states k list fits inside, get_or_default leaf k d 0 l))

-- a node of these entries does what the list does at the last input
pub Does-leaf : (states : ℕ) (layer : Layer) (nodes : List Entries) (list leaf : List ℕ) (number : ℕ) → IsLayer layer states
    → All (λ n. n < length layer.tails.items) list → AreLeaves states layer list leaf → node_at nodes number ≡ leaf
    → Does states (layer ∷ []) nodes list number
Does-leaf states layer nodes list leaf number fits inside leaves at = record {
  leading = λ inputs long. subst (λ xs. leads states nodes number xs ≡ true) (firsts-all 0 1 inputs long)
      (leads-node states nodes number leaf (slice_index inputs 0) [] at leaves.width (leaves-below states layer list leaf fits inside leaves));
  follows = λ inputs long. subst (λ xs. list_all (λ s. nat_lt s states) xs ≡ true → follow nodes number xs ≡ outcome (layer ∷ []) list xs) (firsts-all 0 1 inputs long)
      (λ low. grind (arith, nat_tests, at, leaves.each (slice_index inputs 0)));
}

-- behind an input the tails that are left have the outcome
pub outcome-left : (layer next : Layer) (deeper : List Layer) (list left : List ℕ) (state : ℕ) (inputs : List ℕ) → length inputs ≡ suc (length deeper)
    → ((f : ℕ → Option ℕ) → first_some f left ≡ first_some (λ number. cond (lets layer number state) (f (rest_at layer number)) None) list)
    → outcome (next ∷ deeper) left inputs ≡ outcome (layer ∷ next ∷ deeper) list (state ∷ inputs)
outcome-left layer next deeper list left state inputs long same = grind (arith, same (λ number. result_of (next ∷ deeper) number inputs))

-- what an entry of a node leads to does what is left behind its state
pub record BranchAt (states : ℕ) (layer next : Layer) (deeper : List Layer) (nodes : List Entries) (list : List ℕ) (state number : ℕ) : Type 0 where
  pub left : List ℕ
  pub is : LeftOf layer state list left
  pub does : Does states (next ∷ deeper) nodes left number

-- then the node does what the list does
pub Does-branch : (states : ℕ) (layer next : Layer) (deeper : List Layer) (nodes : List Entries) (list entries : List ℕ) (number : ℕ)
    → length entries ≡ states → ((s : ℕ) → s < states → BranchAt states layer next deeper nodes list s (slice_index entries s))
    → node_at nodes number ≡ entries → Does states (layer ∷ next ∷ deeper) nodes list number
Does-branch states layer next deeper nodes list entries number wide each at = record { leading = leading; follows = follows }
  where
    leading : (inputs : List ℕ) → length inputs ≡ suc (suc (length deeper)) → leads states nodes number inputs ≡ true
    leading [] long = absurd (omega (arith, long))
    leading (input ∷ inputs) long =
        leads-node states nodes number entries input inputs at wide
        (list_all-from_AllPass (λ entry. leads states nodes entry inputs) entries (λ k d l.
        ap (λ e. leads states nodes e inputs) (get_or_default entries k d 0 l) ∙ (each k (omega (arith, l, wide))).does.leading inputs (omega (arith, long))))

    follows : (inputs : List ℕ) → length inputs ≡ suc (suc (length deeper)) → list_all (λ s. nat_lt s states) inputs ≡ true → follow nodes number inputs ≡ outcome (layer ∷ next ∷ deeper) list inputs
    follows [] long low = absurd (omega (arith, long))
    follows (input ∷ inputs) long low =
        let under : input < states = grind (arith, nat_tests) in
        let rest : length inputs ≡ suc (length deeper) = omega (arith, long) in
        rw at ((each input under).does.follows inputs rest (grind arith) ∙ outcome-left layer next deeper list (each input under).left input inputs rest (each input under).is)
