-- The quadrants of a node are earlier nodes.
use Rattle.multistate_macrocell.proofs.Names.{Bool, EachFollows, Follows, IsTrue, List, Node, None, Option, Some, [], ap, append-nil, append_assoc, arith, eq-eqb, eqb-true, false, get_or-take, get_or_from_slice_get, is_child, length}
use Rattle.multistate_macrocell.proofs.Names.{length-take, level_of, nat_tests, option_map_or, refl, slice_get, slice_get-get_or, slice_get_within, suc, sym, take, true, zero, ℕ, ◌++◌, ◌+◌, ◌<◌, ◌==◌, ◌∙◌, ◌∷◌, ◌≡◌, ◌≤◌}

-- a node of one level less
abbrev fits_under : ℕ → Option Node → Bool
fits_under level found = option_map_or (λ node. level_of node + 1 == level) found false

found_node : (level : ℕ) (found : Option Node) → fits_under level found ≡ true → (node : Node) × (found ≡ Some node)
found_node level None h = absurd (cc)
found_node level (Some node) h = (node, refl)

child-suc : (nodes : List Node) (level i : ℕ) → is_child nodes level (suc i) ≡ fits_under level (slice_get nodes i)
child-suc nodes level i = grind (arith, nat_tests)

-- the level of a node that is a quadrant
pub child-level : (nodes : List Node) (level i : ℕ) (node : Node) → slice_get nodes i ≡ Some node → IsTrue (is_child nodes level (suc i)) → level_of node + 1 ≡ level
child-level nodes level i node at h =
    eqb-true (level_of node + 1) level (ap (fits_under level) (sym at) ∙ sym (child-suc nodes level i) ∙ h)

-- a number that a quadrant may have is that of a node
pub child-found : (nodes : List Node) (level i : ℕ) → IsTrue (is_child nodes level (suc i)) → (node : Node) × (slice_get nodes i ≡ Some node)
child-found nodes level i h = found_node level (slice_get nodes i) (sym (child-suc nodes level i) ∙ h)

-- a node may be a quadrant of a square of one level more
pub child-is : (nodes : List Node) (level i : ℕ) (node : Node) → slice_get nodes i ≡ Some node → level_of node + 1 ≡ level → IsTrue (is_child nodes level (suc i))
child-is nodes level i node at h = child-suc nodes level i ∙ ap (fits_under level) at ∙ eq-eqb (level_of node + 1) level h

-- what stands in the front stands there
taken_at : (nodes : List Node) (place i : ℕ) (node : Node) → slice_get (take place nodes) i ≡ Some node → (i < place) × (slice_get nodes i ≡ Some node)
taken_at nodes place i node at =
    let within : i < length (take place nodes) = slice_get_within (take place nodes) i node at in
    let bounds = length-take place nodes in
    let below : i < place = grind (arith, length-take) in
    let inside : i < length nodes = grind (arith, length-take) in
    (below, slice_get-get_or nodes i node inside ∙ ap Some (sym (get_or-take place nodes i node below) ∙ get_or_from_slice_get (take place nodes) i node node at))

-- a quadrant among the first nodes is one of them
pub record IsEarlier (nodes : List Node) (place level n : ℕ) : Type 0 where
  pub earlier : n ≤ place
  pub child : IsTrue (is_child nodes level n)

pub child-earlier : (nodes : List Node) (place level n : ℕ) → IsTrue (is_child (take place nodes) level n) → IsEarlier nodes place level n
child-earlier nodes place level zero h = record { earlier = omega arith; child = refl }
child-earlier nodes place level (suc i) h =
    let is = sym (child-suc (take place nodes) level i) ∙ h in
    let found = found_node level (slice_get (take place nodes) i) is in
    let at = taken_at nodes place i found.0 found.1 in
    let below : i < place = at.0 in
    record {
      earlier = omega arith;
      child = child-is nodes level i found.0 at.1 (child-level (take place nodes) level i found.0 found.1 h);
    }

-- each of some nodes follows those before it
pub follows-at : (front nodes : List Node) (i : ℕ) (node : Node) → EachFollows front nodes → slice_get nodes i ≡ Some node → Follows (front ++ take i nodes) node
follows-at front [] i node each at = absurd (cc)
follows-at front (first ∷ nodes) zero node each at =
    let is : first ≡ node = cc in
    rw (append-nil front, ← is) each.0
follows-at front (first ∷ nodes) (suc i) node each at =
    rw append_assoc at (follows-at (front ++ first ∷ []) nodes i node each.1 at)
