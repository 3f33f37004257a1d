use Rattle.tree_translation.proofs.Names.{All, AreFit, AreTailsAt, NodeTable, GrowsNodes, IsEntry, IsLayer, IsNumberOf, Layer, LeftOf, Listed, Node, TreatsAlike, arith, common_steps, get_or_default, length, refl, rules, slice_index}
use Rattle.tree_translation.proofs.Names.{slice_index_or, sym, ℕ, ◌+◌, ◌/◌, ◌<◌, ◌∙◌, ◌≡◌, ◌≤◌}
use Rattle.tree_translation.proofs.Apart.{passed-on}
use Rattle.tree_translation.proofs.MadeNodes.{Grows-behind, IsEntry-append, entries-small, is-later, NeedsTooMany-behind, layer-before, layer-last, layer-room, made, too-many}
use Rattle.tree_translation.proofs.NodeLists.{each-filled}
use Rattle.tree_translation.proofs.TailsNear.{LeftOf-alike}
use Rattle.tree_translation.proofs.numbering.+numbering.Goals as goal
use Rattle.tree_translation.proofs.numbering.+numbering.Goals.{entries_of-After-index-layers-input, entries_of-In_ok-left}

pub entries_of-leaf_of-requires-clause-layer : goal.entries_of-leaf_of-requires-clause-layer
entries_of-leaf_of-requires-clause-layer t c =
    rw c.index-layers-input.is (layer-last c.args.states c.args.layers.now c.args.input c.index-layers-input.result c.requires.fit.fit (omega arith))

-- the layer of the input, which leaves behind it what there is room for
room : (t : ℕ) (c : entries_of-After-index-layers-input t) → c.args.input + 1 < length c.args.layers.now → IsLayer c.index-layers-input.result (length c.args.marks.now)
room t c there = rw c.index-layers-input.is (layer-room c.args.states c.args.layers.now (length c.args.marks.now) c.args.input c.index-layers-input.result c.requires.fit there)

pub entries_of-tails_near-requires-clause-sets : goal.entries_of-tails_near-requires-clause-sets
entries_of-tails_near-requires-clause-sets t c = (room t (goal.at.entries_of-tails_near-requires-clause-sets t c).After-index-layers-input (omega arith)).sets

pub entries_of-states_alike-requires-clause-sets : goal.entries_of-states_alike-requires-clause-sets
entries_of-states_alike-requires-clause-sets t c = (room t (goal.at.entries_of-states_alike-requires-clause-sets t c).After-index-layers-input (omega arith)).sets

pub entries_of-tails_left-requires-clause-layer : goal.entries_of-tails_left-requires-clause-layer
entries_of-tails_left-requires-clause-layer t c =
    let same : length c.loop-state.marks ≡ length c.args.marks.now = search (rules) in
    rw same (room t (goal.at.entries_of-tails_left-requires-clause-layer t c).After-index-layers-input (omega arith))

pub entries_of-number_again-requires : goal.entries_of-number_again-requires
entries_of-number_again-requires t c =
    let layers = c.args.layers.now in
    let more : c.args.input + 1 < length layers = omega arith in
    let room : length c.tails_left.new.is_there ≡ length c.args.marks.now = search (rules) in
    let fit : AreFit c.args.states layers (length c.tails_left.new.is_there) = rw room c.requires.fit in
    let tails : AreTailsAt layers (c.args.input + 1) c.deref-in-loop-state-2.result.now = record {
      there = more;
      inside = λ d. rw c.deref-in-loop-state-2.ensures.value (c.in_ok-left.ensures.inside _
          (rw c.index-layers-input.is (layer-before c.args.states layers c.args.input c.index-layers-input.result d c.requires.fit.fit more)));
    } in
    (search (rules), (record { fit = fit; tails = tails; clear = c.in_ok-left.ensures.clear; known = c.loop-state.invariant.grows.known }, search (rules)))

-- what is left behind each of these states, wherever the layer is looked at
left : (t : ℕ) (c : entries_of-In_ok-left t) (s : ℕ) → c.loop-state.state ≤ s → s < c.loop-state.state + c.min-alike.result → (d : Layer) → LeftOf (slice_index_or c.args.layers.now c.args.input d) s c.args.list.now c.in_ok-left.left.items
left t c s low high d =
    let layer = c.index-layers-input.result in
    let near = c.in_ok-near.near.items in
    let alike : All (TreatsAlike layer c.loop-state.state c.min-alike.result) near = λ k e l r from below.
    (rw c.deref.ensures.value at c.states_alike.ensures.alike) k e l r from (omega arith) in
    let is : LeftOf layer c.loop-state.state near c.in_ok-left.left.items = rw c.deref-in-loop-state.ensures.value at c.in_ok-left.ensures.left in
    rw (← (c.index-layers-input.is ∙ get_or_default c.args.layers.now c.args.input layer d c.requires.tails.there))
    (LeftOf-alike layer c.loop-state.state c.min-alike.result s c.args.list.now near c.in_ok-left.left.items c.in_ok-near.ensures alike (omega arith) is low high)

pub entries_of-returns-in_err-number-clause-large : goal.entries_of-returns-in_err-number-clause-large
entries_of-returns-in_err-number-clause-large t c =
    let is = left t (goal.at.entries_of-returns-in_err-number-clause-large t c).In_ok-left c.loop-state.state (omega arith) (omega arith) in
    passed-on c.from_residual-in_err-number.result c.in_err-number.field-0.0 _ c.from_residual-in_err-number.ensures.1
    (λ e. NeedsTooMany-behind c.args.states c.args.layers.now c.args.input c.args.list.now c.in_ok-left.left.items c.loop-state.state c.args.found.now c.loop-state.found
    (omega arith) c.loop-state-test.true is c.loop-state.invariant.grows (rw c.deref-in-loop-state-2.ensures.value at (c.in_err-number.ensures.large e)))

pub entries_of-loop-state-preserved : goal.entries_of-loop-state-preserved
entries_of-loop-state-preserved t c =
    let states = c.args.states in
    let layers = c.args.layers.now in
    let input = c.args.input in
    let list = c.args.list.now in
    let state = c.loop-state.state in
    let entries = c.loop-state.entries.items in
    let mid = c.loop-state.found in
    let new = c.number_again.new.found in
    let known = c.loop-state.invariant in
    let is = left t (goal.at.entries_of-loop-state-preserved t c).In_ok-left in
    let number = c.in_ok-number.number in
    let until : ℕ = state + c.min-alike.result in
    let grown : GrowsNodes states layers (input + 1) (input + 1) c.in_ok-left.left.items mid new = rw c.deref-in-loop-state-2.ensures.value at c.in_ok-number.ensures.grows in
    let numbered : IsNumberOf states layers new.nodes.keys (input + 1) c.in_ok-left.left.items number = rw c.deref-in-loop-state-2.ensures.value at c.in_ok-number.ensures.number in
    let before : (s : ℕ) → s < state → IsEntry states layers new.nodes.keys input list s (slice_index entries s) = λ s l.
    rw grown.joined (IsEntry-append mid.nodes.keys grown.more states layers input list s (slice_index entries s) (omega (arith, c.requires.fit.some)) (known.each s l)) in
    let here : (s : ℕ) → state ≤ s → s < until → IsEntry states layers new.nodes.keys input list s number = λ s low high. record { left = c.in_ok-left.left.items; is = is s low high; number_of = numbered } in
    record {
      width = grind (arith, common_steps, known.width, c.in_ok-fill_up.ensures);
      each = λ s l. rw c.in_ok-fill_up.ensures (each-filled 0
          (λ s e. IsEntry states layers new.nodes.keys input list s e) entries number state until known.width (omega arith) before here s l);
      grows = Grows-behind states layers input list c.in_ok-left.left.items state c.args.found.now mid (omega arith) c.loop-state-test.true (is state (omega arith) (omega arith)) known.grows new grown;
      clear = c.in_ok-number.ensures.clear;
      near = λ ne. let same : until / 64 ≡ state / 64 = omega arith in rw same c.in_ok-near.ensures;
      until = omega arith;
      latest = numbered;
    }

pub number_of-of-requires-clause-range : goal.number_of-of-requires-clause-range
number_of-of-requires-clause-range t c =
    let entries = c.in_ok-entries.ensures in
    rw c.deref.ensures.value (entries-small c.args.states c.args.layers.now (length c.args.marks.now) c.entries_of.new.found.nodes.keys c.args.input c.args.list.now c.in_ok-entries.entries.items
    c.requires.fit c.requires.tails entries.grows.known.few entries.entries)

pub number_of-returns-in-Some-clause-number : goal.number_of-returns-in-Some-clause-number
number_of-returns-in-Some-clause-number t c =
    let key : Listed = record { input = c.args.input; numbers = c.in_ok-to_vec.field-0 } in
    rw (c.in_ok-to_vec.ensures.items_if_clones_equal (λ x y h. h)) at (c.requires.known.numbers key c.in-Some.number.now (sym c.in-Some.ensures.value))

pub number_of-returns-in-Some-clause-last : goal.number_of-returns-in-Some-clause-last
number_of-returns-in-Some-clause-last t c = λ later.
    let is = number_of-returns-in-Some-clause-number t c in
    absurd (is-later c.args.found.now.nodes.keys c.args.input c.in-Some.number.now later is.inside is.at)

pub number_of-returns-in_err-number-clause-large : goal.number_of-returns-in_err-number-clause-large
number_of-returns-in_err-number-clause-large t c =
    let node : Node = record { input = c.args.input; entries = c.in_ok-of.field-0 } in
    let entries = c.in_ok-entries.ensures in
    passed-on c.from_residual-in_err-number.result c.in_err-number.field-0.0 _ c.from_residual-in_err-number.ensures.1
    (λ e. too-many c.args.states c.args.layers.now (length c.args.marks.now) c.args.input c.args.list.now c.args.found.now c.entries_of.new.found node c.requires.fit c.requires.tails entries.grows
    (rw (c.in_ok-of.ensures, c.deref.ensures.value) entries.entries) refl
    (c.in_err-number.ensures.large e))

pub number_of-returns : goal.number_of-returns
number_of-returns t c =
    let node : Node = record { input = c.args.input; entries = c.in_ok-of.field-0 } in
    let key : Listed = record { input = c.args.input; numbers = c.in_ok-to_vec.field-0 } in
    let new : NodeTable = record { numbers = c.insert.new.self; nodes = c.add_node.new.nodes } in
    let entries = c.in_ok-entries.ensures in
    let stored = c.in_ok-number.ensures in
    let comes = made c.args.states c.args.layers.now (length c.args.marks.now) c.args.input c.args.list.now c.args.found.now c.entries_of.new.found node c.requires.fit
    c.requires.tails entries.grows (rw (c.in_ok-of.ensures, c.deref.ensures.value) entries.entries) refl new c.in_ok-number.number key refl
    (c.in_ok-to_vec.ensures.items_if_clones_equal (λ x y h. h)) stored.stored stored.grown stored.apart stored.few c.in_ok-insert.ensures.updates.0 in
    record { number = comes.numbered; grows = comes.grows; last = comes.last; clear = entries.clear; large = tt }
