use Rattle.tree_translation.proofs.Names.{All-nil, All-replicate, AreLayersOf, Bool, IsLeft, List, NeedStarts, Node, [], ap, arith, entries_in, false, get_or_default, length, node_limit, refl, rows_give, rules, subst, sym, ◌+◌, ◌-◌, ◌<◌}
use Rattle.tree_translation.proofs.Names.{◌∙◌, ◌≡◌}
use Rattle.tree_translation.proofs.Apart.{passed-on}
use Rattle.tree_translation.proofs.MadeNodes.{length-listed, nodes-needed}
use Rattle.tree_translation.proofs.Translating.{DoesRows-root, rows-outcome}
use Rattle.tree_translation.proofs.translation.nodes_for.Goals as goal
use Rattle.tree_translation.proofs.translation.nodes_for.Goals.{After-deref-2, In_ok-layers}

-- the layers are those of the rows
are : (c : In_ok-layers) → AreLayersOf c.args.states c.args.order.now c.args.rows.items c.in_ok-layers.layers.items c.in_ok-layers.numbers.items
are c = rw c.as_slice.ensures.value at (c.in_ok-layers.ensures.layers c.args.states (rw c.as_slice.ensures.value c.requires.below))

-- the tails of all rows give what the rows give
left : (c : After-deref-2) → AreLayersOf c.args.states c.args.order.now c.args.rows.items c.in_ok-layers.layers.items c.in_ok-layers.numbers.items
    → IsLeft c.args.states c.deref.result.now (rows_give c.args.order.now c.args.rows.items) 0 c.deref-2.result.now
left c made =
    let give = rows_give c.args.order.now c.args.rows.items in
    rw (c.deref.ensures.value, c.deref-2.ensures.value) (record {
      beginning = [];
      long = refl;
      below = All-nil (λ s. s < c.args.states);
      same = λ rest long low. sym (rows-outcome c.args.states c.args.order.now c.args.rows.items c.in_ok-layers.layers.items c.in_ok-layers.numbers.items rest made (omega (arith, long, made.depth)));
    })

pub number_of-requires : goal.number_of-requires
number_of-requires c =
    let made = are (goal.at.number_of-requires c).In_ok-layers in
    let room : length c.as_mut_slice.result.now ≡ length c.args.rows.items = search (rules) in
    record {
      fit = rw (c.deref.ensures.value, room) (record { some = c.requires.some; at_most = c.requires.at_most; fit = made.fit; few = made.few });
      tails = rw (c.deref.ensures.value, c.deref-2.ensures.value) (grind (arith, made.depth, c.requires.asked, made.inside));
      clear = rw (c.as_mut_slice.ensures.value, c.in_ok-marks.ensures.items_if_clones_equal (λ y h. h))
          (All-replicate (λ (b : Bool). b ≡ false) c.len.result false refl);
      known = search (rules);
    }

pub returns-in_err-number_of-clause-large : goal.returns-in_err-number_of-clause-large
returns-in_err-number_of-clause-large c =
    let at = goal.at.returns-in_err-number_of-clause-large c in
    let made = are at.In_ok-layers in
    let give = rows_give c.args.order.now c.args.rows.items in
    passed-on c.from_residual-in_err-number_of.result c.in_err-number_of.field-0.0 _ c.from_residual-in_err-number_of.ensures.1
    (λ e. subst (λ depth. NeedStarts c.args.states depth (λ k inputs. give inputs) 1 (node_limit + 1)) (ap length c.deref.ensures.value ∙ made.depth)
    (c.in_err-number_of.ensures.large e give (λ k l. absurd (omega (arith, l))) (left at.After-deref-2 made)))

pub returns-clause-does : goal.returns-clause-does
returns-clause-does c =
    let made = are (goal.at.returns-clause-does c).In_ok-layers in
    let keys : List Node = c.number_of.new.found.nodes.keys in
    let none : c.new-2.result.keys ≡ [] = search (rules) in
    let last : c.in_ok-number_of.field-0 + 1 ≡ length keys = c.in_ok-number_of.ensures.last (rw none (All-nil (λ (x : Node). 0 < x.input))) in
    let root : c.in_ok-number_of.field-0 ≡ length (entries_in keys) - 1 = omega (arith, last, length-listed keys) in
    DoesRows-root c.args.states c.args.order.now c.args.rows.items c.in_ok-layers.layers.items c.in_ok-layers.numbers.items (entries_in keys) made
    (rw (root, c.deref.ensures.value, c.deref-2.ensures.value) at c.in_ok-number_of.ensures.number.does)

pub returns-clause-width : goal.returns-clause-width
returns-clause-width c = λ k d l.
    let keys : List Node = c.number_of.new.found.nodes.keys in
    rw (get_or_default (entries_in keys) k d [] l) (c.in_ok-number_of.ensures.grows.known.nodes.each k (omega (arith, l, length-listed keys))).wide

pub returns-clause-needed : goal.returns-clause-needed
returns-clause-needed c =
    let at = goal.at.returns-clause-needed c in
    let made = are at.In_ok-layers in
    let give = rows_give c.args.order.now c.args.rows.items in
    let grows = c.in_ok-number_of.ensures.grows in
    let keys : List Node = c.number_of.new.found.nodes.keys in
    subst (λ depth. NeedStarts c.args.states depth (λ k inputs. give inputs) 1 (length keys)) (ap length c.deref.ensures.value ∙ made.depth)
    (nodes-needed c.args.states (length c.deref.result.now) give keys grows.known.nodes
    (grows.begun give (λ k l. absurd (omega (arith, l))) (left at.After-deref-2 made)))
