-- Lists of tails and the nodes that do what they do.
use Rattle.tree_translation.proofs.Names.{All, All-append, All-cons, All-nil, All-push, All-tail, AllPass-from_list_all, AreBegun, AreEntries, AreFit, AreNodes, AreTailsAt, Bool, Does, Fit, NodeTable, GrowsNodes, IsBegun, IsDistinct, IsEntry}
use Rattle.tree_translation.proofs.Names.{IsFull, IsGrownBy, IsLayer, IsLeft, IsNode, IsNumberOf, IsStored, Layer, LeftOf, List, Listed, NeedStarts, NeedsTooMany, Node, Some, Start, StartsApart, [], add-one, and_from, and_parts, ap}
use Rattle.tree_translation.proofs.Names.{append-nil, append_assoc, arith, below_more, bytes_eq-Decides, cases_eq, cases_order, common_steps, cond, drop, drop_more, elements, entries_in, eq-eqb, eqb-true, false, follow, get_or-map}
use Rattle.tree_translation.proofs.Names.{get_or_default, inl, input_at, inr, length, length-append, length-drop, length-map, list_all-from_AllPass, list_any, map-append, nat_lt, nat_tests, node_at, node_limit, outcome, position_or_len}
use Rattle.tree_translation.proofs.Names.{refl, same_listed, same_node, slice_index, slice_index_or, start_at, subst, suc, sym, true, zero, ℕ, ◌++◌, ◌+◌, ◌-◌, ◌<◌, ◌∙◌, ◌∷◌, ◌≡◌, ◌≢◌, ◌≤◌}
use Rattle.std.specs.HashMap.{get}
use Rattle.std.proofs.lemmas.Map.Keys.{apart_from_distinct}
use Rattle.decision_tree.specs.Entry.{entry_range}
use Rattle.tree_translation.proofs.Apart.{DifferAt, different-at}
use Rattle.tree_translation.proofs.NodeLists.{each-push}
use Rattle.tree_translation.proofs.Doing.{Does-append, Does-branch, Does-leaf, leaves-below, outcome-left}

-- nodes that differ in their numbers differ in their inputs or entries
listed-apart : (nodes : List Node) → IsDistinct same_node nodes → (i j : ℕ) → i < j → j < length nodes → input_at nodes i ≡ input_at nodes j → node_at (entries_in nodes) i ≢ node_at (entries_in nodes) j
listed-apart nodes distinct i j l m inputs entries =
    grind (arith, common_steps, inputs, entries, apart_from_distinct same_node nodes i j (record { input = 0; entries = [] }) distinct l m, bytes_eq-Decides, eq-eqb, and_from)

-- what is followed from two nodes differs behind some rest
pub record FollowsDiffer (states depth : ℕ) (nodes : List Node) (i j : ℕ) : Type 0 where
  pub rest : List ℕ
  pub below : All (λ s. s < states) rest
  pub long : input_at nodes i + length rest ≡ depth
  pub differ : follow (entries_in nodes) i rest ≢ follow (entries_in nodes) j rest

module _ (states depth : ℕ) (nodes : List Node) (are : AreNodes states depth nodes) where
  -- two nodes of an input have a place where their entries differ
  entries-differ : (i j : ℕ) → i < length nodes → j < length nodes → i ≢ j → input_at nodes i ≡ input_at nodes j
      → DifferAt (node_at (entries_in nodes) i) (node_at (entries_in nodes) j)
  entries-differ i j l m other same =
      different-at (node_at (entries_in nodes) i) (node_at (entries_in nodes) j) ((are.each i l).wide ∙ sym (are.each j m).wide)
      (λ e. grind (arith, listed-apart nodes are.apart i j, listed-apart nodes are.apart j i, cases_order i j))

  -- two nodes of an input
  follow-apart : (left i j : ℕ) → i < length nodes → j < length nodes → i ≢ j → input_at nodes i ≡ input_at nodes j → input_at nodes i + suc left ≡ depth → FollowsDiffer states depth nodes i j
  follow-apart zero i j l m other same deep =
      let at = entries-differ i j l m other same in
      record { rest = at.place ∷ []; below = grind (arith, elements, at.inside, (are.each i l).wide); long = deep; differ = at.differ }
  follow-apart (suc left) i j l m other same deep =
      let one = are.each i l in
      let two = are.each j m in
      let at = entries-differ i j l m other same in
      let under : at.place < states = omega (arith, at.inside, one.wide) in
      let more : input_at nodes i + 1 < depth = omega (arith, deep) in
      let more_too : input_at nodes j + 1 < depth = omega (arith, deep, same) in
      let down = one.down at.place under more in
      let first = slice_index (node_at (entries_in nodes) i) at.place in
      let second = slice_index (node_at (entries_in nodes) j) at.place in
      let equal : input_at nodes first ≡ input_at nodes second = omega (arith, same, down, two.down at.place under more_too) in
      let later = follow-apart left first second (one.inside at.place under more) (two.inside at.place under more_too) at.differ equal (omega (arith, down, deep)) in
      record {
        rest = at.place ∷ later.rest;
        below = All-cons (λ s. s < states) at.place later.rest under later.below;
        long = omega (arith, later.long, down);
        differ = later.differ;
      }

  -- what is followed from a node stays where more nodes come
  follow-before : (more : List Node) (k : ℕ) (rest : List ℕ) → k < length nodes → input_at nodes k + length rest ≡ depth → All (λ s. s < states) rest
      → follow (entries_in (nodes ++ more)) k rest ≡ follow (entries_in nodes) k rest
  follow-before more k [] l long low = refl
  follow-before more k (s ∷ []) l long low = grind (arith, common_steps, map-append)
  follow-before more k (s ∷ t ∷ rest) l long low =
      let node = are.each k l in
      let under : s < states = low 0 s (omega arith) in
      let deeper : input_at nodes k + 1 < depth = omega (arith, long) in
      let entry = slice_index (node_at (entries_in nodes) k) s in
      grind (
        arith,
        common_steps,
        map-append,
        follow-before more entry (t ∷ rest) (node.inside s under deeper) (omega (arith, node.down s under deeper, long))
            (All-tail (λ s. s < states) s (t ∷ rest) low),
      )

  -- where more nodes come, a node still does what begins there
  IsBegun-append : (give : List ℕ → ℕ) (more : List Node) (k : ℕ) → k < length nodes → IsBegun states depth give nodes k → IsBegun states depth give (nodes ++ more) k
  IsBegun-append give more k l begun = record {
    beginning = begun.beginning;
    long = grind (arith, common_steps, map-append, begun.long);
    below = begun.below;
    same = λ rest long low. grind (arith, common_steps, map-append, begun.same rest, follow-before more k rest l);
  }

  -- they stay nodes where one more of its input comes
  AreNodes-push : (node : Node) → IsNode states depth nodes node.input node.entries → IsDistinct same_node (nodes ++ node ∷ [])
      → AreNodes states depth (nodes ++ node ∷ [])
  AreNodes-push node is apart = grind (arith, common_steps, map-append)

-- starts with what holds of each
gather : (count : ℕ) (P : ℕ → Start → Type 0) → ((k : ℕ) → k < count → (s : Start) × P k s) → (starts : List Start) × (length starts ≡ count) × ((k : ℕ) → k < count → P k (start_at starts k))
gather zero P f = ([], refl, λ k l. absurd (omega (arith, l)))
gather (suc count) P f =
    let before = gather count P (λ k l. f k (omega (arith, l))) in
    let last = f count (omega arith) in
    (before.0 ++ last.0 ∷ [], grind (arith, common_steps, before.1), λ k l. each-push _ P before.0 last.0 count before.1 before.2 last.1 k (omega (arith, l)))

module _ (states depth : ℕ) (give : List ℕ → ℕ) (nodes : List Node) (are : AreNodes states depth nodes) (begun : AreBegun states depth give nodes) where
  abbrev StartsAt : ℕ → Start → Type 0
  StartsAt k start = (begun : IsBegun states depth give nodes k) × (start ≡ record { number = 0; inputs = begun.beginning })

  apart : (i j : ℕ) → i < j → j < length nodes → i < length nodes → (one : IsBegun states depth give nodes i) → (two : IsBegun states depth give nodes j)
      → StartsApart states depth (λ k inputs. give inputs) (record { number = 0; inputs = one.beginning }) (record { number = 0; inputs = two.beginning })
  apart i j less l m one two = elim (cases_eq (input_at nodes i) (input_at nodes j)) [
    | inr other ↦ inl (λ same. other (sym one.long ∙ same ∙ two.long))
    | inl same ↦
        let early = (are.each i m).early in
        let differ = follow-apart states depth nodes are (depth - input_at nodes i - 1) i j m l (λ e. absurd (omega (arith, e, less))) same (omega (arith, early)) in
        let long : input_at nodes j + length differ.rest ≡ depth = omega (arith, differ.long, same) in
        inr (record {
          rest = differ.rest;
          below = differ.below;
          long = length-append one.beginning differ.rest ∙ omega (arith, one.long, differ.long);
          other_long = length-append two.beginning differ.rest ∙ omega (arith, two.long, long);
          differ = λ e. differ.differ (sym (one.same differ.rest differ.long differ.below) ∙ e ∙ two.same differ.rest long differ.below);
        })
  ]

  -- different nodes that begin somewhere are all needed
  pub nodes-needed : NeedStarts states depth (λ k inputs. give inputs) 1 (length nodes)
  nodes-needed =
      let all = gather (length nodes) StartsAt (λ k l. (record { number = 0; inputs = (begun k l).beginning }, (begun k l, refl))) in
      record {
        starts = all.0;
        many = all.1;
        are = λ k l.
            let one : StartsAt k (start_at all.0 k) = all.2 k l in
            rw one.1 (record { there = omega arith; below = one.0.below; short = omega (arith, one.0.long, (are.each k l).early) });
        apart = λ i j less l.
            let one : StartsAt i (start_at all.0 i) = all.2 i (omega (arith, less, l)) in
            let two : StartsAt j (start_at all.0 j) = all.2 j l in
            rw (one.1, two.1) (apart i j less l (omega (arith, less, l)) one.0 two.0);
      }

-- more nodes change nothing of those before
module _ (nodes more : List Node) where
  pub IsNumberOf-append : (states : ℕ) (layers : List Layer) (input : ℕ) (list : List ℕ) (number : ℕ) → 0 < states → IsNumberOf states layers nodes input list number → IsNumberOf states layers (nodes ++ more) input list number
  IsNumberOf-append states layers input list number some is =
      grind (arith, common_steps, map-append, is.inside, is.at, Does-append states (drop input layers) (entries_in nodes) (entries_in more) list number some is.does)

  pub IsEntry-append : (states : ℕ) (layers : List Layer) (input : ℕ) (list : List ℕ) (s number : ℕ) → 0 < states → IsEntry states layers nodes input list s number → IsEntry states layers (nodes ++ more) input list s number
  IsEntry-append states layers input list s number some is =
      record { left = is.left; is = is.is; number_of = IsNumberOf-append states layers (input + 1) is.left number some is.number_of }

  AreEntries-append : (states : ℕ) (layers : List Layer) (input : ℕ) (list entries : List ℕ) → 0 < states → AreEntries states layers nodes input list entries → AreEntries states layers (nodes ++ more) input list entries
  AreEntries-append states layers input list entries some are =
      record { width = are.width; leaves = are.leaves; each = λ m s l. IsEntry-append states layers input list s (slice_index entries s) some (are.each m s l) }

-- a node that does what a list does begins where the list is left
IsBegun-left : (states : ℕ) (layers : List Layer) (nodes : List Node) (input : ℕ) (list : List ℕ) (number : ℕ) (give : List ℕ → ℕ)
    → IsLeft states layers give input list → IsNumberOf states layers nodes input list number → IsBegun states (length layers) give nodes number
IsBegun-left states layers nodes input list number give left is = record {
  beginning = left.beginning;
  long = left.long ∙ sym is.at;
  below = left.below;
  same = λ rest long low.
      let tested = list_all-from_AllPass (λ s. nat_lt s states) rest (λ k d l. grind (arith, nat_tests, low k d l)) in
      grind (arith, common_steps, left.same rest, is.does.follows rest, tested, is.at);
}

-- layers fit from each on
fit-drop : (states : ℕ) (layers : List Layer) (input : ℕ) → Fit states layers → Fit states (drop input layers)
fit-drop states layers zero fit = fit
fit-drop states [] (suc input) fit = tt
fit-drop states (layer ∷ layers) (suc input) fit = fit-drop states layers input fit.1

-- layers from an input on: the first is the layer there, and those behind it come from the next input on
module _ (layers : List Layer) (input : ℕ) (here : Layer) (behind : List Layer) (from : drop input layers ≡ here ∷ behind) where
  layer-here : slice_index_or layers input here ≡ here
  layer-here = grind (arith, common_steps)

  layers-behind : drop (input + 1) layers ≡ behind
  layers-behind = grind (arith, common_steps, drop_more layers input here)

  many-behind : input < length layers → length layers ≡ input + 1 + length behind
  many-behind there = omega (arith, length-drop input layers, ap length from)

-- the number of a node of these entries, which does what the list does
number-made : (states : ℕ) (layers : List Layer) (nodes : List Node) (node : Node) (input : ℕ) (list : List ℕ) (number : ℕ) → Fit states layers
    → AreTailsAt layers input list → node.input ≡ input → AreEntries states layers nodes input list node.entries → IsStored nodes node number
    → IsNumberOf states layers nodes input list number
number-made states layers nodes node input list number fit tails same are stored =
    record { inside = stored.inside; at = stored.input ∙ same; does = by (drop input layers) refl }
  where
    by : (ls : List Layer) → drop input layers ≡ ls → Does states ls (entries_in nodes) list number
    by [] from = absurd (omega (arith, length-drop input layers, ap length from, tails.there))
    by (here ∷ []) from =
        let last : input + 1 ≡ length layers = omega (arith, many-behind layers input here [] from tails.there) in
        let known = layer-here layers input here [] from in
        Does-leaf states here (entries_in nodes) list node.entries number (rw from at (fit-drop states layers input fit)).0 (rw known at (tails.inside here))
        (rw known at (are.leaves last here)) stored.entries
    by (here ∷ next ∷ deeper) from =
        let more : input + 1 < length layers = omega (arith, many-behind layers input here (next ∷ deeper) from tails.there) in
        Does-branch states here next deeper (entries_in nodes) list node.entries number are.width
        (λ s l. let one = are.each more s l in record {
          left = one.left;
          is = rw (layer-here layers input here (next ∷ deeper) from) at (one.is here);
          does = rw (layers-behind layers input here (next ∷ deeper) from) at one.number_of.does;
        }) stored.entries

module _ (states : ℕ) (layers : List Layer) (input : ℕ) (list left : List ℕ) (s : ℕ) (old mid : NodeTable) (deep : input + 1 < length layers) (under : s < states)
    (is : (d : Layer) → LeftOf (slice_index_or layers input d) s list left) (first : GrowsNodes states layers input (input + 1) list old mid) where
  outcome-behind : (ls : List Layer) → drop input layers ≡ ls → (rest : List ℕ) → input + 1 + length rest ≡ length layers
      → outcome (drop input layers) list (s ∷ rest) ≡ outcome (drop (input + 1) layers) left rest
  outcome-behind (here ∷ next ∷ deeper) from rest long =
      let many = many-behind layers input here (next ∷ deeper) from (omega (arith, deep)) in
      rw (layers-behind layers input here (next ∷ deeper) from, from)
      (sym (outcome-left here next deeper list left s rest (omega (arith, long, many)) (rw (layer-here layers input here (next ∷ deeper) from) at (is here))))
  outcome-behind ls from rest long = absurd (omega (arith, deep, length-drop input layers, ap length from))

  -- behind a state a list of tails is left
  IsLeft-behind : (give : List ℕ → ℕ) → IsLeft states layers give input list → IsLeft states layers give (input + 1) left
  IsLeft-behind give before = record {
    beginning = before.beginning ++ s ∷ [];
    long = length-append before.beginning (s ∷ []) ∙ omega (arith, before.long);
    below = All-push (λ t. t < states) before.beginning s before.below under;
    same = λ rest long low.
        ap give (append_assoc before.beginning (s ∷ []) rest)
        ∙ before.same (s ∷ rest) (omega (arith, long)) (All-cons (λ t. t < states) s rest under low)
        ∙ outcome-behind (drop input layers) refl rest (omega (arith, long));
  }

  -- what came for the lists behind earlier states, and then for the one behind this state
  pub Grows-behind : (new : NodeTable) → GrowsNodes states layers (input + 1) (input + 1) left mid new → GrowsNodes states layers input (input + 1) list old new
  Grows-behind new second = record {
    known = second.known;
    more = first.more ++ second.more;
    joined = second.joined ∙ ap (λ xs. xs ++ second.more) first.joined ∙ append_assoc old.nodes.keys first.more second.more;
    late = All-append (λ (node : Node). input + 1 ≤ node.input) first.more second.more first.late second.late;
    begun = λ give begun before. second.begun give (first.begun give begun before) (IsLeft-behind give before);
  }

  -- too many are needed behind a state: then they are needed
  pub NeedsTooMany-behind : NeedsTooMany states layers (input + 1) left mid → NeedsTooMany states layers input list old
  NeedsTooMany-behind large give begun before = large give (first.begun give begun before) (IsLeft-behind give before)

-- no node of this input is among nodes of later inputs
pub is-later : (nodes : List Node) (input number : ℕ) → All (λ (x : Node). input < x.input) nodes → number < length nodes → input_at nodes number ≡ input → ⊥
is-later nodes input number later inside at =
    let node : Node = record { input = 0; entries = [] } in
    omega (arith, at, get_or-map (λ (n : Node). n.input) nodes number node 0 inside, later number node inside)

-- what comes with the node that a list gets
pub record IsMade (states : ℕ) (layers : List Layer) (input : ℕ) (list : List ℕ) (old new : NodeTable) (number : ℕ) : Type 0 where
  pub numbered : IsNumberOf states layers new.nodes.keys input list number
  pub grows : GrowsNodes states layers input input list old new
  pub last : All (λ (n : Node). input < n.input) old.nodes.keys → number + 1 ≡ length new.nodes.keys

module _ (states : ℕ) (layers : List Layer) (room input : ℕ) (list : List ℕ) (old mid : NodeTable) (node : Node) (fit : AreFit states layers room)
    (tails : AreTailsAt layers input list) (grown : GrowsNodes states layers input (input + 1) list old mid)
    (are : AreEntries states layers mid.nodes.keys input list node.entries) (same : node.input ≡ input) where
  abbrev before : List Node
  before = mid.nodes.keys

  abbrev after : List Node
  after = mid.nodes.keys ++ node ∷ []

  some : 0 < states
  some = omega (arith, fit.some)

  -- the node is one of its input
  is-node : IsNode states (length layers) before node.input node.entries
  is-node = grind (arith, are.width, are.each, tails.there, same)

  nodes-with : IsDistinct same_node after → AreNodes states (length layers) after
  nodes-with apart = AreNodes-push states (length layers) before grown.known.nodes node is-node apart

  begun-with : (give : List ℕ → ℕ) → AreBegun states (length layers) give old.nodes.keys → IsLeft states layers give input list → AreBegun states (length layers) give after
  begun-with give begun left k l =
      below_more (IsBegun states (length layers) give after) (length before)
      (λ m h. IsBegun-append states (length layers) before grown.known.nodes give (node ∷ []) m h (grown.begun give begun left m h))
      (IsBegun-left states layers after input list (length before) give left (number-made states layers after node input list (length before) fit.fit tails same
      (AreEntries-append before (node ∷ []) states layers input list node.entries some are) (grind (arith, common_steps, map-append))))
      k (omega (arith, l, length-append before (node ∷ [])))

  -- where no more nodes may come, too many are needed
  pub too-many : IsFull mid.nodes.keys node → NeedsTooMany states layers input list old
  too-many full give begun left =
      subst (NeedStarts states (length layers) (λ k inputs. give inputs) 1) (length-append before (node ∷ []) ∙ omega (arith, full.all))
      (nodes-needed states (length layers) give after (nodes-with full.apart) (begun-with give begun left))

  module _ (new : NodeTable) (number : ℕ) (key : Listed) (key_input : key.input ≡ input) (key_list : key.numbers.items ≡ list)
      (stored : IsStored new.nodes.keys node number) (put : IsGrownBy mid.nodes.keys node new.nodes.keys)
      (apart : IsDistinct same_node new.nodes.keys) (few : length new.nodes.keys ≤ node_limit)
      (numbers : (q : Listed) → get same_listed new.numbers q ≡ cond (same_listed key q) (Some number) (get same_listed mid.numbers q)) where
    -- what the node brings
    record Brings : Type 0 where
      more : List Node
      joined : new.nodes.keys ≡ before ++ more
      late : All (λ (n : Node). input ≤ n.input) more
      nodes : AreNodes states (length layers) new.nodes.keys
      begun : (give : List ℕ → ℕ) → AreBegun states (length layers) give old.nodes.keys → IsLeft states layers give input list → AreBegun states (length layers) give new.nodes.keys

    brings : IsGrownBy mid.nodes.keys node new.nodes.keys → Brings
    brings (inl e) = record {
      more = [];
      joined = e ∙ sym (append-nil before);
      late = All-nil (λ (n : Node). input ≤ n.input);
      nodes = rw e grown.known.nodes;
      begun = λ give begun left. rw e (grown.begun give begun left);
    }
    brings (inr e) = record {
      more = node ∷ [];
      joined = e;
      late = grind (arith, elements, same);
      nodes = rw e (nodes-with (rw e at apart));
      begun = λ give begun left. rw e (begun-with give begun left);
    }

    brought : Brings
    brought = brings put

    made-number : IsNumberOf states layers new.nodes.keys input list number
    made-number = number-made states layers new.nodes.keys node input list number fit.fit tails same
        (rw brought.joined (AreEntries-append before brought.more states layers input list node.entries some are)) stored

    remembers : (q : Listed) (n : ℕ) → get same_listed new.numbers q ≡ Some n → IsNumberOf states layers new.nodes.keys q.input q.numbers.items n
    remembers q n is =
        let old = λ (h : get same_listed mid.numbers q ≡ Some n). IsNumberOf-append before brought.more states layers q.input q.numbers.items n some (grown.known.numbers q n h) in
        grind (arith, numbers q, is, eqb-true, and_parts, bytes_eq-Decides, key_input, key_list, made-number, old, brought.joined)

    -- where no node is of this input yet, it is the last
    made-last : IsGrownBy mid.nodes.keys node new.nodes.keys → All (λ (n : Node). input < n.input) old.nodes.keys → number + 1 ≡ length new.nodes.keys
    made-last is later =
        let beyond : All (λ (n : Node). input < n.input) before = grind (arith, elements, later, grown.late, grown.joined) in
        let none = is-later before input number beyond in
        grind (arith, common_steps, map-append, none, is, stored.inside, stored.input, same)

    pub made : IsMade states layers input list old new number
    made = record {
      numbered = made-number;
      grows = record {
        known = record { few = few; nodes = brought.nodes; numbers = remembers };
        more = grown.more ++ brought.more;
        joined = brought.joined ∙ ap (λ xs. xs ++ brought.more) grown.joined ∙ append_assoc old.nodes.keys grown.more brought.more;
        late = grind (arith, elements, grown.late, brought.late);
        begun = brought.begun;
      };
      last = made-last put;
    }

-- where no element passes a test, the place of the first that does is behind them all
pub position_none : {X : Type 0} (p : X → Bool) (xs : List X) → list_any p xs ≡ false → position_or_len p xs ≡ length xs
position_none p [] none = refl
position_none p (x ∷ xs) none = grind (arith, position_none p xs)

-- where a node's entries stand
pub listed-at : (nodes : List Node) (k : ℕ) (d : Node) → k < length nodes → node_at (entries_in nodes) k ≡ (slice_index_or nodes k d).entries
listed-at nodes k d l = get_or-map (λ (n : Node). n.entries) nodes k d [] l

pub length-listed : (nodes : List Node) → length (entries_in nodes) ≡ length nodes
length-listed nodes = length-map nodes (λ (n : Node). n.entries)

-- the last layer leaves states
pub layer-last : (states : ℕ) (layers : List Layer) (input : ℕ) (d : Layer) → Fit states layers → input + 1 ≡ length layers → IsLayer (slice_index_or layers input d) states
layer-last states (layer ∷ []) zero d fit last = fit.0
layer-last states (layer ∷ layers) (suc input) d fit last = layer-last states layers input d fit.1 (omega (arith, last))
layer-last states layers input d fit last = absurd (omega (arith, last))

-- the entries of a node are small numbers: they are states, or the numbers of nodes
pub entries-small : (states : ℕ) (layers : List Layer) (room : ℕ) (nodes : List Node) (input : ℕ) (list entries : List ℕ) → AreFit states layers room
    → AreTailsAt layers input list → length nodes ≤ node_limit → AreEntries states layers nodes input list entries → All (λ n. n < entry_range) entries
entries-small states [] room nodes input list entries fit tails few are = absurd (omega (arith, tails.there))
entries-small states (first ∷ others) room nodes input list entries fit tails few are = λ k d l.
    let layers = first ∷ others in
    elim (cases_eq (input + 1) (length layers)) [
      | inl last ↦
          let leaves = leaves-below states (slice_index_or layers input first) list entries (layer-last states layers input first fit.fit last) (tails.inside first) (are.leaves last first) in
          let low : nat_lt (slice_index_or entries k d) states ≡ true = AllPass-from_list_all (λ s. nat_lt s states) entries leaves k d l in
          grind (arith, nat_tests, low, fit.at_most)
      | inr other ↦
          let one = (are.each (omega (arith, other, tails.there)) k (omega (arith, l, are.width))).number_of in
          omega (arith, get_or_default entries k d 0 l, one.inside, few)
    ]

-- any other leaves tails of the next
pub layer-before : (states : ℕ) (layers : List Layer) (input : ℕ) (d e : Layer) → Fit states layers → input + 1 < length layers → IsLayer (slice_index_or layers input d) (length (slice_index_or layers (input + 1) e).tails.items)
layer-before states (layer ∷ next ∷ layers) zero d e fit more = fit.0
layer-before states (layer ∷ next ∷ layers) (suc input) d e fit more = rw (add-one (suc input)) (rw (add-one input) at (layer-before states (next ∷ layers) input d e fit.1 (omega (arith, more))))
layer-before states layers input d e fit more = absurd (omega (arith, more))

-- for which there is room
pub layer-room : (states : ℕ) (layers : List Layer) (room input : ℕ) (d : Layer) → AreFit states layers room → input + 1 < length layers → IsLayer (slice_index_or layers input d) room
layer-room states layers room input d fit more = grind (arith, elements, layer-before states layers input d d fit.fit more, fit.few (input + 1) d more)
