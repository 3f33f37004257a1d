-- Nodes that follow those before them, with one more.
use Rattle.macrocell_lines.proofs.Names.{AreNodes, EachFollows, Follows, List, Node, [], append-nil, append_assoc, arith, length, length-append, subst, sym, ◌++◌, ◌<◌, ◌∷◌}

pub each-push : (front nodes : List Node) (node : Node) → EachFollows front nodes → Follows (front ++ nodes) node → EachFollows front (nodes ++ node ∷ [])
each-push front [] node h k = (subst (λ ns. Follows ns node) (append-nil front) k, tt)
each-push front (n ∷ nodes) node h k =
    (h.0, each-push (front ++ n ∷ []) nodes node h.1 (subst (λ ns. Follows ns node) (sym (append_assoc front (n ∷ []) nodes)) k))

pub nodes-push : (nodes : List Node) (node : Node) → AreNodes nodes → Follows nodes node → length nodes < 16777216 → AreNodes (nodes ++ node ∷ [])
nodes-push nodes node h k room = record {
  few = omega (arith, length-append nodes (node ∷ []));
  each = each-push [] nodes node h.each k;
}
