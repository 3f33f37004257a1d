-- Lines that say a tree say it under other numbers too.
use Rattle.decision_tree.proofs.Names.{BadTree, Described, Descriptor, Err, GivesToo, List, Node, None, NumberedLine, NumbersDoNotMatter, Ok, Option, Result, RuleFault, Some, Tree, TreeHead, [], ap, arith, describe, descriptor_of}
use Rattle.decision_tree.proofs.Names.{head_from, head_of, if_quiescent, last_number, length, map, node_of, nodes_from, ok_or, ok_or-too, option_map, option_map_or, refl, same_value, subst, sym, then_too, tree_from, undescribed, unless-too}
use Rattle.decision_tree.proofs.Names.{with_line, ℕ, ◌++◌, ◌==◌, ◌>>=◌, ◌∙◌, ◌∷◌, ◌≡◌}

abbrev texts : List NumberedLine → List (List ℕ)
texts lines = map (λ line. line.text) lines

-- a head and the lines behind it
abbrev pub Found : Type 0
Found = TreeHead × List NumberedLine

-- what one more descriptor says, on the line of this number
abbrev pub described : ℕ → Descriptor → List ℕ → Described → Result Described RuleFault
described number w value d = ok_or (describe d w value) (BadTree number)

-- the head that follows a line, by the descriptor that the line is
abbrev pub head_by : Described → ℕ → List NumberedLine → (Described → Result Found RuleFault) → Option (Descriptor × List ℕ) → Result Found RuleFault
head_by d number all later o = option_map_or (λ x. described number x.0 x.1 d >>= later) o (ok_or (head_of d) (BadTree number) >>= λ head. Ok (head, all))

-- a head is read from other lines too, and those left say the same
abbrev LeavesToo : TreeHead → List NumberedLine → Result Found RuleFault → Type 0
LeavesToo head left read = (others : List NumberedLine) × (texts left ≡ texts others) × (read ≡ Ok (head, others))

abbrev with_lines : List NumberedLine → Result TreeHead RuleFault → Result Found RuleFault
with_lines lines read = read >>= λ head. Ok (head, lines)

left_all : (o : Option TreeHead) (d e : RuleFault) (lines others : List NumberedLine) (head : TreeHead) (left : List NumberedLine)
    → texts lines ≡ texts others → with_lines lines (ok_or o d) ≡ Ok (head, left) → LeavesToo head left (with_lines others (ok_or o e))
left_all (Some h) d e lines others head left same is =
    let pair = same_value {A = Found} (h, lines) (head, left) is in
    (others, ap (λ (p : Found). texts p.1) (sym pair) ∙ same, ap (λ (p : Found). with_lines others (Ok p.0)) pair)
left_all None d e lines others head left same is = absurd cc

left_later : (r q : Result Described RuleFault) (f g : Described → Result Found RuleFault) (head : TreeHead) (left : List NumberedLine) → GivesToo r q
    → ((d : Described) → f d ≡ Ok (head, left) → LeavesToo head left (g d)) → (r >>= f) ≡ Ok (head, left) → LeavesToo head left (q >>= g)
left_later r q f g head left both later h = grind (arith, both, later)

head_from-too : (last final : ℕ) (lines others : List NumberedLine) (d : Described) (head : TreeHead) (left : List NumberedLine)
    → texts lines ≡ texts others → head_from last d lines ≡ Ok (head, left) → LeavesToo head left (head_from final d others)
head_from-too last final [] others d head left same h = absurd cc
head_from-too last final (line ∷ lines) [] d head left same h = absurd cc
head_from-too last final (line ∷ lines) (other ∷ others) d head left same h =
    let text : line.text ≡ other.text = cc in
    let rest : texts lines ≡ texts others = cc in
    subst (λ t. LeavesToo head left (head_by d other.number (other ∷ others) (λ e. head_from final e others) (descriptor_of t))) text
    (found (descriptor_of line.text) (λ e. head_from-too last final lines others e head left rest) h)
  where
    found : (o : Option (Descriptor × List ℕ)) → ((e : Described) → head_from last e lines ≡ Ok (head, left) → LeavesToo head left (head_from final e others))
        → head_by d line.number (line ∷ lines) (λ e. head_from last e lines) o ≡ Ok (head, left)
        → LeavesToo head left (head_by d other.number (other ∷ others) (λ e. head_from final e others) o)
    found None later k = left_all (head_of d) (BadTree line.number) (BadTree other.number) (line ∷ lines) (other ∷ others) head left same k
    found (Some x) later k =
        left_later (described line.number x.0 x.1 d) (described other.number x.0 x.1 d) (λ e. head_from last e lines) (λ e. head_from final e others) head left
        (ok_or-too (describe d x.0 x.1) _ _) later k

with_line-too : (head : TreeHead) (nodes : List Node) (line other : NumberedLine) → line.text ≡ other.text → GivesToo (with_line head nodes line) (with_line head nodes other)
with_line-too head nodes line other text =
    rw text (ok_or-too (option_map (λ node. nodes ++ node ∷ []) (node_of head nodes other.text)) _ _)

pub nodes_from-too : (last final : ℕ) (head : TreeHead) (lines others : List NumberedLine) (nodes : List Node) → texts lines ≡ texts others → GivesToo (nodes_from last head nodes lines) (nodes_from final head nodes others)
nodes_from-too last final head [] [] nodes same = unless-too (length nodes == head.node_count) (Ok nodes) (Ok nodes) _ _ (λ ns h. h)
nodes_from-too last final head [] (other ∷ others) nodes same = λ ns h. absurd cc
nodes_from-too last final head (line ∷ lines) [] nodes same = λ ns h. absurd cc
nodes_from-too last final head (line ∷ lines) (other ∷ others) nodes same =
    let text : line.text ≡ other.text = cc in
    let rest : texts lines ≡ texts others = cc in
    then_too (with_line head nodes line) (with_line head nodes other) (λ more. nodes_from last head more lines) (λ more. nodes_from final head more others)
    (with_line-too head nodes line other text) (λ more. nodes_from-too last final head lines others more rest)

-- what is read after the head
abbrev pub after_head : ℕ → Found → Result Tree RuleFault
after_head last found = nodes_from last found.0 [] found.1 >>= λ nodes. if_quiescent (tree_from found.0 nodes)

tree-too : (last final : ℕ) (r q : Result Found RuleFault) (tree : Tree) → ((head : TreeHead) (left : List NumberedLine) → r ≡ Ok (head, left) → LeavesToo head left q) → (r >>= after_head last) ≡ Ok tree → (q >>= after_head final) ≡ Ok tree
tree-too last final (Err e) q tree both h = absurd cc
tree-too last final (Ok found) q tree both h =
    let too = both found.0 found.1 refl in
    ap (λ p. p >>= after_head final) too.2
    ∙ then_too (nodes_from last found.0 [] found.1) (nodes_from final found.0 [] too.0) (λ nodes. if_quiescent (tree_from found.0 nodes))
    (λ nodes. if_quiescent (tree_from found.0 nodes)) (nodes_from-too last final found.0 found.1 too.0 [] too.1) (λ nodes t k. k) tree h

pub tree_of-renumbered : NumbersDoNotMatter
tree_of-renumbered section other tree same h =
    let last = last_number section.opened section.lines in
    let final = last_number other.opened other.lines in
    tree-too last final (head_from last undescribed section.lines) (head_from final undescribed other.lines) tree (λ head left read. head_from-too last final section.lines other.lines undescribed head left same read) h

pub ruleset renumbered = (tree_of-renumbered)
