-- The rule that a file means has two states or more and 256 at most.
use Rattle.reply_laws.proofs.Names.{BadTree, Kind, List, NamedRule, None, NumberedLine, Ok, Option, RuleFile, Section, Some, [], arith, file_of, kind_by, kind_of, length, nat_lt, nat_tests, ok_or, option_map_or, rule_of, some-ok, states_of}
use Rattle.reply_laws.proofs.Names.{states_of_kind, subst, then-ok, ℕ, ◌<◌, ◌>>=◌, ◌∷◌, ◌≡◌, ◌≤◌}
use Rattle.rule_file.specs.declared.text.SectionKind.{SectionKind}
use Rattle.rule_file.specs.declared.text.SectionKind.TheVariants as section
use Rattle.table_lines.specs.Lines.{lines_of}
use Rattle.table_lines.proofs.Shared.SaidTables.{lines-read}
use Rattle.table_symmetry.specs.Expanded.{expanded, transition_limit}
use Rattle.table_symmetry.specs.NextState.{is_quiescent}
use Rattle.table_symmetry.specs.Table as table_values
use Rattle.table_symmetry.specs.TableLines.{table_of, within_limits}
use Rattle.table_symmetry.proofs.Shared.SaidTables.{passed}
use Rattle.decision_tree.specs.declared.descriptors.Descriptor.{Descriptor}
use Rattle.decision_tree.specs.declared.descriptors.TreeHead.{TreeHead}
use Rattle.decision_tree.specs.Tree.{Tree}
use Rattle.decision_tree.specs.TreeLines.{Described, describe, descriptor_of, head_from, head_of, if_quiescent, last_number, nodes_from, tree_from, tree_of, undescribed}
use Rattle.rule_tree.specs.declared.rule.Kind.TheVariants.{Table, Tree as TreeKind}

-- some states, and not too many
abbrev pub AreFew : ℕ → Type 0
AreFew n = (0 < n) × (n ≤ 256)

-- what is described so far is of so many
record Describes (d : Described) : Type 0 where
  some : (n : ℕ) → d.states ≡ Some n → 0 < n
  few : (n : ℕ) → d.states ≡ Some n → n ≤ 256

described-few : (d : Described) (x : Descriptor) (value : List ℕ) (e : Described) → Describes d
    → describe d x value ≡ Some e → Describes e
described-few d x value e few h = grind (arith, nat_tests, few.some, few.few)

-- and so is the head of a section
found-few : (last : ℕ) (d : Described) (lines : List NumberedLine) (found : TreeHead × List NumberedLine) → Describes d
    → head_from last d lines ≡ Ok found → AreFew found.0.states
found-few last d [] found few h = absurd cc
found-few last d (line ∷ lines) found few h = by (descriptor_of line.text) h (λ e. found-few last e lines found)
  where
    by : (o : Option (Descriptor × List ℕ))
        → option_map_or (λ x. ok_or (describe d x.0 x.1) (BadTree line.number) >>= λ e. head_from last e lines) o
        (ok_or (head_of d) (BadTree line.number) >>= λ head. Ok (head, line ∷ lines)) ≡ Ok found
        → ((e : Described) → Describes e → head_from last e lines ≡ Ok found → AreFew found.0.states)
        → AreFew found.0.states
    by None ok rest = grind (arith, few.some, few.few)
    by (Some x) ok rest =
        let e = then-ok (ok_or (describe d x.0 x.1) (BadTree line.number)) (λ e. head_from last e lines) found ok in
        rest e.0 (described-few d x.0 x.1 e.0 few (some-ok (describe d x.0 x.1) (BadTree line.number) e.0 e.1)) e.2

-- a tree that a section says
tree_of-few : (section : Section) (tree : Tree) → tree_of section ≡ Ok tree → AreFew tree.states
tree_of-few section tree h =
    let last = last_number section.opened section.lines in
    let found =
    then-ok (head_from last undescribed section.lines)
    (λ f. nodes_from last f.0 [] f.1 >>= λ ns. if_quiescent (tree_from f.0 ns)) tree h in
    let nodes =
    then-ok (nodes_from last found.0.0 [] found.0.1) (λ ns. if_quiescent (tree_from found.0.0 ns)) tree found.2 in
    let few : AreFew found.0.0.states =
    found-few last undescribed section.lines found.0
    (record { some = λ n e. absurd cc; few = λ n e. absurd cc }) found.1 in
    subst (λ (t : Tree). AreFew t.states) (quiet (tree_from found.0.0 nodes.0) tree nodes.2) few
  where
    quiet : (x y : Tree) → if_quiescent x ≡ Ok y → x ≡ y
    quiet x y h = grind arith

-- a table that lines say
table_of-few : (lines : List NumberedLine) (table : table_values.Table) → table_of lines ≡ Ok table
    → AreFew table.states
table_of-few lines table h =
    let said = then-ok (lines_of lines) within_limits table h in
    let t : table_values.Table = said.0 in
    let read = lines-read lines t said.1 in
    let within = passed (nat_lt transition_limit (length (expanded t)))
    (is_quiescent t) t table said.2 in grind (arith)

kind_by-few : (k : SectionKind) (s : Section) (kind : Kind) → kind_by k s ≡ Ok kind → AreFew (states_of_kind kind)
kind_by-few section.Table s kind h =
    let table = then-ok (table_of s.lines) (λ t. Ok (Table t)) kind h in
    grind (arith, table_of-few s.lines table.0 table.1)
kind_by-few section.Tree s kind h =
    let tree = then-ok (tree_of s) (λ t. Ok (TreeKind t)) kind h in grind (arith, tree_of-few s tree.0 tree.1)

pub rule_of-few : (bytes : List ℕ) (rule : NamedRule) → rule_of bytes ≡ Ok rule → AreFew (states_of rule)
rule_of-few bytes rule h =
    let named : RuleFile → Kind → NamedRule = λ file kind. record { name = file.name; kind = kind } in
    let file = then-ok (file_of bytes) (λ file. kind_of file.section >>= λ kind. Ok (named file kind)) rule h in
    let kind = then-ok (kind_of file.0.section) (λ kind. Ok (named file.0 kind)) rule file.2 in
    let is : named file.0 kind.0 ≡ rule = cc in
    subst (λ (r : NamedRule). AreFew (states_of r)) is (kind_by-few file.0.section.kind file.0.section kind.0 kind.1)
