-- The rule that a file means is sound.
use Rattle.std.proofs.Common.{◌≡◌, ℕ, true, List, Ok, subst}
use Rattle.basics.specs.Results.{◌>>=◌}
use Rattle.rule_file.specs.declared.text.SectionKind.{SectionKind}
use Rattle.rule_file.specs.declared.text.SectionKind.TheVariants as section
use Rattle.rule_file.proofs.Shared.Readings.{then-ok}
use Rattle.rule_file.specs.RuleFile.{RuleFile, Section, file_of}
use Rattle.table_symmetry.specs.TableLines.{table_of}
use Rattle.table_symmetry.proofs.Shared.SaidTables.{table_of-sound}
use Rattle.decision_tree.specs.TreeLines.{tree_of}
use Rattle.decision_tree.proofs.Shared.SaidNodes.{section-sound}
use Rattle.rule_tree.specs.declared.rule.Kind.{Kind}
use Rattle.rule_tree.specs.declared.rule.Kind.TheVariants.{Table, Tree}
use Rattle.rule_tree.specs.NamedRule.{NamedRule}
use Rattle.rule_tree.specs.Rule.{is_sound, kind_by, kind_of, next_of, plain_next, rule_of}
use Rattle.rule_tree.specs.RuleLaws.{next_of-plain}

-- the table or tree that a section says is one that a file may have
kind_by-sound : (k : SectionKind) (s : Section) (kind : Kind) → kind_by k s ≡ Ok kind → is_sound kind ≡ true
kind_by-sound section.Table s kind h =
    let table = then-ok (table_of s.lines) (λ t. Ok (Table t)) kind h in
    let is : Table table.0 ≡ kind = cc in
    subst (λ k. is_sound k ≡ true) is (table_of-sound s.lines table.0 table.1)
kind_by-sound section.Tree s kind h =
    let tree = then-ok (tree_of s) (λ t. Ok (Tree t)) kind h in
    let is : Tree tree.0 ≡ kind = cc in
    subst (λ k. is_sound k ≡ true) is (section-sound s tree.0 tree.1)

pub kind_of-sound : (s : Section) (kind : Kind) → kind_of s ≡ Ok kind → is_sound kind ≡ true
kind_of-sound s kind h = kind_by-sound s.kind s kind h

pub rule_of-plain : (bytes : List ℕ) (rule : NamedRule) → rule_of bytes ≡ Ok rule → next_of rule ≡ plain_next rule.kind
rule_of-plain bytes rule h =
    let named : RuleFile → Kind → NamedRule = λ file kind. record { name = file.name; kind = kind } in
    let file = then-ok (file_of bytes) (λ file. kind_of file.section >>= λ kind. Ok (named file kind)) rule h in
    let kind = then-ok (kind_of file.0.section) (λ kind. Ok (named file.0 kind)) rule file.2 in
    let is : named file.0 kind.0 ≡ rule = cc in
    next_of-plain rule (subst (λ (r : NamedRule). is_sound r.kind ≡ true) is (kind_of-sound file.0.section kind.0 kind.1))
