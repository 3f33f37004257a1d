-- Texts that say the same mean the same rule.
use Rattle.std.proofs.Common.{◌≡◌, ℕ, List, map, Result, Ok, ap, subst, sym, ◌∙◌}
use Rattle.basics.specs.Results.{◌>>=◌}
use Rattle.rule_file.specs.declared.fault.RuleFault.{RuleFault}
use Rattle.rule_file.specs.declared.text.SectionKind.{SectionKind}
use Rattle.rule_file.specs.declared.text.SectionKind.TheVariants as section
use Rattle.rule_file.specs.Laws.{Saying, saying, saying_of}
use Rattle.rule_file.specs.RuleFile.{NumberedLine, RuleFile, Section, file_of}
use Rattle.rule_file.proofs.Shared.Readings.{same_value, then-ok}
use Rattle.table_lines.specs.Lines.{lines_of}
use Rattle.table_lines.proofs.Shared.Renumbered.{lines_of-renumbered}
use Rattle.table_symmetry.specs.Table as table_values
use Rattle.table_symmetry.specs.TableLines.{table_of, within_limits}
use Rattle.decision_tree.specs.TreeLines.{tree_of}
use Rattle.decision_tree.proofs.Shared.Renumbered.{tree_of-renumbered}
use Rattle.rule_tree.specs.declared.rule.Kind.{Kind}
use Rattle.rule_tree.specs.declared.rule.Kind.TheVariants.{Table, Tree}
use Rattle.rule_tree.specs.Laws.{RulesAreWhatIsSaid}
use Rattle.rule_tree.specs.NamedRule.{NamedRule}
use Rattle.rule_tree.specs.Rule.{kind_by, kind_of}

abbrev texts : List NumberedLine → List (List ℕ)
texts lines = map (λ line. line.text) lines

table_of-renumbered : (lines others : List NumberedLine) (table : table_values.Table) → texts lines ≡ texts others → table_of lines ≡ Ok table → table_of others ≡ Ok table
table_of-renumbered lines others table same h =
    let read = then-ok (lines_of lines) within_limits table h in
    ap (λ p. p >>= within_limits) (lines_of-renumbered lines others read.0 same read.1) ∙ read.2

-- sections of one kind whose lines say the same mean the same
kind_by-same : (k : SectionKind) (s t : Section) (kind : Kind) → texts s.lines ≡ texts t.lines → kind_by k s ≡ Ok kind → kind_by k t ≡ Ok kind
kind_by-same section.Table s t kind same h =
    let read = then-ok (table_of s.lines) (λ x. Ok (Table x)) kind h in
    ap (λ p. p >>= λ x. Ok (Table x)) (table_of-renumbered s.lines t.lines read.0 same read.1) ∙ read.2
kind_by-same section.Tree s t kind same h =
    let read = then-ok (tree_of s) (λ x. Ok (Tree x)) kind h in
    ap (λ p. p >>= λ x. Ok (Tree x)) (tree_of-renumbered s t read.0 same read.1) ∙ read.2

kind_of-same : (s t : Section) (kind : Kind) → s.kind ≡ t.kind → texts s.lines ≡ texts t.lines → kind_of s ≡ Ok kind → kind_of t ≡ Ok kind
kind_of-same s t kind alike same h = subst (λ k. kind_by k t ≡ Ok kind) alike (kind_by-same s.kind s t kind same h)

abbrev named : RuleFile → Kind → NamedRule
named file kind = record { name = file.name; kind = kind }

abbrev named_as : List ℕ → Kind → Result NamedRule RuleFault
named_as name kind = Ok (record { name = name; kind = kind })

-- the rule of a file
abbrev rule_in : RuleFile → Result NamedRule RuleFault
rule_in file = kind_of file.section >>= λ kind. Ok (named file kind)

rule_in-same : (file other : RuleFile) (rule : NamedRule) → saying file ≡ saying other → rule_in file ≡ Ok rule → rule_in other ≡ Ok rule
rule_in-same file other rule same h =
    let read = then-ok (kind_of file.section) (λ kind. Ok (named file kind)) rule h in
    let kind = kind_of-same file.section other.section read.0 (ap (λ (s : Saying). s.kind) same) (ap (λ (s : Saying). s.lines) same) read.1 in
    ap (λ p. p >>= λ kind. Ok (named other kind)) kind
    ∙ ap (λ (s : Saying). named_as s.name read.0) (sym same)
    ∙ read.2

pub rules-said : RulesAreWhatIsSaid
rules-said text other rule same h =
    let file = then-ok (file_of text) rule_in rule h in
    let says : saying_of other ≡ Ok (saying file.0) = sym same ∙ ap (λ p. p >>= λ f. Ok (saying f)) file.1 in
    let found = then-ok (file_of other) (λ f. Ok (saying f)) (saying file.0) says in
    ap (λ p. p >>= rule_in) found.1
    ∙ rule_in-same file.0 found.0 rule (sym (same_value {A = Saying} (saying found.0) (saying file.0) found.2)) file.2
