-- Rules that are written.
use Rattle.std.proofs.Common.{◌∙◌, ap, Ok}
use Rattle.basics.specs.Results.{◌>>=◌}
use Rattle.table_lines.proofs.Shared.WrittenFiles as table_files
use Rattle.table_symmetry.proofs.Shared.WrittenTables.{written-means}
use Rattle.decision_tree.proofs.Shared.WrittenFiles as tree_files
use Rattle.decision_tree.proofs.Shared.WrittenTrees as trees
use Rattle.rule_tree.specs.declared.rule.Kind.TheVariants.{Table, Tree}
use Rattle.rule_tree.specs.Laws.{WrittenTablesAreRules, WrittenTreesAreRules}
use Rattle.rule_tree.specs.Rule.{kind_of}

pub tables-rules : WrittenTablesAreRules
tables-rules name sets table named is within =
    ap (λ file. file >>= λ f. kind_of f.section >>= λ kind. Ok (record { name = f.name; kind = kind })) (table_files.written-file name sets table named is)
    ∙ ap (λ read. (read >>= λ t. Ok (Table t)) >>= λ kind. Ok (record { name = name; kind = kind })) (written-means 3 sets table is within)

pub trees-rules : WrittenTreesAreRules
trees-rules name head nodes named limits are quiet =
    ap (λ file. file >>= λ f. kind_of f.section >>= λ kind. Ok (record { name = f.name; kind = kind })) (tree_files.written-file name head nodes named limits are)
    ∙ ap (λ read. (read >>= λ t. Ok (Tree t)) >>= λ kind. Ok (record { name = name; kind = kind })) (trees.written-means 2 head nodes limits are quiet)
