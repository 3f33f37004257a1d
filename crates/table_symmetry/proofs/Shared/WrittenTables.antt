-- Tables within the limits that are written.
use Rattle.table_symmetry.proofs.Names.{Ok, Table, ap, expanded, is_quiescent, length, lines_of, nat_lt, subst, then-ok, transition_limit, within_limits, ◌∙◌, ◌≡◌}
use Rattle.basics.specs.Results.{◌>>=◌}
use Rattle.table_lines.specs.WrittenTable.{IsTableOf}
use Rattle.table_lines.proofs.Shared.WrittenSets.{said-written}
use Rattle.table_lines.proofs.Shared.WrittenTables.{written-read}
use Rattle.table_symmetry.specs.Laws.{TablesOfFilesAreWritten, WrittenMeansTheSame}
use Rattle.table_symmetry.proofs.Shared.SaidTables.{passed}

pub written-means : WrittenMeansTheSame
written-means number sets table is within = ap (λ read. read >>= within_limits) (written-read number sets table is) ∙ within

pub table_of_written : TablesOfFilesAreWritten
table_of_written lines table short h =
    let said = then-ok (lines_of lines) within_limits table h in
    let t : Table = said.0 in
    let same = (passed (nat_lt transition_limit (length (expanded t))) (is_quiescent t) t table said.2).1 in
    let written = said-written lines t short said.1 in
    (written.0, subst (IsTableOf written.0) same written.1, subst (λ (u : Table). within_limits u ≡ Ok table) same said.2)
