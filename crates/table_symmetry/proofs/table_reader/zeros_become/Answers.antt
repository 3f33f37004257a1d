use Rattle.table_symmetry.proofs.Names.{inputs_of, nine_zeros, take, ◌≡◌}
use Rattle.table_symmetry.proofs.table_reader.zeros_become.Goals as goal

pub returns : goal.returns
returns c =
    let inputs : take c.input_count.result c.picked-picked.result ≡ inputs_of c.args.neighborhood nine_zeros = rw c.input_count.ensures c.picked-picked.ensures in
    rw inputs at c.first_match.ensures
