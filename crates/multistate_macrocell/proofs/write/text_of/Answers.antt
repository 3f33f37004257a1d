use Rattle.multistate_macrocell.proofs.Names.{List, SquareRow, ap, arith, heading_text, length, row_lines, take, ◌++◌, ◌∙◌, ◌≡◌}
use Rattle.std.proofs.Math.Seq.{take-length}
use Rattle.multistate_macrocell.proofs.Written.{text-rows}
use Rattle.multistate_macrocell.proofs.write.text_of.Goals as goal

pub returns : goal.returns
returns c =
    let rows = c.args.rows.now in
    let name = c.args.name.now in
    let generation = c.args.generation in
    let end : c.loop-row.row-index ≡ length rows = omega arith in
    let all : take c.loop-row.row-index rows ≡ rows = ap (λ n. take n rows) end ∙ take-length rows in
    c.loop-row.invariant
    ∙ ap (λ (rs : List SquareRow). heading_text name generation ++ row_lines rs) all
    ∙ text-rows name generation rows
