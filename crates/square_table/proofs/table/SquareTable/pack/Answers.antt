use Rattle.square_table.proofs.Names.{IfOk_then, IsCentred, IsListed, IsSquare, Square, Table, World, cells_of, level_of, square_of, subst, sym, world_of_rows, ◌-◌, ◌∙◌, ◌≡◌}
use Rattle.square_table.proofs.Packing.{root_IsSquare, root_listed}
use Rattle.square_table.proofs.Shared.Centring.{put_world}
use Rattle.square_table.proofs.table.SquareTable.pack.Goals as goal

pub from_walked-requires : goal.from_walked-requires
from_walked-requires c =
    let root = c.root.result in
    let is = root_IsSquare c.take_numbers-numbers.new.self.rows root.level root.kids c.root.ensures.level.0 c.root.ensures.numbers in
    (root_listed root.level _ c.in_ok-packed.packed.squares.items c.root.ensures.level.0 c.root.ensures.level.1 is c.in_ok-packed.ensures).walked

pub returns-clause-plane : goal.returns-clause-plane
returns-clause-plane c =
    let k = level_of c.args.square in
    let w = c.requires.world.0 in
    let t : Table = c.take_numbers-numbers.new.self in
    let is : IsCentred w k (cells_of t c.args.square) = subst (λ (t : Table). IsCentred w k (cells_of t c.args.square)) (sym c.take_numbers-numbers.ensures) c.requires.world.2 in
    let root = c.root.result in
    let part : Square = square_of t.rows (root.level - 1) root.kids in
    let shape : IsSquare root.level part = root_IsSquare t.rows root.level root.kids c.root.ensures.level.0 c.root.ensures.numbers in
    let rows = c.in_ok-packed.packed.squares.items in
    let own : IsListed root.level part rows = root_listed root.level part rows c.root.ensures.level.0 c.root.ensures.level.1 shape c.in_ok-packed.ensures in
    let same : world_of_rows rows ≡ w = own.world ∙ put_world w root.level part shape (c.root.ensures.centred w c.requires.world.1 is) in
    let s = cells_of c.args.self.now c.args.square in
    IfOk_then c.from_walked.result (λ plane. plane ≡ world_of_rows rows) (λ plane. IsCentred plane k s)
    (λ plane h. subst (λ (v : World). IsCentred v k s) (sym (h ∙ same)) c.requires.world.2) c.from_walked.ensures
