use Rattle.std.proofs.Common.{rules}
use Rattle.square_table_tests.proofs.planes.comes_back.Goals as goal

pub pack-requires-clause-world : goal.pack-requires-clause-world
pack-requires-clause-world g c = (c.plane_of-plane.result, c.bounds.ensures.in_range, search rules)

pub pack-requires-2-clause-world : goal.pack-requires-2-clause-world
pack-requires-2-clause-world g c = (c.expect-back.result, c.bounds-2.ensures.in_range, search rules)
