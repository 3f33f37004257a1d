use Rattle.std.proofs.Common.{rules}
use Rattle.hash_engine_tests.proofs.tests.stops.expect_end.Goals as goal

pub search-ended-requires : goal.search-ended-requires
search-ended-requires g c = record { asked = search rules; right = c.nothing-memo.ensures.right _ _ (search rules) }
