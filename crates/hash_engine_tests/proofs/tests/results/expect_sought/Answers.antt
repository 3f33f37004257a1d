use Rattle.std.proofs.Common.{rules}
use Rattle.hash_engine_tests.proofs.tests.results.expect_sought.Goals as goal

pub search-found-requires : goal.search-found-requires
search-found-requires g c = record { asked = search rules; right = c.nothing-memo.ensures.right _ _ (search rules) }
