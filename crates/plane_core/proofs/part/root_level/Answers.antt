use Rattle.plane_core.proofs.Names.{arith, cases_lt, get_or_from_slice_get, nil_from_length, slice_get-get_or, slice_get_within}
use Rattle.plane_core.proofs.Shared.Roots.{root_level-some, root_level-none}
use Rattle.plane_core.proofs.part.root_level.Goals as goal

pub returns-in-Some-clause-level : goal.returns-in-Some-clause-level
returns-in-Some-clause-level c = grind (arith, slice_get_within, get_or_from_slice_get, root_level-some)

pub returns-in-None-clause-level : goal.returns-in-None-clause-level
returns-in-None-clause-level c = grind (arith, cases_lt, slice_get-get_or, nil_from_length, root_level-none)
