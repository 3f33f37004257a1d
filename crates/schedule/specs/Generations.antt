-- Acting generations that are still to come.
use Rattle.std.specs.Prelude.{ℕ, List, [], Option, None, Some}
use Rattle.schedule.specs.Acts.{progression, count_between}

-- from the next one on, each `every` after the one before, up to the most
abbrev pub from_next : ℕ → ℕ → Option ℕ → List ℕ
from_next every most None = []
from_next every most (Some next) = progression next every (count_between next every most)
