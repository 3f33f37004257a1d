-- What is moved to new shelves.
use Rattle.std.specs.Prelude.{ℕ, Option, None, Some, if◌then◌else◌, nat_le}

-- what lies on a new shelf: what lay on the old one of its mark, if that weighs no more than this
abbrev pub moved : ℕ → Option ℕ → ℕ
moved limit None = 0
moved limit (Some load) = if nat_le load limit then load else 0
