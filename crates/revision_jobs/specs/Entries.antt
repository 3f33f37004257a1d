-- What a place shows.
use Rattle.std.specs.Prelude.{ℕ}
use Rattle.boxcar.specs.Table.{Shows}
use Rattle.revision_jobs.specs.declared.entry.Entry.{Entry}
use Rattle.revision_jobs.specs.declared.entries.Entries.{Entries}
use Rattle.revision_jobs.specs.declared.entries.Place.{Place}

-- the entry at the place
abbrev pub entry_of : Place → Entry
entry_of place = place.token.value.entry

-- its index in the table
abbrev pub index_of : Place → ℕ
index_of place = place.token.index

-- the place is one of this table
abbrev pub IsOf : Entries → Place → Type 0
IsOf entries place = Shows entries.slots place.token
