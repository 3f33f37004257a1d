-- What the program answers and says at its end.
use Rattle.std.specs.Prelude.{◌≡◌, ◌⊎◌, ℕ, List, Option, Some, None, codes}
use Rattle.desk_server.specs.declared.server.RunFault.TheVariants.{Read, Write, NoMemory}
use Rattle.desk_words.specs.declared.words.OptionFault.{OptionFault}
use Rattle.desk_words.specs.declared.words.OptionFault.TheVariants as words
use Rattle.job_pool.specs.declared.fault.PoolFault.{PoolFault}
use Rattle.job_pool.specs.declared.fault.PoolFault.TheVariants as pool
use Rattle.desk_program.specs.declared.ending.Ending.{Ending}
use Rattle.desk_program.specs.declared.ending.Ending.TheVariants.{Done, Refused, Failed, NoWorker}

-- the exit status
abbrev pub status_of : Ending → ℕ
status_of Done = 0
status_of (Failed Read) = 1
status_of (Failed Write) = 1
status_of Refused = 2
status_of (Failed NoMemory) = 3
status_of NoWorker = 3

-- the line on standard error
abbrev pub text_of : Ending → Option (List ℕ)
text_of Done = None
text_of Refused = None
text_of (Failed Read) = Some (codes "desk: reading failed")
text_of (Failed Write) = Some (codes "desk: writing failed")
text_of (Failed NoMemory) = Some (codes "desk: no memory")
text_of NoWorker = Some (codes "desk: no worker")

-- how the program ends where there is no pool
abbrev pub ending_without : PoolFault → Ending
ending_without pool.NoMemory = Failed NoMemory
ending_without pool.NoWorker = NoWorker

-- words that start no run end the program so: where the text that is asked for can't be written,
-- that is a fault of the writer
abbrev pub EndsBy : OptionFault → Ending → Type 0
EndsBy (words.Help text) ending = (ending ≡ Done) ⊎ (ending ≡ Failed Write)
EndsBy (words.Version text) ending = (ending ≡ Done) ⊎ (ending ≡ Failed Write)
EndsBy (words.Refused text) ending = ending ≡ Refused
EndsBy words.NoMemory ending = ending ≡ Failed NoMemory
